use Rattle.spec_mps.proofs.LaterFree.{free_said, limited_said}
use Rattle.spec_mps.proofs.meaning.later_rows_of_type_n_are_free_rows.Goals as goal

pub returns-clause-free : goal.returns-clause-free
returns-clause-free c = free_said

pub returns-clause-limited : goal.returns-clause-limited
returns-clause-limited c = limited_said
