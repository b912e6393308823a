use Rattle.std.proofs.Common.{sym}
use Rattle.spec_mps.proofs.RowsKept.{rows_said, objective_said}
use Rattle.spec_mps.proofs.meaning.rows_cards_are_rows.Goals as goal

pub returns-clause-objective : goal.returns-clause-objective
returns-clause-objective c = objective_said

pub returns-clause-rows : goal.returns-clause-rows
returns-clause-rows c = λ limits style lines m h. sym (rows_said limits style lines m h)
