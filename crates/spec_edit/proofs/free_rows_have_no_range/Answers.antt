use Rattle.spec_edit.proofs.FreeRanges.{range_refused, none_unchanged}
use Rattle.spec_edit.proofs.free_rows_have_no_range.Goals as goal

pub returns-clause-refused : goal.returns-clause-refused
returns-clause-refused c = range_refused

pub returns-clause-unchanged : goal.returns-clause-unchanged
returns-clause-unchanged c = none_unchanged
