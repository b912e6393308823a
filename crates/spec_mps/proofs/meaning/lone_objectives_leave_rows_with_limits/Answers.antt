use Rattle.spec_mps.proofs.NoneFree.{rows_limited, ranges_all}
use Rattle.spec_mps.proofs.meaning.lone_objectives_leave_rows_with_limits.Goals as goal

pub returns-clause-rows : goal.returns-clause-rows
returns-clause-rows c = rows_limited

pub returns-clause-ranges : goal.returns-clause-ranges
returns-clause-ranges c = ranges_all
