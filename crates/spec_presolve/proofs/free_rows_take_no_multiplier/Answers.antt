use Rattle.spec_presolve.proofs.FreeRow.{free_row-checks, free_row-optimal, free_row-infeasible}
use Rattle.spec_presolve.proofs.free_rows_take_no_multiplier.Goals as goal

pub returns-clause-zero : goal.returns-clause-zero
returns-clause-zero c = free_row-checks

pub returns-clause-optimal : goal.returns-clause-optimal
returns-clause-optimal c = free_row-optimal

pub returns-clause-infeasible : goal.returns-clause-infeasible
returns-clause-infeasible c = free_row-infeasible
