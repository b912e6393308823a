use Rattle.spec_edit.proofs.FreeRows.{points_same, optimal_same, infeasible_same, unbounded_same}
use Rattle.spec_edit.proofs.free_rows_change_no_truth.Goals as goal

pub returns-clause-points : goal.returns-clause-points
returns-clause-points c = points_same

pub returns-clause-optimal : goal.returns-clause-optimal
returns-clause-optimal c = optimal_same

pub returns-clause-infeasible : goal.returns-clause-infeasible
returns-clause-infeasible c = infeasible_same

pub returns-clause-unbounded : goal.returns-clause-unbounded
returns-clause-unbounded c = unbounded_same
