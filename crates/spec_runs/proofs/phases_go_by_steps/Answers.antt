use Rattle.spec_runs.proofs.PhaseSteps.{infeasible_counts, finished_counts, spent_so}
use Rattle.spec_runs.proofs.phases_go_by_steps.Goals as goal

pub returns : goal.returns
returns c = record { infeasible = infeasible_counts; finished = finished_counts; spent = spent_so }
