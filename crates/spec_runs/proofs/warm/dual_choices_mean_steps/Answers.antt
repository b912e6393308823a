use Rattle.spec_runs.proofs.DualWalk.{ready_meant, ready_next, next_table}
use Rattle.spec_runs.proofs.warm.dual_choices_mean_steps.Goals as goal

pub returns : goal.returns
returns c = record { choice = ready_meant; table = next_table; ready = ready_next }
