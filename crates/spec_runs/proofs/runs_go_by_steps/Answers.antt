use Rattle.spec_runs.proofs.PhaseSteps.{ended_counts, spent_counts, end_or_a_next}
use Rattle.spec_runs.proofs.runs_go_by_steps.Goals as goal

pub returns : goal.returns
returns c = record { ended = ended_counts; spent = spent_counts; next = end_or_a_next }
