use Rattle.spec_text_truth.proofs.WideBasisTexts.{optimal_begins, infeasible_begins, unbounded_begins}
use Rattle.spec_text_truth.proofs.answers_from_bases_are_true_at_any_width.Goals as goal

pub returns : goal.returns
returns c = record { optimal = optimal_begins; infeasible = infeasible_begins; unbounded = unbounded_begins }
