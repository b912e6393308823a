use Rattle.spec_text_truth.proofs.WideTexts.{optimal_begins, infeasible_begins, unbounded_begins}
use Rattle.spec_text_truth.proofs.wide_solved_texts_have_true_answers.Goals as goal

pub returns : goal.returns
returns c = record { optimal = optimal_begins; infeasible = infeasible_begins; unbounded = unbounded_begins }
