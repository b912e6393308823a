use Rattle.spec_text_truth.proofs.GeneratedModels.{size_is, answer_follows, optimal_follows, never_infeasible}
use Rattle.spec_text_truth.proofs.GeneratedModels.{never_unbounded}
use Rattle.spec_text_truth.proofs.generated_models_have_true_answers.Goals as goal

pub returns : goal.returns
returns c = record {
  size = size_is;
  answer = answer_follows;
  optimal = λ seed rows columns written size text behind out no_feed plain e.
      optimal_follows seed rows columns written out size no_feed text behind plain e;
  never_infeasible = λ seed rows columns written size behind out no_feed e.
      never_infeasible seed rows columns written out size no_feed behind e;
  never_unbounded = λ seed rows columns written size behind out no_feed e.
      never_unbounded seed rows columns written out size no_feed behind e;
}
