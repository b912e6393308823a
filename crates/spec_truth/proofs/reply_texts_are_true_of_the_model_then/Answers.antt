use Rattle.std.specs.Prelude.{codes}
use Rattle.spec_check.specs.declared.certificate.Known.TheVariants.{Infeasible, Unbounded}
use Rattle.spec_truth.proofs.ReplyLines.{infeasible_answer, unbounded_answer, infeasible_yes, unbounded_yes}
use Rattle.spec_truth.proofs.PrintedRuns.{value_said, known_said}
use Rattle.spec_truth.proofs.reply_texts_are_true_of_the_model_then.Goals as goal

pub returns : goal.returns
returns c = record {
  optimal = value_said;
  infeasible = known_said Infeasible (codes "INFEASIBLE") infeasible_answer infeasible_yes;
  unbounded = known_said Unbounded (codes "UNBOUNDED") unbounded_answer unbounded_yes;
}
