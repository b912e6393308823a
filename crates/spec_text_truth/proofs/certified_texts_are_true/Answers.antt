use Rattle.spec_check.specs.declared.certificate.Known.TheVariants as known
use Rattle.spec_text_truth.proofs.CertifiedTexts.{yes_holds}
use Rattle.spec_text_truth.proofs.YesLines.{optimal_line, infeasible_line, unbounded_line}
use Rattle.spec_text_truth.proofs.certified_texts_are_true.Goals as goal

pub returns : goal.returns
returns c = record {
  optimal = λ style lines v. yes_holds style lines (known.Optimal v);
  infeasible = λ style lines. yes_holds style lines known.Infeasible;
  unbounded = λ style lines. yes_holds style lines known.Unbounded;
  optimal_line = optimal_line;
  infeasible_line = infeasible_line;
  unbounded_line = unbounded_line;
}
