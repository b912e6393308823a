use Rattle.spec_check.specs.declared.certificate.Known.TheVariants as known
use Rattle.spec_text_truth.proofs.CertifiedTexts.{wide_yes_is}
use Rattle.spec_text_truth.proofs.WideLines.{wide_optimal_line, wide_infeasible_line, wide_unbounded_line}
use Rattle.spec_text_truth.proofs.widely_certified_texts_are_true.Goals as goal

pub returns : goal.returns
returns c =
    record {
      optimal = λ style lines v. wide_yes_is style lines (known.Optimal v);
      infeasible = λ style lines. wide_yes_is style lines known.Infeasible;
      unbounded = λ style lines. wide_yes_is style lines known.Unbounded;
      optimal_line = wide_optimal_line;
      infeasible_line = wide_infeasible_line;
      unbounded_line = wide_unbounded_line;
    }
