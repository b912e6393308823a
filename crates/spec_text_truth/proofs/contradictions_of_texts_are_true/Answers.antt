use Rattle.spec_text_truth.proofs.SidesTexts.{iis_answer, iis_optimal, iis_infeasible, iis_unbounded, iis_sides}
use Rattle.spec_text_truth.proofs.contradictions_of_texts_are_true.Goals as goal

pub returns : goal.returns
returns c =
    record {
      answer = iis_answer;
      optimal = iis_optimal;
      infeasible = iis_infeasible;
      unbounded = iis_unbounded;
      sides = iis_sides;
    }
