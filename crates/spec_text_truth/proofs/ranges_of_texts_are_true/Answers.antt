use Rattle.spec_text_truth.proofs.RangedTexts.{unknown_is, ranged_answer, ranged_optimal, ranged_infeasible, ranged_unbounded}
use Rattle.spec_text_truth.proofs.RangedTexts.{ranged_range}
use Rattle.spec_text_truth.proofs.ranges_of_texts_are_true.Goals as goal

pub returns : goal.returns
returns c =
    record {
      unknown = unknown_is;
      answer = ranged_answer;
      optimal = ranged_optimal;
      infeasible = ranged_infeasible;
      unbounded = ranged_unbounded;
      range = ranged_range;
    }
