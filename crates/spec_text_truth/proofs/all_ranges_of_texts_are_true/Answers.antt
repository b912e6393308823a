use Rattle.spec_text_truth.proofs.RangesTexts.{ranges_answer, ranges_optimal, ranges_infeasible, ranges_unbounded, ranges_range}
use Rattle.spec_text_truth.proofs.all_ranges_of_texts_are_true.Goals as goal

pub returns : goal.returns
returns c =
    record {
      answer = ranges_answer;
      optimal = ranges_optimal;
      infeasible = ranges_infeasible;
      unbounded = ranges_unbounded;
      range = ranges_range;
    }
