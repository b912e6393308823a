use Rattle.spec_text_truth.proofs.BasisTexts.{answer_begins, optimal_begins, infeasible_begins, unbounded_begins}
use Rattle.spec_text_truth.proofs.answers_from_bases_are_true.Goals as goal

pub returns : goal.returns
returns c =
    record {
      answer = answer_begins;
      optimal = optimal_begins;
      infeasible = infeasible_begins;
      unbounded = unbounded_begins;
    }
