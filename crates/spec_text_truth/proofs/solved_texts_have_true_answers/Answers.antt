use Rattle.spec_text_truth.proofs.SolvedTexts.{answer_begins, optimal_begins, infeasible_begins, unbounded_begins}
use Rattle.spec_text_truth.proofs.solved_texts_have_true_answers.Goals as goal

pub returns : goal.returns
returns c =
    record {
      answer = answer_begins;
      optimal = optimal_begins;
      infeasible = infeasible_begins;
      unbounded = unbounded_begins;
    }
