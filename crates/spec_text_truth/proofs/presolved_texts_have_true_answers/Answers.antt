use Rattle.spec_text_truth.proofs.PresolvedTexts.{presolved_answer, presolved_optimal, presolved_infeasible}
use Rattle.spec_text_truth.proofs.PresolvedTexts.{presolved_unbounded}
use Rattle.spec_text_truth.proofs.presolved_texts_have_true_answers.Goals as goal

pub returns : goal.returns
returns c = record {
  answer = presolved_answer;
  optimal = λ style lines m what written is out spells size text behind no_feed plain e.
      presolved_optimal style lines m what written is out spells size text behind no_feed plain e;
  infeasible = λ style lines m what written is out spells size behind no_feed e.
      presolved_infeasible style lines m what written is out spells size behind no_feed e;
  unbounded = λ style lines m what written is out spells size behind no_feed e.
      presolved_unbounded style lines m what written is out spells size behind no_feed e;
}
