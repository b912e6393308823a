use Rattle.spec_text_truth.proofs.TrueTexts.{said_true}
use Rattle.spec_text_truth.proofs.outputs_of_texts_are_true.Goals as goal

pub returns : goal.returns
returns c = said_true
