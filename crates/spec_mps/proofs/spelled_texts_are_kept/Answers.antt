use Rattle.spec_mps.proofs.SpelledKept.{spelled_kept}
use Rattle.spec_mps.proofs.spelled_texts_are_kept.Goals as goal

pub returns : goal.returns
returns c = spelled_kept
