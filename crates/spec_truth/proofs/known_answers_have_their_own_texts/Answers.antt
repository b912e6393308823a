use Rattle.std.proofs.Common.{refl}
use Rattle.spec_server.specs.Output.{reply_text}
use Rattle.spec_truth.proofs.OwnTexts.{different, answered_narrow, accepted_narrow}
use Rattle.spec_truth.proofs.known_answers_have_their_own_texts.Goals as goal

pub returns : goal.returns
unfolding reply_text
returns c = record {
  optimal = λ v. refl;
  infeasible = refl;
  unbounded = refl;
  yes = λ what. refl;
  different = different;
  answered = answered_narrow;
  accepted = accepted_narrow;
}
