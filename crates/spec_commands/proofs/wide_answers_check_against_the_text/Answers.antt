use Rattle.spec_commands.proofs.WideWritten.{accepted_early}
use Rattle.spec_commands.proofs.wide_answers_check_against_the_text.Goals as goal

pub returns : goal.returns
returns c = λ style text front last m budget starting a are undecided spells is within.
    accepted_early style front last m a.known a.certificate undecided spells is.0 text are within
