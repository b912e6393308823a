-- Line by line, and by the two runs of the check.
use Rattle.spec_commands.proofs.WideChecks.{same_check}
use Rattle.spec_commands.proofs.wide_checks_say_the_same.Goals as goal

pub returns : goal.returns
returns c = same_check
