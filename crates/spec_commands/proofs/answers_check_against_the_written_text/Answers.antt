use Rattle.spec_commands.proofs.WrittenChecks.{free_checks, fixed_checks}
use Rattle.spec_commands.proofs.answers_check_against_the_written_text.Goals as goal

pub returns : goal.returns
returns c = record { free = free_checks; fixed = fixed_checks }
