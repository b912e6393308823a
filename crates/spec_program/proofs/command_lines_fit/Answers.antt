-- By the command of the first word.
use Rattle.spec_program.proofs.NumberLimits.{command-fits}
use Rattle.spec_program.proofs.command_lines_fit.Goals as goal

pub returns : goal.returns
returns c = command-fits
