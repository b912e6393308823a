-- How many rows and columns the models of texts may have, by the command that reads the text.
use Rattle.spec_model.specs.declared.parts.SizeLimits.{SizeLimits}
use Rattle.spec_model.specs.Kept.{usual_limits, large_limits}
use Rattle.spec_program.specs.declared.command_line.TextCommand.TheVariants.{SolveWide, CheckWide, BasisWide}
use Rattle.spec_program.specs.CommandLine.{ExactTextCommand}

-- the limits of the models that a command reads:
-- the large ones for the commands with numbers of any width, else the usual
abbrev pub limits_of : ExactTextCommand → SizeLimits
limits_of SolveWide = large_limits
limits_of CheckWide = large_limits
limits_of BasisWide = large_limits
limits_of command = usual_limits
