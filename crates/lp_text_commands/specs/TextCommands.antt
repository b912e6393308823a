-- What the commands that read the text of a model read and write.
use Rattle.std.specs.Prelude.{Result, ℕ}
use Rattle.spec_mps.specs.declared.style.Style.{Style}
use Rattle.spec_program.specs.CommandLine.{ExactTextCommand}
use Rattle.spec_commands.specs.TextOut.{said_of, MayWrite, code_of}
use Rattle.lp_line.specs.declared.halt.Halt.{Halt}
use Rattle.lp_text_commands.specs.declared.exit_status.ExitStatus.{ExitStatus}
use Rattle.lp_text_commands.specs.Hearing.{SaysSo, TellsOf}
use Rattle.spec_server.specs.Streams.{Streams}

-- what a command on a text reads and writes, by its result: with a status, all that it may write of what its input
-- says; at a failed write, a beginning of that; at any other halt, nothing
abbrev pub ReadsText : ExactTextCommand → Style → Streams → Result ExitStatus Halt → Type 0
ReadsText command style s result = SaysSo (said_of command style) (MayWrite command) (code_of command) s result

-- what the exit status of a command on a text says: 0 or 9, it wrote all that it may write of what its input says; 4, a
-- beginning of that; 3, 5 or 8, it wrote nothing
abbrev pub TellsOfText : ExactTextCommand → Style → Streams → ℕ → Type 0
TellsOfText command style s code = TellsOf (said_of command style) (MayWrite command) (code_of command) s code
