-- The commands that read the text of a model: what each says of its input, and what it writes of that with which
-- status.
use Rattle.std.specs.Prelude.{ℕ, Option, List}
use Rattle.spec_text.specs.declared.line.Line.{Line}
use Rattle.spec_mps.specs.declared.style.Style.{Style}
use Rattle.spec_program.specs.declared.command_line.TextCommand.TheVariants.{Solve, SolveWide, Check, CheckWide, Basis, BasisWide, Presolve, Iis, Range, RangeAll}
use Rattle.spec_program.specs.CommandLine.{ExactTextCommand}
use Rattle.spec_program.specs.TextLimits.{limits_of}
use Rattle.spec_commands.specs.PresolveOut.{PresolveOut, presolve_code}
use Rattle.spec_commands.specs.IisOut.{IisOut, iis_code}
use Rattle.spec_commands.specs.RangeOut.{RangeOut, range_code}
use Rattle.spec_commands.specs.RangesOut.{RangesOut}
use Rattle.spec_server.specs.Machine.{ExactReply}
use Rattle.spec_commands.specs.CheckOut.{said, CheckOut, check_code}
use Rattle.spec_commands.specs.CheckWideOut.{wide_said, WideCheckOut}
use Rattle.spec_server.specs.TextSaid.{TextSaid, text_said, text_said_within}
use Rattle.spec_commands.specs.SolveOut.{SolveOut, solve_code}
use Rattle.spec_commands.specs.SolveWideOut.{SolveWideOut}
use Rattle.spec_commands.specs.BasisOut.{BasisSaid, basis_said, BasisOut, basis_code}
use Rattle.spec_commands.specs.BasisWideOut.{BasisWideOut}

-- the type of what each command says of its input: of a model's text, of a certificate, or of a basis file
abbrev pub SaidBy : ExactTextCommand → Type 0
SaidBy Solve = TextSaid
SaidBy SolveWide = TextSaid
SaidBy Check = ExactReply
SaidBy CheckWide = ExactReply
SaidBy Basis = BasisSaid
SaidBy BasisWide = BasisSaid
SaidBy Presolve = TextSaid
SaidBy Iis = TextSaid
SaidBy (Range moved name) = TextSaid
SaidBy RangeAll = TextSaid

-- what a command says of the lines of its input; none where more lines are needed
abbrev pub said_of : (command : ExactTextCommand) → Style → List (Line (List ℕ)) → Option (SaidBy command)
said_of Solve style lines = text_said style lines
said_of SolveWide style lines = text_said_within (limits_of SolveWide) style lines
said_of Check style lines = said style lines
said_of CheckWide style lines = wide_said style lines
said_of Basis style lines = basis_said (limits_of Basis) style lines
said_of BasisWide style lines = basis_said (limits_of BasisWide) style lines
said_of Presolve style lines = text_said style lines
said_of Iis style lines = text_said style lines
said_of (Range moved name) style lines = text_said style lines
said_of RangeAll style lines = text_said style lines

-- a command may write these bytes, and no others with them, where it says this of its input
abbrev pub MayWrite : (command : ExactTextCommand) → SaidBy command → List ℕ → Type 0
MayWrite Solve what written = SolveOut what written
MayWrite SolveWide what written = SolveWideOut what written
MayWrite Check what written = CheckOut what written
MayWrite CheckWide what written = WideCheckOut what written
MayWrite Basis what written = BasisOut what written
MayWrite BasisWide what written = BasisWideOut what written
MayWrite Presolve what written = PresolveOut what written
MayWrite Iis what written = IisOut what written
MayWrite (Range moved name) what written = RangeOut moved name what written
MayWrite RangeAll what written = RangesOut what written

-- the exit status of each command, by what it says of its input
abbrev pub code_of : (command : ExactTextCommand) → SaidBy command → ℕ
code_of Solve what = solve_code what
code_of SolveWide what = solve_code what
code_of Check what = check_code what
code_of CheckWide what = check_code what
code_of Basis what = basis_code what
code_of BasisWide what = basis_code what
code_of Presolve what = presolve_code what
code_of Iis what = iis_code what
code_of (Range moved name) what = range_code moved name what
code_of RangeAll what = solve_code what
