-- Command lines with the names themselves, which the code has behind references.
use Rattle.std.specs.Prelude.{ℕ, List, Option, option_map}
use denote.Ref.{Bor}
use Rattle.spec_program.specs.declared.command_line.CommandLine.{CommandLine}
use Rattle.spec_program.specs.declared.command_line.CommandLine.TheVariants.{Run, Read, Generate, Serve}
use Rattle.spec_program.specs.declared.command_line.TextCommand.{TextCommand}
use Rattle.spec_program.specs.declared.command_line.TextCommand.TheVariants.{Solve, SolveWide, Check, CheckWide, Basis, BasisWide, Presolve, Iis, Range, RangeAll}
use Rattle.spec_program.specs.CommandLine.{ExactLine, ExactTextCommand}

-- a command that reads a text, with the bytes of its name in place of a reference to them
abbrev pub spelled_text : TextCommand (Bor (List ℕ)) → ExactTextCommand
spelled_text Solve = Solve
spelled_text SolveWide = SolveWide
spelled_text Check = Check
spelled_text CheckWide = CheckWide
spelled_text Basis = Basis
spelled_text BasisWide = BasisWide
spelled_text Presolve = Presolve
spelled_text Iis = Iis
spelled_text (Range moved name) = Range moved name.now
spelled_text RangeAll = RangeAll

-- a command line of the code, with the bytes of its names in place of references to them
abbrev pub spelled : CommandLine (Bor (List ℕ)) → ExactLine
spelled (Run workers places) = Run workers places
spelled (Read command style) = Read (spelled_text command) style
spelled (Generate seed rows columns) = Generate seed rows columns
spelled (Serve workers each places) = Serve workers each places

-- a command line of the code, if there is one, with the bytes of its names in place of references to them
abbrev pub told : Option (CommandLine (Bor (List ℕ))) → Option ExactLine
told = option_map spelled
