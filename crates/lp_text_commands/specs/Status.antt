-- The status of what halts a command.
use Rattle.std.specs.Prelude.{ℕ}
use Rattle.lp_line.specs.declared.halt.Halt.{Halt}
use Rattle.lp_line.specs.declared.halt.Halt.TheVariants as halts

-- the exit status of a command that halted: 3 for reading, 4 for writing, 5 for memory, 6 where it was cut off, 8 for
-- too long an input
abbrev pub code_behind : Halt → ℕ
code_behind halts.Read = 3
code_behind halts.Write = 4
code_behind halts.NoMemory = 5
code_behind halts.Cut = 6
code_behind halts.Over = 8
