-- The value is that in the words that are left.
use Rattle.std.proofs.Common.{◌≡◌, length, map}
use Rattle.std.specs.Prelude.{string_bytes}
use Rattle.lp_command_line.specs.Words.{bytes_of, value_in}
use Rattle.lp_command_line.proofs.options.value_of.Given as goal

abbrev pub invariant-loop-option : goal.invariant-loop-option
invariant-loop-option l =
    value_in (bytes_of l.switches) l.name (map string_bytes l.rest)
    ≡ value_in (bytes_of l.switches) l.name (map string_bytes l.words)

abbrev pub decreases-loop-option : goal.decreases-loop-option
decreases-loop-option l = length l.rest
