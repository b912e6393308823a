-- The words are options exactly if those that are left are.
use Rattle.std.proofs.Common.{◌≡◌, length, map}
use Rattle.std.specs.Prelude.{string_bytes}
use Rattle.lp_command_line.specs.Words.{bytes_of, are_in}
use Rattle.lp_command_line.proofs.options.are_options.Given as goal

abbrev pub invariant-loop-option : goal.invariant-loop-option
invariant-loop-option l =
    are_in (bytes_of l.names) (bytes_of l.switches) (map string_bytes l.rest)
    ≡ are_in (bytes_of l.names) (bytes_of l.switches) (map string_bytes l.words)

abbrev pub decreases-loop-option : goal.decreases-loop-option
decreases-loop-option l = length l.rest
