-- The fault is that of the words that are left.
use Rattle.std.proofs.Common.{◌≡◌, length, map}
use Rattle.std.specs.Prelude.{string_bytes}
use Rattle.lp_command_line.specs.Words.{bytes_of}
use Rattle.lp_command_line.specs.WordFaults.{option_fault}
use Rattle.lp_command_line.proofs.finding.option_fault.Given as goal

abbrev pub invariant-loop-option : goal.invariant-loop-option
invariant-loop-option l =
    option_fault (bytes_of l.names) (bytes_of l.switches) (map string_bytes l.rest)
    ≡ option_fault (bytes_of l.names) (bytes_of l.switches) (map string_bytes l.words)

abbrev pub decreases-loop-option : goal.decreases-loop-option
decreases-loop-option l = length l.rest
