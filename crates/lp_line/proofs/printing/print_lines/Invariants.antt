-- The lines so far.
use Rattle.std.proofs.Common.{◌≡◌, ◌++◌, take}
use Rattle.spec_server.specs.Output.{ended_lines}
use Rattle.lp_line.proofs.printing.print_lines.Given as goal

abbrev pub invariant-loop-index : goal.invariant-loop-index
invariant-loop-index l = l.to ≡ l.initial.to ++ ended_lines (take l.index l.lines)
