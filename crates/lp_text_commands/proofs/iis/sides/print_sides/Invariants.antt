-- The loop over the sides.
use Rattle.std.proofs.Common.{◌≡◌, ◌++◌, take, map}
use Rattle.spec_server.specs.Output.{ended_lines}
use Rattle.spec_commands.specs.IisOut.{side_line}
use Rattle.lp_text_commands.proofs.iis.sides.print_sides.Given as goal

-- the lines of those so far follow the first
abbrev pub invariant-loop-i : goal.invariant-loop-i
invariant-loop-i l = l.to ≡ l.fn.to ++ ended_lines (map (side_line l.model) (take l.i l.sides))
