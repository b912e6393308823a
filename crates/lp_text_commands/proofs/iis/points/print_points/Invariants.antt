-- The loop over the points.
use Rattle.std.proofs.Common.{◌≡◌, ◌++◌, take}
use Rattle.spec_server.specs.Output.{ended_lines}
use Rattle.spec_commands.specs.IisOut.{point_lines}
use Rattle.lp_text_commands.proofs.iis.points.print_points.Given as goal

-- the lines of those so far follow the first
abbrev pub invariant-loop-k : goal.invariant-loop-k
invariant-loop-k l = l.to ≡ l.fn.to ++ ended_lines (point_lines l.model 0 (take l.k l.points))
