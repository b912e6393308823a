-- The loop over the asks.
use Rattle.std.proofs.Common.{◌-◌, ◌^◌, ◌≤◌}
use Rattle.lp_script.proofs.Reading.{Reading}
use Rattle.lp_script.proofs.script.read_script.Given as goal

abbrev pub invariant-loop-asked : goal.invariant-loop-asked
invariant-loop-asked g l = record {
  reading : Reading (g.S.Source.left l.fn.src) (g.S.Source.left l.src) l.lines l.asks.items;
  read : g.S.Source.read_faults l.fn.src ≤ g.S.Source.read_faults l.src;
}

abbrev pub decreases-loop-asked : goal.decreases-loop-asked
decreases-loop-asked g l = 2 ^ 26 - l.lines.given
