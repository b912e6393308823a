-- The loop over the lines.
use Rattle.std.proofs.Common.{◌≡◌, ◌-◌, ◌^◌, ◌≤◌}
use Rattle.lp_line.proofs.HearTurns.{Turn}
use Rattle.lp_line.proofs.hearing.hear.Given as goal

abbrev pub invariant-loop-line : goal.invariant-loop-line
invariant-loop-line g l = record {
  turn : Turn g.T.Stage.says g.T.Stage.count l.fn.first (g.S.Source.left l.fn.source)
      (g.S.Source.left l.source) l.fn.lines l.lines l.stage;
  read : g.S.Source.read_faults l.fn.source ≤ g.S.Source.read_faults l.source;
  beside : g.S.Source.beside_reads l.source ≡ g.S.Source.beside_reads l.fn.source;
}

abbrev pub decreases-loop-line : goal.decreases-loop-line
decreases-loop-line g l = 2 ^ 26 - l.lines.given
