-- The line so far is what was read, and nothing is read while a line feed is ahead.
use Rattle.std.proofs.Common.{◌≡◌, ◌-◌, ◌^◌, ◌≤◌, true}
use Rattle.std.specs.List.{Contains}
use Rattle.lp_base.proofs.LineSoFar.{SoFar}
use Rattle.lp_base.proofs.lines.Lines.next.Given as goal

abbrev pub invariant-loop-line : goal.invariant-loop-line
invariant-loop-line g l = record {
  read : SoFar (g.S.Source.left l.fn.source) (g.S.Source.left l.source) l.fn.self l.self l.line;
  later : g.S.Source.read_faults l.fn.source ≤ g.S.Source.read_faults l.source;
  idle : l.fn.self.ended ≡ true → (l.line.len ≡ 0) × (g.S.Source.left l.source ≡ g.S.Source.left l.fn.source);
  held : Contains l.fn.self.ahead 10 →
      (g.S.Source.left l.source ≡ g.S.Source.left l.fn.source)
      × (g.S.Source.read_faults l.source ≡ g.S.Source.read_faults l.fn.source);
  bound : l.self.given ≤ 2 ^ 26;
  beside : g.S.Source.beside_reads l.source ≡ g.S.Source.beside_reads l.fn.source;
}

abbrev pub decreases-loop-line : goal.decreases-loop-line
decreases-loop-line g l = 2 ^ 26 - l.self.given
