use Rattle.std.proofs.Common.{◌≡◌, ◌≤◌, drop}
use Rattle.spec_mps.specs.Fields as field
use Rattle.lp_mps.proofs.card.columns.misplaced.Given as goal

abbrev pub invariant-loop-byte : goal.invariant-loop-byte
invariant-loop-byte l =
    record {
      so_far : field.misplaced_from l.column (drop l.byte-index l.line) ≡ field.misplaced_from 1 l.line;
      small : l.column ≤ 63;
    }
