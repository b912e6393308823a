use Rattle.std.proofs.Common.{◌≡◌}
use Rattle.std.specs.Prelude.{All}
use Rattle.spec_model.specs.Kept.{IsNarrowRow}
use Rattle.spec_iis.specs.Only.{picked, stays, only_row_at}
use Rattle.lp_iis.proofs.rows.rows.Given as goal

-- the list has those of the first i rows that stay, each with its listed sides and numbers of at most 127 bits
abbrev pub invariant-loop-i : goal.invariant-loop-i
invariant-loop-i l = record {
  items : l.rows.items ≡ picked (stays l.sides) (only_row_at l.model l.sides) l.i;
  narrow : All IsNarrowRow l.rows.items;
}
