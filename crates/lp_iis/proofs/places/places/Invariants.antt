use Rattle.std.proofs.Common.{◌≡◌}
use Rattle.spec_exact.specs.Run.{made}
use Rattle.spec_iis.specs.Only.{stays, rank}
use Rattle.lp_iis.specs.Reading.{place_by}
use Rattle.lp_iis.proofs.places.places.Given as goal

-- the list has the new numbers of the first i rows, none for those that do not stay, and `next` is the number of the
-- next row that stays
abbrev pub invariant-loop-i : goal.invariant-loop-i
invariant-loop-i l = record {
  items : l.places.items ≡ made l.i (place_by (stays l.sides));
  next : l.next ≡ rank (stays l.sides) l.i;
}
