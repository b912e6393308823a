use Rattle.spec_pivot.specs.Ratio.{range_of, room_at}
use Rattle.spec_pivot.proofs.Ratio.{scan_least}
use Rattle.spec_pivot.proofs.Best.{best_has_room, none_goes_on}
use Rattle.spec_pivot.proofs.ratio_test.Goals as goal

pub returns : goal.returns
returns c = record {
  none = λ m n f cost b t way j g w e h. none_goes_on m n f cost b t way j g w e h;
  room = λ m n f cost b t way j x g w e h. best_has_room m n f cost b t way j g w e x h;
  least = λ m b t way j. scan_least (room_at m b t way j) t.basic (range_of j (b.lower j) (b.upper j)) m;
}
