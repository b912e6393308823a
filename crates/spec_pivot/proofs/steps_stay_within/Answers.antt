use Rattle.spec_pivot.proofs.Stays.{stays_within}
use Rattle.spec_pivot.proofs.steps_stay_within.Goals as goal

pub returns : goal.returns
returns c = record {
  pivot = λ m n f cost b t way j p theta to g w e h. stays_within m n f cost b t way j theta g w e h;
  flip = λ m n f cost b t way j theta to g w e h. stays_within m n f cost b t way j theta g w e h;
}
