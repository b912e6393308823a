use Rattle.spec_pivot.proofs.RatioTest.{best_pivots, best_flips}
use Rattle.spec_pivot.proofs.best_is_a_step.Goals as goal

pub returns : goal.returns
returns c = record {
  pivot = λ m n f cost b t way j x p g w e h k. best_pivots m n f cost b t way j g w e x h p k;
  flip = λ m n f cost b t way j x g w e h k. best_flips m n f cost b t way j g w e x h k;
}
