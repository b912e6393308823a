use Rattle.spec_pivot.proofs.Feasible.{feasible_kept, flip_suits}
use Rattle.spec_pivot.proofs.dual.dual_ratio_test.Goals as goal

pub returns : goal.returns
returns c = record {
  pivot = λ m n f cost b t way p j c g feasible l e. feasible_kept m n f cost b t g feasible way p j c l e;
  flip = flip_suits;
}
