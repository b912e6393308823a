use Rattle.spec_pivot.proofs.AnyMove.{flip_kept}
use Rattle.spec_pivot.proofs.Step.{dual_kept, lands_at}
use Rattle.spec_pivot.proofs.dual.dual_steps_keep_tableaus.Goals as goal

pub returns : goal.returns
returns c = record {
  pivot = λ m n f cost b t way p j c g l h e. dual_kept m n f cost b t g way p j c l h e;
  lands = λ m n f cost b t way p j c g l h e. lands_at m n f cost b t g way p j c l h e;
  flip =
      λ m n f cost b t way j theta to g v.
      flip_kept m n f cost b t g way j v.in_range v.nonbasic theta to v.to_nonbasic v.lands;
}
