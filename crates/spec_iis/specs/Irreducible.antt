-- Sets of sides that no point meets together, though each set of all but one is met.
use Rattle.std.specs.Prelude.{ℕ, ◌≡◌, ◌<◌, List, length, All, get_or, []}
use Rattle.std.specs.List.{remove}
use Rattle.spec_exact.specs.Fraction.{ℚ}
use Rattle.spec_model.specs.Model.{Model}
use Rattle.spec_model.specs.Truth.{IsFeasible, IsInfeasible}
use Rattle.spec_iis.specs.declared.side.Side.{Side}
use Rattle.spec_iis.specs.Sides.{IsSide}
use Rattle.spec_iis.specs.Only.{only}

-- the sides are limits and bounds that the model has, no point meets them all, and for each of them some point meets
-- all the others
pub record IsIrreducible (m : Model) (sides : List Side) : Type 0 where
  pub present : All (IsSide m) sides
  pub infeasible : IsInfeasible (only m sides)
  pub needed : (k : ℕ) → k < length sides → (z : List ℚ) × IsFeasible (only m (remove sides k)) z

-- there is one point for each side, in their order, and it meets all the other sides
pub record ArePointsWithout (m : Model) (sides : List Side) (points : List (List ℚ)) : Type 0 where
  pub one_each : length points ≡ length sides
  pub feasible : (k : ℕ) → k < length sides → IsFeasible (only m (remove sides k)) (get_or points k [])
