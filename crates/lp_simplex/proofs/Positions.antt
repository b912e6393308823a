-- A position of a tableau, as the ratio test sees it.
use Rattle.std.proofs.Common.{◌≡◌, ℕ, Option, Some, refl}
use Rattle.spec_exact.specs.Fraction.{ℚ}
use Rattle.spec_exact.specs.Narrow.{number_limit}
use Rattle.spec_simplex.specs.declared.ends.Entering.{Entering}
use Rattle.spec_simplex.specs.declared.ends.Best.{Best}
use Rattle.spec_simplex.specs.Tableau.{Tableau, basic_at, entry_at, lower_at, upper_at, value_at}
use Rattle.spec_simplex.specs.Step.{best_with}
use Rattle.lp_simplex.specs.Ratio.{best_at}

module _ (t : Tableau) (e : Entering) (i : ℕ) (best : Option (Best ℚ)) where
  pub position_is : (col : ℕ) (entry : ℚ) (lower upper : Option ℚ) (value : ℚ) → col ≡ basic_at t i →
      entry ≡ entry_at t i e.col → lower ≡ lower_at t (basic_at t i) → upper ≡ upper_at t (basic_at t i) →
      value ≡ value_at t (basic_at t i) →
      best_at e.direction i col entry lower upper value best ≡ best_with (Some number_limit) t e i best
  position_is col entry lower upper value c a l u v = rw (c, a, l, u, v) refl
