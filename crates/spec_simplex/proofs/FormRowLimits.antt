-- The limits of a row, as the run that makes a form computes them.
--
-- `limits_ok`: the limits of a row that come out at a limit of numbers are the exact ones.
-- `limits_ordered`: a row's lower limit is not above its upper one, whatever its kind, right side and range.
use Rattle.std.proofs.Common.{◌≡◌, Option, Some, None, Ok, Bool, true, false, cond, refl, subst}
use Rattle.spec_exact.specs.Fraction.{ℚ, 0ℚ, ◌+ℚ◌, ◌-ℚ◌, neg_ℚ, abs_ℚ, lt_ℚ, ◌≤ℚ◌, ◌<ℚ◌}
use Rattle.spec_exact.proofs.Order.{≤ℚ_from, <ℚ-le, ≤ℚ_refl, lt_if, le_if_not}
use Rattle.spec_exact.proofs.Ruleset.{ring, neg-zero}
use Rattle.spec_exact.proofs.Strict.{neg_strict}
use Rattle.spec_model.specs.declared.parts.Kind.{Kind}
use Rattle.spec_model.specs.declared.parts.Kind.TheVariants.{L, G, E, N}
use Rattle.spec_model.specs.declared.parts.RowLimit.TheVariants.{Given, Sum}
use Rattle.spec_model.specs.Model.{ExactRow, Limits, lower_of, upper_of, limit_of, limits_by, limits_of, lower_run, upper_run}
use Rattle.spec_model.proofs.LimitsAtLimit.{limit_ok}
use Rattle.spec_exact.proofs.Results.{ok_same}
use Rattle.spec_exact.specs.Run.{◌>>=◌}
use Rattle.spec_exact.proofs.Magnitudes.{abs_least}
use Rattle.spec_simplex.specs.Form.{limits_run}
use Rattle.spec_simplex.proofs.RunParts.{then_ok}

-- the pair p has the lower limit of l first and the upper limit of l second
pub record AreLimits (l : Limits) (p : Option ℚ × Option ℚ) : Type 0 where
  pub lower : p.0 ≡ l.lower
  pub upper : p.1 ≡ l.upper

pub limits_ok : (limit : Option _) (r : ExactRow) (p : Option ℚ × Option ℚ) → limits_run limit r ≡ Ok p →
    AreLimits (limits_of r) p
limits_ok limit r p h =
    let l = then_ok (lower_run limit r) (λ l. upper_run limit r >>= λ u. Ok (l, u)) p h in
    let u = then_ok (upper_run limit r) (λ u. Ok (l.0, u)) p l.2 in
    subst (AreLimits (limits_of r)) (ok_same (l.0, u.0) p u.2)
    (record { lower = limit_ok limit (lower_of r) l.0 l.1; upper = limit_ok limit (upper_of r) u.0 u.1 })

-- ---- a lower limit is not above the upper one
-- where both limits of l are there, the lower one is at most the upper one
abbrev Ordered : Limits → Type 0
Ordered l = (a c : ℚ) → l.lower ≡ Some a → l.upper ≡ Some c → a ≤ℚ c

-- the limits of which the lower one is a and the upper one c
abbrev from_to : ℚ → ℚ → Limits
from_to a c = record { lower = Some a; upper = Some c }

-- limits from a to c are in order where a is at most c
between : (a c : ℚ) → a ≤ℚ c → Ordered (from_to a c)
between a c h x y p q =
    let e : a ≡ x = cc in
    let f : c ≡ y = cc in
    subst (λ x. x ≤ℚ y) e (subst (λ y. a ≤ℚ y) f h)

-- a right side less a range that is at least 0 is at most the right side
below : (b r : ℚ) → 0ℚ ≤ℚ r → (b -ℚ r) ≤ℚ b
below b r h = ≤ℚ_from (b -ℚ r) b r h (again b r)
  where
    again : (b r : ℚ) → b -ℚ r +ℚ r ≡ b
    again b r = simp ring

-- a right side and a range that is at least 0 make at least the right side
above : (b r : ℚ) → 0ℚ ≤ℚ r → b ≤ℚ (b +ℚ r)
above b r h = ≤ℚ_from b (b +ℚ r) r h refl

pub limits_ordered : (k : Kind) (b : ℚ) (r : Option ℚ) → Ordered (limits_by k b r)
limits_ordered L b None = λ a c p q. let z : None ≡ Some a = p in cc
limits_ordered L b (Some r) = between (b -ℚ abs_ℚ r) b (below b (abs_ℚ r) (abs_least r))
limits_ordered G b None = λ a c p q. let z : None ≡ Some c = q in cc
limits_ordered G b (Some r) = between b (b +ℚ abs_ℚ r) (above b (abs_ℚ r) (abs_least r))
limits_ordered N b r = λ a c p q. let z : None ≡ Some a = p in cc
limits_ordered E b None = between b b (≤ℚ_refl b)
limits_ordered E b (Some r) = by (lt_ℚ r 0ℚ) refl
  where
    falls : (b r : ℚ) → b +ℚ r +ℚ neg_ℚ r ≡ b
    falls b r = simp ring

    by : (c : Bool) → lt_ℚ r 0ℚ ≡ c → Ordered (record {
      lower = limit_of (cond c (Sum b r) (Given b));
      upper = limit_of (cond c (Given b) (Sum b r));
    })
    by true e =
        between (b +ℚ r) b (≤ℚ_from (b +ℚ r) b (neg_ℚ r)
        (<ℚ-le 0ℚ (neg_ℚ r) (subst (λ a. a <ℚ neg_ℚ r) neg-zero (neg_strict r 0ℚ (lt_if r 0ℚ e)))) (falls b r))
    by false e = between b (b +ℚ r) (above b r (le_if_not r 0ℚ e))
