-- When a number is between the limits of a row, by the row's kind, right side and range.
--
-- `at_most`: in a row of type L without a range a number is between the limits if and only if it is at most the right
--   side.
-- `at_most_from`: in a row of type L with a range q it is between the right side less the size of q and the right side.
-- `at_least`: in a row of type G without a range a number is between the limits if and only if it is at least the
--   right side.
-- `at_least_to`: in a row of type G with a range q it is between the right side and that plus the size of q.
-- `equal`: in a row of type E without a range a number is between the limits if and only if it is the right side.
-- `equal_up_to`: in a row of type E a range of 0 or more reaches up from the right side.
-- `equal_down_to`: in a row of type E a range below 0 reaches down from the right side.
-- `free`: in a row of type N each number is between the limits.
use Rattle.std.proofs.Common.{◌≡◌, ◌↔◌, Bool, cond, Option, Some, None, refl, sym, ap, ◌∙◌, subst}
use Rattle.spec_exact.specs.Fraction.{ℚ, 0ℚ, ◌+ℚ◌, ◌-ℚ◌, abs_ℚ, ◌≤ℚ◌, ◌<ℚ◌}
use Rattle.spec_exact.proofs.Order.{≤ℚ_refl, ≤ℚ_antisym, lt_test, not_lt_test}
use Rattle.spec_model.specs.declared.parts.Kind.{Kind}
use Rattle.spec_model.specs.declared.parts.Kind.TheVariants.{L, G, E, N}
use Rattle.spec_model.specs.declared.parts.RowLimit.TheVariants.{Given, Sum}
use Rattle.spec_model.specs.Model.{ExactRow, Limits, limit_of, limits_by, limits_of}
use Rattle.spec_model.specs.Truth.{IsBetween}

-- the limits of a row's kind and range, with its right side, are the row's
limits_are : (r : ExactRow) (kind : Kind) (range : Option ℚ) → r.kind ≡ kind → r.range ≡ range →
    limits_by kind r.rhs range ≡ limits_of r
limits_are r kind range k e = λ i. limits_by (sym k i) r.rhs (sym e i)

-- a condition for being between a kind's limits is one for the row's limits
by_limits : (r : ExactRow) (kind : Kind) (range : Option ℚ) (l : Limits) (v : ℚ) (A : Type 0) → r.kind ≡ kind →
    r.range ≡ range → l ≡ limits_by kind r.rhs range → (IsBetween l v ↔ A) → IsBetween (limits_of r) v ↔ A
by_limits r kind range l v A k e h f = subst (λ x. IsBetween x v ↔ A) (h ∙ limits_are r kind range k e) f

-- no lower limit, and b as the upper one
abbrev up_to : ℚ → Limits
up_to b = record { lower = None; upper = Some b }

-- b as the lower limit, and no upper one
abbrev from_on : ℚ → Limits
from_on b = record { lower = Some b; upper = None }

-- a as the lower limit and b as the upper one
abbrev from_to : ℚ → ℚ → Limits
from_to a b = record { lower = Some a; upper = Some b }

-- to be between no lower limit and b is to be at most b
below : (b v : ℚ) → IsBetween (up_to b) v ↔ (v ≤ℚ b)
below b v = (λ h. h.upper, λ h. record { lower = tt; upper = h })

-- to be between b and no upper limit is to be at least b
above : (b v : ℚ) → IsBetween (from_on b) v ↔ (b ≤ℚ v)
above b v = (λ h. h.lower, λ h. record { lower = h; upper = tt })

-- to be between the limits a and b is to be at least a and at most b
within : (a b v : ℚ) → IsBetween (from_to a b) v ↔ ((a ≤ℚ v) × (v ≤ℚ b))
within a b v = (λ h. (h.lower, h.upper), λ h. record { lower = h.0; upper = h.1 })

-- to be between the limits b and b is to be b
on : (b v : ℚ) → IsBetween (from_to b b) v ↔ (v ≡ b)
on b v = (
  λ h. ≤ℚ_antisym v b h.upper h.lower,
  λ h. record { lower = subst (λ x. b ≤ℚ x) (sym h) (≤ℚ_refl b); upper = subst (λ x. x ≤ℚ b) (sym h) (≤ℚ_refl b) },
)

pub at_most : (r : ExactRow) (v : ℚ) → r.kind ≡ L → r.range ≡ None → IsBetween (limits_of r) v ↔ (v ≤ℚ r.rhs)
at_most r v k e = by_limits r L None (up_to r.rhs) v _ k e refl (below r.rhs v)

pub at_most_from : (r : ExactRow) (q v : ℚ) → r.kind ≡ L → r.range ≡ Some q →
    IsBetween (limits_of r) v ↔ (((r.rhs -ℚ abs_ℚ q) ≤ℚ v) × (v ≤ℚ r.rhs))
at_most_from r q v k e = by_limits r L (Some q) (from_to (r.rhs -ℚ abs_ℚ q) r.rhs) v _ k e refl (within _ r.rhs v)

pub at_least : (r : ExactRow) (v : ℚ) → r.kind ≡ G → r.range ≡ None → IsBetween (limits_of r) v ↔ (r.rhs ≤ℚ v)
at_least r v k e = by_limits r G None (from_on r.rhs) v _ k e refl (above r.rhs v)

pub at_least_to : (r : ExactRow) (q v : ℚ) → r.kind ≡ G → r.range ≡ Some q →
    IsBetween (limits_of r) v ↔ ((r.rhs ≤ℚ v) × (v ≤ℚ (r.rhs +ℚ abs_ℚ q)))
at_least_to r q v k e = by_limits r G (Some q) (from_to r.rhs (r.rhs +ℚ abs_ℚ q)) v _ k e refl (within r.rhs _ v)

pub equal : (r : ExactRow) (v : ℚ) → r.kind ≡ E → r.range ≡ None → IsBetween (limits_of r) v ↔ (v ≡ r.rhs)
equal r v k e = by_limits r E None (from_to r.rhs r.rhs) v _ k e refl (on r.rhs v)

-- the limits of an equation with a range, which is below 0 or not
abbrev ranged : ℚ → ℚ → Bool → Limits
ranged b q c = record { lower = limit_of (cond c (Sum b q) (Given b)); upper = limit_of (cond c (Given b) (Sum b q)) }

pub equal_up_to : (r : ExactRow) (q v : ℚ) → r.kind ≡ E → r.range ≡ Some q → 0ℚ ≤ℚ q →
    IsBetween (limits_of r) v ↔ ((r.rhs ≤ℚ v) × (v ≤ℚ (r.rhs +ℚ q)))
equal_up_to r q v k e h =
    by_limits r E (Some q) (from_to r.rhs (r.rhs +ℚ q)) v _ k e
    (ap (ranged r.rhs q) (sym (not_lt_test q 0ℚ h)))
    (within r.rhs _ v)

pub equal_down_to : (r : ExactRow) (q v : ℚ) → r.kind ≡ E → r.range ≡ Some q → q <ℚ 0ℚ →
    IsBetween (limits_of r) v ↔ (((r.rhs +ℚ q) ≤ℚ v) × (v ≤ℚ r.rhs))
equal_down_to r q v k e h =
    by_limits r E (Some q) (from_to (r.rhs +ℚ q) r.rhs) v _ k e
    (ap (ranged r.rhs q) (sym (lt_test q 0ℚ h)))
    (within _ r.rhs v)

pub free : (r : ExactRow) (v : ℚ) → r.kind ≡ N → IsBetween (limits_of r) v
free r v k =
    subst (λ x. IsBetween x v) (limits_are r N r.range k refl)
    (record { lower = tt; upper = tt })
