-- The conditions under which a certificate is accepted.
use Rattle.std.specs.Prelude.{◌≡◌, ℕ, ◌<◌, List, Option, Some, None, IfSome, cond}
use Rattle.spec_exact.specs.Fraction.{ℚ, ◌-ℚ◌, ◌*ℚ◌, ◌≤ℚ◌, ◌<ℚ◌, neg_ℚ, 0ℚ, lt_ℚ}
use Rattle.spec_exact.specs.Sums.{sum_below}
use Rattle.spec_model.specs.declared.parts.Sense.{Sense}
use Rattle.spec_model.specs.declared.parts.Sense.TheVariants.{Min, Max}
use Rattle.spec_model.specs.Model.{Model, Limits, width, height, bounds, limits}
use Rattle.spec_model.specs.Model.{cost, coefficient, activity, cost_of, part}
use Rattle.spec_model.specs.Truth.{IsFeasible}
use Rattle.spec_check.specs.declared.certificate.Certificate.{Certificate}
use Rattle.spec_check.specs.declared.certificate.Certificate.TheVariants.{Optimal, Infeasible, Clash, Unbounded}

-- a cost as one that is to be least: its negative where the sense is Max
abbrev pub signed : Sense → ℚ → ℚ
signed Min q = q
signed Max q = neg_ℚ q

-- the sum of a column's coefficients times the multipliers of their rows
abbrev pub priced : Model → List ℚ → ℕ → ℚ
priced m y j = sum_below (height m) (λ i. part y i *ℚ coefficient m i j)

-- the reduced cost of a column: its cost, negated where the sense is Max, less its coefficients times the multipliers
-- of their rows
abbrev pub reduced : Model → List ℚ → ℕ → ℚ
reduced m y j = signed m.sense (cost m j) -ℚ priced m y j

-- ---- a point that is optimal

-- the value v is at the limit that the multiplier d asks for: with d above 0 the lower limit, with d below 0 the upper;
-- with d = 0 nothing is asked
pub record IsTight (l : Limits) (d v : ℚ) : Type 0 where
  pub above : 0ℚ <ℚ d → l.lower ≡ Some v
  pub below : d <ℚ 0ℚ → l.upper ≡ Some v

-- x is feasible, and the multipliers y are complementary to it: each column and each row stands at the bound or limit
-- that the sign of its reduced cost or multiplier asks for
pub record ChecksOptimal (m : Model) (x y : List ℚ) : Type 0 where
  pub feasible : IsFeasible m x
  pub columns : (j : ℕ) → j < width m → IsTight (bounds m j) (reduced m y j) (part x j)
  pub rows : (i : ℕ) → i < height m → IsTight (limits m i) (part y i) (activity m x i)

-- ---- rows that no point satisfies together

-- the limit that the multiplier d asks for is there: with d above 0 the lower limit, with d below 0 the upper; with
-- d = 0 nothing is asked
pub record HasLimit (l : Limits) (d : ℚ) : Type 0 where
  pub above : 0ℚ <ℚ d → (b : ℚ) × (l.lower ≡ Some b)
  pub below : d <ℚ 0ℚ → (b : ℚ) × (l.upper ≡ Some b)

-- a limit, or 0 where it is absent
abbrev pub or_zero : Option ℚ → ℚ
or_zero None = 0ℚ
or_zero (Some b) = b

-- the limit that goes with the sign of the multiplier d: the lower one for d above 0, the upper one for d below 0; and
-- 0 for d = 0, or where that limit is absent
abbrev pub asked : Limits → ℚ → ℚ
asked l d = cond (lt_ℚ 0ℚ d) (or_zero l.lower) (cond (lt_ℚ d 0ℚ) (or_zero l.upper) 0ℚ)

-- limits in which the lower and the upper one have changed places
abbrev pub turned_limits : Limits → Limits
turned_limits l = record { lower = l.upper; upper = l.lower }

-- where each limit that a multiplier asks for is there: the least that the limits let the sum of all rows be, each of
-- them times its multiplier; an absent one counts as 0
abbrev pub rows_ask : Model → List ℚ → ℚ
rows_ask m y = sum_below (height m) (λ i. part y i *ℚ asked (limits m i) (part y i))

-- where each bound that is needed is there: the most that the bounds of the columns let the sum of all rows be, each of
-- them times its multiplier; an absent one counts as 0
abbrev pub columns_give : Model → List ℚ → ℚ
columns_give m y = sum_below (width m) (λ j. priced m y j *ℚ asked (turned_limits (bounds m j)) (priced m y j))

-- Farkas multipliers y: each row has the limit that its multiplier asks for, and each column the bound that keeps down
-- its part in the sum of the rows times y; and the columns give less than the rows ask for
pub record ChecksInfeasible (m : Model) (y : List ℚ) : Type 0 where
  pub rows : (i : ℕ) → i < height m → HasLimit (limits m i) (part y i)
  pub columns : (j : ℕ) → j < width m → HasLimit (turned_limits (bounds m j)) (priced m y j)
  pub less : columns_give m y <ℚ rows_ask m y

-- ---- a column whose lower bound is above its upper bound

-- column j shows that no point is feasible: its lower bound is above its upper one
pub record ChecksClash (m : Model) (j : ℕ) : Type 0 where
  pub inside : j < width m
  pub low : ℚ
  pub high : ℚ
  pub lower : (bounds m j).lower ≡ Some low
  pub upper : (bounds m j).upper ≡ Some high
  pub crossed : high <ℚ low

-- ---- a ray along which feasible points get better without limit

-- a value within these limits may move by any positive multiple of r: no limit stops it
pub record Allows (l : Limits) (r : ℚ) : Type 0 where
  pub lower : IfSome l.lower (λ _. 0ℚ ≤ℚ r)
  pub upper : IfSome l.upper (λ _. r ≤ℚ 0ℚ)

-- x is feasible, no bound and no limit stops a move from it along the ray r, by any positive multiple, and the
-- objective improves along r
pub record ChecksUnbounded (m : Model) (x r : List ℚ) : Type 0 where
  pub feasible : IsFeasible m x
  pub columns : (j : ℕ) → j < width m → Allows (bounds m j) (part r j)
  pub rows : (i : ℕ) → i < height m → Allows (limits m i) (activity m r i)
  pub better : signed m.sense (cost_of m r) <ℚ 0ℚ

-- the model and the certificate meet the conditions under which it is accepted: by its kind those of an optimal point
-- with its multipliers, of Farkas multipliers, of a clash, or of a point with a ray
abbrev pub Checks : Model → Certificate (List ℚ) → Type 0
Checks m (Optimal x y) = ChecksOptimal m x y
Checks m (Infeasible y) = ChecksInfeasible m y
Checks m (Clash j) = ChecksClash m j
Checks m (Unbounded x r) = ChecksUnbounded m x r
