-- What is true of a linear program.
use Rattle.std.specs.Prelude.{◌≡◌, ℕ, ◌<◌, ℤ, List, length, IfSome}
use Rattle.spec_exact.specs.Fraction.{ℚ, ◌≤ℚ◌, ◌<ℚ◌, whole}
use Rattle.spec_model.specs.declared.parts.Sense.{Sense}
use Rattle.spec_model.specs.declared.parts.Sense.TheVariants.{Min, Max}
use Rattle.spec_model.specs.Model.{Model, Limits, width, height, bounds, limits, activity, value_of, part}

-- v is at least the lower limit, if there is one, and at most the upper limit, if there is one
pub record IsBetween (l : Limits) (v : ℚ) : Type 0 where
  pub lower : IfSome l.lower (λ k. k ≤ℚ v)
  pub upper : IfSome l.upper (λ k. v ≤ℚ k)

-- z has exactly one value for each column of the model, each within its bounds, and each row's activity at z is within
-- the row's limits
pub record IsFeasible (m : Model) (z : List ℚ) : Type 0 where
  pub one_each : length z ≡ width m
  pub columns : (j : ℕ) → j < width m → IsBetween (bounds m j) (part z j)
  pub rows : (i : ℕ) → i < height m → IsBetween (limits m i) (activity m z i)

-- v is a better value than w: less where the sense is Min, greater where it is Max
abbrev pub IsBetter : Sense → ℚ → ℚ → Type 0
IsBetter Min v w = v <ℚ w
IsBetter Max v w = w <ℚ v

-- v is the value of a feasible point, and no feasible point has a better one
pub record IsOptimal (m : Model) (v : ℚ) : Type 0 where
  pub point : (z : List ℚ) × IsFeasible m z × (value_of m z ≡ v)
  pub best : (z : List ℚ) → IsFeasible m z → ¬ (IsBetter m.sense (value_of m z) v)

-- no point is feasible in the model
abbrev pub IsInfeasible : Model → Type 0
IsInfeasible m = (z : List ℚ) → ¬ (IsFeasible m z)

-- for every whole number the model has a feasible point whose value is better than this number
abbrev pub IsUnbounded : Model → Type 0
IsUnbounded m = (k : ℤ) → (z : List ℚ) × IsFeasible m z × IsBetter m.sense (value_of m z) (whole k)
