-- Certificates of bases.
--
-- At a basis each column that is not basic is at a bound, and each basic one has the reduced cost 0; a row's column is
-- the row's sum, whose bounds are the row's limits and whose reduced cost is the row's multiplier. Where the columns of the
-- basis do not depend on each other, one point and one list of multipliers are so (Chvátal, chapters 7 and 8).
use Rattle.std.specs.Prelude.{◌≡◌, ◌<◌, ◌+◌, ℕ, List, Some, None, Ok}
use Rattle.spec_exact.specs.Fraction.{ℚ, 0ℚ}
use Rattle.spec_model.specs.Model.{Model, width, height, bounds, row, part}
use Rattle.spec_check.specs.declared.certificate.Certificate.{Certificate}
use Rattle.spec_check.specs.declared.certificate.Certificate.TheVariants.{Optimal, Infeasible, Clash, Unbounded}
use Rattle.spec_check.specs.Run.{activity_run, reduced_run, lower_run, upper_run}
use Rattle.spec_pivot.specs.declared.status.Status.{Status}
use Rattle.spec_pivot.specs.declared.status.Status.TheVariants.{Basic, AtLower, AtUpper, AtZero}
use Rattle.spec_simplex.specs.Eliminate.{basis_at}

-- column j stands as its status says, at the point x with the multipliers y: a basic one has the reduced cost 0, each
-- other one has its value at that bound or at 0
abbrev pub ColumnStands : Model → List ℚ → List ℚ → ℕ → Status → Type 0
ColumnStands m x y j Basic = reduced_run None m y j ≡ Ok 0ℚ
ColumnStands m x y j AtLower = (bounds m j).lower ≡ Some (part x j)
ColumnStands m x y j AtUpper = (bounds m j).upper ≡ Some (part x j)
ColumnStands m x y j AtZero = part x j ≡ 0ℚ

-- row i stands as its status says, at the point x with the multipliers y: a basic one has the multiplier 0, each other
-- one has its activity at that limit or at 0
abbrev pub RowStands : Model → List ℚ → List ℚ → ℕ → Status → Type 0
RowStands m x y i Basic = part y i ≡ 0ℚ
RowStands m x y i AtLower =
    (v : ℚ) × (activity_run None m x i ≡ Ok v) × (lower_run None (row m i) ≡ Ok (Some v))
RowStands m x y i AtUpper =
    (v : ℚ) × (activity_run None m x i ≡ Ok v) × (upper_run None (row m i) ≡ Ok (Some v))
RowStands m x y i AtZero = activity_run None m x i ≡ Ok 0ℚ

-- at the point x with the multipliers y, each column and each row stands as its status in the basis says
pub record StandsAt (m : Model) (basis : List Status) (x y : List ℚ) : Type 0 where
  pub columns : (j : ℕ) → j < width m → ColumnStands m x y j (basis_at basis j)
  pub rows : (i : ℕ) → i < height m → RowStands m x y i (basis_at basis (width m + i))

-- the certificate is an optimum, whose point and multipliers stand at the basis; no other certificate has a basis
abbrev pub IsOfBasis : Model → List Status → Certificate (List ℚ) → Type 0
IsOfBasis m basis (Optimal x y) = StandsAt m basis x y
IsOfBasis m basis (Infeasible y) = ⊥
IsOfBasis m basis (Clash j) = ⊥
IsOfBasis m basis (Unbounded x r) = ⊥
