-- When a column is at a basis by its reduced cost, and a row by its sum.
use Rattle.std.specs.Prelude.{◌≡◌, ℕ, List, Some, None, Ok}
use Rattle.spec_exact.specs.Fraction.{ℚ, 0ℚ}
use Rattle.spec_model.specs.Model.{Model, bounds, row, part}
use Rattle.spec_check.specs.Run.{lower_run, upper_run}
use Rattle.spec_pivot.specs.declared.status.Status.{Status}
use Rattle.spec_pivot.specs.declared.status.Status.TheVariants.{Basic, AtLower, AtUpper, AtZero}

-- column j, whose reduced cost is d, stands at the point x as its status says: d is 0 if it is basic, else it is at
-- that bound, or at 0
abbrev pub ColumnStandsWith : Model → List ℚ → ℕ → ℚ → Status → Type 0
ColumnStandsWith m x j d Basic = d ≡ 0ℚ
ColumnStandsWith m x j d AtLower = (bounds m j).lower ≡ Some (part x j)
ColumnStandsWith m x j d AtUpper = (bounds m j).upper ≡ Some (part x j)
ColumnStandsWith m x j d AtZero = part x j ≡ 0ℚ

-- row i, whose sum is s, stands as its logical's status says: its multiplier in y is 0 if it is basic, else s is that
-- limit, or 0
abbrev pub RowStandsWith : Model → List ℚ → ℕ → ℚ → Status → Type 0
RowStandsWith m y i s Basic = part y i ≡ 0ℚ
RowStandsWith m y i s AtLower = lower_run None (row m i) ≡ Ok (Some s)
RowStandsWith m y i s AtUpper = upper_run None (row m i) ≡ Ok (Some s)
RowStandsWith m y i s AtZero = s ≡ 0ℚ
