-- What a step does, without how far the entering column moves.
use Rattle.std.specs.Prelude.{ℕ, ◌<◌}
use Rattle.spec_exact.specs.Fraction.{ℚ}
use Rattle.spec_simplex.specs.declared.ends.Choice.{Choice}
use Rattle.spec_simplex.specs.declared.ends.Choice.TheVariants as choice
use Rattle.spec_simplex.specs.declared.ends.PrimalEnd.TheVariants.{Optimal, Unbounded}
use Rattle.lp_rows.specs.declared.tableau.choice.Step.{Step}
use Rattle.lp_rows.specs.declared.tableau.choice.Step.TheVariants.{End, Flip, Pivot}
use Rattle.lp_rows.specs.declared.tableau.tableau.RowTableau.{RowTableau}
use Rattle.lp_rows.specs.Shows.{height, width}

-- what a choice of the definitions is in the code: the same step, without how far the entering column moves
abbrev pub step_of : Choice ℚ → Step
step_of (choice.End end) = End end
step_of (choice.Flip j) = Flip j
step_of (choice.Pivot p j theta to) = Pivot p j to

-- the column that the step names, if any, is one of the first n, and its position, if any, one of the first m
abbrev pub IsInReach : ℕ → ℕ → Step → Type 0
IsInReach m n (End Optimal) = Unit {0}
IsInReach m n (End (Unbounded j way)) = j < n
IsInReach m n (Flip j) = j < n
IsInReach m n (Pivot p j to) = (p < m) × (j < n)

-- the column that the step names, if any, is structural or logical, and its position, if any, one of the tableau's
abbrev pub MayMake : {T : Type 0} → RowTableau T → Step → Type 0
MayMake r s = IsInReach (height r) (width r) s
