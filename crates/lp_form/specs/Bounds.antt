-- The bounds of columns and the limits of rows, in a list of the lower ones and a list of the upper ones.
use Rattle.std.specs.Prelude.{ℕ, ◌≡◌, ◌++◌, List, Option, Some, Ok, map}
use Rattle.spec_exact.specs.Fraction.{ℚ}
use Rattle.spec_model.specs.Model.{Model, row}
use Rattle.spec_exact.specs.Run.{list_run}
use Rattle.spec_exact.specs.Narrow.{number_limit}
use Rattle.spec_simplex.specs.Form.{limits_run}

-- the two lists are the lower and the upper bounds of all columns of a model,
-- and behind them the limits of its first n rows
pub record AreBounds (m : Model) (n : ℕ) (lower upper : List (Option ℚ)) : Type 0 where
  pub limits : List (Option ℚ × Option ℚ)
  pub taken : list_run n (λ i. limits_run (Some number_limit) (row m i)) ≡ Ok limits
  pub lower_is : lower ≡ map (λ c. c.lower) m.columns ++ map (λ l. l.0) limits
  pub upper_is : upper ≡ map (λ c. c.upper) m.columns ++ map (λ l. l.1) limits
