-- What holds of a state of the run over factors.
use Rattle.std.specs.Prelude.{◌≡◌, ℕ, ◌<◌, ◌≤◌, List, [], length, All, Option}
use Rattle.spec_exact.specs.Fraction.{ℚ}
use Rattle.spec_model.specs.Kept.{row_limit, column_limit}
use Rattle.spec_pivot.specs.declared.status.Status.{Status}
use Rattle.spec_simplex.specs.Tableau.{all_columns}
use Rattle.spec_factor.specs.Factors.{Pair}
use Rattle.spec_factor.specs.Revised.{Revised, replacements}

-- the state of the revised simplex with these parts; it keeps no rows of a tableau and no reduced costs
abbrev pub state_of : ℕ → ℕ → List ℕ → List ℚ → List Status → List (Option ℚ) → List (Option ℚ) → List Pair → ℕ →
    Revised
state_of rows cols basic value status lower upper pairs replaced =
    record {
      bare =
          record {
            rows = rows;
            cols = cols;
            entries = [];
            basic = basic;
            value = value;
            reduced = [];
            status = status;
            lower = lower;
            upper = upper;
          };
      pairs = pairs;
      replaced = replaced;
    }

-- Each position has a basic column, and each column has a status, a value and two bounds. The factors have as many
-- places as there are positions. No more rows and columns are there than a model may have.
pub record IsState (places : ℕ) (s : Revised) : Type 0 where
  pub few_rows : s.bare.rows ≤ row_limit
  pub few_columns : s.bare.cols ≤ column_limit
  pub all_basic : length s.bare.basic ≡ s.bare.rows
  pub in_range : All (λ k. k < all_columns s.bare) s.bare.basic
  pub all_values : length s.bare.value ≡ all_columns s.bare
  pub all_statuses : length s.bare.status ≡ all_columns s.bare
  pub all_lower : length s.bare.lower ≡ all_columns s.bare
  pub all_upper : length s.bare.upper ≡ all_columns s.bare
  pub all_places : places ≡ s.bare.rows
  pub few_replaced : s.replaced ≤ replacements
