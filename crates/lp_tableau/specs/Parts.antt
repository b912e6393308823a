-- A tableau of its parts.
use Rattle.std.specs.Prelude.{◌≡◌, ℕ, List, Option}
use Rattle.spec_exact.specs.Fraction.{ℚ}
use Rattle.spec_pivot.specs.declared.status.Status.{Status}
use Rattle.spec_simplex.specs.Tableau.{Tableau}
use Rattle.lp_tableau.specs.declared.tableau.ColumnLists.{ColumnLists}
use Rattle.lp_tableau.specs.Grid.{Rows}

-- the tableau with so many rows and structural columns, with these rows of entries and basic columns by position, and
-- with these values, reduced costs, statuses, lower and upper bounds by column
abbrev pub tableau_of : ℕ → ℕ → Rows → List ℕ → List ℚ → List ℚ → List Status → List (Option ℚ) → List (Option ℚ) →
    Tableau
tableau_of rows cols entries basic value reduced status lower upper =
    record {
      rows = rows;
      cols = cols;
      entries = entries;
      basic = basic;
      value = value;
      reduced = reduced;
      status = status;
      lower = lower;
      upper = upper;
    }

-- the lists of the columns have these values, reduced costs, statuses, lower and upper bounds
pub record AreLists (l : ColumnLists) (values costs : List ℚ) (statuses : List Status)
    (lowers uppers : List (Option ℚ)) : Type 0 where
  pub value : l.value.items ≡ values
  pub reduced : l.reduced.items ≡ costs
  pub status : l.status.items ≡ statuses
  pub lower : l.lower.items ≡ lowers
  pub upper : l.upper.items ≡ uppers
