-- Rows with a twin of each of their last items after them: the item itself, or its negative.
use Rattle.std.specs.Prelude.{◌≡◌, ℕ, ◌+◌, ◌≤◌, List, [], ◌∷◌, ◌++◌, length, get_or}
use Rattle.std.specs.Prelude.{slice_set, Option, Ok, Bool, false, if◌then◌else◌}
use Rattle.spec_exact.specs.Fraction.{ℚ, 0ℚ, neg_ℚ}
use Rattle.spec_exact.specs.Run.{Run, ◌>>=◌, made, list_run, quotient_run, less_product}
use Rattle.spec_simplex.specs.Tableau.{at_place}
use Rattle.lp_tableau.specs.Grid.{IsGrid}

-- the number v, or -v where the test is true
abbrev pub signed : Bool → ℚ → ℚ
signed b v = if b then neg_ℚ v else v

-- the twin of the row's item in column c + r: the item itself, or its negative where `turned` says so
abbrev pub twin : ℕ → List Bool → List ℚ → ℕ → ℚ
twin c turned row r = signed (get_or turned r false) (get_or row (c + r) 0ℚ)

-- a row, and behind it the twins of its items from column c on
abbrev pub with_twins : ℕ → List Bool → List ℚ → List ℚ
with_twins c turned row = row ++ made (length turned) (twin c turned row)

-- the rows, each with the twins of its items from column c on behind it
abbrev pub twinned : ℕ → List Bool → List (List ℚ) → List (List ℚ)
twinned c turned [] = []
twinned c turned (row ∷ rows) = with_twins c turned row ∷ twinned c turned rows

-- Rows of c items and m others, no more than a tableau has. Each of the m others has a twin, which is not in these
-- rows: the item itself, or its negative where `turned` says so.
pub record IsTwinned (c m : ℕ) (turned : List Bool) (rows : List (List ℚ)) : Type 0 where
  pub few_rows : m ≤ 256
  pub few_columns : c ≤ 512
  pub twins : length turned ≡ m
  pub grid : IsGrid m (c + m) rows

-- ---- the steps of a pivot on the rows without twins

-- the rows in which each of the n items of row p is divided by `by`, or the refusal
unfoldable pub scaled_by : Option ℕ → ℕ → List (List ℚ) → ℕ → ℚ → Run (List (List ℚ))
scaled_by limit n rows p by =
    list_run n (λ k. quotient_run limit (at_place rows p k) by) >>= λ row. Ok (slice_set rows p row)

-- the rows in which row i has lost `times` times row p, or the refusal
unfoldable pub cleared_by : Option ℕ → ℕ → ℕ → ℚ → ℕ → List (List ℚ) → Run (List (List ℚ))
cleared_by limit n p times i rows =
    list_run n (λ k. less_product limit times (at_place rows p k) (at_place rows i k)) >>=
    λ row. Ok (slice_set rows i row)
