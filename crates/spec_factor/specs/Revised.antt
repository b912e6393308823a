-- One step of the primal method over factors, at a limit: the revised simplex method. No rows and no reduced costs are
-- kept. The multipliers come from the basic columns' costs by btran, reduced costs are taken up to the column that
-- enters, and of the rows only the entries of that column are known, by ftran.
use Rattle.std.specs.Prelude.{ℕ, suc, ◌+◌, ◌-◌, List, [], map, get_or, Option, Some, None}
use Rattle.std.specs.Prelude.{Result, Ok, Err, nat_eq, nat_le, ◌&&◌, ◌||◌, if◌then◌else◌}
use Rattle.spec_exact.specs.Fraction.{ℚ, 0ℚ, 1ℚ, ◌*ℚ◌}
use Rattle.spec_pivot.specs.declared.status.Status.{Status}
use Rattle.spec_pivot.specs.declared.status.Way.{Way}
use Rattle.spec_simplex.specs.declared.ends.RowStart.{RowStart}
use Rattle.spec_simplex.specs.declared.ends.Entering.{Entering}
use Rattle.spec_simplex.specs.declared.ends.PrimalEnd.TheVariants.{Optimal}
use Rattle.spec_simplex.specs.declared.ends.Choice.{Choice}
use Rattle.spec_simplex.specs.declared.ends.Choice.TheVariants.{End}
use Rattle.spec_simplex.specs.declared.ends.RunStop.{RunStop}
use Rattle.spec_simplex.specs.declared.ends.RunStop.TheVariants as stop
use Rattle.spec_simplex.specs.Form.{Form}
use Rattle.spec_exact.specs.Run.{Run, ◌>>=◌, refused_as, less_product, steps, made}
use Rattle.spec_simplex.specs.Tableau.{Tableau, form_columns, all_columns, is_artificial}
use Rattle.spec_simplex.specs.Tableau.{basic_at, status_at, lower_at, upper_at, is_fixed}
use Rattle.spec_simplex.specs.Start.{logical_sign, start_at, cost_at}
use Rattle.spec_simplex.specs.Step.{way_by, or_enters, best_run, choice_by, moved_run}
use Rattle.spec_simplex.specs.Step.{shifted_run, flip_run, exchanged, turned}
use Rattle.spec_runs.specs.Cold.{basis_status}
use Rattle.spec_simplex.specs.Tableau.{is_basic}
use Rattle.spec_factor.specs.declared.stop.NoFactors.{NoFactors}
use Rattle.spec_factor.specs.declared.stop.NoFactors.TheVariants as factor
use Rattle.spec_factor.specs.Factors.{Pair, Factors, column_entry, column_of}
use Rattle.spec_factor.specs.Factors.{ftran_run, btran_run, factor_run, replace_run}

-- a tableau without its rows and reduced costs, and the factors of its basic columns in their place
pub record Revised : Type 0 where
  pub bare : Tableau
  pub pairs : List Pair
  pub replaced : ℕ  -- how many columns were replaced since the factors were made

-- a tableau without its rows and reduced costs
abbrev pub bare_of : Tableau → Tableau
bare_of t = record t { entries = []; reduced = [] }

-- ---- artificial columns

-- The sign with which column k stands in the factors: 1, but for an artificial. That stands there as its row's logical,
-- and with -1 where its row's sum began below its lower limit.
abbrev pub sign_of : List (RowStart ℚ) → Tableau → ℕ → ℚ
sign_of starts t k = if is_artificial t k then logical_sign (start_at starts (k - form_columns t)) else 1ℚ

-- the column that stands in the factors for column k: for an artificial its row's logical, for each other one itself
abbrev pub factor_column : Tableau → ℕ → ℕ
factor_column t k = if is_artificial t k then k - t.rows else k

-- the basis whose factors are taken: the statuses of structural and logical columns, with a logical as basic where its
-- row's artificial is
abbrev pub factor_basis : Tableau → List Status
factor_basis t = made (form_columns t) (basis_status t)

-- the basic column for which column k stands in the factors: the artificial of a logical's row if that is basic, else k
abbrev pub standing : Tableau → ℕ → ℕ
standing t k = if nat_le t.cols k && is_basic (status_at t (k + t.rows)) then k + t.rows else k

-- ---- taking factors anew: the positions are then the places of the factors

-- Factors, or why there are none, as a result of a run: past the limit as it is, a singular basis as `Spent`. The basic
-- columns of a run are never dependent, so the latter never comes.
abbrev pub factor_stop : Result Factors (NoFactors ℚ) → Result Factors (RunStop ℚ)
factor_stop (Ok s) = Ok s
factor_stop (Err (factor.Past p)) = Err (stop.Past p)
factor_stop (Err factor.Singular) = Err stop.Spent

-- the state of a tableau with these new factors: their places are the positions, and no column was replaced yet
abbrev pub refactored : Tableau → Factors → Revised
refactored t s = record { bare = record t { basic = map (λ k. standing t k) s.basic }; pairs = s.pairs; replaced = 0 }

-- the state of a tableau with factors that are taken anew of its basic columns; or why the run stops
unfoldable pub refactor_run : Option ℕ → Form → Tableau → Result Revised (RunStop ℚ)
refactor_run limit f t = factor_stop (factor_run limit f (factor_basis t)) >>= λ s. Ok (refactored t s)

-- how many columns are replaced before factors are taken anew: 64
abbrev pub replacements : ℕ
replacements = 64

-- the state with factors taken anew where just `replacements` columns were replaced since they were made, or why the
-- run stops; else the state as it is
abbrev pub refreshed_run : Option ℕ → Form → Revised → Result Revised (RunStop ℚ)
refreshed_run limit f s = if nat_eq s.replaced replacements then refactor_run limit f s.bare else Ok s

-- ---- pricing

-- for each place the cost of its basic column, times the sign with which that column stands in the factors
abbrev pub basic_costs : List (RowStart ℚ) → List ℚ → Tableau → List ℚ
basic_costs starts costs t = made t.rows (λ p. sign_of starts t (basic_at t p) *ℚ cost_at costs (basic_at t p))

-- the multipliers of the rows, by btran of the costs of the basic columns of s; or the first refusal
unfoldable pub multipliers_run : Option ℕ → List (RowStart ℚ) → List ℚ → Revised → Run (List ℚ)
multipliers_run limit starts costs s = btran_run limit s.bare.rows s.pairs (basic_costs starts costs s.bare)

-- the reduced cost of column k: its cost less, row by row, the multiplier times the column's entry in the form's
-- equations, where an artificial has none; or the first refusal
abbrev pub price_run : Option ℕ → Form → List ℚ → List ℚ → ℕ → Run ℚ
price_run limit f costs y k =
    steps f.rows (λ i d. less_product limit (get_or y i 0ℚ) (column_entry f i k) d) (cost_at costs k)

-- whether column k rises or falls, if it may enter; none if it may not. A basic or a fixed column never may, and is not
-- priced. Of another the pricing may be refused.
abbrev pub way_run : Option ℕ → Form → List ℚ → List ℚ → Tableau → ℕ → Run (Option Way)
way_run limit f costs y t k =
    if is_fixed (lower_at t k) (upper_at t k) || is_basic (status_at t k)
    then Ok None
    else (price_run limit f costs y k >>= λ d. Ok (way_by (status_at t k) d))

-- the entering column that was found before, without pricing column k; else column k where it may enter, or none, or
-- the refusal of its pricing
abbrev pub or_priced : Option ℕ → Form → List ℚ → List ℚ → Tableau → ℕ → Option Entering → Run (Option Entering)
or_priced limit f costs y t k (Some e) = Ok (Some e)
or_priced limit f costs y t k None = way_run limit f costs y t k >>= λ way. Ok (or_enters None k way)

-- the entering column by Bland's rule, the least that may enter, with its way; none where none may; or the first
-- refusal. Columns behind the entering one are not priced.
unfoldable pub entering_run : Option ℕ → Form → List ℚ → List ℚ → Tableau → Run (Option Entering)
entering_run limit f costs y t = steps (all_columns t) (λ k e. or_priced limit f costs y t k e) None

-- ---- the tableau as a step sees it: of its rows the entries in column j alone, which is z by places after ftran

-- the entry of the tableau in the entering column at position p: item p of z, with the sign of the basic column there
abbrev pub seen_entry : List (RowStart ℚ) → Tableau → List ℚ → ℕ → ℚ
seen_entry starts t z p = sign_of starts t (basic_at t p) *ℚ get_or z p 0ℚ

-- the tableau as a step sees it: with the entries of column j, which z gives by places, and 0 in the columns before it
abbrev pub seen : List (RowStart ℚ) → Tableau → ℕ → List ℚ → Tableau
seen starts t j z =
    record t { entries = made t.rows (λ p. made (suc j) (λ k. if nat_eq k j then seen_entry starts t z p else 0ℚ)) }

-- ---- the choice

-- what a step sees and chooses: the multipliers of the rows, the tableau with the entries of the entering column, and
-- the choice
pub record Selection : Type 0 where
  pub multipliers : List ℚ
  pub tableau : Tableau  -- as the step sees it
  pub choice : Choice ℚ

-- what a step sees and chooses once pricing has ended with the multipliers y: the end as an optimum where no column
-- enters, else what the ratio test of the entering column says; or a refusal
abbrev pub selection_with : Option ℕ → Form → List (RowStart ℚ) → Revised → List ℚ → Option Entering → Run Selection
selection_with limit f starts s y None = Ok (record { multipliers = y; tableau = s.bare; choice = End Optimal })
selection_with limit f starts s y (Some e) =
    ftran_run limit s.bare.rows s.pairs (column_of f e.col) >>= λ z.
    best_run limit (seen starts s.bare e.col z) e >>= λ best.
    Ok (record { multipliers = y; tableau = seen starts s.bare e.col z; choice = choice_by e best })

-- what a step from the state s sees and chooses: the multipliers for these costs, the entering column by pricing, and
-- the choice by the ratio test; or the first refusal
unfoldable pub selection_run : Option ℕ → Form → List (RowStart ℚ) → List ℚ → Revised → Run Selection
selection_run limit f starts costs s =
    multipliers_run limit starts costs s >>= λ y.
    entering_run limit f costs y s.bare >>= λ e.
    selection_with limit f starts s y e

-- ---- the flip, and the pivot: it changes the values, and then the column is replaced

-- the state s after a flip of column j, with the values from the tableau t as the step sees it, or the first refusal;
-- the factors stay
unfoldable pub flip_over_run : Option ℕ → Revised → Tableau → ℕ → Run Revised
flip_over_run limit s t j = flip_run limit t j >>= λ u. Ok (record s { bare = bare_of u })

-- the pairs of a state as factors, with the basic columns of the state's positions
abbrev pub factors_at : Revised → Factors
factors_at s = record { pairs = s.pairs; basic = s.bare.basic }

-- the state s after column j moves by theta and takes position p, whose column goes to its bound `to`, and after j is
-- replaced in the factors; or the first refusal. t is the tableau as the step sees it. Factors are not taken anew yet.
unfoldable pub exchange_run : Option ℕ → Form → Revised → Tableau → ℕ → ℕ → ℚ → Status → Run Revised
exchange_run limit f s t p j theta to =
    moved_run limit t j theta (Some p) >>= λ values.
    shifted_run limit values j theta >>= λ shifted.
    replace_run limit s.bare.rows (factors_at s) p j (column_of f j) >>= λ factors.
    Ok (record {
      bare = exchanged (turned s.bare shifted [] []) p j to;
      pairs = factors.pairs;
      replaced = suc s.replaced;
    })

-- the state s after a pivot of column j at position p, with factors taken anew where just `replacements` columns were
-- replaced since they were made; or why the run stops
abbrev pub pivot_over_run : Option ℕ → Form → Revised → Tableau → ℕ → ℕ → ℚ → Status → Result Revised (RunStop ℚ)
pivot_over_run limit f s t p j theta to =
    refused_as stop.Past (exchange_run limit f s t p j theta to) >>= λ u. refreshed_run limit f u
