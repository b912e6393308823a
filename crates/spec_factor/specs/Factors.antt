-- Factors of a basis in product form, at a limit: a list of pairs, each of a place and of a column by places, as the
-- inverse of an elementary matrix; both solves over them; and how they are made anew, and with another column in one
-- place.
--
-- A basis has a column of the form's equations in each of m places, as many as there are rows. The column of a
-- structural is its coefficients' negatives by rows, that of a logical is 1 in its own row.
use Rattle.std.specs.Prelude.{ℕ, zero, suc, ◌+◌, ◌-◌, List, [], ◌∷◌, ◌++◌, map, replicate, get_or}
use Rattle.std.specs.Prelude.{slice_set, Option, Some, None, is_none, unwrap_or, Result, Ok}
use Rattle.std.specs.Prelude.{Err, Bool, true, false, not, ◌&&◌, nat_lt, nat_eq, if◌then◌else◌}
use Rattle.spec_exact.specs.Fraction.{ℚ, 0ℚ, 1ℚ, neg_ℚ, eq_ℚ}
use Rattle.spec_pivot.specs.declared.status.Status.{Status}
use Rattle.spec_exact.specs.Run.{Run, ◌>>=◌, refused_as, quotient_run, less_product, steps, list_run, made}
use Rattle.spec_simplex.specs.Form.{Form, form_entry}
use Rattle.spec_simplex.specs.Start.{one_at}
use Rattle.spec_simplex.specs.Tableau.{is_basic}
use Rattle.spec_simplex.specs.Eliminate.{basis_at}
use Rattle.spec_factor.specs.declared.stop.NoFactors.{NoFactors}
use Rattle.spec_factor.specs.declared.stop.NoFactors.TheVariants as stop

-- an elementary matrix, by the one column in which it differs from the unit matrix
pub record Pair : Type 0 where
  pub place : ℕ
  pub column : List ℚ  -- by places, and not 0 at its own

-- the entry of a pair's column at place i
abbrev pub pair_at : Pair → ℕ → ℚ
pair_at e i = get_or e.column i 0ℚ

-- pairs with the basic columns that they stand for
pub record Factors : Type 0 where
  pub pairs : List Pair
  pub basic : List ℕ  -- of each place, its column

-- ---- the columns of the form's equations

-- the entry of column k of the form's equations in row i: for a structural column the negative of its coefficient, for
-- a logical one 1 in its own row and 0 in the others
abbrev pub column_entry : Form → ℕ → ℕ → ℚ
column_entry f i k = if nat_lt k f.cols then neg_ℚ (form_entry f i k) else one_at i (k - f.cols) 1ℚ

-- the list by rows of the entries of column k of the form's equations
abbrev pub column_of : Form → ℕ → List ℚ
column_of f k = made f.rows (λ i. column_entry f i k)

-- ---- ftran: from a list by rows to the solution by places, with the pairs from first to last

-- one step of ftran, at a limit: the item of v at the pair's place is divided by the pair's entry there, and each other
-- item loses the pair's entry at its own place times the quotient; or the first refusal
unfoldable pub forward_run : Option ℕ → ℕ → Pair → List ℚ → Run (List ℚ)
forward_run limit m e v =
    quotient_run limit (get_or v e.place 0ℚ) (pair_at e e.place) >>= λ q.
    list_run m (λ i. if nat_eq i e.place then Ok q else less_product limit (pair_at e i) q (get_or v i 0ℚ))

-- ftran, at a limit: from the list v by rows the solution z by places of basis * z = v, where the pairs stand for the
-- basis; or the first refusal. The pairs act on v from the first to the last.
abbrev pub ftran_run : Option ℕ → ℕ → List Pair → List ℚ → Run (List ℚ)
ftran_run limit m [] v = Ok v
ftran_run limit m (e ∷ es) v = forward_run limit m e v >>= λ w. ftran_run limit m es w

-- ---- btran: from a list by places to the solution by rows, with the pairs from last to first

-- one step of btran, at a limit: the item of v at the pair's place loses each other item times the pair's entry at that
-- item's place, and is divided by the pair's entry at its own; the other items stay. Or the first refusal
unfoldable pub backward_run : Option ℕ → ℕ → Pair → List ℚ → Run (List ℚ)
backward_run limit m e v =
    steps m (λ i s. if nat_eq i e.place then Ok s else less_product limit (get_or v i 0ℚ) (pair_at e i) s)
    (get_or v e.place 0ℚ) >>= λ s.
    quotient_run limit s (pair_at e e.place) >>= λ q. Ok (slice_set v e.place q)

-- btran, at a limit: from the list v by places the solution y by rows of y * basis = v, where the pairs stand for the
-- basis; or the first refusal. The pairs act on v from the last to the first.
abbrev pub btran_run : Option ℕ → ℕ → List Pair → List ℚ → Run (List ℚ)
btran_run limit m [] v = Ok v
btran_run limit m (e ∷ es) v = btran_run limit m es v >>= λ w. backward_run limit m e w

-- ---- factor: the basic columns one by one in the order of their numbers

-- the state of factoring a basis: the pairs that were made, and for each place the column that has it, if one does
pub record Chosen : Type 0 where
  pub pairs : List Pair
  pub columns : List (Option ℕ)

-- place i has no column, and v is not 0 there
abbrev pub is_open : List (Option ℕ) → List ℚ → ℕ → Bool
is_open columns v i = is_none (get_or columns i None) && not (eq_ℚ (get_or v i 0ℚ) 0ℚ)

-- the place found before; else place i where that is open; else none
abbrev pub or_open : Option ℕ → ℕ → Bool → Option ℕ
or_open (Some p) i open_here = Some p
or_open None i true = Some i
or_open None i false = None

-- the least of the first n places that has no column and where v is not 0; none if there is none
abbrev pub open_place : List (Option ℕ) → List ℚ → ℕ → Option ℕ
open_place columns v zero = None
open_place columns v (suc n) = or_open (open_place columns v n) n (is_open columns v n)

-- the pairs with one more behind them, of place p and column v
abbrev pub with_pair : List Pair → ℕ → List ℚ → List Pair
with_pair pairs p v = pairs ++ record { place = p; column = v } ∷ []

-- column k, which is v by places, takes the place that was found for it, and v becomes the pair of that place; where
-- none was found, the basis is singular
abbrev pub chosen_at : Chosen → ℕ → List ℚ → Option ℕ → Result Chosen (NoFactors ℚ)
chosen_at s k v None = Err stop.Singular
chosen_at s k v (Some p) = Ok (record { pairs = with_pair s.pairs p v; columns = slice_set s.columns p (Some k) })

-- a step of factoring: column k takes the first place that is free and at which ftran of it, by the pairs that were
-- made, is not 0. Where there is none, the basis is singular; or an operation is past the limit
abbrev pub choose_run : Option ℕ → Form → ℕ → Chosen → Result Chosen (NoFactors ℚ)
choose_run limit f k s =
    refused_as stop.Past (ftran_run limit f.rows s.pairs (column_of f k)) >>= λ v.
    chosen_at s k v (open_place s.columns v f.rows)

-- the state in which factoring begins: no pairs, and no place has a column
abbrev pub none_chosen : Form → Chosen
none_chosen f = record { pairs = []; columns = replicate f.rows None }

-- places for the basic columns among the first n columns of the form; or why there are none: the basis is singular, or
-- an operation is past the limit
unfoldable pub choose_all : Option ℕ → Form → List Status → ℕ → Result Chosen (NoFactors ℚ)
choose_all limit f basis n =
    steps n (λ k s. if is_basic (basis_at basis k) then choose_run limit f k s else Ok s) (none_chosen f)

-- the factors at the end of factoring; column 0 would stand for a place that has none
abbrev pub factors_of : Chosen → Factors
factors_of s = record { pairs = s.pairs; basic = map (λ o. unwrap_or o 0) s.columns }

-- the factors of the basic columns of a basis, as many as there are rows; or why there are none: it is singular, or an
-- operation is past the limit
unfoldable pub factor_run : Option ℕ → Form → List Status → Result Factors (NoFactors ℚ)
factor_run limit f basis = choose_all limit f basis (f.cols + f.rows) >>= λ s. Ok (factors_of s)

-- ---- replace: column k, a list by rows, takes place p

-- the factors after column k, given as a list by rows, takes place p; or the first refusal
unfoldable pub replace_run : Option ℕ → ℕ → Factors → ℕ → ℕ → List ℚ → Run Factors
replace_run limit m s p k column =
    ftran_run limit m s.pairs column >>= λ v.
    Ok (record { pairs = with_pair s.pairs p v; basic = slice_set s.basic p k })
