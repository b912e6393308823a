-- The tableau of a basis, at a limit: the form's equations are solved for the basic columns, one after the other; then
-- come the values and the reduced costs.
--
-- A basis has a status for each structural and then each logical column of the form. Artificial columns are not basic.
use Rattle.std.specs.Prelude.{◌≡◌, ℕ, zero, suc, ◌+◌, ◌<◌, List, ◌++◌, length, get_or, slice_set, replicate}
use Rattle.std.specs.Prelude.{Option, Some, None, Result, Ok, Err, Bool, true, false, not, ◌&&◌, if◌then◌else◌}
use Rattle.spec_exact.specs.Fraction.{ℚ, 0ℚ, eq_ℚ}
use Rattle.spec_pivot.specs.declared.status.Status.{Status}
use Rattle.spec_pivot.specs.declared.status.Status.TheVariants.{Basic, AtLower, AtUpper, AtZero}
use Rattle.spec_simplex.specs.declared.ends.RowStart.TheVariants.{Within}
use Rattle.spec_simplex.specs.Form.{Form, form_lower, form_upper}
use Rattle.spec_exact.specs.Run.{Run, ◌>>=◌, refused_as, less_product, steps, made}
use Rattle.spec_simplex.specs.Start.{start_entry, priced_run, with_reduced}
use Rattle.spec_simplex.specs.Step.{turned_run}
use Rattle.spec_simplex.specs.Tableau.{Tableau, all_columns, at_place, entry_at, basic_at, value_at, status_at, stand}
use Rattle.spec_simplex.specs.Tableau.{is_basic}
use Rattle.spec_simplex.specs.declared.ends.StartStop.{StartStop}
use Rattle.spec_simplex.specs.declared.ends.StartStop.TheVariants as stop

-- ---- bases

-- the status that a basis gives column k, and `Basic` past the end of its list
abbrev pub basis_at : List Status → ℕ → Status
basis_at basis k = get_or basis k Basic

-- how many of the first n columns are basic in a basis
abbrev pub basics_below : List Status → ℕ → ℕ
basics_below basis zero = 0
basics_below basis (suc n) = basics_below basis n + (if is_basic (basis_at basis n) then 1 else 0)

-- a column with these bounds can have this status: `AtLower` or `AtUpper` only if it has that bound, `AtZero` only if
-- it has no bound; `Basic` always
abbrev pub CanStand : Status → Option ℚ → Option ℚ → Type 0
CanStand Basic lower upper = Unit {0}
CanStand AtLower lower upper = (v : ℚ) × (lower ≡ Some v)
CanStand AtUpper lower upper = (v : ℚ) × (upper ≡ Some v)
CanStand AtZero lower upper = (lower ≡ None) × (upper ≡ None)

-- the list is a basis of the form f: it has one status for each structural and logical column, each of which the bounds
-- of its column allow, and as many basic columns as f has rows
pub record IsBasisOf (f : Form) (basis : List Status) : Type 0 where
  pub all : length basis ≡ f.cols + f.rows
  pub stand : (k : ℕ) → k < f.cols + f.rows → CanStand (basis_at basis k) (form_lower f k) (form_upper f k)
  pub count : basics_below basis (f.cols + f.rows) ≡ f.rows

-- ---- elimination

-- the state of the elimination of a basis: the rows over all columns, as changed so far, and for each position its
-- basic column, or none yet
pub record Elimination : Type 0 where
  pub rows : List (List ℚ)
  pub basic : List (Option ℕ)

-- the entries of the form's equation i over all columns: row i's logical and its artificial, less the row's sum, make 0
abbrev pub equation : Form → ℕ → List ℚ
equation f i = made (f.cols + f.rows + f.rows) (start_entry f (Within 0ℚ) i)

-- the elimination at its start: the equations of the form, and no basic column at any position
abbrev pub unsolved : Form → Elimination
unsolved f = record { rows = made f.rows (equation f); basic = replicate f.rows None }

-- whether a position has no basic column yet
abbrev pub has_none : Option ℕ → Bool
has_none None = true
has_none (Some k) = false

-- whether position i has no basic column yet, and its entry in column j is not 0
abbrev pub is_open : Elimination → ℕ → ℕ → Bool
is_open e j i = has_none (get_or e.basic i None) && not (eq_ℚ (at_place e.rows i j) 0ℚ)

-- the position that was found before; where none was, position i if it is free, else none
abbrev pub or_place : Option ℕ → ℕ → Bool → Option ℕ
or_place (Some p) i free = Some p
or_place None i free = if free then Some i else None

-- the least of the first n positions that has no basic column yet and an entry other than 0 in column j; none where
-- there is none
abbrev pub open_below : Elimination → ℕ → ℕ → Option ℕ
open_below e j zero = None
open_below e j (suc n) = or_place (open_below e j n) n (is_open e j n)

-- the elimination after column j becomes basic at position p, with the rows changed as by a pivot there; or the refusal
-- of an operation
abbrev pub solved_at : Option ℕ → Form → Elimination → ℕ → ℕ → Run Elimination
solved_at limit f e j p =
    turned_run limit f.rows (f.cols + f.rows + f.rows) e.rows p j >>=
    λ rows. Ok (record { rows = rows; basic = slice_set e.basic p (Some j) })

-- the elimination after column j takes the position that was found for it; where none was found, the basis is singular.
-- An operation may be refused.
abbrev pub solved_by : Option ℕ → Form → Elimination → ℕ → Option ℕ → Result Elimination (StartStop ℚ)
solved_by limit f e j None = Err stop.Singular
solved_by limit f e j (Some p) = refused_as stop.Past (solved_at limit f e j p)

-- the elimination after column j takes the least position without a basic column in which its entry is not 0; where
-- there is none, the basis is singular. An operation may be refused.
abbrev pub solved_run : Option ℕ → Form → Elimination → ℕ → Result Elimination (StartStop ℚ)
solved_run limit f e j = solved_by limit f e j (open_below e j f.rows)

-- the elimination after each basic column of the basis, in order, has taken a position; or that the basis is singular,
-- or the first refusal
unfoldable pub eliminate_run : Option ℕ → Form → List Status → Result Elimination (StartStop ℚ)
eliminate_run limit f basis =
    steps (f.cols + f.rows) (λ j e. if is_basic (basis_at basis j) then solved_run limit f e j else Ok e) (unsolved f)

-- ---- the tableau of these rows, in which only nonbasic columns have their values, and none its reduced cost

-- the basic column of a position, and column 0 where it has none
abbrev pub or_first : Option ℕ → ℕ
or_first None = 0
or_first (Some k) = k

-- the statuses of all columns: those of the basis, and then `AtLower` for each artificial column
abbrev pub basis_status : Form → List Status → List Status
basis_status f basis = basis ++ replicate f.rows AtLower

-- the lower bounds of all columns: those of the form, and then 0 for each artificial column
abbrev pub basis_lower : Form → List (Option ℚ)
basis_lower f = f.lower ++ replicate f.rows (Some 0ℚ)

-- the upper bounds of all columns: those of the form, and then 0 for each artificial column
abbrev pub basis_upper : Form → List (Option ℚ)
basis_upper f = f.upper ++ replicate f.rows (Some 0ℚ)

-- the value of column k at the start of a basis: the bound that its status names, and 0 for `AtZero`, for an absent
-- bound, for an artificial column and for a basic one
abbrev pub basis_value : Form → List Status → ℕ → ℚ
basis_value f basis k =
    stand (get_or (basis_status f basis) k Basic) (get_or (basis_lower f) k None) (get_or (basis_upper f) k None)

-- the tableau of a basis after elimination; the values of basic columns and all reduced costs are still 0
abbrev pub with_basis : Form → List Status → Elimination → Tableau
with_basis f basis e =
    record {
      rows = f.rows;
      cols = f.cols;
      entries = e.rows;
      basic = made f.rows (λ i. or_first (get_or e.basic i None));
      value = made (f.cols + f.rows + f.rows) (basis_value f basis);
      reduced = replicate (f.cols + f.rows + f.rows) 0ℚ;
      status = basis_status f basis;
      lower = basis_lower f;
      upper = basis_upper f;
    }

-- ---- the values of the basic columns

-- the value of the basic column at position i of a tableau: 0 less each nonbasic column's entry there times its value;
-- or the refusal of an operation
abbrev pub position_run : Option ℕ → Tableau → ℕ → Run ℚ
position_run limit t i =
    steps (all_columns t)
    (λ k v. if is_basic (status_at t k) then Ok v else less_product limit (entry_at t i k) (value_at t k) v) 0ℚ

-- the values of all columns of a tableau: those of basic columns are computed from their rows, the others are as they
-- were; or the refusal of an operation
unfoldable pub valued_run : Option ℕ → Tableau → Run (List ℚ)
valued_run limit t =
    steps t.rows (λ i values. position_run limit t i >>= λ v. Ok (slice_set values (basic_at t i) v)) t.value

-- the tableau t with these values in place of its own
abbrev pub with_values : Tableau → List ℚ → Tableau
with_values t values = record t { value = values }

-- ---- the whole: elimination, values, and the reduced costs for the form's costs

-- the tableau t with the values of its basic columns computed from the rows, and with the reduced costs of the form's
-- costs; or the refusal of an operation
abbrev pub filled_run : Option ℕ → Form → Tableau → Run Tableau
filled_run limit f t =
    valued_run limit t >>= λ values.
    priced_run limit t f.cost >>= λ reduced.
    Ok (with_reduced (with_values t values) reduced)

-- the tableau of a basis; or why there is none: the basis is singular, or an operation is past the limit
unfoldable pub start_from : Option ℕ → Form → List Status → Result Tableau (StartStop ℚ)
start_from limit f basis =
    eliminate_run limit f basis >>= λ e. refused_as stop.Past (filled_run limit f (with_basis f basis e))
