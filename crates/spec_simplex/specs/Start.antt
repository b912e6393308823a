-- The tableau that a form begins with, at a limit: each structural column is at a bound, and a row's logical is
-- basic where its sum is then within the row's limits; else its artificial is, with the missing amount as its value.
use Rattle.std.specs.Prelude.{ℕ, ◌+◌, ◌-◌, List, ◌++◌, map, replicate, get_or, Option, Some}
use Rattle.std.specs.Prelude.{None, Ok, Bool, true, false, nat_lt, nat_eq, if◌then◌else◌}
use Rattle.std.specs.declared.cmp.Ordering.{Ordering}
use Rattle.std.specs.declared.cmp.Ordering.TheVariants.{Less, Equal, Greater}
use Rattle.spec_exact.specs.Fraction.{ℚ, 0ℚ, 1ℚ, neg_ℚ}
use Rattle.spec_pivot.specs.declared.status.Status.{Status}
use Rattle.spec_pivot.specs.declared.status.Status.TheVariants.{Basic, AtLower, AtUpper, AtZero}
use Rattle.spec_simplex.specs.Form.{Form, form_entry, form_lower, form_upper}
use Rattle.spec_simplex.specs.declared.ends.RowStart.{RowStart}
use Rattle.spec_simplex.specs.declared.ends.RowStart.TheVariants.{Within, Below, Above}
use Rattle.spec_exact.specs.Run.{Run, ◌>>=◌, difference_run, order_run}
use Rattle.spec_exact.specs.Run.{plus_product, less_product, steps, list_run, made}
use Rattle.spec_simplex.specs.Tableau.{Tableau, all_columns, basic_at, entry_at, or_zero, stand}

-- ---- the structural columns

-- the status at which a structural column begins: at its lower bound, else its upper one, else at 0
abbrev pub first_status : Option ℚ → Option ℚ → Status
first_status (Some l) upper = AtLower
first_status None (Some u) = AtUpper
first_status None None = AtZero

-- the value with which structural column j begins: its lower bound, else its upper one, else 0
abbrev pub first_value : Form → ℕ → ℚ
first_value f j = stand (first_status (form_lower f j) (form_upper f j)) (form_lower f j) (form_upper f j)

-- ---- the rows

-- the sum of row i at the values that the structural columns begin with; or the refusal of an operation
abbrev pub row_sum : Option ℕ → Form → ℕ → Run ℚ
row_sum limit f i = steps f.cols (λ j s. plus_product limit (form_entry f i j) (first_value f j) s) 0ℚ

-- how much v is below the lower limit l, by how v compares with it; none where v is not below it. The difference may be
-- refused.
abbrev pub below_by : Option ℕ → ℚ → ℚ → Ordering → Run (Option ℚ)
below_by limit l v Less = difference_run limit l v >>= λ gap. Ok (Some gap)
below_by limit l v Equal = Ok None
below_by limit l v Greater = Ok None

-- how much v is below a lower limit; none where there is no limit, or v is not below it. An operation may be refused.
abbrev pub below_run : Option ℕ → Option ℚ → ℚ → Run (Option ℚ)
below_run limit None v = Ok None
below_run limit (Some l) v = order_run limit v l >>= λ o. below_by limit l v o

-- how much v is above the upper limit u, by how v compares with it; none where v is not above it. The difference may be
-- refused.
abbrev pub above_by : Option ℕ → ℚ → ℚ → Ordering → Run (Option ℚ)
above_by limit u v Less = Ok None
above_by limit u v Equal = Ok None
above_by limit u v Greater = difference_run limit v u >>= λ gap. Ok (Some gap)

-- how much v is above an upper limit; none where there is no limit, or v is not above it. An operation may be refused.
abbrev pub above_run : Option ℕ → Option ℚ → ℚ → Run (Option ℚ)
above_run limit None v = Ok None
above_run limit (Some u) v = order_run limit v u >>= λ o. above_by limit u v o

-- how a row begins whose sum v is not below its lower limit: above its upper one by this gap, if any, else within
abbrev pub within_or_above : ℚ → Option ℚ → RowStart ℚ
within_or_above v None = Within v
within_or_above v (Some gap) = Above gap

-- How a row with the sum v begins: below its lower limit by this gap, if there is one; else above its upper limit, or
-- within both. An operation may be refused.
abbrev pub row_start_by : Option ℕ → Option ℚ → ℚ → Option ℚ → Run (RowStart ℚ)
row_start_by limit upper v None = above_run limit upper v >>= λ gap. Ok (within_or_above v gap)
row_start_by limit upper v (Some gap) = Ok (Below gap)

-- how row i begins: its sum is within its limits, or misses one by this gap; or the refusal of an operation
abbrev pub row_start : Option ℕ → Form → ℕ → Run (RowStart ℚ)
row_start limit f i =
    row_sum limit f i >>= λ v. below_run limit (form_lower f (f.cols + i)) v >>= λ gap.
    row_start_by limit (form_upper f (f.cols + i)) v gap

-- ---- what a row's logical and its artificial begin with

-- the status of a row's logical column at the start: basic where the row's sum is within its limits, else at the limit
-- that the sum misses
abbrev pub logical_status : RowStart ℚ → Status
logical_status (Within v) = Basic
logical_status (Below gap) = AtLower
logical_status (Above gap) = AtUpper

-- the value of a row's logical column at the start: the row's sum where it is within these bounds,
-- else the bound that it misses
abbrev pub logical_value : RowStart ℚ → Option ℚ → Option ℚ → ℚ
logical_value (Within v) lower upper = v
logical_value (Below gap) lower upper = or_zero lower
logical_value (Above gap) lower upper = or_zero upper

-- the entry of a row's logical column in that row at the start: -1 where the row's sum is below its lower limit, else 1
abbrev pub logical_sign : RowStart ℚ → ℚ
logical_sign (Within v) = 1ℚ
logical_sign (Below gap) = neg_ℚ 1ℚ
logical_sign (Above gap) = 1ℚ

-- The entry of a structural column with the coefficient a, in the tableau row at the start: a where the row's sum is
-- below its lower limit, else -a. So the row's artificial, whose entry is 1, has a value of at least 0.
abbrev pub structural_entry : RowStart ℚ → ℚ → ℚ
structural_entry (Within v) a = neg_ℚ a
structural_entry (Below gap) a = a
structural_entry (Above gap) a = neg_ℚ a

-- the status of a row's artificial column at the start: basic where the row's sum misses a limit, else `AtLower`
abbrev pub artificial_status : RowStart ℚ → Status
artificial_status (Within v) = AtLower
artificial_status (Below gap) = Basic
artificial_status (Above gap) = Basic

-- the value of a row's artificial column at the start: the amount by which the row's sum misses a limit, else 0
abbrev pub artificial_value : RowStart ℚ → ℚ
artificial_value (Within v) = 0ℚ
artificial_value (Below gap) = gap
artificial_value (Above gap) = gap

-- the upper bound of a row's artificial column: none where the row's sum misses a limit, else 0
abbrev pub artificial_upper : RowStart ℚ → Option ℚ
artificial_upper (Within v) = Some 0ℚ
artificial_upper (Below gap) = None
artificial_upper (Above gap) = None

-- whether a row begins with its artificial column as the basic one, because its sum misses a limit
abbrev pub is_wanting : RowStart ℚ → Bool
is_wanting (Within v) = false
is_wanting (Below gap) = true
is_wanting (Above gap) = true

-- ---- the tableau

-- how row i starts phase one, by the list of how each row does; past the list as one within its limits with the sum 0
abbrev pub start_at : List (RowStart ℚ) → ℕ → RowStart ℚ
start_at starts i = get_or starts i (Within 0ℚ)

-- one of three things: the first where column k of the form is structural, the second of its row where it is a row's
-- logical, else the third of its row
abbrev pub by_column : {A : Type 0} → Form → ℕ → A → (ℕ → A) → (ℕ → A) → A
by_column f k structural logical artificial =
    if nat_lt k f.cols then structural
    else (if nat_lt k (f.cols + f.rows) then logical (k - f.cols) else artificial (k - (f.cols + f.rows)))

-- v where the two numbers i and r are the same, else 0
abbrev pub one_at : ℕ → ℕ → ℚ → ℚ
one_at i r v = if nat_eq i r then v else 0ℚ

-- the entry of row i in column k of the first tableau, where the row begins as s
abbrev pub start_entry : Form → RowStart ℚ → ℕ → ℕ → ℚ
start_entry f s i k =
    by_column f k (structural_entry s (form_entry f i k)) (λ r. one_at i r (logical_sign s)) (λ r. one_at i r 1ℚ)

-- the basic column of position i at the start: row i's artificial where its sum misses a limit, else its logical
abbrev pub start_basic : Form → List (RowStart ℚ) → ℕ → ℕ
start_basic f starts i = if is_wanting (start_at starts i) then f.cols + f.rows + i else f.cols + i

-- the value of column k at the start, by how the rows begin
abbrev pub start_value : Form → List (RowStart ℚ) → ℕ → ℚ
start_value f starts k =
    by_column f k (first_value f k) (λ r. logical_value (start_at starts r) (form_lower f k) (form_upper f k))
    (λ r. artificial_value (start_at starts r))

-- the status of column k at the start, by how the rows begin
abbrev pub start_status : Form → List (RowStart ℚ) → ℕ → Status
start_status f starts k =
    by_column f k (first_status (form_lower f k) (form_upper f k))
    (λ r. logical_status (start_at starts r)) (λ r. artificial_status (start_at starts r))

-- row i of the tableau at the start, over all columns
abbrev pub start_row : Form → List (RowStart ℚ) → ℕ → List ℚ
start_row f starts i = made (f.cols + f.rows + f.rows) (start_entry f (start_at starts i) i)

-- the tableau at the start, by how the rows begin; its reduced costs are still 0
abbrev pub begun : Form → List (RowStart ℚ) → Tableau
begun f starts =
    record {
      rows = f.rows;
      cols = f.cols;
      entries = made f.rows (start_row f starts);
      basic = made f.rows (start_basic f starts);
      value = made (f.cols + f.rows + f.rows) (start_value f starts);
      reduced = replicate (f.cols + f.rows + f.rows) 0ℚ;
      status = made (f.cols + f.rows + f.rows) (start_status f starts);
      lower = f.lower ++ replicate f.rows (Some 0ℚ);
      upper = f.upper ++ map artificial_upper starts;
    }

-- ---- reduced costs, for a list of costs in which all others are 0

-- the cost of column k in this list of costs, and 0 past its end
abbrev pub cost_at : List ℚ → ℕ → ℚ
cost_at costs k = get_or costs k 0ℚ

-- the reduced cost of column k of the tableau t for these costs: its cost less, for each position, the cost of its
-- basic column times its entry in column k; or the refusal of an operation
abbrev pub reduced_run : Option ℕ → Tableau → List ℚ → ℕ → Run ℚ
reduced_run limit t costs k =
    steps t.rows (λ i d. less_product limit (cost_at costs (basic_at t i)) (entry_at t i k) d) (cost_at costs k)

-- the list of reduced costs of all columns of the tableau t for these costs, or the first refusal
unfoldable pub priced_run : Option ℕ → Tableau → List ℚ → Run (List ℚ)
priced_run limit t costs = list_run (all_columns t) (reduced_run limit t costs)

-- the tableau t with these reduced costs in place of its own
abbrev pub with_reduced : Tableau → List ℚ → Tableau
with_reduced t reduced = record t { reduced = reduced }

-- ---- the start, with the reduced costs of phase one: its costs are 1 for each artificial that is basic

-- the cost of a row's artificial column in phase one: 1 where it is basic at the start, else 0
abbrev pub first_cost : RowStart ℚ → ℚ
first_cost (Within v) = 0ℚ
first_cost (Below gap) = 1ℚ
first_cost (Above gap) = 1ℚ

-- the costs of phase one: 1 for each artificial column that is basic at the start, and 0 for each other column
abbrev pub first_costs : Form → List (RowStart ℚ) → List ℚ
first_costs f starts = replicate (f.cols + f.rows) 0ℚ ++ map first_cost starts

-- the tableau that a form begins with, with the reduced costs of phase one; or the refusal of an operation
unfoldable pub start_of : Option ℕ → Form → Run Tableau
start_of limit f =
    list_run f.rows (row_start limit f) >>= λ starts.
    priced_run limit (begun f starts) (first_costs f starts) >>= λ reduced.
    Ok (with_reduced (begun f starts) reduced)
