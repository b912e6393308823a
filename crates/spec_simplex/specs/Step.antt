-- One step of the primal method, at a limit: which column enters, which position stops it, and the flip or the pivot.
use Rattle.std.specs.Prelude.{◌≡◌, ◌≢◌, ℕ, ◌<◌, zero, suc, List, slice_set, get_or, Option}
use Rattle.std.specs.Prelude.{Some, None, Ok, Bool, false, nat_lt, nat_eq, if◌then◌else◌}
use Rattle.std.specs.declared.cmp.Ordering.{Ordering}
use Rattle.std.specs.declared.cmp.Ordering.TheVariants.{Less, Equal, Greater}
use Rattle.spec_exact.specs.Fraction.{ℚ, 0ℚ, ◌-ℚ◌, ◌*ℚ◌, neg_ℚ, abs_ℚ, lt_ℚ}
use Rattle.spec_pivot.specs.declared.status.Status.{Status}
use Rattle.spec_pivot.specs.declared.status.Status.TheVariants.{Basic, AtLower, AtUpper, AtZero}
use Rattle.spec_pivot.specs.declared.status.Way.{Way}
use Rattle.spec_pivot.specs.declared.status.Way.TheVariants.{Up, Down}
use Rattle.spec_simplex.specs.declared.ends.Entering.{Entering}
use Rattle.spec_simplex.specs.declared.ends.Best.{Best}
use Rattle.spec_simplex.specs.declared.ends.PrimalEnd.TheVariants.{Optimal, Unbounded}
use Rattle.spec_simplex.specs.declared.ends.Choice.{Choice}
use Rattle.spec_simplex.specs.declared.ends.Choice.TheVariants.{End, Flip, Pivot}
use Rattle.spec_exact.specs.Run.{Run, ◌>>=◌, sum_run, difference_run, quotient_run}
use Rattle.spec_exact.specs.Run.{order_run, less_product, steps, list_run}
use Rattle.spec_simplex.specs.Tableau.{Tableau, all_columns, at_place, entry_at, basic_at, value_at, reduced_at}
use Rattle.spec_simplex.specs.Tableau.{status_at, lower_at, upper_at, is_artificial, is_fixed, or_zero, stand}

-- ---- entering: the least column that may

-- the way in which a column of this status and reduced cost d may enter: up with d below 0 at its lower bound or
-- without bounds, down with d above 0 at its upper bound or without bounds; else none
abbrev pub way_by : Status → ℚ → Option Way
way_by Basic d = None
way_by AtLower d = if lt_ℚ d 0ℚ then Some Up else None
way_by AtUpper d = if lt_ℚ 0ℚ d then Some Down else None
way_by AtZero d = if lt_ℚ d 0ℚ then Some Up else (if lt_ℚ 0ℚ d then Some Down else None)

-- the way in which column k of the tableau may enter, by its status and its reduced cost; none where it may not. A
-- fixed column never enters
abbrev pub way_at : Tableau → ℕ → Option Way
way_at t k = if is_fixed (lower_at t k) (upper_at t k) then None else way_by (status_at t k) (reduced_at t k)

-- the entering column that was found before, or column k where none was and k may enter
abbrev pub or_enters : Option Entering → ℕ → Option Way → Option Entering
or_enters (Some e) k way = Some e
or_enters None k None = None
or_enters None k (Some way) = Some (record { col = k; direction = way })

-- the least of the first n columns that may enter, with its way; none where none of them may
abbrev pub entering_below : Tableau → ℕ → Option Entering
entering_below t zero = None
entering_below t (suc n) = or_enters (entering_below t n) n (way_at t n)

-- the column that enters by Bland's rule, the least that may, with its way; none where none may
abbrev pub entering : Tableau → Option Entering
entering t = entering_below t (all_columns t)

-- ---- the ratio test

-- v where the way is up, and -v where it is down
abbrev pub directed : Way → ℚ → ℚ
directed Up v = v
directed Down v = neg_ℚ v

-- the bound at which the entering column ends if no basic column stops it: the upper one as it rises, the lower one as
-- it falls
abbrev pub other_bound : Way → Status
other_bound Up = AtUpper
other_bound Down = AtLower

-- the first candidate of the ratio test: the entering column itself, stopped at its other bound after the distance
-- between its bounds; none where it has not both. The difference may be refused.
abbrev pub range_run : Option ℕ → Entering → Option ℚ → Option ℚ → Run (Option (Best ℚ))
range_run limit e None upper = Ok None
range_run limit e (Some l) None = Ok None
range_run limit e (Some l) (Some u) =
    difference_run limit u l >>=
    λ range. Ok (Some (record { ratio = range; col = e.col; place = None; to = other_bound e.direction }))

-- how far the value v may rise up to an upper bound, with the status there; none where there is no bound. The
-- difference may be refused.
abbrev pub rise_run : Option ℕ → Option ℚ → ℚ → Run (Option (ℚ × Status))
rise_run limit None v = Ok None
rise_run limit (Some u) v = difference_run limit u v >>= λ gap. Ok (Some (gap, AtUpper))

-- how far the value v may fall down to a lower bound, with the status there; none where there is no bound. The
-- difference may be refused.
abbrev pub fall_run : Option ℕ → Option ℚ → ℚ → Run (Option (ℚ × Status))
fall_run limit None v = Ok None
fall_run limit (Some l) v = difference_run limit v l >>= λ gap. Ok (Some (gap, AtLower))

-- How far the basic column of a position may move as the entering column goes its way, and the status at the bound that
-- stops it; none where it is not stopped. It is at v, within these bounds; its entry in the entering column is a. The
-- difference may be refused.
abbrev pub gap_run : Option ℕ → Way → ℚ → Option ℚ → Option ℚ → ℚ → Run (Option (ℚ × Status))
gap_run limit way a lower upper v =
    if lt_ℚ (directed way a) 0ℚ then rise_run limit upper v
    else (if lt_ℚ 0ℚ (directed way a) then fall_run limit lower v else Ok None)

-- the new candidate, where its ratio compares as less than that of the best so far, or as equal and its column is
-- lesser; else that best
abbrev pub better_by : Best ℚ → Best ℚ → Ordering → Best ℚ
better_by new best Less = new
better_by new best Equal = if nat_lt new.col best.col then new else best
better_by new best Greater = best

-- the better of the new candidate and the best of those before; the new one where there were none. The comparison may
-- be refused.
abbrev pub better_run : Option ℕ → Best ℚ → Option (Best ℚ) → Run (Option (Best ℚ))
better_run limit new None = Ok (Some new)
better_run limit new (Some best) = order_run limit new.ratio best.ratio >>= λ o. Ok (Some (better_by new best o))

-- The best candidate once position i is seen. Without a gap its column k is not stopped, and the best so far stays.
-- With one, its ratio, the gap over the absolute value of its entry a, is compared with the best so far. An operation
-- may be refused.
abbrev pub with_gap : Option ℕ → ℕ → ℕ → ℚ → Option (Best ℚ) → Option (ℚ × Status) → Run (Option (Best ℚ))
with_gap limit i k a best None = Ok best
with_gap limit i k a best (Some (gap, to)) =
    quotient_run limit gap (abs_ℚ a) >>=
    λ ratio. better_run limit (record { ratio = ratio; col = k; place = Some i; to = to }) best

-- The best candidate once position i is seen: the best so far; or the basic column of position i, where it stops
-- sooner, or as soon with a lesser number, or is the first that stops at all. An operation may be refused.
abbrev pub best_with : Option ℕ → Tableau → Entering → ℕ → Option (Best ℚ) → Run (Option (Best ℚ))
best_with limit t e i best =
    gap_run limit e.direction (entry_at t i e.col) (lower_at t (basic_at t i))
    (upper_at t (basic_at t i)) (value_at t (basic_at t i)) >>= λ gap.
    with_gap limit i (basic_at t i) (entry_at t i e.col) best gap

-- The column that first stops the entering column: a basic one, or the entering column itself at its other bound. Of
-- those that stop it equally soon it is the least; none where nothing stops it. An operation may be refused.
abbrev pub best_run : Option ℕ → Tableau → Entering → Run (Option (Best ℚ))
best_run limit t e =
    range_run limit e (lower_at t e.col) (upper_at t e.col) >>= λ best. steps t.rows (best_with limit t e) best

-- ---- what the step does

-- what the step does where the best of the ratio test is at this position: a pivot there, in which column `e.col` moves
-- by the ratio its way; a flip of that column where there is no position
abbrev pub choice_at : Entering → Best ℚ → Option ℕ → Choice ℚ
choice_at e best None = Flip e.col
choice_at e best (Some i) = Pivot i e.col (directed e.direction best.ratio) best.to

-- what the step does, by the best of the ratio test; where there is none, the end that is unbounded along the entering
-- column
abbrev pub choice_by : Entering → Option (Best ℚ) → Choice ℚ
choice_by e None = End (Unbounded e.col e.direction)
choice_by e (Some best) = choice_at e best best.place

-- what the step does, by the entering column; where there is none, the end that is optimal. An operation of the ratio
-- test may be refused.
abbrev pub choice_of : Option ℕ → Tableau → Option Entering → Run (Choice ℚ)
choice_of limit t None = Ok (End Optimal)
choice_of limit t (Some e) = best_run limit t e >>= λ best. Ok (choice_by e best)

-- what a step of the primal method does: a flip, a pivot, or an end as optimal or as unbounded; or the refusal of an
-- operation of the ratio test
unfoldable pub choice_run : Option ℕ → Tableau → Run (Choice ℚ)
choice_run limit t = choice_of limit t (entering t)

-- ---- moving: column j moves by theta, and the basic columns with it, but for that of one position, if one is named

-- whether position i is the one that is named, if one is
abbrev pub is_place : Option ℕ → ℕ → Bool
is_place None i = false
is_place (Some p) i = nat_eq i p

-- the values, but with that of the basic column of position i less its entry in column j times theta; or the refusal of
-- an operation
abbrev pub moved_at : Option ℕ → Tableau → ℕ → ℚ → ℕ → List ℚ → Run (List ℚ)
moved_at limit t j theta i values =
    less_product limit (entry_at t i j) theta (get_or values (basic_at t i) 0ℚ) >>=
    λ v. Ok (slice_set values (basic_at t i) v)

-- The values of t, but with that of each basic column changed as column j moves by theta: less its entry in column j
-- times theta. The nonbasic columns, and the basic column of position `but`, if one is named, keep theirs. An operation
-- may be refused.
unfoldable pub moved_run : Option ℕ → Tableau → ℕ → ℚ → Option ℕ → Run (List ℚ)
moved_run limit t j theta but =
    steps t.rows (λ i values. if is_place but i then Ok values else moved_at limit t j theta i values) t.value

-- ---- a flip: column j goes to its other bound

-- the way in which a flip moves a column of this status: up from its lower bound, else down
abbrev pub flip_way : Status → Way
flip_way AtLower = Up
flip_way Basic = Down
flip_way AtUpper = Down
flip_way AtZero = Down

-- the tableau t with these values and column j at its bound `to`, in both its status and its value
abbrev pub flipped : Tableau → ℕ → Status → List ℚ → Tableau
flipped t j to values =
    record t { value = slice_set values j (stand to (lower_at t j) (upper_at t j)); status = slice_set t.status j to }

-- the tableau after the nonbasic column j, which has both bounds, goes to its other one and the basic columns follow;
-- or the refusal of an operation
unfoldable pub flip_run : Option ℕ → Tableau → ℕ → Run Tableau
flip_run limit t j =
    difference_run limit (or_zero (upper_at t j)) (or_zero (lower_at t j)) >>= λ range.
    moved_run limit t j (directed (flip_way (status_at t j)) range) None >>= λ values.
    Ok (flipped t j (other_bound (flip_way (status_at t j))) values)

-- ---- a pivot at position p in column j

-- the rows of n columns, with row p divided by its entry in column j; the other rows stay. A division may be refused.
unfoldable pub scaled_run : Option ℕ → ℕ → List (List ℚ) → ℕ → ℕ → Run (List (List ℚ))
scaled_run limit n rows p j =
    list_run n (λ k. quotient_run limit (at_place rows p k) (at_place rows p j)) >>= λ row. Ok (slice_set rows p row)

-- the rows, with row i less its entry in column j times row p, so that this entry becomes 0 where that of row p is 1;
-- the other rows stay. An operation may be refused.
unfoldable pub cleared_run : Option ℕ → ℕ → ℕ → ℕ → ℕ → List (List ℚ) → Run (List (List ℚ))
cleared_run limit n p j i rows =
    list_run n (λ k. less_product limit (at_place rows i j) (at_place rows p k) (at_place rows i k)) >>=
    λ row. Ok (slice_set rows i row)

-- the m rows of n columns after a pivot at position p in column j, where the entry is not 0: row p is divided by it,
-- and a multiple of row p is taken off each other row, so that column j is 0 in these. An operation may be refused.
unfoldable pub turned_run : Option ℕ → ℕ → ℕ → List (List ℚ) → ℕ → ℕ → Run (List (List ℚ))
turned_run limit m n rows p j =
    scaled_run limit n rows p j >>=
    λ scaled. steps m (λ i rows. if nat_eq i p then Ok rows else cleared_run limit n p j i rows) scaled

-- the reduced costs after a pivot at position p in column j: column k loses the old reduced cost of column j times the
-- entry of the new row p in column k. An operation may be refused.
unfoldable pub repriced_run : Option ℕ → ℕ → List ℚ → List (List ℚ) → ℕ → ℕ → Run (List ℚ)
repriced_run limit n reduced rows p j =
    list_run n (λ k. less_product limit (get_or reduced j 0ℚ) (at_place rows p k) (get_or reduced k 0ℚ))

-- these bounds after column q has left: that of an artificial column becomes 0, and all else stays
abbrev pub leave_bound : Tableau → ℕ → List (Option ℚ) → List (Option ℚ)
leave_bound t q bounds = if is_artificial t q then slice_set bounds q (Some 0ℚ) else bounds

-- the tableau after column q, basic at position p, becomes nonbasic at its bound `to`, and column j becomes basic at p.
-- Rows and reduced costs stay; if q is artificial, its bounds become 0
abbrev pub exchanged_by : Tableau → ℕ → ℕ → ℕ → Status → Tableau
exchanged_by t p j q to =
    record t {
      basic = slice_set t.basic p j;
      value = slice_set t.value q (stand to (lower_at t q) (upper_at t q));
      status = slice_set (slice_set t.status q to) j Basic;
      lower = leave_bound t q t.lower;
      upper = leave_bound t q t.upper;
    }

-- the tableau after the basic column of position p becomes nonbasic at its bound `to`, and column j becomes basic at p.
-- Rows and reduced costs stay; if the leaving column is artificial, its bounds become 0
abbrev pub exchanged : Tableau → ℕ → ℕ → Status → Tableau
exchanged t p j to = exchanged_by t p j (basic_at t p) to

-- the tableau t with these values, rows and reduced costs in place of its own
abbrev pub turned : Tableau → List ℚ → List (List ℚ) → List ℚ → Tableau
turned t values rows reduced = record t { entries = rows; value = values; reduced = reduced }

-- these values, but with that of column j more by theta; or the refusal of the sum
unfoldable pub shifted_run : Option ℕ → List ℚ → ℕ → ℚ → Run (List ℚ)
shifted_run limit values j theta = sum_run limit (get_or values j 0ℚ) theta >>= λ v. Ok (slice_set values j v)

-- the tableau after a pivot: column j moves by theta and becomes basic at position p, whose column goes to its bound
-- `to`; or the refusal of an operation
unfoldable pub pivot_run : Option ℕ → Tableau → ℕ → ℕ → ℚ → Status → Run Tableau
pivot_run limit t p j theta to =
    moved_run limit t j theta (Some p) >>= λ values.
    shifted_run limit values j theta >>= λ shifted.
    turned_run limit t.rows (all_columns t) t.entries p j >>= λ rows.
    repriced_run limit (all_columns t) t.reduced rows p j >>= λ reduced.
    Ok (exchanged (turned t shifted rows reduced) p j to)

-- ---- conditions

-- the status `to` is `AtLower` or `AtUpper`, that bound is there, and it is v
abbrev pub NamesBound : Status → Option ℚ → Option ℚ → ℚ → Type 0
NamesBound Basic lower upper v = ⊥
NamesBound AtLower lower upper v = lower ≡ Some v
NamesBound AtUpper lower upper v = upper ≡ Some v
NamesBound AtZero lower upper v = ⊥

-- column j of t can become basic at position p: it is not basic, its entry there is not 0, and as it moves by theta the
-- basic column of p comes to its bound `to`
pub record CanPivot (t : Tableau) (p j : ℕ) (theta : ℚ) (to : Status) : Type 0 where
  pub place : p < t.rows
  pub column : j < all_columns t
  pub nonbasic : status_at t j ≢ Basic
  pub entry : entry_at t p j ≢ 0ℚ
  pub lands : NamesBound to (lower_at t (basic_at t p)) (upper_at t (basic_at t p))
      (value_at t (basic_at t p) -ℚ theta *ℚ entry_at t p j)

-- column j of t can go to its other bound: it is not basic and has both bounds
pub record CanFlip (t : Tableau) (j : ℕ) : Type 0 where
  pub column : j < all_columns t
  pub nonbasic : status_at t j ≢ Basic
  pub lower : (v : ℚ) × (lower_at t j ≡ Some v)
  pub upper : (v : ℚ) × (upper_at t j ≡ Some v)

-- the flip or the pivot of a choice may be made; of an end nothing is asked
abbrev pub CanMake : Tableau → Choice ℚ → Type 0
CanMake t (End end) = Unit {0}
CanMake t (Flip j) = CanFlip t j
CanMake t (Pivot p j theta to) = CanPivot t p j theta to
