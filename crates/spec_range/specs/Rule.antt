-- The range of a cost and of a right side, over the tableau of a basis, at a limit.
--
-- Each column or position lets the number go as far as some end. Of the lower ends the greatest is kept, and of the
-- upper ones the least.
use Rattle.std.specs.Prelude.{ℕ, ◌+◌, List, Option, Some, None, Result, Ok, Bool, not, ◌||◌}
use Rattle.std.specs.Prelude.{◌&&◌, is_some, if◌then◌else◌}
use Rattle.std.specs.declared.cmp.Ordering.{Ordering}
use Rattle.std.specs.declared.cmp.Ordering.TheVariants.{Less, Equal, Greater}
use Rattle.spec_exact.specs.Fraction.{ℚ, 0ℚ, 1ℚ, neg_ℚ, eq_ℚ, lt_ℚ}
use Rattle.spec_exact.specs.Run.{Run, ◌>>=◌, refused_as, sum_run, difference_run, quotient_run, order_run, steps}
use Rattle.spec_model.specs.declared.parts.Sense.{Sense}
use Rattle.spec_model.specs.Model.{Model, cost, row}
use Rattle.spec_pivot.specs.declared.status.Status.{Status}
use Rattle.spec_pivot.specs.declared.status.Status.TheVariants.{Basic, AtLower, AtUpper, AtZero}
use Rattle.spec_simplex.specs.declared.ends.StartStop.{StartStop}
use Rattle.spec_simplex.specs.declared.ends.StartStop.TheVariants as stop
use Rattle.spec_simplex.specs.Form.{Form, least_cost}
use Rattle.spec_simplex.specs.Tableau.{Tableau, all_columns, entry_at, value_at, reduced_at, status_at}
use Rattle.spec_simplex.specs.Tableau.{lower_at, upper_at, is_basic, is_fixed}
use Rattle.spec_simplex.specs.Eliminate.{start_from}
use Rattle.spec_simplex.specs.Dual.{place_of}
use Rattle.spec_range.specs.declared.range.Ends.{Ends}
use Rattle.spec_range.specs.declared.range.Range.{Range}

-- ---- the ends so far

-- a range without ends, in which every number is
abbrev pub no_ends : Ends ℚ
no_ends = record { low = None; high = None }

-- the greater of the new number and the kept one, by how the new one compares with the kept one
abbrev pub greater_by : ℚ → ℚ → Ordering → ℚ
greater_by new kept Less = kept
greater_by new kept Equal = kept
greater_by new kept Greater = new

-- the lesser of the new number and the kept one, by how the new one compares with the kept one
abbrev pub lesser_by : ℚ → ℚ → Ordering → ℚ
lesser_by new kept Less = new
lesser_by new kept Equal = kept
lesser_by new kept Greater = kept

-- the greater of a new lower end and the lower end that was kept, if one was; or the refusal of their comparison at the
-- limit
abbrev pub greater_run : Option ℕ → ℚ → Option ℚ → Run ℚ
greater_run limit new None = Ok new
greater_run limit new (Some kept) = order_run limit new kept >>= λ o. Ok (greater_by new kept o)

-- the lesser of a new upper end and the upper end that was kept, if one was; or the refusal of their comparison at the
-- limit
abbrev pub lesser_run : Option ℕ → ℚ → Option ℚ → Run ℚ
lesser_run limit new None = Ok new
lesser_run limit new (Some kept) = order_run limit new kept >>= λ o. Ok (lesser_by new kept o)

-- the ends e, with v as a further lower end, of which the greatest counts; or the refusal of a comparison at the limit
abbrev pub at_least : Option ℕ → ℚ → Ends ℚ → Run (Ends ℚ)
at_least limit v e = greater_run limit v e.low >>= λ low. Ok (record { low = Some low; high = e.high })

-- the ends e, with v as a further upper end, of which the least counts; or the refusal of a comparison at the limit
abbrev pub at_most : Option ℕ → ℚ → Ends ℚ → Run (Ends ℚ)
at_most limit v e = lesser_run limit v e.high >>= λ high. Ok (record { low = e.low; high = Some high })

-- the ends e, with v as a further upper end where the flag says so, else as a further lower one; or the refusal of a
-- comparison at the limit
abbrev pub at_side : Option ℕ → Bool → ℚ → Ends ℚ → Run (Ends ℚ)
at_side limit upper v e = if upper then at_most limit v e else at_least limit v e

-- ---- the cost of a column

-- The ends e of a cost, with v as a further end, the cost with which the reduced cost of a column with this status is
-- 0. If this falls as the cost grows, v is an upper end for a column at its lower bound, and a lower end for one at its
-- upper bound; if it rises, the other way. For a column at 0 v is a further end on both sides, for a basic one on none.
abbrev pub ends_by : Option ℕ → Status → Bool → ℚ → Ends ℚ → Run (Ends ℚ)
ends_by limit Basic falls v e = Ok e
ends_by limit AtLower falls v e = at_side limit falls v e
ends_by limit AtUpper falls v e = at_side limit (not falls) v e
ends_by limit AtZero falls v e = at_least limit v e >>= λ e. at_most limit v e

-- whether the reduced cost of a column with this entry in the row of the basic column whose cost moves falls as that
-- cost grows: the entry is above 0 where the sense is Min, below 0 where it is Max
abbrev pub falls_by : Sense → ℚ → Bool
falls_by s a = lt_ℚ 0ℚ (least_cost s a)

-- the cost with which a column that is at a bound, whose cost is c and reduced cost d, has the reduced cost 0: c less d
-- where the sense is Min, c plus d where it is Max, or the refusal; c itself for a column at 0 or basic
abbrev pub own_number : Option ℕ → Sense → ℚ → Status → ℚ → Run ℚ
own_number limit s c Basic d = Ok c
own_number limit s c AtLower d = difference_run limit c (least_cost s d)
own_number limit s c AtUpper d = difference_run limit c (least_cost s d)
own_number limit s c AtZero d = Ok c

-- The ends for the cost c of column j, which is nonbasic, so that its own reduced cost alone moves: one end where j is
-- at a bound, both where it is at 0, no ends if it is fixed; or the refusal at the limit.
abbrev pub own_ends : Option ℕ → Sense → ℚ → Tableau → ℕ → Run (Ends ℚ)
own_ends limit s c t j =
    if is_fixed (lower_at t j) (upper_at t j) then Ok no_ends
    else (own_number limit s c (status_at t j) (reduced_at t j) >>= λ v.
    ends_by limit (status_at t j) (falls_by s (neg_ℚ 1ℚ)) v no_ends)

-- whether the reduced cost of column k moves with the cost of the basic column at position p, and has a sign to keep: k
-- is nonbasic, not fixed, and has an entry there
abbrev pub is_moved : Tableau → ℕ → ℕ → Bool
is_moved t p k =
    not (is_basic (status_at t k) || (is_fixed (lower_at t k) (upper_at t k) || eq_ℚ (entry_at t p k) 0ℚ))

-- The ends e for the cost c of the basic column at position p, with the cost with which column k's reduced cost is 0 as
-- a further end: on one side where k is at a bound, on both where it is at 0. Or the refusal at the limit.
abbrev pub moved_ends : Option ℕ → Sense → ℚ → Tableau → ℕ → ℕ → Ends ℚ → Run (Ends ℚ)
moved_ends limit s c t p k e =
    quotient_run limit (least_cost s (reduced_at t k)) (entry_at t p k) >>= λ q. sum_run limit c q >>= λ v.
    ends_by limit (status_at t k) (falls_by s (entry_at t p k)) v e

-- the ends e for the cost c of the basic column at position p, with what column k gives, or the refusal at the limit; e
-- where k's reduced cost does not move with this cost, or k is basic or fixed
abbrev pub moved_if : Option ℕ → Sense → ℚ → Tableau → ℕ → ℕ → Ends ℚ → Run (Ends ℚ)
moved_if limit s c t p k e = if is_moved t p k then moved_ends limit s c t p k e else Ok e

-- the ends for the cost c of the basic column at position p, the tightest that the nonbasic columns give; or the first
-- refusal at the limit
abbrev pub basic_ends : Option ℕ → Sense → ℚ → Tableau → ℕ → Run (Ends ℚ)
basic_ends limit s c t p = steps (all_columns t) (moved_if limit s c t p) no_ends

-- the ends for the cost c of column j, basic or not, between which the reduced cost of each column that is not fixed
-- keeps the sign of its status; or the first refusal at the limit
abbrev pub cost_ends : Option ℕ → Sense → ℚ → Tableau → ℕ → Run (Ends ℚ)
cost_ends limit s c t j =
    if is_basic (status_at t j) then basic_ends limit s c t (place_of t j) else own_ends limit s c t j

-- the range of the cost of column j over a tableau: its ends, and as slope the column's value, by which the optimal
-- value grows for each unit of the cost; or the first refusal at the limit
unfoldable pub cost_run : Option ℕ → Model → Tableau → ℕ → Run (Range ℚ)
cost_run limit m t j =
    cost_ends limit m.sense (cost m j) t j >>= λ e. Ok (record { ends = e; slope = value_at t j })

-- ---- the right side of a row

-- the right side, now b, with which a limit of a row, now `bound`, comes to v, the value of the row's basic logical: b
-- plus v less `bound`, or the refusal; none where the row has no such limit
abbrev pub shifted_run : Option ℕ → ℚ → ℚ → Option ℚ → Run (Option ℚ)
shifted_run limit b v None = Ok None
shifted_run limit b v (Some bound) = difference_run limit v bound >>= λ g. sum_run limit b g >>= λ x. Ok (Some x)

-- the ends for the right side b of a row whose logical is basic, with the value v: the row's lower limit, if it has
-- one, gives the upper end, its upper limit the lower end; or the first refusal
abbrev pub still_ends : Option ℕ → ℚ → ℚ → Option ℚ → Option ℚ → Run (Ends ℚ)
still_ends limit b v lower upper =
    shifted_run limit b v lower >>= λ high. shifted_run limit b v upper >>= λ low. Ok (record { low = low; high = high })

-- The ends e for the right side b, with the one at which a basic column comes to this bound, as an upper end if the
-- flag says so; or the refusal. The column has the value v and the entry a in the logical's column. Without a bound e
-- stays.
abbrev pub bound_ends : Option ℕ → ℚ → ℚ → ℚ → Option ℚ → Bool → Ends ℚ → Run (Ends ℚ)
bound_ends limit b v a None upper e = Ok e
bound_ends limit b v a (Some bound) upper e =
    difference_run limit v bound >>= λ g. quotient_run limit g a >>= λ q. sum_run limit b q >>= λ x.
    at_side limit upper x e

-- The ends e for the right side b, with those at which a basic column comes to its bounds. It has the value v and the
-- entry a in the logical's column. Where a is above 0, v falls as the right side grows, so the lower bound gives an
-- upper end, and the upper bound a lower one; where a is below 0, the other way. Or the first refusal.
abbrev pub carried_ends : Option ℕ → ℚ → ℚ → ℚ → Option ℚ → Option ℚ → Ends ℚ → Run (Ends ℚ)
carried_ends limit b v a lower upper e =
    bound_ends limit b v a lower (lt_ℚ 0ℚ a) e >>= λ e. bound_ends limit b v a upper (not (lt_ℚ 0ℚ a)) e

-- whether column k is basic and moves with the logical s: its entry in the column of s is not 0
abbrev pub is_carried : Tableau → ℕ → ℕ → Bool
is_carried t s k = is_basic (status_at t k) && not (eq_ℚ (entry_at t (place_of t k) s) 0ℚ)

-- the ends e for the right side b of a row whose logical s is nonbasic, with those of column k if it is basic and moves
-- with s, or the refusal; else e
abbrev pub carried_if : Option ℕ → ℚ → Tableau → ℕ → ℕ → Ends ℚ → Run (Ends ℚ)
carried_if limit b t s k e =
    if is_carried t s k
    then carried_ends limit b (value_at t k) (entry_at t (place_of t k) s) (lower_at t k) (upper_at t k) e
    else Ok e

-- the ends for the right side b of a row whose logical s is nonbasic, the tightest that the bounds of the basic columns
-- give; or the first refusal
abbrev pub nonbasic_ends : Option ℕ → ℚ → Tableau → ℕ → Run (Ends ℚ)
nonbasic_ends limit b t s = steps (all_columns t) (carried_if limit b t s) no_ends

-- the ends for the right side b of a row whose logical is column s, between which each basic value stays within its
-- bounds, or the first refusal; a row without limits has none
abbrev pub side_ends : Option ℕ → ℚ → Tableau → ℕ → Run (Ends ℚ)
side_ends limit b t s =
    if is_basic (status_at t s) then still_ends limit b (value_at t s) (lower_at t s) (upper_at t s)
    else (if is_some (lower_at t s) || is_some (upper_at t s) then nonbasic_ends limit b t s else Ok no_ends)

-- The range of row i's right side over a tableau, or the first refusal: its ends, and as slope by how much the optimal
-- value grows with each unit of the right side. That is the reduced cost of the row's logical column, negated where the
-- sense is Max.
unfoldable pub side_run : Option ℕ → Model → Tableau → ℕ → Run (Range ℚ)
side_run limit m t i =
    side_ends limit (row m i).rhs t (t.cols + i) >>= λ e.
    Ok (record { ends = e; slope = least_cost m.sense (reduced_at t (t.cols + i)) })

-- ---- from a basis of the model's form

-- the range of the cost of column j at a limit, from a basis of the model's form; or why there is none: the basis is
-- singular, or an operation is past the limit
unfoldable pub cost_range : Option ℕ → Model → Form → List Status → ℕ → Result (Range ℚ) (StartStop ℚ)
cost_range limit m f basis j = start_from limit f basis >>= λ t. refused_as stop.Past (cost_run limit m t j)

-- the range of the right side of row i at a limit, from a basis of the model's form; or why there is none: the basis is
-- singular, or an operation is past the limit
unfoldable pub side_range : Option ℕ → Model → Form → List Status → ℕ → Result (Range ℚ) (StartStop ℚ)
side_range limit m f basis i = start_from limit f basis >>= λ t. refused_as stop.Past (side_run limit m t i)
