-- The dual method on a tableau, at a limit and within a budget: flips that give each reduced cost the sign that it
-- needs, and then steps up to an end.
use Rattle.std.specs.Prelude.{ℕ, zero, suc, ◌+◌, ◌-◌, Option, Some, None, Result, Ok}
use Rattle.std.specs.Prelude.{Err, Bool, true, false, nat_le, nat_eq, if◌then◌else◌}
use Rattle.std.specs.Ordering.{is_lt}
use Rattle.spec_exact.specs.Fraction.{ℚ, abs_ℚ}
use Rattle.spec_pivot.specs.declared.status.Status.{Status}
use Rattle.spec_pivot.specs.declared.status.Way.{Way}
use Rattle.spec_pivot.specs.Dual.{bound_behind}
use Rattle.spec_simplex.specs.declared.ends.RunStop.{RunStop}
use Rattle.spec_simplex.specs.declared.ends.RunStop.TheVariants as stop
use Rattle.spec_exact.specs.Run.{Run, ◌>>=◌, refused_as, difference_run, quotient_run, order_run, steps}
use Rattle.spec_simplex.specs.Step.{directed, way_by, flip_run, pivot_run}
use Rattle.spec_simplex.specs.Tableau.{Tableau, all_columns, entry_at, basic_at, value_at}
use Rattle.spec_simplex.specs.Tableau.{reduced_at, status_at, lower_at, upper_at, is_fixed, stand}
use Rattle.spec_simplex.specs.declared.ends.Leaving.{Leaving}
use Rattle.spec_simplex.specs.declared.ends.Cheapest.{Cheapest}
use Rattle.spec_simplex.specs.declared.ends.DualEnd.{DualEnd}
use Rattle.spec_simplex.specs.declared.ends.DualEnd.TheVariants.{Optimal, Infeasible}
use Rattle.spec_simplex.specs.declared.ends.DualChoice.{DualChoice}
use Rattle.spec_simplex.specs.declared.ends.DualChoice.TheVariants.{End, Pivot}
use Rattle.spec_simplex.specs.Fit.{leaving_run, needs_flip_at}

-- ---- flips

-- a tableau, and how many flips and pivots led to it
pub record Reached : Type 0 where
  pub tableau : Tableau
  pub used : ℕ

-- the tableau u, reached after one more flip or pivot than r
abbrev pub one_more : Reached → Tableau → Reached
one_more r u = record { tableau = u; used = r.used + 1 }

-- The tableau and the count after column k flips, where the count grows by 1. Where the flag says that the budget is
-- used up, the run is `Spent`. An operation may be refused.
abbrev pub flip_by : Option ℕ → ℕ → Reached → Bool → Result Reached (RunStop ℚ)
flip_by limit k r true = Err stop.Spent
flip_by limit k r false = refused_as stop.Past (flip_run limit r.tableau k) >>= λ u. Ok (one_more r u)

-- The tableau and the count after column k flips. Where the budget is used up the run is `Spent`, before any operation;
-- and an operation may be refused.
abbrev pub flip_next : Option ℕ → ℕ → ℕ → Reached → Result Reached (RunStop ℚ)
flip_next limit budget k r = flip_by limit k r (nat_le budget r.used)

-- the tableau after each column of t that needs its other bound has gone there, in order, and the count of these flips;
-- `Spent` where there are more than the budget. An operation may be refused.
unfoldable pub flips_run : Option ℕ → ℕ → Tableau → Result Reached (RunStop ℚ)
flips_run limit budget t =
    steps (all_columns t) (λ k r. if needs_flip_at r.tableau k then flip_next limit budget k r else Ok r)
    (record { tableau = t; used = 0 })

-- ---- entering

-- the last of the first n positions at which column k is basic, and 0 where it is basic at none of them
abbrev pub place_below : Tableau → ℕ → ℕ → ℕ
place_below t k zero = 0
place_below t k (suc n) = if nat_eq (basic_at t n) k then n else place_below t k n

-- the position at which column k is basic, and 0 where it is basic at none
abbrev pub place_of : Tableau → ℕ → ℕ
place_of t k = place_below t k t.rows

-- the way in which column k enters, so that the basic column at position p moves the way `way`, back inside its bounds;
-- none where column k may not enter so. A basic and a fixed column never enter
abbrev pub dual_way_at : Tableau → ℕ → Way → ℕ → Option Way
dual_way_at t p way k =
    if is_fixed (lower_at t k) (upper_at t k) then None else way_by (status_at t k) (directed way (entry_at t p k))

-- the new candidate or the best one of those before, whichever has the lesser ratio; of equal ratios the old one stays,
-- and without an old one it is the new one. The comparison may be refused.
abbrev pub cheaper_run : Option ℕ → Cheapest ℚ → Option (Cheapest ℚ) → Run (Option (Cheapest ℚ))
cheaper_run limit new None = Ok (Some new)
cheaper_run limit new (Some old) = order_run limit new.ratio old.ratio >>= λ o. Ok (Some (if is_lt o then new else old))

-- The cheapest candidate once column k is seen. Without a way for it to enter the best so far stays; with one its
-- ratio, the absolute value of its reduced cost over that of its entry at position p, is compared with the best so far.
-- An operation may be refused.
abbrev pub cheapest_by : Option ℕ → Tableau → ℕ → ℕ → Option (Cheapest ℚ) → Option Way → Run (Option (Cheapest ℚ))
cheapest_by limit t p k best None = Ok best
cheapest_by limit t p k best (Some w) =
    quotient_run limit (abs_ℚ (reduced_at t k)) (abs_ℚ (entry_at t p k)) >>=
    λ ratio. cheaper_run limit (record { ratio = ratio; col = k }) best

-- The cheapest candidate once column k is seen: the best so far; or column k, where it may enter and has a lesser ratio
-- or is the first that may enter. An operation may be refused.
abbrev pub cheapest_with : Option ℕ → Tableau → ℕ → Way → ℕ → Option (Cheapest ℚ) → Run (Option (Cheapest ℚ))
cheapest_with limit t p way k best = cheapest_by limit t p k best (dual_way_at t p way k)

-- The column that enters at position p in the dual method: the first with the least ratio of reduced cost to entry,
-- both as absolute values; none where no column may enter. An operation may be refused.
abbrev pub cheapest_run : Option ℕ → Tableau → ℕ → Way → Run (Option (Cheapest ℚ))
cheapest_run limit t p way = steps (all_columns t) (cheapest_with limit t p way) None

-- ---- what a step does

-- what a dual step does, by the cheapest candidate: a pivot at position p in which it enters and the basic column goes
-- to the bound that it has passed; without a candidate the end that no point is feasible
abbrev pub dual_choice_by : ℕ → Way → Option (Cheapest ℚ) → DualChoice
dual_choice_by p way None = End (Infeasible p way)
dual_choice_by p way (Some x) = Pivot p x.col (bound_behind way)

-- what a dual step does, by the column that is outside its bounds; where there is none, the end that is optimal. An
-- operation may be refused.
abbrev pub dual_choice_of : Option ℕ → Tableau → Option Leaving → Run DualChoice
dual_choice_of limit t None = Ok (End Optimal)
dual_choice_of limit t (Some x) =
    cheapest_run limit t (place_of t x.col) x.direction >>= λ c. Ok (dual_choice_by (place_of t x.col) x.direction c)

-- What a step of the dual method does: a pivot; or an end, because no basic value is outside its bounds, or because one
-- is and no column can bring it back. An operation may be refused.
unfoldable pub dual_choice_run : Option ℕ → Tableau → Run DualChoice
dual_choice_run limit t = leaving_run limit t >>= dual_choice_of limit t

-- the tableau after column j becomes basic at position p, and column q, which was basic there, goes to its bound `to`;
-- column j moves as far as that takes. An operation may be refused.
abbrev pub dual_pivot_by : Option ℕ → Tableau → ℕ → ℕ → ℕ → Status → Run Tableau
dual_pivot_by limit t p j q to =
    difference_run limit (value_at t q) (stand to (lower_at t q) (upper_at t q)) >>= λ gap.
    quotient_run limit gap (entry_at t p j) >>= λ theta.
    pivot_run limit t p j theta to

-- the tableau after column j becomes basic at position p, and the column that was basic there goes to its bound `to`;
-- column j moves as far as that takes. An operation may be refused.
unfoldable pub dual_pivot_run : Option ℕ → Tableau → ℕ → ℕ → Status → Run Tableau
dual_pivot_run limit t p j to = dual_pivot_by limit t p j (basic_at t p) to

-- ---- steps up to an end

-- how the dual method ended, with the last tableau and the count of flips and pivots
pub record DualEnded : Type 0 where
  pub end : DualEnd
  pub tableau : Tableau
  pub used : ℕ

-- how the steps end where the budget is used up: with the end that the choice is; as `Spent` if the choice is a pivot
abbrev pub dual_end_or_spent : Tableau → ℕ → DualChoice → Result DualEnded (RunStop ℚ)
dual_end_or_spent t used (End end) = Ok (record { end = end; tableau = t; used = used })
dual_end_or_spent t used (Pivot p j to) = Err stop.Spent

-- a choice that is an end ends the steps; after a pivot, `next` goes on from the tableau that it leaves. A refused
-- operation ends them too.
abbrev pub dual_end_or_next : Option ℕ → Tableau → ℕ → (Tableau → Result DualEnded (RunStop ℚ)) → DualChoice →
    Result DualEnded (RunStop ℚ)
dual_end_or_next limit t used next (End end) = Ok (record { end = end; tableau = t; used = used })
dual_end_or_next limit t used next (Pivot p j to) = refused_as stop.Past (dual_pivot_run limit t p j to) >>= next

-- steps of the dual method from the tableau t, up to an end or to the first refusal. Before t `used` flips and pivots
-- were made, and at most `left` more pivots are; where more are needed, the run is `Spent`
unfoldable pub dual_from : Option ℕ → ℕ → ℕ → Tableau → Result DualEnded (RunStop ℚ)
dual_from limit zero used t = refused_as stop.Past (dual_choice_run limit t) >>= dual_end_or_spent t used
dual_from limit (suc left) used t =
    refused_as stop.Past (dual_choice_run limit t) >>=
    dual_end_or_next limit t used (λ u. dual_from limit left (used + 1) u)

-- The dual method from the tableau t: flips of columns whose reduced costs suit their other bound, and then pivots up
-- to an end. Both share the budget: where it is used up before an end, the run is `Spent`. An operation may be refused.
unfoldable pub dual_run : Option ℕ → ℕ → Tableau → Result DualEnded (RunStop ℚ)
dual_run limit budget t = flips_run limit budget t >>= λ r. dual_from limit (budget - r.used) r.used r.tableau
