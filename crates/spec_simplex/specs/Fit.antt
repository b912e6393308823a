-- Whether the tableau of a basis is primal or dual feasible, at a limit.
use Rattle.std.specs.Prelude.{ℕ, zero, suc, Option, Some, None, Ok, Bool, true}
use Rattle.std.specs.Prelude.{false, not, ◌&&◌, ◌||◌, is_some, option_map, if◌then◌else◌}
use Rattle.std.specs.Ordering.{is_lt, is_gt}
use Rattle.spec_exact.specs.Fraction.{ℚ, 0ℚ, eq_ℚ, lt_ℚ}
use Rattle.spec_pivot.specs.declared.status.Status.{Status}
use Rattle.spec_pivot.specs.declared.status.Status.TheVariants.{Basic, AtLower, AtUpper, AtZero}
use Rattle.spec_pivot.specs.declared.status.Way.{Way}
use Rattle.spec_pivot.specs.declared.status.Way.TheVariants.{Up, Down}
use Rattle.spec_exact.specs.Run.{Run, ◌>>=◌, order_run, steps}
use Rattle.spec_simplex.specs.Tableau.{Tableau, all_columns, value_at, reduced_at}
use Rattle.spec_simplex.specs.Tableau.{status_at, lower_at, upper_at, is_fixed, is_basic}
use Rattle.spec_simplex.specs.declared.ends.Fit.{Fit}
use Rattle.spec_simplex.specs.declared.ends.Fit.TheVariants.{Primal, Dual, Unfit}
use Rattle.spec_simplex.specs.declared.ends.Leaving.{Leaving}

-- ---- the first basic column that is outside its bounds

-- whether the value v is below a lower bound; no where there is no bound. The comparison may be refused.
abbrev pub below_lower : Option ℕ → Option ℚ → ℚ → Run Bool
below_lower limit None v = Ok false
below_lower limit (Some l) v = order_run limit v l >>= λ o. Ok (is_lt o)

-- whether the value v is above an upper bound; no where there is no bound. The comparison may be refused.
abbrev pub above_upper : Option ℕ → Option ℚ → ℚ → Run Bool
above_upper limit None v = Ok false
above_upper limit (Some u) v = order_run limit v u >>= λ o. Ok (is_gt o)

-- The way in which v comes back inside its bounds, by whether it is below the lower one: up if it is, without a further
-- comparison; else down if it is above the upper one, and none if it is inside. The comparison may be refused.
abbrev pub outside_by : Option ℕ → Option ℚ → ℚ → Bool → Run (Option Way)
outside_by limit upper v true = Ok (Some Up)
outside_by limit upper v false = above_upper limit upper v >>= λ above. Ok (if above then Some Down else None)

-- the way in which v comes back inside its bounds: up from below, down from above, and none where it is inside. A
-- comparison may be refused.
abbrev pub outside_run : Option ℕ → Option ℚ → Option ℚ → ℚ → Run (Option Way)
outside_run limit lower upper v = below_lower limit lower v >>= outside_by limit upper v

-- column k with the way in which its value comes back inside its bounds; none where it is inside. A comparison may be
-- refused.
abbrev pub leaving_at : Option ℕ → Tableau → ℕ → Run (Option Leaving)
leaving_at limit t k =
    outside_run limit (lower_at t k) (upper_at t k) (value_at t k) >>=
    λ out. Ok (option_map (λ way. record { col = k; direction = way }) out)

-- The leaving column that was found before, or column k if it is basic and outside its bounds. Nothing is compared
-- after the first one. A comparison may be refused.
abbrev pub leaving_with : Option ℕ → Tableau → ℕ → Option Leaving → Run (Option Leaving)
leaving_with limit t k (Some x) = Ok (Some x)
leaving_with limit t k None = if is_basic (status_at t k) then leaving_at limit t k else Ok None

-- the first basic column that is outside its bounds, with its way back inside; none where each is within. A comparison
-- may be refused.
abbrev pub leaving_run : Option ℕ → Tableau → Run (Option Leaving)
leaving_run limit t = steps (all_columns t) (leaving_with limit t) None

-- ---- reduced costs

-- whether a reduced cost d suits the other bound and not that of this status: d below 0 at the lower one, d above 0 at
-- the upper one. A basic column and one without bounds need no flip
abbrev pub needs_flip : Status → ℚ → Bool
needs_flip Basic d = false
needs_flip AtLower d = lt_ℚ d 0ℚ
needs_flip AtUpper d = lt_ℚ 0ℚ d
needs_flip AtZero d = false

-- whether a column of this status and reduced cost d suits d where it is, or has the other bound if it needs that one;
-- a column at 0 suits only 0, and a basic one always does
abbrev pub meets_need : Status → ℚ → Option ℚ → Option ℚ → Bool
meets_need Basic d lower upper = true
meets_need AtLower d lower upper = not (lt_ℚ d 0ℚ) || is_some upper
meets_need AtUpper d lower upper = not (lt_ℚ 0ℚ d) || is_some lower
meets_need AtZero d lower upper = eq_ℚ d 0ℚ

-- whether column k of the tableau needs to go to its other bound, by its status and its reduced cost. A fixed column
-- needs nothing
abbrev pub needs_flip_at : Tableau → ℕ → Bool
needs_flip_at t k = not (is_fixed (lower_at t k) (upper_at t k)) && needs_flip (status_at t k) (reduced_at t k)

-- whether column k, where it is or at its other bound, suits its reduced cost; a fixed column always does
abbrev pub meets_need_at : Tableau → ℕ → Bool
meets_need_at t k =
    is_fixed (lower_at t k) (upper_at t k) || meets_need (status_at t k) (reduced_at t k) (lower_at t k) (upper_at t k)

-- whether each of the first n columns suits its reduced cost, where it is or at its other bound
abbrev pub all_meet : Tableau → ℕ → Bool
all_meet t zero = true
all_meet t (suc n) = all_meet t n && meets_need_at t n

-- ---- the fit

-- the fit of a tableau, by the first basic column outside its bounds: primal where there is none; else dual where each
-- column suits its reduced cost, where it is or at its other bound; else unfit
abbrev pub fit_by : Tableau → Option Leaving → Fit
fit_by t None = Primal
fit_by t (Some x) = if all_meet t (all_columns t) then Dual else Unfit

-- the fit of a tableau: primal, where each basic column is within its bounds; else dual, where flips can make it dual
-- feasible; else unfit. A comparison may be refused.
unfoldable pub fit_run : Option ℕ → Tableau → Run Fit
fit_run limit t = leaving_run limit t >>= λ x. Ok (fit_by t x)
