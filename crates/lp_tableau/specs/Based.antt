-- The tableau of a basis: what its parts answer, by the definitions at the limit of 127 bits.
use Rattle.std.specs.Prelude.{◌≡◌, ◌≢◌, ⊤, ℕ, ◌<◌, List, get_or, Option, None, IfSome, All, Result, Ok, Err}
use Rattle.spec_exact.specs.Fraction.{ℚ, 0ℚ}
use Rattle.spec_pivot.specs.declared.status.Status.{Status}
use Rattle.spec_pivot.specs.declared.status.Status.TheVariants.{Basic}
use Rattle.spec_exact.specs.Run.{◌>>=◌}
use Rattle.spec_simplex.specs.Form.{Form}
use Rattle.spec_simplex.specs.Tableau.{Tableau, at_place, stand}
use Rattle.spec_simplex.specs.declared.ends.StartStop.{StartStop}
use Rattle.spec_simplex.specs.declared.ends.StartStop.TheVariants as start
use Rattle.spec_simplex.specs.Eliminate.{Elimination, eliminate_run, with_basis}
use Rattle.lp_frac.specs.declared.stop.Stop.{Stop}
use Rattle.lp_form.specs.declared.stop.Singular.{Singular}
use Rattle.lp_frac.specs.declared.stop.Stop.TheVariants as stop

-- the stated run stops as the code does: singular or past the limit; of a stop for lack of memory nothing is asked
abbrev pub StopsAt : {A : Type 0} → Result A (StartStop ℚ) → Stop Singular → Type 0
StopsAt run (stop.Cause why) = run ≡ Err start.Singular
StopsAt run (stop.Past p) = run ≡ Err (start.Past p)
StopsAt run stop.NoMemory = ⊤

-- the stated elimination gives these rows and basic columns, where the code is done, or stops as the code does; of a
-- stop for lack of memory nothing is asked
abbrev pub Solves : Result Elimination (StartStop ℚ) → List (List ℚ) → List (Option ℕ) → Result ⊤ (Stop Singular) →
    Type 0
Solves run rows basic (Ok u) = run ≡ Ok (record { rows = rows; basic = basic })
Solves run rows basic (Err s) = StopsAt run s

-- position p is one of m, and its entry in column j is not 0
pub record IsOpenAt (m : ℕ) (rows : List (List ℚ)) (j p : ℕ) : Type 0 where
  pub inside : p < m
  pub entry : at_place rows p j ≢ 0ℚ

-- each position that has a column has one of the first n
abbrev pub AreInside : ℕ → List (Option ℕ) → Type 0
AreInside n basic = All (λ o. IfSome o (λ k. k < n)) basic

-- the value at which lists of statuses and bounds have column k: that of its bound, and 0 if it is basic or has none
abbrev pub stand_in : List Status → List (Option ℚ) → List (Option ℚ) → ℕ → ℚ
stand_in status lower upper k = stand (get_or status k Basic) (get_or lower k None) (get_or upper k None)

-- the tableau of a basis after elimination, still without basic values and reduced costs; or why there is none
abbrev pub based_run : Option ℕ → Form → List Status → Result Tableau (StartStop ℚ)
based_run limit f basis = eliminate_run limit f basis >>= λ e. Ok (with_basis f basis e)
