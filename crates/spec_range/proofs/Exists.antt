-- That a tableau of a basis exists depends on no bound, cost or limit; that a form exists, on no clash of columns
-- alone.
--
-- `start_exists`: where a basis has a tableau in one form, without a limit, it has one in each form of the same
--   equations.
-- `start_unlimited`: a tableau that a basis has at a limit is the one that it has without a limit.
-- `form_exists`: a model none of whose columns has a lower bound above its upper bound has a form without a limit.
use Rattle.std.proofs.Common.{◌≡◌, ℕ, zero, suc, ◌+◌, ◌<◌, List, [], Option, Some, None, Result, Ok, Err}
use Rattle.std.proofs.Common.{Bool, true, false, cond, refl, sym, ap, ◌∙◌, ⊎_elim}
use Rattle.spec_exact.specs.Fraction.{ℚ, ◌≤ℚ◌}
use Rattle.spec_exact.proofs.Order.{clash_ℚ}
use Rattle.spec_exact.proofs.Results.{ok_not_err}
use Rattle.spec_exact.specs.Run.{Run, ◌>>=◌, refused_as, steps}
use Rattle.spec_model.specs.Model.{Model, width, bounds}
use Rattle.spec_check.specs.Checks.{ChecksClash}
use Rattle.spec_pivot.specs.declared.status.Status.{Status}
use Rattle.spec_simplex.specs.declared.ends.FormFault.{FormFault}
use Rattle.spec_simplex.specs.declared.ends.FormFault.TheVariants as fault
use Rattle.spec_simplex.specs.declared.ends.StartStop.{StartStop}
use Rattle.spec_simplex.specs.declared.ends.StartStop.TheVariants as stop
use Rattle.spec_simplex.specs.Form.{Form, form_of}
use Rattle.spec_simplex.specs.Tableau.{Tableau, is_basic}
use Rattle.spec_simplex.specs.Eliminate.{Elimination, basis_at, unsolved, open_below, solved_by, solved_run}
use Rattle.spec_simplex.specs.Eliminate.{eliminate_run, with_basis, filled_run, start_from}
use Rattle.spec_simplex.proofs.LimitStart.{form_agrees}
use Rattle.spec_simplex.proofs.RunParts.{then_ok}
pub use Rattle.spec_simplex.proofs.LimitStart.{form_without}
use Rattle.spec_runs.proofs.FormCosts.{clash_is}
use Rattle.spec_runs.proofs.LimitSteps.{from_agrees}

-- ---- the elimination

-- a form without bounds and costs
abbrev pub skeleton : Form → Form
skeleton f = record { rows = f.rows; cols = f.cols; entries = f.entries; lower = []; upper = []; cost = [] }

-- steps that do the same at each index and state end in the same way
steps_same : {A E : Type 0} (n : ℕ) (f g : ℕ → A → Result A E) (a : A) → ((i : ℕ) (x : A) → f i x ≡ g i x) →
    steps n f a ≡ steps n g a
steps_same zero f g a h = refl
steps_same {A} {E} (suc n) f g a h =
    ap (λ o. o >>= λ b. f n b) (steps_same n f g a h) ∙ by (steps n g a)
  where
    by : (o : Result A E) → (o >>= λ b. f n b) ≡ (o >>= λ b. g n b)
    by (Ok x) = h n x
    by (Err e) = refl

-- solving for a column at a position is the same for a form and for its skeleton
solved_same : (limit : Option ℕ) (f : Form) (e : Elimination) (j : ℕ) (p : Option ℕ) →
    solved_by limit f e j p ≡ solved_by limit (skeleton f) e j p
solved_same limit f e j None = refl
solved_same limit f e j (Some p) = refl

-- a step of elimination is the same for a form and for its skeleton
step_same : (limit : Option ℕ) (f : Form) (e : Elimination) (j : ℕ) (c : Bool) →
    ◌≡◌ {A = Result Elimination (StartStop ℚ)} (cond c (solved_run limit f e j) (Ok e))
    (cond c (solved_run limit (skeleton f) e j) (Ok e))
step_same limit f e j true = solved_same limit f e j (open_below e j f.rows)
step_same limit f e j false = refl

-- elimination is the same for a form and for its skeleton
eliminate_is : (limit : Option ℕ) (f : Form) (basis : List Status) →
    eliminate_run limit f basis ≡ eliminate_run limit (skeleton f) basis
unfolding eliminate_run
eliminate_is limit f basis =
    steps_same (f.cols + f.rows)
    (λ j e. cond (is_basic (basis_at basis j)) (solved_run limit f e j) (Ok e))
    (λ j e. cond (is_basic (basis_at basis j)) (solved_run limit (skeleton f) e j) (Ok e)) (unsolved f)
    (λ j e. step_same limit f e j (is_basic (basis_at basis j)))

-- elimination is the same for two forms with one skeleton
eliminate_same : (limit : Option ℕ) (f g : Form) (basis : List Status) → skeleton f ≡ skeleton g →
    eliminate_run limit f basis ≡ eliminate_run limit g basis
eliminate_same limit f g basis e =
    eliminate_is limit f basis ∙ ap (λ s. eliminate_run limit s basis) e ∙ sym (eliminate_is limit g basis)

-- ---- a tableau
pub start_exists : (f g : Form) (basis : List Status) (t : Tableau) → skeleton f ≡ skeleton g →
    start_from None f basis ≡ Ok t → (u : Tableau) × (start_from None g basis ≡ Ok u)
unfolding start_from
start_exists f g basis t e h =
    let a = then_ok (eliminate_run None f basis) _ t h in
    by a.0 (sym (eliminate_same None f g basis e) ∙ a.1) (filled_run None g (with_basis g basis a.0)) refl
  where
    by : (x : Elimination) → eliminate_run None g basis ≡ Ok x → (o : Run Tableau) →
        filled_run None g (with_basis g basis x) ≡ o → (u : Tableau) × (start_from None g basis ≡ Ok u)
    by x p (Ok u) q = (
      u,
      ap (λ o. o >>= λ e. refused_as stop.Past (filled_run None g (with_basis g basis e))) p
          ∙ ap (refused_as stop.Past) q,
    )
    by x p (Err v) q =
        absurd ((from_agrees None g basis).exact v
        (ap (λ o. o >>= λ e. refused_as stop.Past (filled_run None g (with_basis g basis e))) p
        ∙ ap (refused_as stop.Past) q))

-- what a limit gives is what there is without one
pub start_unlimited : (limit : Option ℕ) (f : Form) (basis : List Status) (t : Tableau) →
    start_from limit f basis ≡ Ok t → start_from None f basis ≡ Ok t
start_unlimited limit f basis t h =
    ⊎_elim (λ e. sym e ∙ h) (λ p. ok_not_err t (stop.Past p.0) (sym h ∙ p.1)) (from_agrees limit f basis).same

-- ---- a form
pub form_exists : (m : Model) →
    ((j : ℕ) (l u : ℚ) → j < width m → (bounds m j).lower ≡ Some l → (bounds m j).upper ≡ Some u → l ≤ℚ u) →
    (f : Form) × (form_of None m ≡ Ok f)
form_exists m ordered = by (form_of None m) refl
  where
    by : (o : Result Form (FormFault ℚ)) → form_of None m ≡ o → (f : Form) × (form_of None m ≡ Ok f)
    by (Ok f) e = (f, e)
    by (Err (fault.Past p)) e = absurd ((form_agrees None m).exact p e)
    by (Err (fault.Clash j)) e =
        let c : ChecksClash m j = clash_is None m j e in
        clash_ℚ c.high c.low c.crossed (ordered j c.low c.high c.inside c.lower c.upper)
