-- Steps of the run up to an end: each of them is a step by Bland's rule, so there are few, and what holds of the first
-- tableau holds of the last.
--
-- `then_err`: where two parts end in an error together, the first does, or the second does with the first's result.
-- `never_spent`: a run of operations never ends with a spent budget.
-- `stand_still`: each tableau begins a walk of no steps.
-- `few`: a walk from a tableau has fewer steps than three to the power of the number of columns.
use Rattle.std.proofs.Common.{◌≡◌, ℕ, zero, suc, ◌+◌, ◌<◌, ◌^◌, Option, Result, Ok, Err, refl, sym, ap, subst, arith}
use Rattle.spec_exact.specs.Fraction.{ℚ}
use Rattle.spec_exact.proofs.Results.{ok_same, err_not_ok, ok_not_err}
use Rattle.spec_pivot.specs.Tableau.{Matrix}
use Rattle.spec_pivot.specs.Simplex.{Bounds, Table, IsTableau, Label, IsStep}
use Rattle.spec_pivot.proofs.Count.{bounded}
use Rattle.spec_simplex.specs.declared.ends.Choice.{Choice}
use Rattle.spec_simplex.specs.declared.ends.Choice.TheVariants.{End, Flip, Pivot}
use Rattle.spec_simplex.specs.declared.ends.RunStop.{RunStop}
use Rattle.spec_simplex.specs.declared.ends.RunStop.TheVariants as stop
use Rattle.spec_exact.specs.Run.{Run, ◌>>=◌, refused_as}
use Rattle.spec_simplex.specs.Tableau.{Tableau}
use Rattle.spec_simplex.specs.Step.{choice_run, flip_run, pivot_run}
use Rattle.spec_simplex.specs.Phases.{PrimalEnded, end_or_spent, end_or_next, run_from}
use Rattle.spec_simplex.specs.Tables.{table_of, IsTableauOf, IsWithinBounds, StepsTo, IsMeant}
use Rattle.spec_simplex.proofs.RunParts.{then_ok, refused_ok}
use Rattle.spec_simplex.proofs.LeastIndexSteps.{choice_is_meant}

-- ---- what ends in a certain error
-- the two parts o and f end in the error e together: o does, or o gives a result and f ends in e with it
pub data ThenErr {A B E : Type 0} (o : Result A E) (f : A → Result B E) (e : E) : Type 0 where
  first : o ≡ Err e → ThenErr o f e
  second : (a : A) → o ≡ Ok a → f a ≡ Err e → ThenErr o f e

pub then_err : {A B E : Type 0} (o : Result A E) (f : A → Result B E) (e : E) → (o >>= f) ≡ Err e → ThenErr o f e
then_err (Ok a) f e h = second a refl h
then_err (Err d) f e h = first (let z : d ≡ e = cc in ap Err z)

-- an operation that is refused is not a spent budget
pub never_spent : {A : Type 0} (o : Run A) → ¬ (refused_as stop.Past o ≡ Err stop.Spent)
never_spent {A} (Ok a) h = let z : ◌≡◌ {A = Result A (RunStop ℚ)} (Ok a) (Err stop.Spent) = h in cc
never_spent {A} (Err p) h =
    let z : ◌≡◌ {A = Result A (RunStop ℚ)} (Err (stop.Past p)) (Err stop.Spent) = h in
    let y : stop.Past p ≡ stop.Spent = cc in cc

-- ---- steps, one after the other
-- a walk of so many steps by Bland's rule from the tableau t: tables, of which the first is t, and the label of the
-- step from each to the next
pub record Walk (m n : ℕ) (b : Bounds) (t : Tableau) (length : ℕ) : Type 0 where
  pub tables : ℕ → Table
  pub labels : ℕ → Label
  pub first : tables 0 ≡ table_of t
  pub steps : (i : ℕ) → i < length → IsStep m (n + m + m) b (labels i) (tables i) (tables (suc i))

-- the sequence that begins with x and goes on with f
unfoldable pub before : {A : Type 0} → A → (ℕ → A) → ℕ → A
before x f zero = x
before x f (suc i) = f i

pub stand_still : (m n : ℕ) (b : Bounds) (t : Tableau) (l : Label) → Walk m n b t 0
stand_still m n b t l =
    record {
      tables = λ i. table_of t;
      labels = λ i. l;
      first = refl;
      steps = λ i h. absurd (let z : ⊥ = omega (arith, h) in z);
    }

-- a step, and a walk of some steps from where it leads, make a walk of one step more
step_first : (m n : ℕ) (b : Bounds) (t u : Tableau) (length : ℕ) (l : Label) →
    IsStep m (n + m + m) b l (table_of t) (table_of u) → Walk m n b u length → Walk m n b t (suc length)
unfolding before
step_first m n b t u length l step w = record {
  tables = before (table_of t) w.tables;
  labels = before l w.labels;
  first = refl;
  steps = go;
}
  where
    go : (i : ℕ) → i < suc length →
        IsStep m (n + m + m) b (before l w.labels i) (before (table_of t) w.tables i) (w.tables i)
    go zero h = subst (IsStep m (n + m + m) b l (table_of t)) (sym w.first) step
    go (suc i) h = w.steps i (omega (arith, h))

pub few : (m n : ℕ) (f : Matrix) (cost : ℕ → ℚ) (b : Bounds) (t : Tableau) (length : ℕ) → IsTableauOf m n f cost b t →
    Walk m n b t length → length < 3 ^ (n + m + m)
few m n f cost b t length s w =
    bounded m (n + m + m) f cost b w.tables w.labels length
    (record { first = subst (IsTableau m (n + m + m) f cost b) (sym w.first) s.tableau; steps = w.steps })

-- ---- the run
-- the steps from t ended as e says, by Bland's rule: at a tableau of the equations, costs and bounds, with values
-- within these, of which the end is true, after as many steps as e counts beyond `used`
pub record IsEnd (limit : Option ℕ) (m n : ℕ) (f : Matrix) (cost : ℕ → ℚ)
    (b : Bounds) (t : Tableau) (used : ℕ) (e : PrimalEnded) : Type 0 where
  pub after : IsTableauOf m n f cost b e.tableau
  pub within : IsWithinBounds m n b e.tableau
  pub end : IsMeant m n f cost b limit e.tableau (End e.end)
  pub length : ℕ
  pub count : e.used ≡ used + length
  pub walk : Walk m n b t length

module _ (limit : Option ℕ) (m n : ℕ) (f : Matrix) (cost : ℕ → ℚ) (b : Bounds) (l : Label) where
  -- where the choice at a tableau is an end, a run that ends there has ended by the method, after no step
  ends_here : (t : Tableau) (used : ℕ) (e : PrimalEnded) (choice : Choice ℚ) → IsTableauOf m n f cost b t →
      IsWithinBounds m n b t → choice_run limit t ≡ Ok choice → end_or_spent t used choice ≡ Ok e →
      IsEnd limit m n f cost b t used e
  ends_here t used e (End end) s i c h =
      let z : ◌≡◌ {A = PrimalEnded} (record { end = end; tableau = t; used = used }) e =
      ok_same {E = RunStop ℚ} (record { end = end; tableau = t; used = used }) e h in
      subst (IsEnd limit m n f cost b t used) z (record {
        after = s;
        within = i;
        end = choice_is_meant limit m n f cost b t (End end) s i c;
        length = 0;
        count = omega arith;
        walk = stand_still m n b t l;
      })
  ends_here t used e (Flip j) s i c h = err_not_ok stop.Spent e h
  ends_here t used e (Pivot p j theta to) s i c h = err_not_ok stop.Spent e h

  -- an end after steps from u, to which t steps, is an end after one step more from t
  on_from : (t u : Tableau) (used : ℕ) (e : PrimalEnded) → StepsTo m n f cost b t u →
      IsEnd limit m n f cost b u (used + 1) e → IsEnd limit m n f cost b t used e
  on_from t u used e step r =
      record {
        after = r.after;
        within = r.within;
        end = r.end;
        length = suc r.length;
        count = omega (arith, r.count);
        walk = step_first m n b t u r.length step.label step.step r.walk;
      }

  -- where a run from a tableau of the equations within its bounds ends, its end is one of the method, after as many
  -- steps by Bland's rule as it counts
  pub run_ends : (left used : ℕ) (t : Tableau) (e : PrimalEnded) → IsTableauOf m n f cost b t →
      IsWithinBounds m n b t → run_from limit left used t ≡ Ok e → IsEnd limit m n f cost b t used e
  unfolding run_from
  run_ends zero used t e s i h =
      let o = then_ok (refused_as stop.Past (choice_run limit t)) (end_or_spent t used) e h in
      ends_here t used e o.0 s i (refused_ok stop.Past (choice_run limit t) o.0 o.1) o.2
  run_ends (suc left) used t e s i h =
      let o =
      then_ok (refused_as stop.Past (choice_run limit t))
      (end_or_next limit t used (λ u. run_from limit left (used + 1) u)) e h in
      go o.0 (refused_ok stop.Past (choice_run limit t) o.0 o.1) o.2 (λ u q r g. run_ends left (used + 1) u e q r g)
    where
      go : (choice : Choice ℚ) → choice_run limit t ≡ Ok choice →
          end_or_next limit t used (λ u. run_from limit left (used + 1) u) choice ≡ Ok e
          → ((u : Tableau) → IsTableauOf m n f cost b u → IsWithinBounds m n b u →
          run_from limit left (used + 1) u ≡ Ok e →
          IsEnd limit m n f cost b u (used + 1) e) → IsEnd limit m n f cost b t used e
      go (End end) c h more = ends_here t used e (End end) s i c h
      go (Flip j) c h more =
          let o = then_ok (refused_as stop.Past (flip_run limit t j)) (λ u. run_from limit left (used + 1) u) e h in
          let step : StepsTo m n f cost b t o.0 =
          choice_is_meant limit m n f cost b t (Flip j) s i c o.0 (refused_ok stop.Past (flip_run limit t j) o.0 o.1) in
          on_from t o.0 used e step (more o.0 step.after step.within o.2)
      go (Pivot p j theta to) c h more =
          let o =
          then_ok (refused_as stop.Past (pivot_run limit t p j theta to)) (λ u. run_from limit left (used + 1) u) e h in
          let step : StepsTo m n f cost b t o.0 =
          choice_is_meant limit m n f cost b t (Pivot p j theta to) s i c o.0
          (refused_ok stop.Past (pivot_run limit t p j theta to) o.0 o.1) in
          on_from t o.0 used e step (more o.0 step.after step.within o.2)

  -- where the budget is spent, as many steps were made as it has
  pub run_spent : (left used : ℕ) (t : Tableau) → IsTableauOf m n f cost b t → IsWithinBounds m n b t →
      run_from limit left used t ≡ Err stop.Spent → Walk m n b t left
  unfolding run_from
  run_spent zero used t s i h = stand_still m n b t l
  run_spent (suc left) used t s i h =
      by (then_err (refused_as stop.Past (choice_run limit t))
      (end_or_next limit t used (λ u. run_from limit left (used + 1) u)) stop.Spent h)
      (λ u q r g. run_spent left (used + 1) u q r g)
    where
      made : (o : Run Tableau) → ((u : Tableau) → o ≡ Ok u → StepsTo m n f cost b t u) →
          ThenErr (refused_as stop.Past o) (λ u. run_from limit left (used + 1) u) stop.Spent
          → ((u : Tableau) → IsTableauOf m n f cost b u → IsWithinBounds m n b u →
          run_from limit left (used + 1) u ≡ Err stop.Spent → Walk m n b u left) → Walk m n b t (suc left)
      made o steps (first e) more = absurd (never_spent o e)
      made o steps (second u e g) more =
          let step : StepsTo m n f cost b t u = steps u (refused_ok stop.Past o u e) in
          step_first m n b t u left step.label step.step (more u step.after step.within g)

      go : (choice : Choice ℚ) → choice_run limit t ≡ Ok choice →
          end_or_next limit t used (λ u. run_from limit left (used + 1) u) choice ≡ Err stop.Spent
          → ((u : Tableau) → IsTableauOf m n f cost b u → IsWithinBounds m n b u →
          run_from limit left (used + 1) u ≡ Err stop.Spent → Walk m n b u left) → Walk m n b t (suc left)
      go (End end) c h more =
          ok_not_err {A = PrimalEnded} (record { end = end; tableau = t; used = used }) stop.Spent h
      go (Flip j) c h more =
          made (flip_run limit t j) (choice_is_meant limit m n f cost b t (Flip j) s i c)
          (then_err (refused_as stop.Past (flip_run limit t j)) (λ u. run_from limit left (used + 1) u) stop.Spent h)
          more
      go (Pivot p j theta to) c h more =
          made (pivot_run limit t p j theta to) (choice_is_meant limit m n f cost b t (Pivot p j theta to) s i c)
          (then_err (refused_as stop.Past (pivot_run limit t p j theta to))
          (λ u. run_from limit left (used + 1) u) stop.Spent h) more

      by : ThenErr (refused_as stop.Past (choice_run limit t))
          (end_or_next limit t used (λ u. run_from limit left (used + 1) u)) stop.Spent
          → ((u : Tableau) → IsTableauOf m n f cost b u → IsWithinBounds m n b u →
          run_from limit left (used + 1) u ≡ Err stop.Spent → Walk m n b u left) → Walk m n b t (suc left)
      by (first e) more = absurd (never_spent (choice_run limit t) e)
      by (second choice e g) more = go choice (refused_ok stop.Past (choice_run limit t) choice e) g more
