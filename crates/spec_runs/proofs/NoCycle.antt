-- The steps of a phase never come back to the same statuses.
--
-- `never_in_phase_one`: tableaus after different numbers of steps of phase one have different statuses.
-- `few_costs`: a form has at most as many costs as columns, logical columns and artificial columns together.
-- `never_in_phase_two`: tableaus after different numbers of steps of phase two have different statuses.
use Rattle.std.proofs.Common.{◌≡◌, ◌≢◌, ℕ, zero, suc, ◌+◌, ◌-◌, ◌<◌, ◌≤◌, length, get_or, Option}
use Rattle.std.proofs.Common.{Ok, Bool, true, false, cond, refl, sym, ap, ◌∙◌, subst, arith}
use Rattle.spec_exact.specs.Fraction.{ℚ}
use Rattle.spec_exact.proofs.Results.{ok_same}
use Rattle.spec_model.specs.Model.{Model}
use Rattle.spec_pivot.specs.declared.status.Status.TheVariants.{Basic}
use Rattle.spec_pivot.specs.Tableau.{Matrix}
use Rattle.spec_pivot.specs.Simplex.{Bounds, Table, IsTableau, Label, IsStep, SameStatuses}
use Rattle.spec_pivot.proofs.Cycle.{no_cycle}
use Rattle.spec_simplex.specs.declared.ends.PrimalEnd.TheVariants.{Optimal}
use Rattle.spec_simplex.specs.declared.ends.Choice.{Choice}
use Rattle.spec_simplex.specs.declared.ends.Choice.TheVariants.{End, Flip, Pivot}
use Rattle.spec_simplex.specs.declared.ends.RunStop.{RunStop}
use Rattle.spec_simplex.specs.Form.{Form, form_of}
use Rattle.spec_simplex.specs.Tableau.{Tableau}
use Rattle.spec_simplex.specs.Start.{cost_at, first_costs, start_of}
use Rattle.spec_simplex.specs.Phases.{PrimalEnded, done_run, run_from}
use Rattle.spec_simplex.specs.Phases.{wants_phase_one, phase_one}
use Rattle.spec_simplex.specs.Tables.{table_of, bounds_of, IsTableauOf, IsWithinBounds, StepsTo, IsMeant}
use Rattle.spec_simplex.specs.Begins.{form_rows, signs_of}
use Rattle.spec_simplex.proofs.LeastIndexSteps.{choice_is_meant}
use Rattle.spec_simplex.proofs.Walks.{run_ends, before}
use Rattle.spec_simplex.proofs.FirstTableau.{Started, start_is_tableau}
use Rattle.spec_simplex.proofs.PhaseTwo.{IsSecond, second_phase}
use Rattle.spec_simplex.proofs.FormOfModel.{cost_length, form_is, form_proper}
use Rattle.spec_simplex.proofs.Phases.{some_label}
use Rattle.spec_runs.specs.Steps.{IsChange, IsNext, IsAfter, BeginsPhaseTwo}

-- ---- one tableau, one next

-- two tableaus that are next to one tableau are the same
next_same : (limit : Option ℕ) (t u v : Tableau) → IsNext limit t u → IsNext limit t v → u ≡ v
next_same limit t u v x y =
    let same : x.choice ≡ y.choice = ok_same x.choice y.choice (sym x.chosen ∙ y.chosen) in
    ok_same u v (sym x.done ∙ ap (done_run limit t) same ∙ y.done)

-- where u is i steps after t, and v is i + d steps after t, v is d steps after u
after_more : (limit : Option ℕ) (i d : ℕ) (t u v : Tableau) → IsAfter limit i t u → IsAfter limit (i + d) t v →
    IsAfter limit d u v
after_more limit zero d t u v x y =
    let e : 0 + d ≡ d = omega arith in
    subst (λ s. IsAfter limit d s v) x (subst (λ k. IsAfter limit k t v) e y)
after_more limit (suc i) d t u v x y =
    let e : suc i + d ≡ suc (i + d) = omega arith in
    let z : IsAfter limit (suc (i + d)) t v = subst (λ k. IsAfter limit k t v) e y in
    after_more limit i d x.0 u v x.2
    (subst (λ s. IsAfter limit (i + d) s v) (next_same limit t z.0 x.0 z.1 x.1) z.2)

-- ---- over functions of an index
record Path (m n : ℕ) (b : Bounds) (t u : Tableau) (count : ℕ) : Type 0 where
  tables : ℕ → Table
  labels : ℕ → Label
  begins : tables 0 ≡ table_of t
  ends : tables count ≡ table_of u
  steps : (i : ℕ) → i < count → IsStep m (n + m + m) b (labels i) (tables i) (tables (suc i))

-- from a tableau to itself there is a path of no steps
no_step : (m n : ℕ) (b : Bounds) (t : Tableau) → Path m n b t t 0
no_step m n b t =
    record {
      tables = λ i. table_of t;
      labels = λ i. some_label;
      begins = refl;
      ends = refl;
      steps = λ i h. absurd (let z : ⊥ = omega (arith, h) in z);
    }

-- a step to the tableau where a path begins makes a path of one step more
step_before : (m n : ℕ) (b : Bounds) (t s u : Tableau) (count : ℕ) (l : Label) →
    IsStep m (n + m + m) b l (table_of t) (table_of s) → Path m n b s u count → Path m n b t u (suc count)
unfolding before
step_before m n b t s u count l step p =
    record {
      tables = before (table_of t) p.tables;
      labels = before l p.labels;
      begins = refl;
      ends = p.ends;
      steps = go;
    }
  where
    go : (i : ℕ) → i < suc count →
        IsStep m (n + m + m) b (before l p.labels i) (before (table_of t) p.tables i) (p.tables i)
    go zero h = subst (IsStep m (n + m + m) b l (table_of t)) (sym p.begins) step
    go (suc i) h = p.steps i (omega (arith, h))

module _ (limit : Option ℕ) (m n : ℕ) (f : Matrix) (cost : ℕ → ℚ) (b : Bounds) where
  -- a tableau of these rows, costs and bounds, with each value within these
  record IsGood (t : Tableau) : Type 0 where
    tableau : IsTableauOf m n f cost b t
    within : IsWithinBounds m n b t

  -- a step of the run from a tableau of these rows, costs and bounds, with each value within them, is a step by Bland's
  -- rule
  next_is_step : (t u : Tableau) → IsGood t → IsNext limit t u → StepsTo m n f cost b t u
  next_is_step t u g x =
      by x.choice (choice_is_meant limit m n f cost b t x.choice g.tableau g.within x.chosen) x.changes x.done
    where
      by : (c : Choice ℚ) → IsMeant m n f cost b limit t c → IsChange c → done_run limit t c ≡ Ok u →
          StepsTo m n f cost b t u
      by (End end) meant change done = absurd change
      by (Flip j) meant change done = meant u done
      by (Pivot p j theta to) meant change done = meant u done

  -- the tableau after a step from a tableau within its bounds is one within its bounds
  next_good : (t u : Tableau) → IsGood t → IsNext limit t u → IsGood u
  next_good t u g x =
      let step : StepsTo m n f cost b t u = next_is_step t u g x in
      record { tableau = step.after; within = step.within }

  -- the tableau after k steps from a tableau within its bounds is one within its bounds
  after_good : (k : ℕ) (t u : Tableau) → IsGood t → IsAfter limit k t u → IsGood u
  after_good zero t u g x = subst IsGood x g
  after_good (suc k) t u g x = after_good k x.0 u (next_good t x.0 g x.1) x.2

  -- k steps of the run from a tableau within its bounds are a path of k steps
  path_of : (k : ℕ) (t u : Tableau) → IsGood t → IsAfter limit k t u → Path m n b t u k
  path_of zero t u g x = subst (λ u. Path m n b t u 0) x (no_step m n b t)
  path_of (suc k) t u g x =
      let step : StepsTo m n f cost b t x.0 = next_is_step t x.0 g x.1 in
      step_before m n b t x.0 u k step.label step.step (path_of k x.0 u (next_good t x.0 g x.1) x.2)

  -- after one step or more from such a tableau the statuses are not those that it has
  never_again : (k : ℕ) (u v : Tableau) → IsGood u → IsAfter limit k u v → 0 < k → u.status ≢ v.status
  never_again k u v g x some same =
      let p : Path m n b u v k = path_of k u v g x in
      let back : SameStatuses (n + m + m) (p.tables 0) (p.tables k) =
      λ j l. ap (λ (t : Table). t.status j) p.begins ∙ ap (λ s. get_or s j Basic) same
      ∙ sym (ap (λ (t : Table). t.status j) p.ends) in
      no_cycle m (n + m + m) f cost b p.tables p.labels k
      (record { first = subst (IsTableau m (n + m + m) f cost b) (sym p.begins) g.tableau.tableau; steps = p.steps })
      some back

  -- tableaus after different numbers of steps from one within its bounds have different statuses
  never_back : (i k : ℕ) (t u v : Tableau) → IsGood t → IsAfter limit i t u → IsAfter limit k t v → i < k →
      u.status ≢ v.status
  never_back i k t u v g x y later =
      let e : k ≡ i + (k - i) = omega (arith, later) in
      let some : 0 < k - i = omega (arith, later) in
      never_again (k - i) u v (after_good i t u g x)
      (after_more limit i (k - i) t u v x (subst (λ k. IsAfter limit k t v) e y)) some

  one_good : (budget : ℕ) (t : Tableau) (one : PrimalEnded) → IsGood t → phase_one limit budget t ≡ Ok one →
      IsGood one.tableau
  one_good budget t one g ok = by (wants_phase_one t) ok
    where
      by : (c : Bool) →
          cond c (run_from limit budget 0 t) (Ok (record { end = Optimal; tableau = t; used = 0 })) ≡ Ok one →
          IsGood one.tableau
      by true ok =
          let o = run_ends limit m n f cost b some_label budget 0 t one g.tableau g.within ok in
          record { tableau = o.after; within = o.within }
      by false ok =
          let z : ◌≡◌ {A = PrimalEnded} (record { end = Optimal; tableau = t; used = 0 }) one =
          ok_same {E = RunStop ℚ} (record { end = Optimal; tableau = t; used = 0 }) one ok in
          subst (λ (one : PrimalEnded). IsGood one.tableau) z g

-- ---- both phases
pub never_in_phase_one : (limit : Option ℕ) (m : Model) (f : Form) (t u v : Tableau) (i k : ℕ) →
    form_of limit m ≡ Ok f → start_of limit f ≡ Ok t → IsAfter limit i t u → IsAfter limit k t v → i < k →
    u.status ≢ v.status
never_in_phase_one limit m f t u v i k formed started =
    let s : Started f t = start_is_tableau limit f t (form_proper limit m f formed) started in
    never_back limit f.rows f.cols (form_rows f (signs_of s.starts)) (cost_at (first_costs f s.starts)) (bounds_of t)
    i k t u v (record { tableau = s.tableau; within = s.within })

pub few_costs : (limit : Option ℕ) (m : Model) (f : Form) → form_of limit m ≡ Ok f →
    length f.cost ≤ f.cols + f.rows + f.rows
few_costs limit m f formed =
    let o = form_is limit m f formed in
    subst (λ (f : Form). length f.cost ≤ f.cols + f.rows + f.rows) o.2 (omega (arith, cost_length m o.0 o.1))

pub never_in_phase_two : (limit : Option ℕ) (budget : ℕ) (m : Model) (f : Form) (t u v : Tableau) (i k : ℕ) →
    form_of limit m ≡ Ok f → BeginsPhaseTwo limit budget f t → IsAfter limit i t u → IsAfter limit k t v → i < k →
    u.status ≢ v.status
never_in_phase_two limit budget m f t u v i k formed begins =
    let start : Tableau = begins.start in
    let s : Started f start = start_is_tableau limit f start (form_proper limit m f formed) begins.started in
    let rows : Matrix = form_rows f (signs_of s.starts) in
    let cost : ℕ → ℚ = cost_at (first_costs f s.starts) in
    let one = one_good limit f.rows f.cols rows cost (bounds_of start) budget start begins.one
    (record { tableau = s.tableau; within = s.within }) begins.ended in
    let two : IsSecond f.rows f.cols rows f.cost (bounds_of start) t =
    second_phase limit f f.rows f.cols rows cost (bounds_of start) begins.one.tableau t one.tableau one.within
    begins.free (few_costs limit m f formed) begins.begun in
    never_back limit f.rows f.cols rows (cost_at f.cost) (bounds_of t) i k t u v
    (record { tableau = two.tableau; within = two.within })
