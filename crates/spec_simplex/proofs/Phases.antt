-- How both phases end, and that a stated budget is enough for them.
use Rattle.std.proofs.Common.{◌≡◌, ◌≢◌, ℕ, ◌+◌, ◌-◌, ◌*◌, ◌^◌, ◌<◌, ◌≤◌, List, Option, Some, Result, Ok}
use Rattle.std.proofs.Common.{Err, Bool, true, false, not, ◌&&◌, cond, refl, sym, ◌∙◌, subst, arith}
use Rattle.std.proofs.lemmas.List.Folds.{list_any_at}
use Rattle.std.proofs.lemmas.Bool.{and_parts}
use Rattle.spec_exact.specs.Fraction.{ℚ, 0ℚ, eq_ℚ}
use Rattle.spec_model.specs.Model.{Model, width, height}
use Rattle.spec_pivot.specs.declared.status.Way.{Way}
use Rattle.spec_pivot.specs.declared.status.Way.TheVariants.{Up}
use Rattle.spec_pivot.specs.declared.status.Status.TheVariants.{Basic}
use Rattle.spec_pivot.specs.Simplex.{Bounds, IsEligible, Label}
use Rattle.spec_pivot.specs.Simplex as kind
use Rattle.spec_simplex.specs.declared.ends.PrimalEnd.{PrimalEnd}
use Rattle.spec_simplex.specs.declared.ends.PrimalEnd.TheVariants.{Optimal, Unbounded}
use Rattle.spec_simplex.specs.declared.ends.Choice.TheVariants.{End}
use Rattle.spec_simplex.specs.declared.ends.RowStart.{RowStart}
use Rattle.spec_simplex.specs.declared.ends.RunStop.{RunStop}
use Rattle.spec_simplex.specs.declared.ends.RunStop.TheVariants as stop
use Rattle.spec_simplex.specs.Form.{Form, formed}
use Rattle.spec_exact.specs.Run.{◌>>=◌, refused_as}
use Rattle.spec_simplex.specs.Start.{cost_at, first_costs, start_of}
use Rattle.spec_simplex.specs.Tableau.{Tableau, is_artificial, basic_at, value_at, lower_at, upper_at}
use Rattle.spec_simplex.specs.Phases.{PrimalEnded, wants_phase_one, is_stuck, phase_one, phase_two}
use Rattle.spec_simplex.specs.Phases.{phase_two_run, run_from, PhasesEnd, Infeasible, Finished, phases_run}
use Rattle.spec_simplex.specs.Tables.{table_of, bounds_of, IsTableauOf, IsWithinBounds, IsMeant}
use Rattle.spec_simplex.specs.Begins.{form_rows, signs_of}
use Rattle.spec_simplex.proofs.RunParts.{then_ok, refused_ok}
use Rattle.spec_simplex.proofs.Walks.{IsEnd, run_ends, run_spent, few, stand_still}
use Rattle.spec_simplex.proofs.Walks.{never_spent, ThenErr, first, second, then_err}
use Rattle.spec_simplex.proofs.FirstTableau.{Started, start_is_tableau}
use Rattle.spec_simplex.proofs.PhaseTwo.{IsSecond, second_phase, some_of}
use Rattle.spec_simplex.proofs.FormOfModel.{Limited, cost_length, formed_proper}
use Rattle.spec_simplex.proofs.FormOfModel.{HasBounds}
use Rattle.spec_simplex.proofs.FirstPhase.{never_goes_on}

-- any label of a step, for where a list needs an item past its end
pub some_label : Label
some_label = record { kind = kind.Flip; way = Up; column = 0; position = 0; theta = 0ℚ; to = Basic }

module _ (limit : Option ℕ) (m : Model) (ls : List (Option ℚ × Option ℚ)) (h : Limited m ls) where
  -- the form of the model m by the limits of its rows
  abbrev f : Form
  f = formed m ls

  -- how many columns the model m has
  abbrev w : ℕ
  w = width m

  -- how many rows the model m has
  abbrev r : ℕ
  r = height m

  -- ---- phase one
  module _ (t : Tableau) (s : Started f t) where
    -- the equations of the form, with the signs of the artificials by how the rows begin
    abbrev F : ℕ → ℕ → ℚ
    F = form_rows f (signs_of s.starts)

    -- the cost of each column in phase one, by how the rows begin
    abbrev first_cost_at : ℕ → ℚ
    first_cost_at = cost_at (first_costs f s.starts)

    -- the start has the form's bounds, and bars none of its structural and logical columns from entering
    pub first_bounds : HasBounds (formed m ls) (bounds_of t)
    first_bounds =
        record {
          lower = s.lower;
          upper = s.upper;
          entering = λ k l. s.tableau.bounds.entering k (omega (arith, l, s.tableau.rows, s.tableau.cols));
        }

    -- phase one ended at a tableau of the start's equations, costs and bounds, with values within these, after fewer
    -- than 3 ^ (the number of all columns) steps. If it was wanted, no column is eligible at its end; if not, no
    -- artificial is stuck.
    pub record IsFirst (one : PrimalEnded) : Type 0 where
      pub after : IsTableauOf (height m) (width m) (form_rows (formed m ls) (signs_of s.starts))
          (cost_at (first_costs (formed m ls) s.starts)) (bounds_of t) one.tableau
      pub within : IsWithinBounds (height m) (width m) (bounds_of t) one.tableau
      pub none : wants_phase_one t ≡ true → (way : Way) (k : ℕ) → k < width m + height m + height m →
          ¬ (IsEligible (bounds_of t) (table_of one.tableau) way k)
      pub not_wanted : wants_phase_one t ≡ false → is_stuck one.tableau ≡ false
      pub few_used : one.used < 3 ^ (width m + height m + height m)

    -- where phase one is not wanted, no artificial is stuck
    never_stuck : wants_phase_one t ≡ false → is_stuck t ≡ false
    never_stuck e = by (is_stuck t) refl
      where
        by : (c : Bool) → is_stuck t ≡ c → is_stuck t ≡ false
        by false p = p
        by true p =
            let o = some_of (λ k. is_artificial t k && not (eq_ℚ (value_at t k) 0ℚ)) t.basic 0 p in
            let z : true ≡ false =
            sym (list_any_at (λ k. is_artificial t k) t.basic o.0 0 o.1
            (and_parts (is_artificial t (basic_at t o.0)) (not (eq_ℚ (value_at t (basic_at t o.0)) 0ℚ)) o.2).0) ∙ e in
            cc

    -- phase one ends, if it does, at a tableau of the equations within the bounds, optimal if it was wanted
    first_ends : (budget : ℕ) (one : PrimalEnded) → phase_one limit budget t ≡ Ok one → IsFirst one
    first_ends budget one ok = by (wants_phase_one t) refl ok
      where
        by : (c : Bool) → wants_phase_one t ≡ c →
            cond c (run_from limit budget 0 t) (Ok (record { end = Optimal; tableau = t; used = 0 })) ≡ Ok one →
            IsFirst one
        by true e ok =
            let o : IsEnd limit r w F first_cost_at (bounds_of t) t 0 one =
            run_ends limit r w F first_cost_at (bounds_of t) some_label budget 0 t one s.tableau s.within ok in
            record {
              after = o.after;
              within = o.within;
              none = λ _. none one.end o.end;
              not_wanted = λ z. let y : true ≡ false = sym e ∙ z in cc;
              few_used =
                  (let q : o.length < 3 ^ (w + r + r) =
                  few r w F first_cost_at (bounds_of t) t o.length s.tableau o.walk in
                  let z : one.used ≡ o.length = o.count ∙ (let y : 0 + o.length ≡ o.length = omega arith in y) in
                  subst (λ k. k < 3 ^ (w + r + r)) (sym z) q);
            }
          where
            none : (end : PrimalEnd) → IsMeant r w F first_cost_at (bounds_of t) limit one.tableau (End end) →
                (way : Way) (k : ℕ) → k < w + r + r → ¬ (IsEligible (bounds_of t) (table_of one.tableau) way k)
            none Optimal m = m
            none (Unbounded j way) g =
                absurd
                (never_goes_on f s.starts s.all (bounds_of t) s.artificial (table_of one.tableau)
                ((run_ends limit r w F first_cost_at
                (bounds_of t) some_label budget 0 t one s.tableau s.within ok).after).tableau way j g)
        by false e ok =
            let z : ◌≡◌ {A = PrimalEnded} (record { end = Optimal; tableau = t; used = 0 }) one = cc in
            subst IsFirst z (record {
              after = s.tableau;
              within = s.within;
              none = λ y. let x : false ≡ true = sym e ∙ y in cc;
              not_wanted = λ _. never_stuck e;
              few_used =
                  few r w F first_cost_at (bounds_of t) t 0 s.tableau (stand_still r w (bounds_of t) t some_label);
            })

    -- where an artificial is not 0 at the end of phase one, phase one was wanted
    pub wanted_where_stuck : (one : PrimalEnded) → IsFirst one → is_stuck one.tableau ≡ true → wants_phase_one t ≡ true
    wanted_where_stuck one o p = by (wants_phase_one t) refl
      where
        by : (c : Bool) → wants_phase_one t ≡ c → wants_phase_one t ≡ true
        by true e = e
        by false e = let z : true ≡ false = sym p ∙ o.not_wanted e in cc

    -- ---- phase two
    module _ (one : PrimalEnded) (o : IsFirst one) (free : is_stuck one.tableau ≡ false)
        (u : Tableau) (ok : phase_two_run limit (formed m ls) one.tableau ≡ Ok u) where
      -- phase two's start is a tableau of the equations and of the form's costs, with values within its own bounds
      two : IsSecond r w F f.cost (bounds_of t) u
      two =
          second_phase limit f r w F first_cost_at
          (bounds_of t) one.tableau u o.after o.within free (omega (arith, cost_length m ls h)) ok

      -- phase two's start has the form's bounds, and bars none of its structural and logical columns from entering
      pub second_bounds : HasBounds (formed m ls) (bounds_of u)
      second_bounds = record {
        lower = λ k l. two.lower k l ∙ s.lower k l;
        upper = λ k l. two.upper k l ∙ s.upper k l;
        entering = λ k l. two.tableau.bounds.entering k (omega (arith, l, two.tableau.rows, two.tableau.cols));
      }

      -- in phase two both bounds of each artificial column are 0
      pub second_fixed : (i : ℕ) → i < height m → (lower_at u (width m + height m + i) ≡ Some 0ℚ)
          × (upper_at u (width m + height m + i) ≡ Some 0ℚ)
      second_fixed i l = two.zero (w + r + i) (omega arith) (omega (arith, l))

  -- ---- both phases
  -- what holds of an end with a stuck artificial after phase one, and of each end of phase two, holds of the end of
  -- both phases
  pub by_phases : (budget : ℕ) (P : PhasesEnd → Type 0) →
      ((t : Tableau) (s : Started (formed m ls) t) (one : PrimalEnded) → IsFirst t s one →
      is_stuck one.tableau ≡ true → P (Infeasible one.tableau one.used))
      → ((t : Tableau) (s : Started (formed m ls) t) (one : PrimalEnded) (o : IsFirst t s one)
      (free : is_stuck one.tableau ≡ false) (u : Tableau) → phase_two_run limit (formed m ls) one.tableau ≡ Ok u →
      (e : PrimalEnded) → IsEnd limit (height m) (width m) (form_rows (formed m ls) (signs_of s.starts))
      (cost_at (formed m ls).cost) (bounds_of u) u one.used e → P (Finished e))
      → (end : PhasesEnd) → phases_run limit budget (formed m ls) ≡ Ok end → P end
  unfolding phases_run
  by_phases budget P stuck finished end ok =
      let a = then_ok (refused_as stop.Past (start_of limit f)) _ end ok in
      let s : Started f a.0 =
      start_is_tableau limit f a.0 (formed_proper m ls h) (refused_ok stop.Past (start_of limit f) a.0 a.1) in
      let c = then_ok (phase_one limit budget a.0) _ end a.2 in
      let one : IsFirst a.0 s c.0 = first_ends a.0 s budget c.0 c.1 in
      by a.0 s c.0 one (is_stuck c.0.tableau) refl c.2
    where
      by : (t : Tableau) (s : Started f t) (one : PrimalEnded) → IsFirst t s one → (c : Bool) →
          is_stuck one.tableau ≡ c →
          cond c (Ok (Infeasible one.tableau one.used)) (phase_two limit budget f one) ≡ Ok end → P end
      by t s one o true e ok = let z : Infeasible one.tableau one.used ≡ end = cc in subst P z (stuck t s one o e)
      by t s one o false e ok =
          let a = then_ok (refused_as stop.Past (phase_two_run limit f one.tableau)) _ end ok in
          let p = refused_ok stop.Past (phase_two_run limit f one.tableau) a.0 a.1 in
          let c = then_ok (run_from limit (budget - one.used) one.used a.0) _ end a.2 in
          let z : Finished c.0 ≡ end = cc in
          let start = two t s one o e a.0 p in
          let d =
          run_ends limit r w (F t s) (cost_at f.cost) (bounds_of a.0) some_label
          (budget - one.used) one.used a.0 c.0 start.tableau start.within c.1 in
          subst P z (finished t s one o e a.0 p c.0 d)

  -- phase two ended at a tableau of the form's equations and costs, with bounds that are the form's for structural and
  -- logical columns
  pub record FinishedOn (e : PrimalEnded) : Type 0 where
    pub starts : List (RowStart ℚ)
    pub bounds : Bounds
    pub bounded : HasBounds (formed m ls) bounds
    pub after : IsTableauOf (height m) (width m) (form_rows (formed m ls) (signs_of starts))
        (cost_at (formed m ls).cost) bounds e.tableau

  -- of an end of both phases as finished: its tableau is one of the form's equations and costs; of an infeasible one
  -- nothing is said
  abbrev pub EndsOn : PhasesEnd → Type 0
  EndsOn (Infeasible t used) = Unit {0}
  EndsOn (Finished e) = FinishedOn e

  -- where both phases finish, their last tableau is one of the form's equations and costs, with bounds that suit the
  -- form
  pub phases_finish : (budget : ℕ) (end : PhasesEnd) → phases_run limit budget f ≡ Ok end → EndsOn end
  phases_finish budget =
      by_phases budget EndsOn (λ t s one o e. tt)
      (λ t s one o free u ok e d. record {
        starts = s.starts;
        bounds = bounds_of u;
        bounded = second_bounds t s one o free u ok;
        after = d.after;
      })

  -- ---- a budget that is enough
  -- with a budget of 3 ^ (the number of all columns) or more, phase one is never spent
  enough_first : (t : Tableau) (s : Started f t) (budget : ℕ) → 3 ^ (w + r + r) ≤ budget →
      phase_one limit budget t ≢ Err stop.Spent
  enough_first t s budget enough ok = by (wants_phase_one t) ok
    where
      by : (c : Bool) →
          cond c (run_from limit budget 0 t) (Ok (record { end = Optimal; tableau = t; used = 0 })) ≡ Err stop.Spent → ⊥
      by true ok =
          let q : budget < 3 ^ (w + r + r) =
          few r w (F t s) (first_cost_at t s) (bounds_of t) t budget s.tableau
          (run_spent limit r w (F t s) (first_cost_at t s) (bounds_of t) some_label budget 0 t s.tableau s.within ok) in
          omega (arith, q, enough)
      by false ok =
          let z : ◌≡◌ {A = Result PrimalEnded (RunStop ℚ)}
          (Ok (record { end = Optimal; tableau = t; used = 0 })) (Err stop.Spent) =
          ok in
          cc

  -- with a budget of 2 * 3 ^ (the number of all columns) or more, phase two is never spent
  enough_second : (t : Tableau) (s : Started f t) (one : PrimalEnded) → IsFirst t s one → is_stuck one.tableau ≡ false →
      (budget : ℕ) → 2 * 3 ^ (w + r + r) ≤ budget → phase_two limit budget f one ≢ Err stop.Spent
  enough_second t s one o free budget enough ok =
      by (then_err (refused_as stop.Past (phase_two_run limit f one.tableau)) _ stop.Spent ok)
    where
      go : (u : Tableau) → phase_two_run limit f one.tableau ≡ Ok u →
          (run_from limit (budget - one.used) one.used u >>= λ two. Ok (Finished two)) ≡ Err stop.Spent → ⊥
      go u p ok =
          finish (then_err (run_from limit (budget - one.used) one.used u) (λ two. Ok (Finished two)) stop.Spent ok)
        where
          finish : ThenErr (run_from limit (budget - one.used) one.used u) (λ two. Ok (Finished two)) stop.Spent → ⊥
          finish (first e) =
              let z : IsSecond r w (F t s) f.cost (bounds_of t) u = two t s one o free u p in
              let q : budget - one.used < 3 ^ (w + r + r) =
              few r w (F t s) (cost_at f.cost) (bounds_of u) u (budget - one.used) z.tableau (run_spent limit r w
              (F t s) (cost_at f.cost) (bounds_of u) some_label (budget - one.used) one.used u z.tableau z.within e) in
              let x : one.used < 3 ^ (w + r + r) = o.few_used in
              omega (arith, q, x, enough)
          finish (second e p ok) =
              let z : ◌≡◌ {A = Result PhasesEnd (RunStop ℚ)} (Ok (Finished e)) (Err stop.Spent) = ok in cc

      by : ThenErr (refused_as stop.Past (phase_two_run limit f one.tableau))
          (λ u. run_from limit (budget - one.used) one.used u >>= λ two. Ok (Finished two)) stop.Spent →
          ⊥
      by (first e) = never_spent (phase_two_run limit f one.tableau) e
      by (second u e ok) = go u (refused_ok stop.Past (phase_two_run limit f one.tableau) u e) ok

  -- with a budget of 2 * 3 ^ (the number of all columns) or more, both phases are never spent
  pub phases_enough : (budget : ℕ) → 2 * 3 ^ (w + r + r) ≤ budget → phases_run limit budget f ≢ Err stop.Spent
  unfolding phases_run
  phases_enough budget enough ok = begin (then_err (refused_as stop.Past (start_of limit f)) _ stop.Spent ok)
    where
      ends : (t : Tableau) (s : Started f t) (one : PrimalEnded) → IsFirst t s one → (c : Bool) →
          is_stuck one.tableau ≡ c →
          cond c (Ok (Infeasible one.tableau one.used)) (phase_two limit budget f one) ≡ Err stop.Spent → ⊥
      ends t s one o true e ok =
          let z : ◌≡◌ {A = Result PhasesEnd (RunStop ℚ)} (Ok (Infeasible one.tableau one.used)) (Err stop.Spent) = ok in
          cc
      ends t s one o false e ok = enough_second t s one o e budget enough ok

      goes : (t : Tableau) → Started f t →
          ThenErr (phase_one limit budget t) (λ one. cond (is_stuck one.tableau)
          (Ok (Infeasible one.tableau one.used)) (phase_two limit budget f one)) stop.Spent →
          ⊥
      goes t s (first e) = enough_first t s budget (omega (arith, enough)) e
      goes t s (second one e ok) = ends t s one (first_ends t s budget one e) (is_stuck one.tableau) refl ok

      begin : ThenErr (refused_as stop.Past (start_of limit f)) (λ t. phase_one limit budget t >>= λ one. cond
          (is_stuck one.tableau) (Ok (Infeasible one.tableau one.used)) (phase_two limit budget f one)) stop.Spent →
          ⊥
      begin (first e) = never_spent (start_of limit f) e
      begin (second t e ok) =
          goes t (start_is_tableau limit f t (formed_proper m ls h) (refused_ok stop.Past (start_of limit f) t e))
          (then_err (phase_one limit budget t)
          (λ one. cond (is_stuck one.tableau) (Ok (Infeasible one.tableau one.used)) (phase_two limit budget f one))
          stop.Spent ok)
