-- Runs go by steps, and so do both phases: what they end with is the tableau after so many of them.
--
-- `given`: a run that no operation refuses has a result.
-- `end_or_a_next`: without a limit each tableau is at an end of the method, or a step leads to a next one.
use Rattle.std.proofs.Common.{◌≡◌, ◌≢◌, ◌⊎◌, inl, inr, ℕ, zero, suc, ◌+◌, ◌-◌, Option, None}
use Rattle.std.proofs.Common.{Result, Ok, Err, Bool, true, false, cond, refl, subst, arith}
use Rattle.spec_exact.specs.Fraction.{ℚ}
use Rattle.spec_exact.specs.Run.{Run, ◌>>=◌, refused_as}
use Rattle.spec_exact.specs.declared.past.Past.{Past}
use Rattle.spec_exact.proofs.Results.{ok_same, err_not_ok, ok_not_err}
use Rattle.spec_simplex.specs.declared.ends.PrimalEnd.{PrimalEnd}
use Rattle.spec_simplex.specs.declared.ends.PrimalEnd.TheVariants.{Optimal}
use Rattle.spec_simplex.specs.declared.ends.Choice.{Choice}
use Rattle.spec_simplex.specs.declared.ends.Choice.TheVariants.{End, Flip, Pivot}
use Rattle.spec_simplex.specs.declared.ends.RunStop.{RunStop}
use Rattle.spec_simplex.specs.declared.ends.RunStop.TheVariants as stop
use Rattle.spec_simplex.specs.Form.{Form}
use Rattle.spec_simplex.specs.Tableau.{Tableau}
use Rattle.spec_simplex.specs.Start.{start_of}
use Rattle.spec_simplex.specs.Step.{choice_run, flip_run, pivot_run}
use Rattle.spec_simplex.specs.Phases.{PrimalEnded, done_run, end_or_spent, end_or_next, run_from}
use Rattle.spec_simplex.specs.Phases.{wants_phase_one, is_stuck, phase_one, phase_two}
use Rattle.spec_simplex.specs.Phases.{phase_two_run, PhasesEnd, Infeasible, Finished, phases_run}
use Rattle.spec_simplex.proofs.RunParts.{then_ok, refused_ok}
use Rattle.spec_simplex.proofs.Walks.{ThenErr, first, second, then_err, never_spent}
use Rattle.spec_simplex.proofs.LimitStart.{choice_agrees, flip_agrees, pivot_agrees}
use Rattle.spec_runs.specs.Steps.{IsChange, IsNext, IsAfter, BeginsPhaseTwo}

-- ---- runs
module _ (limit : Option ℕ) where
  abbrev go_on : ℕ → ℕ → Tableau → Result PrimalEnded (RunStop ℚ)
  go_on left used u = run_from limit left (used + 1) u

  -- so many steps as a run counts lead to its last tableau
  abbrev CountsSteps : Tableau → ℕ → PrimalEnded → Type 0
  CountsSteps t used e = (k : ℕ) × (e.used ≡ used + k) × IsAfter limit k t e.tableau

  stops_here : (t : Tableau) (used : ℕ) (end : PrimalEnd) (e : PrimalEnded) →
      ◌≡◌ {A = PrimalEnded} (record { end = end; tableau = t; used = used }) e → CountsSteps t used e
  stops_here t used end e z =
      subst (CountsSteps t used) z (0, (let y : used ≡ used + 0 = omega arith in y), refl)

  -- a step from t to u, and as many from u as an end counts, are one more from t
  counts_one : (t u : Tableau) (used : ℕ) (e : PrimalEnded) → IsNext limit t u → CountsSteps u (used + 1) e →
      CountsSteps t used e
  counts_one t u used e x o = (suc o.0, (let y : e.used ≡ used + suc o.0 = omega (arith, o.1) in y), (u, x, o.2))

  -- where a run from t, with `used` steps before, ends, its last tableau is as many steps after t as its count is above
  -- `used`
  pub ended_counts : (left used : ℕ) (t : Tableau) (e : PrimalEnded) → run_from limit left used t ≡ Ok e →
      CountsSteps t used e
  unfolding run_from
  ended_counts zero used t e h =
      let o = then_ok (refused_as stop.Past (choice_run limit t)) (end_or_spent t used) e h in by o.0 o.2
    where
      by : (c : Choice ℚ) → end_or_spent t used c ≡ Ok e → CountsSteps t used e
      by (End end) h =
          stops_here t used end e (ok_same {E = RunStop ℚ} (record { end = end; tableau = t; used = used }) e h)
      by (Flip j) h = err_not_ok stop.Spent e h
      by (Pivot p j theta to) h = err_not_ok stop.Spent e h
  ended_counts (suc left) used t e h =
      let o = then_ok (refused_as stop.Past (choice_run limit t)) (end_or_next limit t used (go_on left used)) e h in
      by o.0 (refused_ok stop.Past (choice_run limit t) o.0 o.1) o.2 (λ u. ended_counts left (used + 1) u e)
    where
      by : (c : Choice ℚ) → choice_run limit t ≡ Ok c → end_or_next limit t used (go_on left used) c ≡ Ok e →
          ((u : Tableau) → go_on left used u ≡ Ok e → CountsSteps u (used + 1) e) → CountsSteps t used e
      by (End end) c h more =
          stops_here t used end e (ok_same {E = RunStop ℚ} (record { end = end; tableau = t; used = used }) e h)
      by (Flip j) c h more =
          let o = then_ok (refused_as stop.Past (flip_run limit t j)) (go_on left used) e h in
          counts_one t o.0 used e
          (record { choice = Flip j; chosen = c; changes = tt; done = refused_ok stop.Past (flip_run limit t j) o.0 o.1 })
          (more o.0 o.2)
      by (Pivot p j theta to) c h more =
          let o = then_ok (refused_as stop.Past (pivot_run limit t p j theta to)) (go_on left used) e h in
          counts_one t o.0 used e
          (record {
            choice = Pivot p j theta to;
            chosen = c;
            changes = tt;
            done = refused_ok stop.Past (pivot_run limit t p j theta to) o.0 o.1;
          })
          (more o.0 o.2)

  -- where a run ends as spent with a budget of `left` steps, some tableau is that many steps after the first
  pub spent_counts : (left used : ℕ) (t : Tableau) → run_from limit left used t ≡ Err stop.Spent →
      (u : Tableau) × IsAfter limit left t u
  unfolding run_from
  spent_counts zero used t h = (t, refl)
  spent_counts (suc left) used t h =
      after_choice
      (then_err (refused_as stop.Past (choice_run limit t)) (end_or_next limit t used (go_on left used)) stop.Spent h)
      (λ u. spent_counts left (used + 1) u)
    where
      after_step : (c : Choice ℚ) → choice_run limit t ≡ Ok c → IsChange c →
          ThenErr (refused_as stop.Past (done_run limit t c)) (go_on left used) stop.Spent →
          ((u : Tableau) → go_on left used u ≡ Err stop.Spent → (v : Tableau) × IsAfter limit left u v) →
          (v : Tableau) × IsAfter limit (suc left) t v
      after_step c chosen changes (first e) more = absurd (never_spent (done_run limit t c) e)
      after_step c chosen changes (second u e h) more =
          let o = more u h in
          let x : IsNext limit t u = record {
            choice = c;
            chosen = chosen;
            changes = changes;
            done = refused_ok stop.Past (done_run limit t c) u e;
          } in
          (o.0, (u, x, o.1))

      by : (c : Choice ℚ) → choice_run limit t ≡ Ok c → end_or_next limit t used (go_on left used) c ≡ Err stop.Spent →
          ((u : Tableau) → go_on left used u ≡ Err stop.Spent → (v : Tableau) × IsAfter limit left u v) →
          (v : Tableau) × IsAfter limit (suc left) t v
      by (End end) c h more =
          ok_not_err {A = PrimalEnded} (record { end = end; tableau = t; used = used }) stop.Spent h
      by (Flip j) c h more =
          after_step (Flip j) c tt
          (then_err (refused_as stop.Past (flip_run limit t j)) (go_on left used) stop.Spent h) more
      by (Pivot p j theta to) c h more =
          after_step (Pivot p j theta to) c tt
          (then_err (refused_as stop.Past (pivot_run limit t p j theta to)) (go_on left used) stop.Spent h) more

      after_choice : ThenErr (refused_as stop.Past (choice_run limit t))
          (end_or_next limit t used (go_on left used)) stop.Spent
          → ((u : Tableau) → go_on left used u ≡ Err stop.Spent → (v : Tableau) × IsAfter limit left u v) →
          (v : Tableau) × IsAfter limit (suc left) t v
      after_choice (first e) more = absurd (never_spent (choice_run limit t) e)
      after_choice (second c e h) more = by c (refused_ok stop.Past (choice_run limit t) c e) h more

-- ---- without a limit
pub given : {A : Type 0} (o : Run A) → ((p : Past ℚ) → o ≢ Err p) → (a : A) × (o ≡ Ok a)
given (Ok a) never = (a, refl)
given (Err p) never = absurd (never p refl)

pub end_or_a_next : (t : Tableau) →
    ((end : PrimalEnd) × (choice_run None t ≡ Ok (End end))) ⊎ ((u : Tableau) × IsNext None t u)
end_or_a_next t = let o = given (choice_run None t) (choice_agrees None t).exact in by o.0 o.1
  where
    by : (c : Choice ℚ) → choice_run None t ≡ Ok c →
        ((end : PrimalEnd) × (choice_run None t ≡ Ok (End end))) ⊎ ((u : Tableau) × IsNext None t u)
    by (End end) chosen = inl (end, chosen)
    by (Flip j) chosen =
        let o = given (flip_run None t j) (flip_agrees None t j).exact in
        inr (o.0, record { choice = Flip j; chosen = chosen; changes = tt; done = o.1 })
    by (Pivot p j theta to) chosen =
        let o = given (pivot_run None t p j theta to) (pivot_agrees None t p j theta to).exact in
        inr (o.0, record { choice = Pivot p j theta to; chosen = chosen; changes = tt; done = o.1 })

-- ---- both phases
module _ (limit : Option ℕ) (budget : ℕ) where
  -- phase one ends as many steps after t as it counts
  one_counts : (t : Tableau) (one : PrimalEnded) → phase_one limit budget t ≡ Ok one → CountsSteps limit t 0 one
  one_counts t one ok = by (wants_phase_one t) ok
    where
      by : (c : Bool) →
          cond c (run_from limit budget 0 t) (Ok (record { end = Optimal; tableau = t; used = 0 })) ≡ Ok one →
          CountsSteps limit t 0 one
      by true ok = ended_counts limit budget 0 t one ok
      by false ok =
          stops_here limit t 0 Optimal one
          (ok_same {E = RunStop ℚ} (record { end = Optimal; tableau = t; used = 0 }) one ok)

  -- where phase one is spent, some tableau is as many steps after t as the budget
  one_spent : (t : Tableau) → phase_one limit budget t ≡ Err stop.Spent → (u : Tableau) × IsAfter limit budget t u
  one_spent t ok = by (wants_phase_one t) ok
    where
      by : (c : Bool) →
          cond c (run_from limit budget 0 t) (Ok (record { end = Optimal; tableau = t; used = 0 })) ≡ Err stop.Spent →
          (u : Tableau) × IsAfter limit budget t u
      by true ok = spent_counts limit budget 0 t ok
      by false ok = ok_not_err {A = PrimalEnded} (record { end = Optimal; tableau = t; used = 0 }) stop.Spent ok

  module _ (f : Form) where
    -- ---- an end
    abbrev EndsInOne : Tableau → ℕ → Type 0
    EndsInOne u used = (t : Tableau) × (start_of limit f ≡ Ok t) × IsAfter limit used t u

    abbrev EndsInTwo : PrimalEnded → Type 0
    EndsInTwo e = (t : Tableau) × (two : BeginsPhaseTwo limit budget f t) × (k : ℕ) × (e.used ≡ two.one.used + k)
        × IsAfter limit k t e.tableau

    abbrev EndsSo : PhasesEnd → Type 0
    EndsSo (Infeasible u used) = EndsInOne u used
    EndsSo (Finished e) = EndsInTwo e

    ends_so : (end : PhasesEnd) → phases_run limit budget f ≡ Ok end → EndsSo end
    unfolding phases_run
    ends_so end ok =
        let a = then_ok (refused_as stop.Past (start_of limit f)) _ end ok in
        let c = then_ok (phase_one limit budget a.0) _ end a.2 in
        by a.0 (refused_ok stop.Past (start_of limit f) a.0 a.1) c.0 c.1 (is_stuck c.0.tableau) refl c.2
      where
        by : (t : Tableau) → start_of limit f ≡ Ok t → (one : PrimalEnded) → phase_one limit budget t ≡ Ok one →
            (c : Bool) → is_stuck one.tableau ≡ c →
            cond c (Ok (Infeasible one.tableau one.used)) (phase_two limit budget f one) ≡ Ok end → EndsSo end
        by t started one ended true stuck ok =
            let z : Infeasible one.tableau one.used ≡ end =
            ok_same {E = RunStop ℚ} (Infeasible one.tableau one.used) end ok in
            let o = one_counts t one ended in
            let count : o.0 ≡ one.used = omega (arith, o.1) in
            subst EndsSo z (t, started, subst (λ k. IsAfter limit k t one.tableau) count o.2)
        by t started one ended false free ok =
            let a = then_ok (refused_as stop.Past (phase_two_run limit f one.tableau)) _ end ok in
            let c = then_ok (run_from limit (budget - one.used) one.used a.0) _ end a.2 in
            let z : Finished c.0 ≡ end = ok_same {E = RunStop ℚ} (Finished c.0) end c.2 in
            let o = ended_counts limit (budget - one.used) one.used a.0 c.0 c.1 in
            let two : BeginsPhaseTwo limit budget f a.0 = record {
              start = t;
              one = one;
              started = started;
              ended = ended;
              free = free;
              begun = refused_ok stop.Past (phase_two_run limit f one.tableau) a.0 a.1;
            } in
            subst EndsSo z (a.0, two, o.0, o.1, o.2)

    -- where both phases end as infeasible after `used` steps, the tableau is that many steps after the form's start
    pub infeasible_counts : (t : Tableau) (used : ℕ) → phases_run limit budget f ≡ Ok (Infeasible t used) →
        (s : Tableau) × (start_of limit f ≡ Ok s) × IsAfter limit used s t
    infeasible_counts t used = ends_so (Infeasible t used)

    -- where both phases finish, the tableau is as many steps after the beginning of phase two as the end counts beyond
    -- phase one
    pub finished_counts : (e : PrimalEnded) → phases_run limit budget f ≡ Ok (Finished e) →
        (t : Tableau) × (two : BeginsPhaseTwo limit budget f t) × (k : ℕ) × (e.used ≡ two.one.used + k)
        × IsAfter limit k t e.tableau
    finished_counts e = ends_so (Finished e)

    -- ---- a spent budget
    abbrev SpentSo : Type 0
    SpentSo =
        ((t u : Tableau) × (start_of limit f ≡ Ok t) × IsAfter limit budget t u)
        ⊎ ((t u : Tableau) × (two : BeginsPhaseTwo limit budget f t) × IsAfter limit (budget - two.one.used) t u)

    two_spent : (t : Tableau) → start_of limit f ≡ Ok t → (one : PrimalEnded) → phase_one limit budget t ≡ Ok one →
        is_stuck one.tableau ≡ false → phase_two limit budget f one ≡ Err stop.Spent → SpentSo
    two_spent t started one ended free ok =
        by (then_err (refused_as stop.Past (phase_two_run limit f one.tableau)) _ stop.Spent ok)
      where
        go : (u : Tableau) → phase_two_run limit f one.tableau ≡ Ok u →
            ThenErr (run_from limit (budget - one.used) one.used u) (λ two. Ok (Finished two)) stop.Spent → SpentSo
        go u begun (first e) =
            let o = spent_counts limit (budget - one.used) one.used u e in
            inr (
              u,
              o.0,
              record { start = t; one = one; started = started; ended = ended; free = free; begun = begun },
              o.1,
            )
        go u begun (second e p ok) = ok_not_err {A = PhasesEnd} (Finished e) stop.Spent ok

        by : ThenErr (refused_as stop.Past (phase_two_run limit f one.tableau))
            (λ u. run_from limit (budget - one.used) one.used u >>= λ two. Ok (Finished two)) stop.Spent → SpentSo
        by (first e) = absurd (never_spent (phase_two_run limit f one.tableau) e)
        by (second u e ok) =
            go u (refused_ok stop.Past (phase_two_run limit f one.tableau) u e)
            (then_err (run_from limit (budget - one.used) one.used u) (λ two. Ok (Finished two)) stop.Spent ok)

    -- where both phases are spent, the whole budget of steps was made in phase one, or what phase one left of it in
    -- phase two
    pub spent_so : phases_run limit budget f ≡ Err stop.Spent →
        ((t u : Tableau) × (start_of limit f ≡ Ok t) × IsAfter limit budget t u)
        ⊎ ((t u : Tableau) × (two : BeginsPhaseTwo limit budget f t) × IsAfter limit (budget - two.one.used) t u)
    unfolding phases_run
    spent_so ok = begin (then_err (refused_as stop.Past (start_of limit f)) _ stop.Spent ok)
      where
        after_one : (t : Tableau) → start_of limit f ≡ Ok t → (one : PrimalEnded) → phase_one limit budget t ≡ Ok one →
            (c : Bool) → is_stuck one.tableau ≡ c →
            cond c (Ok (Infeasible one.tableau one.used)) (phase_two limit budget f one) ≡ Err stop.Spent → SpentSo
        after_one t started one ended true stuck ok =
            ok_not_err {A = PhasesEnd} (Infeasible one.tableau one.used) stop.Spent ok
        after_one t started one ended false free ok = two_spent t started one ended free ok

        goes : (t : Tableau) → start_of limit f ≡ Ok t →
            ThenErr (phase_one limit budget t) (λ one. cond (is_stuck one.tableau)
            (Ok (Infeasible one.tableau one.used)) (phase_two limit budget f one)) stop.Spent → SpentSo
        goes t started (first e) = let o = one_spent t e in inl (t, o.0, started, o.1)
        goes t started (second one ended ok) = after_one t started one ended (is_stuck one.tableau) refl ok

        begin : ThenErr (refused_as stop.Past (start_of limit f)) (λ t. phase_one limit budget t >>= λ one. cond
            (is_stuck one.tableau) (Ok (Infeasible one.tableau one.used)) (phase_two limit budget f one)) stop.Spent →
            SpentSo
        begin (first e) = absurd (never_spent (start_of limit f) e)
        begin (second t e ok) =
            goes t (refused_ok stop.Past (start_of limit f) t e)
            (then_err (phase_one limit budget t)
            (λ one. cond (is_stuck one.tableau) (Ok (Infeasible one.tableau one.used)) (phase_two limit budget f one))
            stop.Spent ok)
