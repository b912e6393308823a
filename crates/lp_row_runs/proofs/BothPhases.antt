-- Both phases over rows, part by part: what each ends with, and what is left of it.
--
-- `is_end`: where certificate and basis are what tableau t gives for an end, the row end of them after `used` steps is
--   the `row_end` of t's end.
-- `over_stays`: a run that stopped for good leaves no state from which wider words are to go on.
-- `few_costs`: where rows of a form's size show a tableau, the form has no more costs than the tableau has columns,
--   artificial ones counted.
use Rattle.std.proofs.Common.{◌≡◌, ℕ, ◌+◌, ◌-◌, ◌≤◌, List, length, Option, Some, None}
use Rattle.std.proofs.Common.{Result, Ok, IfOk, true, false, cond}
use Rattle.std.proofs.Common.{sym, ap, ap₂, ◌∙◌, subst, arith}
use Rattle.spec_exact.specs.Fraction.{ℚ}
use Rattle.spec_check.specs.declared.certificate.Certificate.{Certificate}
use Rattle.spec_pivot.specs.declared.status.Status.{Status}
use Rattle.spec_simplex.specs.declared.ends.PrimalEnd.{PrimalEnd}
use Rattle.spec_simplex.specs.declared.ends.PrimalEnd.TheVariants.{Optimal}
use Rattle.spec_simplex.specs.declared.ends.RunStop.{RunStop}
use Rattle.spec_simplex.specs.declared.ends.RunStop.TheVariants as stop
use Rattle.spec_exact.specs.Run.{◌>>=◌, refused_as}
use Rattle.spec_simplex.specs.Form.{Form}
use Rattle.spec_simplex.specs.Tableau.{Tableau}
use Rattle.spec_simplex.specs.Phases.{PrimalEnded, PhasesEnd, Infeasible, Finished, is_stuck, phase_two, phase_two_run}
use Rattle.spec_simplex.specs.Phases.{run_from}
use Rattle.lp_rows.specs.declared.tableau.tableau.RowTableau.{RowTableau}
use Rattle.lp_rows.specs.Shows.{IsReached, Shows, height}
use Rattle.lp_rows.specs.Ends.{certificate_as, basis_by}
pub use Rattle.lp_rows.proofs.SameNumbers.{of_some}
use Rattle.lp_row_runs.specs.Steps.{ComesTo, EndsAt}
use Rattle.lp_row_runs.specs.Phases.{after_one, rest_run, end_by, row_end, row_end_in, IsLeft, PausesWith, EndsWith}
use Rattle.lp_row_runs.specs.Phases.{StaysReady, IsOver}
use Rattle.lp_row_runs.specs.declared.phases.Phase.{Phase}
use Rattle.lp_row_runs.specs.declared.phases.Phase.TheVariants as phase
use Rattle.lp_row_runs.specs.declared.phases.State.{State}
use Rattle.lp_row_runs.specs.declared.phases.RowEnd.{RowEnd}
use Rattle.lp_row_runs.specs.declared.phases.PhasesPause.{PhasesPause}
use Rattle.lp_row_runs.specs.declared.phases.PhasesPause.TheVariants.{Ended, Narrow, GaveUp}
use Rattle.lp_row_runs.proofs.Reached.{second_given, second_reached}

-- ---- an end
-- the end of a run over rows with this certificate, basis and count of pivots and flips
abbrev row : {N : Type 0} → Certificate (List N) → Option (List Status) → ℕ → RowEnd N
row certificate basis pivots = record { certificate = certificate; basis = basis; pivots = pivots }

pub is_end : {N : Type 0} (of : ℚ → N) (t : Tableau) (used : ℕ) (end : Option PrimalEnd)
    (certificate : Certificate (List N)) (basis : Option (List Status)) → certificate ≡ certificate_as of t end →
    basis ≡ basis_by t end → row certificate basis used ≡ row_end of (end_by t used end)
is_end of t used None certificate basis c b = ap₂ (λ c b. row c b used) c b
is_end of t used (Some end) certificate basis c b = ap₂ (λ c b. row c b used) c b

pub over_stays : {N T : Type 0} (value : T → ℕ) (f : Form) (s : State T) (pause : PhasesPause N) → IsOver pause →
    StaysReady value f s pause
over_stays value f s (Ended e) h = tt
over_stays value f s Narrow h = absurd h
over_stays value f s GaveUp h = tt

module _ {N T : Type 0} (of : ℚ → N) (value : T → ℕ) (budget : ℕ) (f : Form) where
  -- where both phases end as `end_by` says, a pause that is that end's certificate and basis is what the run pauses
  -- with
  pub at_end : (whole : Result PhasesEnd (RunStop ℚ)) (u : Tableau) (now : ℕ) (end : Option PrimalEnd) (s : State T)
      (pause : PhasesPause N) → whole ≡ Ok (end_by u now end) → EndsWith of u now end pause →
      PausesWith of value budget f whole s pause
  at_end whole u now end s (Ended e) h k = ap (row_end_in of) h ∙ ap Ok (sym k)
  at_end whole u now end s Narrow h k = absurd k
  at_end whole u now end s GaveUp h k = tt

  -- ---- phase two
  module _ (used : ℕ) (t : Tableau) where
    abbrev finish : PrimalEnded → Result PhasesEnd (RunStop ℚ)
    finish two = Ok (Finished two)

    -- where the steps of phase two from t end, a pause that is the end's certificate and basis is what the run pauses
    -- with
    pub second_ends : (r : RowTableau T) (now : ℕ) (end : PrimalEnd) (e : EndsAt value budget used t r now end)
        (s : State T) (pause : PhasesPause N) → EndsWith of e.tableau now (Some end) pause →
        PausesWith of value budget f (rest_run budget f phase.Two used t) s pause
    second_ends r now end e s pause k =
        at_end (rest_run budget f phase.Two used t) e.tableau now (Some end) s pause
        (ap (λ o. o >>= finish) e.ends) k

    -- where steps of phase two lead from t to a state, what is left of the run from t is the run from that state
    pub second_left : (s : State T) → s.phase ≡ phase.Two → ComesTo value budget used t s.tab s.used →
        IsLeft value budget f (rest_run budget f phase.Two used t) s
    second_left s p c = record {
      tableau = c.tableau;
      reached = c.reached;
      shown = c.shown;
      same = ap (λ o. o >>= finish) c.same ∙ ap (λ p. rest_run budget f p s.used c.tableau) (sym p);
    }

    -- ---- phase one
    -- where the steps of phase one from t end, what the run pauses with from the end of phase one on is what it pauses
    -- with from t
    pub first_ends : (old : Phase) → old ≡ phase.One → (r : RowTableau T) (now : ℕ) (end : PrimalEnd)
        (e : EndsAt value budget used t r now end) (s : State T) (pause : PhasesPause N) →
        PausesWith of value budget f (rest_run budget f phase.Between now e.tableau) s pause →
        PausesWith of value budget f (rest_run budget f old used t) s pause
    first_ends old is r now end e s pause k =
        subst (λ old. PausesWith of value budget f (rest_run budget f old used t) s pause) (sym is)
        (subst (λ whole. PausesWith of value budget f whole s pause) (sym (ap (λ o. o >>= after_one budget f) e.ends)) k)

    -- where steps of phase one lead from t to a state, what is left of the run from t is the run from that state
    pub first_left : (old : Phase) → old ≡ phase.One → (s : State T) → s.phase ≡ old →
        ComesTo value budget used t s.tab s.used → IsLeft value budget f (rest_run budget f old used t) s
    first_left old is s p c =
        subst (λ old. IsLeft value budget f (rest_run budget f old used t) s) (sym is) (record {
          tableau = c.tableau;
          reached = c.reached;
          shown = c.shown;
          same =
              ap (λ o. o >>= after_one budget f) c.same
              ∙ ap (λ p. rest_run budget f p s.used c.tableau) (sym (p ∙ is));
        })

    -- ---- between them
    -- the end of phase one at t, after `used` steps, as `Optimal`
    abbrev one : PrimalEnded
    one = record { end = Optimal; tableau = t; used = used }

    -- where an artificial of t is not 0 after phase one, the run ends with the certificate of an infeasible model, by t
    pub stuck_ends : (s : State T) (pause : PhasesPause N) → is_stuck t ≡ true → EndsWith of t used None pause →
        PausesWith of value budget f (rest_run budget f phase.Between used t) s pause
    stuck_ends s pause h k =
        at_end (rest_run budget f phase.Between used t) t used None s pause
        (ap (λ b. cond b (Ok (Infeasible t used)) (phase_two None budget f one)) h) k

    -- where no artificial is stuck, what is left between the phases is what is left of phase two from the tableau that
    -- begins it
    between_is : (u : Tableau) → is_stuck t ≡ false → phase_two_run None f t ≡ Ok u →
        rest_run budget f phase.Between used t ≡ rest_run budget f phase.Two used u
    between_is u free d =
        ap (λ b. cond b (Ok (Infeasible t used)) (phase_two None budget f one)) free
        ∙ ap (λ o. refused_as stop.Past o >>= λ u. run_from None (budget - used) used u >>= finish) d

    -- where no artificial of t is stuck after phase one, what the run pauses with is what phase two pauses with, from
    -- the tableau that begins it
    pub goes_second : {E : Type 0} (s : State T) (result : Result (PhasesPause N) E) → IsReached t → is_stuck t ≡ false →
        length f.cost ≤ t.cols + t.rows + t.rows →
        ((u : Tableau) → IsReached u → phase_two_run None f t ≡ Ok u →
        IfOk result (PausesWith of value budget f (rest_run budget f phase.Two used u) s)) →
        IfOk result (PausesWith of value budget f (rest_run budget f phase.Between used t) s)
    goes_second s result r free few k =
        let g = second_given f t in
        subst (λ whole. IfOk result (PausesWith of value budget f whole s)) (sym (between_is g.0 free g.1))
        (k g.0 (second_reached f t g.0 r free few g.1) g.1)

-- the form's costs are those of structural and logical columns
pub few_costs : {T : Type 0} (value : T → ℕ) (f : Form) (r : RowTableau T) (t : Tableau) → Shows value r t →
    f.rows ≡ height r → f.cols ≡ r.cols → length f.cost ≡ f.cols + f.rows → length f.cost ≤ t.cols + t.rows + t.rows
few_costs value f r t s a b c =
    by (length f.cost) f.cols f.rows t.cols t.rows (b ∙ s.cols) (a ∙ s.rows) c
  where
    by : (n cols rows x y : ℕ) → cols ≡ x → rows ≡ y → n ≡ cols + rows → n ≤ x + y + y
    by n cols rows x y a b c = omega (arith, a, b, c)
