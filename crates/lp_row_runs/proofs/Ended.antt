-- The end of phase two from the tableau of a basis is that of the warm start from the basis.
--
-- `same_at`: the certificate of an end of phase two in exact fractions is the stated certificate of that end.
-- `rows_of`: where b is the rows r, and P holds of the rows of b if it has any, P holds of r.
-- `ready_of`: where b is the state s, and what b leaves is ready if it is a state, s is ready: a run may go on from it.
use Rattle.std.proofs.Common.{◌≡◌, ℕ, ◌-◌, List, Option, Some, None, IfSome, IfOk, Result, Ok, Err, refl, sym, ap}
use Rattle.std.proofs.Common.{subst, subst₂, ◌∙◌, ◌+◌, ◌≤◌, length, arith}
use Rattle.std.proofs.lemmas.Result.{IfOk-weaker}
use Rattle.spec_exact.specs.Fraction.{ℚ}
use Rattle.spec_exact.specs.Run.{◌>>=◌, refused_as}
use Rattle.spec_pivot.specs.declared.status.Status.{Status}
use Rattle.spec_simplex.specs.declared.ends.Fit.TheVariants as fit
use Rattle.spec_simplex.specs.declared.ends.PrimalEnd.{PrimalEnd}
use Rattle.spec_simplex.specs.declared.ends.PrimalEnd.TheVariants as primal
use Rattle.spec_simplex.specs.declared.ends.RunStop.{RunStop}
use Rattle.spec_simplex.specs.declared.ends.WarmStop.TheVariants as fall
use Rattle.spec_simplex.specs.Fit.{fit_run}
use Rattle.spec_simplex.specs.Form.{Form}
use Rattle.spec_simplex.specs.Eliminate.{IsBasisOf, start_from}
use Rattle.spec_simplex.specs.Phases.{PrimalEnded, Finished, run_from}
use Rattle.spec_simplex.specs.Tableau.{Tableau}
use Rattle.spec_runs.specs.Cold.{certificate_at}
use Rattle.spec_simplex.specs.Begins.{IsProper}
use Rattle.spec_runs.specs.Based.{BeginsFrom}
use Rattle.spec_runs.proofs.BasisTableau.{start_begins_from}
use Rattle.spec_runs.specs.Warm.{stopped_as, start_stop, run_stop, ByPrimal, run_by, warm_run}
use Rattle.lp_rows.specs.declared.tableau.tableau.RowTableau.{RowTableau}
use Rattle.lp_rows.specs.Shows.{Shows}
use Rattle.lp_rows.specs.Ends.{certificate_as}
use Rattle.lp_rows.proofs.Converted.{if_some}
use Rattle.lp_row_runs.specs.Cold.{EndsAs}
use Rattle.lp_row_runs.specs.Phases.{rest_run, row_end, row_end_in, HasCosts, IsReady}
use Rattle.lp_row_runs.specs.declared.phases.Phase.TheVariants.{Two}
use Rattle.lp_row_runs.specs.declared.phases.State.{State}
use Rattle.lp_row_runs.specs.declared.phases.RowEnd.{RowEnd}
use Rattle.lp_row_runs.specs.declared.based.Based.{Based}
use Rattle.lp_row_runs.specs.declared.based.Based.TheVariants as based
use Rattle.lp_row_runs.specs.declared.start.Begun.{Begun}
use Rattle.lp_row_runs.specs.declared.start.Begun.TheVariants as begun
use Rattle.lp_row_runs.specs.Rows.{IfRows, ShowsStart}
use Rattle.lp_row_runs.specs.Warm.{EndsFromBasis, StandsAtBasis, BeginsAtBasis, BeginsReady}
use Rattle.lp_row_runs.proofs.PrimalFeasibleStarts.{basis_reached}

pub same_at : (t : Tableau) (end : PrimalEnd) → certificate_as (λ q. q) t (Some end) ≡ certificate_at t end
same_at t primal.Optimal = refl
same_at t (primal.Unbounded j way) = refl

module _ (budget : ℕ) (f : Form) (basis : List Status) (t : Tableau) (starts : start_from None f basis ≡ Ok t)
    (fits : fit_run None t ≡ Ok fit.Primal) where
  -- where the steps from the start of a basis end as o, the warm start from the basis ends so, by the primal method
  run_is : (o : Result PrimalEnded (RunStop ℚ)) → run_from None budget 0 t ≡ o →
      warm_run None budget f basis ≡ (stopped_as run_stop o >>= λ e. Ok (ByPrimal e))
  unfolding warm_run
  run_is o h =
      ap (λ o. stopped_as start_stop o >>= λ t. refused_as fall.Past (fit_run None t) >>= run_by None budget t) starts
      ∙ ap (λ o. refused_as fall.Past o >>= run_by None budget t) fits
      ∙ ap (λ o. stopped_as run_stop o >>= λ e. Ok (ByPrimal e)) h

  -- a row end of phase two from the start of a basis is one of the warm start from the basis
  one_ends : (e : RowEnd ℚ) → row_end_in (λ q. q) (rest_run budget f Two 0 t) ≡ Ok e → EndsFromBasis budget f basis e
  one_ends e h = by (run_from None budget 0 t) refl
      ((let z : budget ≡ budget - 0 = omega arith in
      ap (λ n. row_end_in (λ q. q) (run_from None n 0 t >>= λ two. Ok (Finished two))) z) ∙ h)
    where
      by : (o : Result PrimalEnded (RunStop ℚ)) → run_from None budget 0 t ≡ o →
          row_end_in (λ q. q) (run_from None budget 0 t >>= λ two. Ok (Finished two)) ≡ Ok e →
          EndsFromBasis budget f basis e
      by (Ok two) r k =
          let z : ◌≡◌ {A = Result (RowEnd ℚ) (RunStop ℚ)} (Ok (row_end (λ q. q) (Finished two))) (Ok e) =
          sym (ap (λ o. row_end_in (λ q. q) (o >>= λ two. Ok (Finished two))) r) ∙ k in
          let is : row_end (λ q. q) (Finished two) ≡ e = cc in
          subst (EndsFromBasis budget f basis) is (record {
            end = ByPrimal two;
            run = run_is (Ok two) r;
            certificate = same_at two.tableau two.end;
            basis = refl;
            pivots = refl;
          })
      by (Err s) r k =
          let z : ◌≡◌ {A = Result (RowEnd ℚ) (RunStop ℚ)} (Err s) (Ok e) =
          sym (ap (λ o. row_end_in (λ q. q) (o >>= λ two. Ok (Finished two))) r) ∙ k in
          cc

  -- where a result ends phase two from the start t of a basis, it ends the warm start from that basis
  pub ends_from : {E : Type 0} (result : Result (Option (RowEnd ℚ)) E) →
      IfOk result (EndsAs (λ q. q) (rest_run budget f Two 0 t)) →
      IfOk result (λ o. IfSome o (EndsFromBasis budget f basis))
  ends_from result h =
      IfOk-weaker result (EndsAs (λ q. q) (rest_run budget f Two 0 t)) (λ o. IfSome o (EndsFromBasis budget f basis))
      (λ o k. if_some _ _ o (λ e q. one_ends e q) k) h

-- ---- where a run begins
pub rows_of : {T : Type 0} (P : RowTableau T → Type 0) (b : Based T) (r : RowTableau T) → b ≡ based.Rows r →
    IfRows P b → P r
rows_of P b r e h = subst (IfRows P) e h

pub ready_of : {T : Type 0} (value : T → ℕ) (f : Form) (b : Begun T) (s : State T) → b ≡ begun.Ready s →
    BeginsReady value f b → IsReady value f s
ready_of value f b s e h = subst (BeginsReady value f) e h

module _ {T : Type 0} (value : T → ℕ) (f : Form) (basis : List Status) where
  -- where b is the state s, and b begins at the basis, s stands at the basis
  pub stands_of : (b : Begun T) (s : State T) → b ≡ begun.Ready s → BeginsAtBasis value f basis b →
      StandsAtBasis value f basis s
  stands_of b s e h = subst (BeginsAtBasis value f basis) e h

  -- a state of phase two, after no step, over rows that show the start from a basis and are fit, stands at the basis
  pub stands_at : (r : RowTableau T) (s : State T) → s.tab ≡ r → s.phase ≡ Two → s.used ≡ 0 → IsProper f →
      IsBasisOf f basis → HasCosts f →
      ((f : Form) (t : Tableau) → BeginsFrom f t → Shows value r t → fit_run None t ≡ Ok fit.Primal) →
      ShowsStart value f basis r → StandsAtBasis value f basis s
  stands_at r s tab phase used proper fits costs fit b =
      let few : length f.cost ≤ f.cols + f.rows + f.rows = omega (arith, costs) in
      let begins = start_begins_from None f basis b.tableau proper fits few b.starts in
      let is = fit f b.tableau begins b.shown in
      record {
        tableau = b.tableau;
        starts = b.starts;
        fits = is;
        reached = basis_reached f b.tableau begins proper is;
        shown = subst (λ r. Shows value r b.tableau) (sym tab) b.shown;
        phase = phase;
        used = used;
      }

  -- where a state stands at a basis, a result that ends the run from the state ends the warm start from the basis
  pub stands_ends : {E : Type 0} (budget : ℕ) (s : State T) (a : StandsAtBasis value f basis s)
      (result : Result (Option (RowEnd ℚ)) E) →
      IfOk result (EndsAs (λ q. q) (rest_run budget f s.phase s.used a.tableau)) →
      IfOk result (λ o. IfSome o (EndsFromBasis budget f basis))
  stands_ends budget s a result h =
      ends_from budget f basis a.tableau a.starts a.fits result
      (subst₂ (λ phase used. IfOk result (EndsAs (λ q. q) (rest_run budget f phase used a.tableau))) a.phase a.used h)
