-- Factors taken anew, part by part.
--
-- `stops_after`: a run that stops stops what goes on from it, for the same reason.
-- `basis_long`: the statuses for the factors are as many as the form has columns and rows.
use Rattle.std.proofs.Common.{◌≡◌, ℕ, ◌+◌, List, length, map, Result, Some, Ok, Err, sym, ap, ap₂, ◌∙◌, subst}
use Rattle.spec_exact.specs.Fraction.{ℚ}
use Rattle.spec_pivot.specs.declared.status.Status.{Status}
use Rattle.spec_simplex.specs.declared.ends.RunStop.{RunStop}
use Rattle.spec_simplex.specs.declared.ends.RunStop.TheVariants as cause
use Rattle.spec_simplex.specs.Form.{Form}
use Rattle.spec_exact.specs.Run.{◌>>=◌}
use Rattle.spec_simplex.specs.Tableau.{Tableau, form_columns}
use Rattle.spec_exact.proofs.RunsInOrder.{length-made}
use Rattle.spec_exact.specs.Narrow.{number_limit}
use Rattle.spec_runs.specs.Cold.{basis_status}
use Rattle.spec_factor.specs.Factors.{Factors, factor_run}
use Rattle.spec_factor.specs.Revised.{Revised, standing, factor_basis, factor_stop, refactored, refactor_run}
use Rattle.lp_frac.specs.declared.stop.Stop.{Stop}
use Rattle.lp_revised.specs.declared.stop.Spent.{Spent}
use Rattle.lp_frac.specs.declared.stop.Stop.TheVariants as stop
use Rattle.lp_revised.specs.Answer.{StopsRevised}

-- a run that stops stops what goes on from it
pub stops_after : {A B : Type 0} (run : Result A (RunStop ℚ)) (next : A → Result B (RunStop ℚ)) (e : Stop Spent) →
    StopsRevised run e → StopsRevised (run >>= next) e
stops_after (Ok a) next (stop.Past p) h = cc
stops_after (Ok a) next (stop.Cause why) h = cc
stops_after run next stop.NoMemory h = tt
stops_after (Err q) next (stop.Past p) h = let w : q ≡ cause.Past p = cc in ap (λ e. Err e) w
stops_after (Err q) next (stop.Cause why) h = let w : q ≡ cause.Spent = cc in ap (λ e. Err e) w

pub basis_long : (t : Tableau) (f : Form) (basis : List Status) → basis ≡ factor_basis t → f.rows ≡ t.rows →
    f.cols ≡ t.cols → length basis ≡ f.cols + f.rows
basis_long t f basis b r c = ap length b ∙ length-made (form_columns t) (basis_status t) ∙ sym (ap₂ (λ m n. m + n) c r)

module _ (f : Form) (now : Revised) (basis : List Status) (b : basis ≡ factor_basis now.bare) where
  by_basis : (factor_stop (factor_run (Some number_limit) f basis) >>= λ s. Ok (refactored now.bare s)) ≡ refactor_run
      (Some number_limit) f now.bare
  unfolding refactor_run
  by_basis = ap (λ basis. factor_stop (factor_run (Some number_limit) f basis) >>= λ s. Ok (refactored now.bare s)) b

  -- where making factors for the statuses of a state stops for a reason, taking its factors anew stops for it
  pub no_factors : (e : Stop Spent) → StopsRevised (factor_stop (factor_run (Some number_limit) f basis)) e →
      StopsRevised (refactor_run (Some number_limit) f now.bare) e
  no_factors e h =
      subst (λ r. StopsRevised r e) by_basis (stops_after (factor_stop (factor_run (Some number_limit) f basis))
      (λ s. Ok (refactored now.bare s)) e h)

  -- where factors are made for the statuses of a state, taking them anew gives the state with these pairs, none
  -- replaced, and the basic columns in their places
  pub renewed : (old : Revised) (factors : Factors) (items : List ℕ) → old ≡ now →
      factor_stop (factor_run (Some number_limit) f basis) ≡ Ok factors →
      items ≡ map (λ k. standing now.bare k) factors.basic
      → refactor_run (Some number_limit) f now.bare ≡ Ok
      (record { bare = record old.bare { basic = items }; pairs = factors.pairs; replaced = 0 })
  renewed old factors items v h i =
      sym by_basis ∙ ap (λ o. o >>= λ s. Ok (refactored now.bare s)) h
      ∙ ap (λ (y : Revised). Ok
      (record {
        bare = record y.bare { basic = map (λ k. standing now.bare k) factors.basic };
        pairs = factors.pairs;
        replaced = 0;
      })) (sym v)
      ∙ ap (λ items. Ok (record { bare = record old.bare { basic = items }; pairs = factors.pairs; replaced = 0 }))
      (sym i)
