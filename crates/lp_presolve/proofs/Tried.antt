-- What is found by the last model, and why nothing is.
use Rattle.std.proofs.Common.{◌≡◌, ◌≢◌, ℕ, ◌+◌, ◌<◌, ◌≤◌, ◌^◌, Some, None, Result, Ok, Err, List, length}
use Rattle.std.proofs.Common.{inl, inr}
use Rattle.std.proofs.Common.{refl, sym, ap, ◌∙◌, subst, arith}
use Rattle.std.proofs.lemmas.List.{length-map}
use Rattle.spec_exact.specs.Fraction.{ℚ}
use Rattle.spec_exact.specs.declared.past.Past.{Past as Refusal}
use Rattle.spec_exact.specs.Narrow.{number_limit}
use Rattle.spec_model.specs.Model.{Model, width, height}
use Rattle.spec_model.specs.Kept.{IsUsual, row_limit, column_limit}
use Rattle.spec_check.specs.declared.certificate.Certificate.TheVariants.{Optimal, Infeasible, Clash, Unbounded}
use Rattle.spec_check.specs.declared.certificate.CheckStop.{CheckStop}
use Rattle.spec_check.specs.declared.certificate.CheckStop.TheVariants as check
use Rattle.spec_check.specs.declared.certificate.Known.{Known}
use Rattle.spec_check.specs.declared.solve_end.SolveEnd.TheVariants.{Ended}
use Rattle.spec_check.specs.Certificate.{IsFor, IsNarrowCertificate, shown}
use Rattle.spec_check.specs.Run.{check_run, Agrees}
use Rattle.spec_check.proofs.RunAgrees.{run_agrees}
use Rattle.spec_check.proofs.RunComplete.{run_complete}
use Rattle.spec_solve.specs.Answers.{MayAnswer}
use Rattle.spec_presolve.specs.declared.presolved.Why.TheVariants as why
use Rattle.spec_presolve.specs.declared.presolved.Way.TheVariants.{Reduced}
use Rattle.spec_presolve.specs.declared.reduction.Halt.{Halt}
use Rattle.spec_presolve.specs.Reduce.{Reductions, reduced}
use Rattle.spec_presolve.specs.Carry.{ExactCertificate, halted, carried, IsCarried}
use Rattle.spec_presolve.specs.Presolved.{ExactWhy, ExactPresolved, IsLast, IsPlain, ByCheck, ByCarried, ByReductions}
use Rattle.spec_presolve.specs.Presolved.{IsPresolved}
use Rattle.spec_presolve.proofs.Carried.{carries}
use Rattle.spec_presolve.proofs.LastModel.{ends_well}
use Rattle.lp_frac.specs.declared.stop.Stop.{Stop}
use Rattle.lp_frac.specs.declared.stop.Stop.TheVariants as stop
use Rattle.lp_presolve.specs.declared.step.Step.{Step}
use Rattle.lp_presolve.specs.Clash.{clash_of}
use Rattle.lp_presolve.specs.Tells.{Tells}
use Rattle.lp_presolve.specs.Tries.{Accepts, Led, Falls, Tries}
use Rattle.lp_presolve.proofs.Lasts.{Fits, last_fits}

-- ---- the model as it is

-- where each end that says that m was solved as it is, for the reason w, fits the reductions of m, each such end is one
-- that the presolved solve of m may have
falls : (m : Model) (budget : ℕ) (w : ExactWhy) →
    ((p : ExactPresolved) → IsPlain m budget w p → ByReductions m budget (reduced (Some number_limit) m) p) → Falls m budget w
falls m budget w f p (way, (solved, is, end)) =
    record {
      may_answer = subst (MayAnswer m budget) (sym end) is.may_answer;
      by_reductions = f p (way, (solved, is, end));
    }

-- ---- the reductions
module _ (m last : Model) (budget : ℕ) (now : List Step) (halt : Halt) (l : Led m last now halt) where
  abbrev all : Reductions
  all = record { steps = l.steps; last = last; halt = halt }

  -- ---- its certificate

  module _ (c : ExactCertificate) (pivots : ℕ) (is : IsLast last budget (halted last halt) (Ok (c, pivots))) where
    fit : Fits last c
    fit = last_fits m budget all c pivots l.run is

    -- few enough steps, so that the number of a column that clashes is one of 32 bits on the whole way
    pub few_steps : IsUsual m → clash_of c + length now < 2 ^ 32
    few_steps model =
        let count : length l.steps + (width last + height last) ≡ width m + height m =
        (ends_well (Some number_limit) m all l.run).count in
        let same : length now ≡ length l.steps = ap length l.are_kept ∙ length-map l.steps _ in
        let clash = clash_inside c fit.fits in
        let rows : height m ≤ row_limit = model.few_rows in
        let columns : width m ≤ column_limit = model.few_columns in
        omega (arith, count, same, clash, rows, columns)
      where
        clash_inside : (c : ExactCertificate) → IsFor last c → clash_of c ≤ width last
        clash_inside (Optimal x y) f = omega arith
        clash_inside (Infeasible y) f = omega arith
        clash_inside (Clash k) f = omega (arith, f)
        clash_inside (Unbounded x r) f = omega arith

    -- where carrying the last model's certificate back stops, the model is to be solved as it is, for that reason
    pub not_carried : {C : Type 0} (e : Stop C) → Tells (carried (Some number_limit) l.steps c) (Err e) →
        Tries m budget (Err e)
    not_carried (stop.Cause x) t = absurd t
    not_carried (stop.Past q) t =
        falls m budget (why.Past q)
        (λ p plain. subst (λ r. ByReductions m budget r p) (sym l.run)
        (Ok (c, pivots), is, subst (λ b. ByCarried m budget last pivots b p) (sym t) plain))
    not_carried stop.NoMemory t = tt

    -- ---- what is carried back

    module _ (back : ExactCertificate) (t : carried (Some number_limit) l.steps c ≡ Ok back) where
      is_carried : IsCarried m last c back
      is_carried = carries (Some number_limit) m all c back l.run t fit.fits fit.checks

      -- the certificate that is carried back fits the first model
      pub back_fits : IsFor m back
      back_fits = is_carried.fits

      -- the check of the certificate that is carried back never says no
      pub never_no : (n : ℕ) → check_run (Some number_limit) m back ≢ Err (check.No n)
      unfolding Agrees
      never_no n e = by (run_agrees (Some number_limit) m back)
        where
          whole : check_run None m back ≡ Ok (shown m back)
          whole = run_complete m back is_carried.checks

          by : Agrees (check_run (Some number_limit) m back) (check_run None m back) → ⊥
          by (inl same) =
              let z : ◌≡◌ {A = Result (Known ℚ) (CheckStop ℚ)} (Err (check.No n)) (Ok (shown m back)) = sym e ∙ same ∙ whole in cc
          by (inr (q, past)) =
              let z : ◌≡◌ {A = Result (Known ℚ) (CheckStop ℚ)} (Err (check.No n)) (Err (check.Past q)) = sym e ∙ past in cc

      -- by what the checker says
      checked : (p : ExactPresolved) → ByCheck m budget last back pivots (check_run (Some number_limit) m back) p →
          ByReductions m budget (reduced (Some number_limit) m) p
      checked p by =
          subst (λ r. ByReductions m budget r p) (sym l.run)
          (Ok (c, pivots), is, subst (λ b. ByCarried m budget last pivots b p) (sym t) by)

      -- where the check of the certificate carried back is refused an operation, the model is to be solved as it is,
      -- for that reason
      pub not_accepted : (q : Refusal ℚ) → Accepts m last back pivots (Err q) → Falls m budget (why.Past q)
      not_accepted q refused =
          falls m budget (why.Past q)
          (λ p plain. checked p (subst (λ v. ByCheck m budget last back pivots v p) (sym refused) plain))

      -- where the certificate carried back has at most 127 bits and is accepted, the model is presolved with it
      pub found : (p : ExactPresolved) → IsNarrowCertificate back → Accepts m last back pivots (Ok p) →
          IsPresolved m budget p
      found p narrow (known, says, e) = subst (IsPresolved m budget) (sym e) whole
        where
          answer : ExactPresolved
          answer = record { way = Reduced (height last) (width last); end = Ended known back None pivots }

          whole : IsPresolved m budget answer
          whole =
              record {
                may_answer = (back_fits, narrow, says);
                by_reductions = checked answer (subst (λ v. ByCheck m budget last back pivots v answer) (sym says) (refl, refl));
              }
