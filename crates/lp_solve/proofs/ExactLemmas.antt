-- What an exact solve answers, and where it may give up.
--
-- `clash_answers`: bounds that clash are an exact answer: the model is infeasible.
-- `refusal_gives_up`: where an operation is refused while the form is made, an exact solve may give up.
-- `formless_exactly`: an exact solve of a model without a form may end as without a starting basis.
use Rattle.std.proofs.Common.{◌≡◌, ℕ, List, Option, Some, None, Result, Ok, Err, IfSome, IfOk, option_map, refl, sym, subst}
use Rattle.spec_exact.specs.Fraction.{ℚ}
use Rattle.spec_exact.specs.Narrow.{number_limit}
use Rattle.spec_exact.specs.declared.past.Past.{Past}
use Rattle.spec_model.specs.Model.{Model}
use Rattle.spec_check.specs.declared.certificate.Certificate.{Certificate}
use Rattle.spec_check.specs.declared.certificate.Certificate.TheVariants as certificate
use Rattle.spec_check.specs.declared.certificate.Known.{Known}
use Rattle.spec_check.specs.declared.certificate.Known.TheVariants as knows
use Rattle.spec_check.specs.declared.solve_end.SolveEnd.TheVariants.{Ended}
use Rattle.spec_check.specs.declared.solve_end.SolveEnd.TheVariants as outcome
use Rattle.spec_pivot.specs.declared.status.Status.{Status}
use Rattle.spec_simplex.specs.Eliminate.{IsBasisOf}
use Rattle.spec_simplex.specs.Form.{Form, form_of}
use Rattle.spec_runs.specs.Cold.{ExactSolveEnd}
use Rattle.spec_runs.specs.Solve.{SolveEnd, HasBasis}
use Rattle.spec_runs.specs.Accepted.{IsAccepted}
use Rattle.spec_runs.specs.declared.ends.Route.TheVariants as route
use Rattle.spec_runs.proofs.ColdSolves.{clash_accepted}
use Rattle.spec_solve.specs.Answers.{MayAnswer, IsSolved}
use Rattle.spec_solve.specs.Order.{GivesUp}
use Rattle.spec_solve.specs.declared.exact.Origin.TheVariants.{Cold}
use Rattle.spec_solve.specs.Exact.{IsShown, IsExactAnswer, IsExactEnd, MayGiveUp, RationalEnd}
use Rattle.spec_solve.proofs.ExactAnswers.{narrow_shown}
use Rattle.spec_solve.proofs.Left.{solved_left}
use Rattle.spec_simplex.specs.declared.ends.FormFault.TheVariants as fault
use Rattle.lp_solve.specs.Formless.{HasNoForm}
use Rattle.lp_solve.proofs.WarmRuns.{no_starting}
use Rattle.lp_solve.proofs.Allowed.{cold_is_solved}
use Rattle.lp_solve.proofs.Solved.{formless}

-- ---- a solve at 127 bits

module _ (m : Model) (budget : ℕ) (starting : Option (List Status)) (solved : SolveEnd)
    (is : IsSolved m budget starting solved) where
  -- what a solve at 127 bits ends with is shown by its certificate
  pub ended_shown : (known : Known ℚ) (cert : Certificate (List ℚ)) (basis : Option (List Status)) (pivots : ℕ) →
      solved.end ≡ Ended known cert basis pivots → IsShown m known cert
  ended_shown known cert basis pivots e =
      let may : MayAnswer m budget (Ended known cert basis pivots) = subst (MayAnswer m budget) e is.may_answer in
      narrow_shown m known cert may.0 may.1 may.2

  -- the basis with which a solve at 127 bits ends is one of the model's form, if the basis from which it starts is
  pub end_based : (f : Form) → form_of (Some number_limit) m ≡ Ok f → IfSome starting (IsBasisOf f) →
      (known : Known ℚ) (cert : Certificate (List ℚ)) (basis : Option (List Status)) (pivots : ℕ) →
      solved.end ≡ Ended known cert basis pivots → IfSome basis (λ left. IsBasisOf f left)
  end_based f formed fits known cert None pivots e = tt
  end_based f formed fits known cert (Some left) pivots e =
      solved_left known cert left pivots m budget f formed solved e starting fits is

  -- where a solve at 127 bits gives up, an exact solve may
  pub gave_up : (end : ExactSolveEnd) → solved.end ≡ end → GivesUp end → MayGiveUp m budget starting
  gave_up end e up = (solved, is, subst GivesUp (sym e) up)

-- ---- without a form

-- bounds that clash are their own certificate
pub clash_answers : (m : Model) (j : ℕ) → form_of (Some number_limit) m ≡ Err (fault.Clash j) →
    IsExactAnswer m (record { known = knows.Infeasible; certificate = certificate.Clash j; basis = None; origin = Cold })
clash_answers m j e =
    let a : IsAccepted (Some number_limit) m (certificate.Clash j) = clash_accepted (Some number_limit) m j e in
    ((a.fits, a.accepted, tt), tt)

-- a solve at 127 bits may end with the operation that was refused
pub refusal_gives_up : (m : Model) (budget : ℕ) (p : Past ℚ) → form_of (Some number_limit) m ≡ Err (fault.Past p) →
    MayGiveUp m budget None
refusal_gives_up m budget p h =
    let solved : SolveEnd = record { end = outcome.Past p; route = route.Cold } in (
      solved,
      cold_is_solved budget m (outcome.Past p)
          (formless (Some number_limit) budget m (fault.Past p) (outcome.Past p) h refl) tt,
      tt,
    )

-- such a model has no basis
pub formless_exactly : {B E : Type 0} (m : Model) (budget : ℕ) (view : B → List Status) (starting : Option B)
    (ended : Result RationalEnd E) → IfSome starting (λ basis. HasBasis (Some number_limit) m (view basis)) →
    IfOk ended (IsExactEnd m budget None) → IfOk ended (λ _. HasNoForm m) →
    IfOk ended (IsExactEnd m budget (option_map view starting))
formless_exactly m budget view starting (Err why) has ends formless = tt
formless_exactly m budget view starting (Ok end) has ends formless =
    subst (λ starting. IsExactEnd m budget (option_map view starting) end)
    (sym (no_starting (Some number_limit) m view starting formless.0 formless.1 has)) ends
