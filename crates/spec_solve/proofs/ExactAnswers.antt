-- What an exact solve answers is true, and what it knows is what any other solve knows.
--
-- `narrow_shown`: a certificate of numbers within 127 bits that the check at 127 bits accepts shows its answer exactly.
-- `solved_exactly`: the end of a solve at 127 bits, without its basis, is an end of an exact solve.
use Rattle.std.proofs.Common.{◌≡◌, ℕ, List, Option, Some, None, Ok, All, get_or, refl, sym, ap, ◌∙◌, subst}
use Rattle.std.proofs.Common.{IfSome, arith}
use Rattle.spec_exact.specs.Fraction.{ℚ}
use Rattle.spec_exact.specs.Narrow.{number_limit, IsNarrow}
use Rattle.spec_model.specs.Model.{Model, value_of}
use Rattle.spec_model.specs.Kept.{IsUsual}
use Rattle.spec_model.specs.Truth.{IsOptimal}
use Rattle.spec_check.specs.declared.certificate.Certificate.{Certificate}
use Rattle.spec_check.specs.declared.certificate.Certificate.TheVariants.{Optimal, Infeasible, Clash, Unbounded}
use Rattle.spec_check.specs.declared.certificate.Known.{Known}
use Rattle.spec_check.specs.declared.certificate.Known.TheVariants as knows
use Rattle.spec_check.specs.declared.solve_end.SolveEnd.TheVariants.{Ended, Past, Spent}
use Rattle.spec_check.specs.Certificate.{IsFor, IsNarrowCertificate, Holds, shown}
use Rattle.spec_check.specs.Run.{check_run}
use Rattle.spec_check.proofs.RunSound.{run_sound}
use Rattle.spec_check.proofs.Sound.{checks_hold}
use Rattle.spec_pivot.specs.declared.status.Status.{Status}
use Rattle.spec_runs.specs.Cold.{ExactSolveEnd, cold}
use Rattle.spec_runs.proofs.ColdSolves.{ended_is_true}
use Rattle.spec_runs.specs.Solve.{SolveEnd}
use Rattle.spec_solve.specs.declared.exact.ExactEnd.TheVariants.{Answered, Open}
use Rattle.spec_solve.specs.declared.exact.Origin.TheVariants.{Cold}
use Rattle.spec_solve.specs.Order.{GivesUp}
use Rattle.spec_solve.specs.Answers.{MayAnswer, IsSolved}
use Rattle.spec_solve.specs.OfBasis.{StandsAt, IsOfBasis}
use Rattle.spec_solve.specs.Exact.{RationalAnswer, RationalEnd, FitsLine, FitsLines, IsShown, IsBasisOfAnswer}
use Rattle.spec_solve.specs.Exact.{IsExactAnswer, IsExactEnd}
use Rattle.spec_solve.proofs.Orders.{check_without}
use Rattle.spec_solve.proofs.TrueAnswers.{one_truth, EndsSo, cold_found}

-- ---- an answer

module _ (m : Model) where
  -- what the checker says yes to without a limit is true
  pub shown_true : (known : Known ℚ) (cert : Certificate (List ℚ)) → IsShown m known cert → Holds m known
  shown_true known cert h =
      let sound = run_sound None m cert known h.0 h.1 in
      subst (Holds m) (sym sound.1) (checks_hold m cert sound.0)

  -- an exact answer of a model holds of the model
  pub answer_true : (a : RationalAnswer) → IsExactAnswer m a → Holds m a.known
  answer_true a h = shown_true a.known a.certificate h.0

  -- two exact answers of one model name the same known
  pub answers_agree : (a b : RationalAnswer) → IsExactAnswer m a → IsExactAnswer m b → a.known ≡ b.known
  answers_agree a b h k = one_truth m a.known b.known (answer_true a h) (answer_true b k)

  module _ (a : RationalAnswer) (h : IsExactAnswer m a) (basis : List Status) where
    -- the answer is an optimum whose certificate's point and multipliers stand at the basis, and the value at the point
    -- is the optimal one
    abbrev pub IsOptimum : Type 0
    IsOptimum = (x : List ℚ) × (y : List ℚ) × (a.certificate ≡ Optimal x y) × StandsAt m basis x y
        × (a.known ≡ knows.Optimal (value_of m x)) × IsOptimal m (value_of m x)

    -- the answer is what its certificate shows of the model
    is_shown : (c : Certificate (List ℚ)) → a.certificate ≡ c → a.known ≡ shown m c
    is_shown c e = (run_sound None m a.certificate a.known h.0.0 h.0.1).1 ∙ ap (shown m) e

    -- where the basis of an exact answer suits its certificate, the answer is optimal, and the basis has its point
    by_certificate : (c : Certificate (List ℚ)) → a.certificate ≡ c → IsOfBasis m basis c → IsOptimum
    by_certificate (Optimal x y) e stands =
        let is : a.known ≡ knows.Optimal (value_of m x) = is_shown (Optimal x y) e in
        (x, y, e, stands, is, subst (Holds m) is (answer_true a h))
    by_certificate (Infeasible y) e stands = absurd stands
    by_certificate (Clash j) e stands = absurd stands
    by_certificate (Unbounded x r) e stands = absurd stands

    -- where an exact answer has a basis, the answer is optimal, and the basis has its point
    pub at_optimum : a.basis ≡ Some basis → IsOptimum
    at_optimum is =
        let of : IsBasisOfAnswer m a.certificate basis =
        subst (λ o. IfSome o (IsBasisOfAnswer m a.certificate)) is h.1 in
        by_certificate a.certificate refl of.stands

-- ---- what a solve at 127 bits finds

-- the text of a number of at most 127 bits fits a line
narrow_fits : (v : ℚ) → IsNarrow v → FitsLine v
narrow_fits v h =
    let top = h.top in
    let bottom = h.bottom in
    (39, 39, omega (arith, top), omega (arith, bottom), omega arith)

-- where all numbers of a list have at most 127 bits, the text of each fits a line
all_fit : (xs : List ℚ) → All IsNarrow xs → All FitsLine xs
all_fit xs h = λ k d l. narrow_fits (get_or xs k d) (h k d l)

-- where all numbers of a certificate have at most 127 bits, the text of each fits a line
narrow_lines : (cert : Certificate (List ℚ)) → IsNarrowCertificate cert → FitsLines cert
narrow_lines (Optimal x y) n = (all_fit x n.0, all_fit y n.1)
narrow_lines (Infeasible y) n = all_fit y n
narrow_lines (Clash j) n = tt
narrow_lines (Unbounded x r) n = (all_fit x n.0, all_fit r n.1)

-- its certificate shows the same without a limit
pub narrow_shown : (m : Model) (known : Known ℚ) (cert : Certificate (List ℚ)) → IsFor m cert →
    IsNarrowCertificate cert → check_run (Some number_limit) m cert ≡ Ok known → IsShown m known cert
narrow_shown m known cert fits narrow accepted =
    (fits, check_without (Some number_limit) m cert known accepted, narrow_lines cert narrow)

-- an end of a solve at 127 bits as one of an exact solve: the answer and certificate without the basis, or none
abbrev pub exact_of : ExactSolveEnd → RationalEnd
exact_of (Ended known cert basis pivots) =
    Answered (record { known = known; certificate = cert; basis = None; origin = Cold })
exact_of (Past p) = Open
exact_of Spent = Open

pub solved_exactly : (m : Model) (budget : ℕ) (starting : Option (List Status)) (solved : SolveEnd) →
    IsSolved m budget starting solved → IsExactEnd m budget starting (exact_of solved.end)
solved_exactly m budget starting solved is = by solved.end refl
  where
    by : (end : ExactSolveEnd) → solved.end ≡ end → IsExactEnd m budget starting (exact_of end)
    by (Ended known cert basis pivots) e =
        let may : MayAnswer m budget (Ended known cert basis pivots) = subst (MayAnswer m budget) e is.may_answer in
        (narrow_shown m known cert may.0 may.1 may.2, tt)
    by (Past p) e = λ _. (solved, is, subst GivesUp (sym e) tt)
    by Spent e = λ _. (solved, is, subst GivesUp (sym e) tt)

module _ (m : Model) (budget : ℕ) (starting : Option (List Status)) (known : Known ℚ) (cert : Certificate (List ℚ))
    (basis : Option (List Status)) (pivots : ℕ) where
  -- an end with this answer does not give up
  not_given_up : (end : ExactSolveEnd) → EndsSo m budget known cert basis pivots end → ¬ (GivesUp end)
  not_given_up end (c, b, n, is) up = subst GivesUp is up

  -- where the cold solve at the limit knows something of a usual model, an exact solve within the budget answers the
  -- same
  pub found_exactly : (end : RationalEnd) → IsUsual m → cold (Some number_limit) budget m ≡ Ended known cert basis pivots →
      IsExactEnd m budget starting end → (a : RationalAnswer) × (end ≡ Answered a) × (a.known ≡ known)
  found_exactly (Answered a) usual found h = (
    a,
    refl,
    one_truth m a.known known (answer_true m a h)
        (ended_is_true (Some number_limit) budget m known cert basis pivots found).0,
  )
  found_exactly Open usual found h =
      let gave = h usual in
      let may = gave.1.may_answer in
      absurd (not_given_up gave.0.end (cold_found m budget known cert basis pivots gave.0.end found may) gave.2)
