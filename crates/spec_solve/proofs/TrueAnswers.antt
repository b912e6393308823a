-- What may be answered is true, and is what the cold solve at the limit finds.
--
-- `ended_true`: what a solve of a model may answer holds of the model.
-- `one_truth`: two answers that hold of one model are equal.
use Rattle.std.proofs.Common.{◌≡◌, ℕ, List, Option, Some, refl, sym, ap, ◌∙◌, subst, pos}
use Rattle.spec_exact.specs.Fraction.{ℚ}
use Rattle.spec_exact.specs.Narrow.{number_limit}
use Rattle.spec_model.specs.Model.{Model}
use Rattle.spec_model.proofs.Exclusion.{one_optimum, not_both}
use Rattle.spec_check.specs.declared.certificate.Certificate.{Certificate}
use Rattle.spec_check.specs.declared.certificate.Known.{Known}
use Rattle.spec_check.specs.declared.certificate.Known.TheVariants.{Optimal, Infeasible, Unbounded}
use Rattle.spec_check.specs.Certificate.{Holds}
use Rattle.spec_check.proofs.RunSound.{run_sound}
use Rattle.spec_check.proofs.Sound.{checks_hold}
use Rattle.spec_pivot.specs.declared.status.Status.{Status}
use Rattle.spec_check.specs.declared.solve_end.SolveEnd.TheVariants.{Ended, Past, Spent}
use Rattle.spec_runs.specs.Cold.{ExactSolveEnd, cold}
use Rattle.spec_runs.proofs.ColdSolves.{ended_is_true}
use Rattle.spec_solve.specs.Answers.{MayAnswer}

pub ended_true : (m : Model) (budget : ℕ) (known : Known ℚ) (cert : Certificate (List ℚ)) (basis : Option (List Status))
    (pivots : ℕ) →
    MayAnswer m budget (Ended known cert basis pivots) → Holds m known
ended_true m budget known cert basis pivots h =
    let sound = run_sound (Some number_limit) m cert known h.0 h.2 in
    subst (Holds m) (sym sound.1) (checks_hold m cert sound.0)

-- two answers that hold of one model are equal
pub one_truth : (m : Model) (a b : Known ℚ) → Holds m a → Holds m b → a ≡ b
one_truth m (Optimal v) (Optimal w) p q = ap Optimal (one_optimum m v w p q)
one_truth m (Optimal v) Infeasible p q = absurd (q p.point.0 p.point.1)
one_truth m (Optimal v) Unbounded p q = absurd (not_both m v p q)
one_truth m Infeasible (Optimal v) p q = absurd (p q.point.0 q.point.1)
one_truth m Infeasible Infeasible p q = refl
one_truth m Infeasible Unbounded p q = absurd (p (q (pos 0)).0 (q (pos 0)).1)
one_truth m Unbounded (Optimal v) p q = absurd (not_both m v q p)
one_truth m Unbounded Infeasible p q = absurd (q (p (pos 0)).0 (p (pos 0)).1)
one_truth m Unbounded Unbounded p q = refl

module _ (m : Model) (budget : ℕ) (known : Known ℚ) (cert : Certificate (List ℚ))
    (basis : Option (List Status)) (pivots : ℕ) where
  -- the end has the same answer, with any certificate, basis and count of pivots
  abbrev pub EndsSo : ExactSolveEnd → Type 0
  EndsSo end = (c : Certificate (List ℚ)) × (b : Option (List Status)) × (n : ℕ) × (end ≡ Ended known c b n)

  -- where the cold solve at the limit ends with an answer, each end that may be answered has the same known
  pub cold_found : (end : ExactSolveEnd) → cold (Some number_limit) budget m ≡ Ended known cert basis pivots →
      MayAnswer m budget end → EndsSo end
  cold_found (Ended other c b n) found h =
      let same : other ≡ known =
      one_truth m other known (ended_true m budget other c b n h)
      (ended_is_true (Some number_limit) budget m known cert basis pivots found).0 in
      (c, b, n, ap (λ k. Ended k c b n) same)
  cold_found (Past p) found h =
      let z : ◌≡◌ {A = ExactSolveEnd} (Past p) (Ended known cert basis pivots) = sym h ∙ found in cc
  cold_found Spent found h =
      let z : ◌≡◌ {A = ExactSolveEnd} Spent (Ended known cert basis pivots) = sym h.0 ∙ found in cc
