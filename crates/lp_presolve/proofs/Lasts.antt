-- The certificate of the last model, and what is carried back.
use Rattle.std.proofs.Common.{◌≡◌, ℕ, Option, Some, None, Ok, refl, sym, ap, subst}
use Rattle.spec_exact.proofs.Results.{ok_same}
use Rattle.spec_exact.specs.Narrow.{number_limit}
use Rattle.spec_model.specs.Model.{Model}
use Rattle.spec_check.specs.declared.solve_end.SolveEnd.TheVariants.{Ended, Past, Spent}
use Rattle.spec_check.specs.Certificate.{IsFor}
use Rattle.spec_check.specs.Checks.{Checks}
use Rattle.spec_check.proofs.RunSound.{run_sound}
use Rattle.spec_runs.specs.Cold.{ExactSolveEnd}
use Rattle.spec_solve.specs.Answers.{MayAnswer}
use Rattle.spec_presolve.specs.Reduce.{Reductions, reduced}
use Rattle.spec_presolve.specs.Carry.{ExactCertificate, halted}
use Rattle.spec_presolve.specs.Presolved.{last_end, IsLast}
use Rattle.spec_presolve.proofs.LastModel.{ends_well}
use Rattle.spec_presolve.proofs.Halts.{halt_shows}

-- the certificate has the model's sizes, and its conditions hold of the model
pub record Fits (m : Model) (c : ExactCertificate) : Type 0 where
  pub fits : IsFor m c
  pub checks : Checks m c

-- where a solve of a model ends with a certificate, the certificate fits the model
ended_fits : (m : Model) (budget : ℕ) (end : ExactSolveEnd) (c : ExactCertificate) (pivots : ℕ) →
    MayAnswer m budget end → last_end end ≡ Ok (c, pivots) → Fits m c
ended_fits m budget (Ended known certificate basis n) c pivots may e =
    let s = run_sound (Some number_limit) m certificate known may.0 may.2 in
    let z : (certificate, n) ≡ (c, pivots) = ok_same (certificate, n) (c, pivots) e in
    subst (Fits m) (ap (λ (x : ExactCertificate × ℕ). x.0) z) (record { fits = may.0; checks = s.0 })
ended_fits m budget (Past q) c pivots may e = cc
ended_fits m budget Spent c pivots may e = cc

-- the certificate of the last model of the reductions fits this model
pub last_fits : (m : Model) (budget : ℕ) (r : Reductions) (c : ExactCertificate) (pivots : ℕ) →
    reduced (Some number_limit) m ≡ Ok r → IsLast r.last budget (halted r.last r.halt) (Ok (c, pivots)) → Fits r.last c
last_fits m budget r c pivots run is = by (halted r.last r.halt) refl is
  where
    by : (o : Option ExactCertificate) → halted r.last r.halt ≡ o → IsLast r.last budget o (Ok (c, pivots)) → Fits r.last c
    by (Some x) e is =
        let s = halt_shows (Some number_limit) r.last r.halt (ends_well (Some number_limit) m r run).none_applies x e in
        let z : (c, pivots) ≡ (x, 0) = ok_same (c, pivots) (x, 0) is in
        subst (Fits r.last) (ap (λ (x : ExactCertificate × ℕ). x.0) (sym z)) (record { fits = s.fits; checks = s.checks })
    by None e (solved, is, same) =
        ended_fits r.last budget solved.end c pivots is.may_answer (sym same)
