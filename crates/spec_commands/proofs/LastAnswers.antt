-- What is known by the last answer of a session is true, and the command `check` says so of its certificate.
use Rattle.std.proofs.Common.{◌≡◌, ℕ, List, ◌++◌, Option, Some, IfSome, map, subst}
use Rattle.spec_exact.specs.Fraction.{ℚ}
use Rattle.spec_model.specs.Model.{Model}
use Rattle.spec_model.specs.Kept.{IsUsualModel}
use Rattle.spec_mps.specs.declared.style.Style.TheVariants.{Free}
use Rattle.spec_mps.specs.Written.{free}
use Rattle.spec_check.specs.declared.certificate.Certificate.{Certificate}
use Rattle.spec_check.specs.declared.certificate.Known.{Known}
use Rattle.spec_check.specs.declared.certificate.Verdict.TheVariants.{Yes}
use Rattle.spec_check.specs.Certificate.{Holds}
use Rattle.spec_certificate.specs.TextWritten.{certificate_lines}
use Rattle.spec_pivot.specs.declared.status.Status.{Status}
use Rattle.spec_check.specs.declared.solve_end.SolveEnd.TheVariants.{Ended}
use Rattle.spec_solve.specs.Answers.{MayAnswer}
use Rattle.spec_solve.proofs.TrueAnswers.{ended_true}
use Rattle.spec_server.specs.declared.asks.Reply.TheVariants as reply
use Rattle.spec_server.specs.LastFits.{LastFits}
use Rattle.spec_server.specs.Machine.{ExactLastAnswer, AreKept, State, opening}
use Rattle.spec_server.specs.Exchanges.{Exchange, asked_in, AloneRun}
use Rattle.spec_server.specs.Output.{ended_lines}
use Rattle.spec_commands.specs.InputSaid.{IsSaidEarly}
use Rattle.spec_commands.specs.CheckOut.{said}
use Rattle.spec_commands.proofs.WrittenChecks.{free_checks}
use Rattle.spec_server.proofs.Sessions.{IsGood, run_good}

-- what is known by the last answer is true, and the command `check` says so
abbrev StandsUp : Model → Known ℚ → Certificate (List ℚ) → Type 0
StandsUp m known cert =
    Holds m known
    × IsSaidEarly (said Free) (free m ++ ended_lines (certificate_lines m cert)) (reply.Checked (Yes known))

-- a known answer of a usual model is true, and `check` says yes to its certificate
answer_stands : (m : Model) (budget : ℕ) (known : Known ℚ) (cert : Certificate (List ℚ)) (basis : Option (List Status))
    (pivots : ℕ) →
    IsUsualModel m → MayAnswer m budget (Ended known cert basis pivots) → StandsUp m known cert
answer_stands m budget known cert basis pivots kept h =
    (ended_true m budget known cert basis pivots h, free_checks m budget known cert basis pivots kept h)

-- a known last answer of a session's run is true of its model, and `check` says yes to its certificate
pub last_stands : (places : ℕ) (xs : List Exchange) (state : State) (m : Model) (last : ExactLastAnswer)
    (known : Known ℚ) (cert : Certificate (List ℚ)) (basis : Option (List Status)) (pivots : ℕ) →
    AreKept (map asked_in xs) → AloneRun places opening xs state → state.model ≡ Some m → state.last ≡ Some last →
    last.solved ≡ Ended known cert basis pivots → StandsUp m known cert
last_stands places xs state m last known cert basis pivots may run held is ended =
    let good : IsGood state = run_good places opening state xs may run (record { kept = tt; fits = tt }) in
    let fits =
    subst (λ (model : Option Model). LastFits model (Some last)) held
    (subst (λ (last : Option ExactLastAnswer). LastFits state.model last) is good.fits) in
    answer_stands m fits.0 known cert basis pivots
    (subst (λ (model : Option Model). IfSome model IsUsualModel) held good.kept)
    (subst (MayAnswer m fits.0) ended fits.1)
