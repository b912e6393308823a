-- A solve answers what the cold solve at the limit finds.
use Rattle.std.proofs.Common.{◌≡◌, ℕ, List, Option, Some, ap, ◌∙◌, subst, ◌⊎◌, inl, inr}
use Rattle.spec_exact.specs.Fraction.{ℚ}
use Rattle.spec_exact.specs.Narrow.{number_limit}
use Rattle.spec_model.specs.Model.{Model}
use Rattle.spec_check.specs.declared.certificate.Certificate.{Certificate}
use Rattle.spec_check.specs.declared.certificate.Known.{Known}
use Rattle.spec_pivot.specs.declared.status.Status.{Status}
use Rattle.spec_check.specs.declared.solve_end.SolveEnd.TheVariants as outcome
use Rattle.spec_runs.specs.Cold.{ExactSolveEnd, cold}
use Rattle.spec_solve.specs.Answers.{MayAnswer}
use Rattle.spec_solve.proofs.TrueAnswers.{cold_found}
use Rattle.spec_board.specs.Reads.{ExactRead}
use Rattle.spec_server.specs.declared.asks.Ask.TheVariants as ask
use Rattle.spec_server.specs.declared.asks.Reply.TheVariants as reply
use Rattle.spec_server.specs.declared.command.Plain.TheVariants as command
use Rattle.spec_server.specs.Machine.{ExactReply, State, solve_due, answer_of}
use Rattle.spec_server.specs.Step.{AloneStep}
use Rattle.spec_server.proofs.Simply.{SolveStep, Does, WantsMemory, step_simply}

module _ (budget : ℕ) (m : Model) (known : Known ℚ) (cert : Certificate (List ℚ))
    (basis : Option (List Status)) (pivots : ℕ)
    (found : cold (Some number_limit) budget m ≡ outcome.Ended known cert basis pivots) where
  -- where the cold solve of the model ends with an answer, the reply to each end that a solve may have is that answer
  answers_known : (end : ExactSolveEnd) → MayAnswer m budget end → answer_of budget end ≡ reply.Known known
  answers_known end h =
      let k = cold_found m budget known cert basis pivots end found h in ap (answer_of budget) k.3

-- where the cold solve of the held model ends with an answer, `SOLVE` is replied to with it, or with `MEMORY`
pub solve_answers : (places : ℕ) (old new : State) (reads : List ExactRead) (replied : ExactReply) (m : Model)
    (known : Known ℚ) (cert : Certificate (List ℚ)) (basis : Option (List Status)) (pivots : ℕ) →
    old.model ≡ Some m → cold (Some number_limit) old.budget m ≡ outcome.Ended known cert basis pivots →
    AloneStep places old (ask.Plain command.Solve) reads replied new →
    (replied ≡ reply.Known known) ⊎ (replied ≡ reply.Memory)
solve_answers places old new reads replied m known cert basis pivots held found s =
    by (step_simply places old reads replied new (ask.Plain command.Solve) s)
  where
    by : Does old (solve_due old old.model) replied new ⊎ WantsMemory old replied new →
        (replied ≡ reply.Known known) ⊎ (replied ≡ reply.Memory)
    by (inl h) =
        let s : SolveStep old m replied new =
        subst (λ (model : Option Model). Does old (solve_due old model) replied new) held h in
        inl (s.answer ∙ answers_known old.budget m known cert basis pivots found s.end s.may_answer)
    by (inr h) = inr h.memory
