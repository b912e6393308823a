-- How the solve of a model without a form ends.
use Rattle.std.proofs.Common.{◌≡◌, Some, None, sym, ap, ap₂, subst, ◌∙◌, inl}
use Rattle.spec_exact.specs.Narrow.{number_limit}
use Rattle.spec_model.specs.Model.{Model}
use Rattle.spec_simplex.specs.Form.{form_of}
use Rattle.spec_runs.specs.Cold.{cold}
use Rattle.spec_runs.specs.Solve.{SolveEnd}
use Rattle.spec_solve.specs.Answers.{IsSolved}
use Rattle.spec_server.specs.declared.answer.How.TheVariants as how
use Rattle.spec_server.specs.declared.answer.Publication.TheVariants as publication
use Rattle.spec_server.specs.declared.asks.Ask.TheVariants as ask
use Rattle.spec_server.specs.declared.command.Plain.TheVariants as command
use Rattle.spec_server.specs.Machine.{ExactReply, State, Solves, due, solve_due}
use Rattle.spec_server.specs.Step.{Answers, Begins, answered, with_answer, solve_begun, BegunBy}
use Rattle.lp_solve.specs.Formless.{HasNoForm}

-- where a session's model has no form, a solve answers at once with the end of a cold solve within the session's
-- budget, and publishes nothing
pub formless_begins : (old : State) (m : Model) (solved : SolveEnd) (replied : ExactReply) (new : State) →
    old.model ≡ Some m → HasNoForm m → IsSolved m old.budget None solved → replied ≡ answered old solved.end →
    new ≡ with_answer old solved.end how.Cold publication.Nothing →
    Begins old (ask.Plain command.Solve) (Answers replied new)
formless_begins old m solved replied new held formless is r n =
    let end : solved.end ≡ cold (Some number_limit) old.budget m = is.without_form formless.0 formless.1 in
    let asked : due old (ask.Plain command.Solve) ≡ Solves m = ap (solve_due old) held in
    let begun : Answers replied new ≡ solve_begun old m (form_of (Some number_limit) m) =
    ap₂ Answers (r ∙ ap (answered old) end) (n ∙ ap (λ e. with_answer old e how.Cold publication.Nothing) end)
    ∙ sym (ap (solve_begun old m) formless.1) in
    inl (subst (λ d. BegunBy old d (Answers replied new)) (sym asked) begun)
