-- The end of a model without a form is one that it may have, and that of the cold solve.
use Rattle.std.proofs.Common.{◌≡◌, Some, sym, ap, ◌∙◌, subst}
use Rattle.spec_server.specs.Machine.{State}
use Rattle.lp_session.specs.Parts.{IsEndOf}
use Rattle.lp_session.proofs.SolveStarts.{end_of}
use Rattle.lp_session.proofs.Formless.{formless_begins}
use Rattle.lp_session.proofs.holding.Holding.begin_solve.Goals as goal

pub keep-requires : goal.keep-requires
keep-requires c =
    let solved = c.in-Ok-solve_formless.ensures.solved 0 in
    subst (λ (s : State). IsEndOf s.model c.in-Ok-solve_formless.end) c.self.view_is
    (end_of _ _ _ _ (c.in-Some.is ∙ ap Some (sym c.model-model.ensures.value)) solved.may_answer)

pub returns-in-Ok-solve_formless : goal.returns-in-Ok-solve_formless
returns-in-Ok-solve_formless c =
    let old = c.args.self.now in
    let held : old.model ≡ Some c.model-model.result.now =
    sym (ap (λ (s : State). s.model) c.self.view_is) ∙ c.in-Some.is ∙ ap Some (sym c.model-model.ensures.value) in
    formless_begins old c.model-model.result.now _ _ _ held
    c.in-Ok-solve_formless.ensures.formless (c.in-Ok-solve_formless.ensures.solved old.budget) c.keep.ensures.reply
    c.keep.ensures.kept
