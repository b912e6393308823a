-- With the basis that was found, or with nothing.
use Rattle.std.proofs.Common.{◌≡◌, Some, sym, ap, ◌∙◌}
use Rattle.spec_server.specs.Machine.{State}
use Rattle.lp_session.proofs.SolveStarts.{found_fits, solved_found, solved_nothing}
use Rattle.lp_session.proofs.holding.Holding.solve.Goals as goal

pub solve_formed-requires-clause-fits : goal.solve_formed-requires-clause-fits
solve_formed-requires-clause-fits c =
    found_fits _ _ _ _ c.rows.ensures.kept c.requires.fits c.in-Some-found.is c.in_ok-basis-in-Some-found.ensures

pub returns-in_ok-basis-in-Some-found-clause-solved : goal.returns-in_ok-basis-in-Some-found-clause-solved
returns-in_ok-basis-in-Some-found-clause-solved c =
    let held : c.args.self.now.model ≡ Some c.model-model.result.now =
    sym (ap (λ (s : State). s.model) c.self.view_is) ∙ c.in-Some.is ∙ ap Some (sym c.model-model.ensures.value) in
    solved_found _ _ _ _ c.args.found _ _ c.solve_formed.result held
    (c.from-budget.ensures ∙ ap (λ (s : State). s.budget) c.self.view_is) c.in-Some-found.is
    c.in_ok-basis-in-Some-found.ensures c.solve_formed.ensures.solved

pub returns-in-None-clause-solved : goal.returns-in-None-clause-solved
returns-in-None-clause-solved c =
    let held : c.args.self.now.model ≡ Some c.model-model.result.now =
    sym (ap (λ (s : State). s.model) c.self.view_is) ∙ c.in-Some.is ∙ ap Some (sym c.model-model.ensures.value) in
    solved_nothing _ _ _ _ c.args.found c.solve_formed-in-None.result held
    (c.from-budget.ensures ∙ ap (λ (s : State). s.budget) c.self.view_is) c.in-None.is
    c.solve_formed-in-None.ensures.solved
