-- From the starting basis, or without one.
use Rattle.std.proofs.Common.{IfOk, option_map, sym, subst}
use Rattle.spec_runs.specs.declared.ends.Route.TheVariants.{Cold}
use Rattle.spec_runs.specs.Solve.{solve_end}
use Rattle.spec_solve.specs.Answers.{IsSolved}
use Rattle.lp_solve.proofs.Allowed.{cold_is_solved, solve_leaves, solves_leave}
use Rattle.lp_solve.proofs.solving.solve_formed.Goals as goal

pub returns-in-Some-clause-solved : goal.returns-in-Some-clause-solved
returns-in-Some-clause-solved c =
    subst (λ starting. IfOk c.warm_first.result
    (λ s. IsSolved c.args.model.now c.args.budget (option_map (λ basis. basis.now) starting) (solve_end s)))
    (sym c.in-Some.is) c.warm_first.ensures

pub returns-in-Some-clause-basis : goal.returns-in-Some-clause-basis
returns-in-Some-clause-basis c =
    solves_leave c.args.budget c.args.model.now c.args.form.now _ c.args.starting c.requires.formed c.requires.fits
    c.warm_first.result
    (subst (λ starting. IfOk c.warm_first.result
    (λ s. IsSolved c.args.model.now c.args.budget (option_map (λ basis. basis.now) starting) (solve_end s)))
    (sym c.in-Some.is) c.warm_first.ensures)

pub returns-in_ok-end-in-None-clause-solved : goal.returns-in_ok-end-in-None-clause-solved
returns-in_ok-end-in-None-clause-solved c =
    subst
    (λ starting. IsSolved c.args.model.now c.args.budget (option_map (λ basis. basis.now) starting)
    (solve_end (c.in_ok-end-in-None.end, Cold)))
    (sym c.in-None.is)
    (cold_is_solved c.args.budget c.args.model.now _ c.in_ok-end-in-None.ensures.answer
    c.in_ok-end-in-None.ensures.narrow)

pub returns-in_ok-end-in-None-clause-basis : goal.returns-in_ok-end-in-None-clause-basis
returns-in_ok-end-in-None-clause-basis c =
    solve_leaves c.args.budget c.args.model.now c.args.form.now _ c.args.starting c.requires.formed c.requires.fits
    (solve_end (c.in_ok-end-in-None.end, Cold))
    (subst
    (λ starting. IsSolved c.args.model.now c.args.budget (option_map (λ basis. basis.now) starting)
    (solve_end (c.in_ok-end-in-None.end, Cold)))
    (sym c.in-None.is)
    (cold_is_solved c.args.budget c.args.model.now _ c.in_ok-end-in-None.ensures.answer
    c.in_ok-end-in-None.ensures.narrow))
