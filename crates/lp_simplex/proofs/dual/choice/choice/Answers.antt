-- The leaving column has a position, and the pivot may be made.
use Rattle.std.proofs.Common.{◌<◌, sym, ap, ◌∙◌, subst, subst₂, Some, Ok}
use Rattle.spec_exact.specs.Narrow.{number_limit}
use Rattle.spec_simplex.specs.Dual.{cheapest_run}
use Rattle.lp_simplex.specs.Starts.{CanEnter}
use Rattle.lp_simplex.proofs.ChosenPivots.{place_inside, can_enter}
use Rattle.lp_simplex.proofs.dual.choice.choice.Goals as goal

pub cheapest-requires : goal.cheapest-requires
cheapest-requires c =
    subst (λ i. i < c.args.tab.now.rows) (sym c.position_of-position.ensures)
    (place_inside (Some number_limit) c.args.tab.now c.requires c.in-Some.out (sym c.in_ok-out.ensures ∙ ap Ok
    c.in-Some.is))

pub returns-in-Some-2-clause-possible : goal.returns-in-Some-2-clause-possible
returns-in-Some-2-clause-possible c =
    subst₂ (λ i to. CanEnter c.args.tab.now i c.in-Some-2.best.col to)
    (sym c.position_of-position.ensures) (sym c.bound_behind.ensures)
    (can_enter (Some number_limit) c.args.tab.now c.requires c.in-Some.out
    (sym c.in_ok-out.ensures ∙ ap Ok c.in-Some.is) c.in-Some-2.best
    (ap (λ i. cheapest_run (Some number_limit) c.args.tab.now i c.in-Some.out.direction) (sym c.position_of-position.ensures)
    ∙ sym c.in_ok-cheapest.ensures ∙ ap Ok c.in-Some-2.is))

pub returns-in-None-clause-possible : goal.returns-in-None-clause-possible
returns-in-None-clause-possible c =
    subst (λ i. i < c.args.tab.now.rows) (sym c.position_of-position.ensures)
    (place_inside (Some number_limit) c.args.tab.now c.requires c.in-Some.out (sym c.in_ok-out.ensures ∙ ap Ok
    c.in-Some.is))
