-- From the starting basis, or without one.
use Rattle.std.proofs.Common.{IfOk, option_map, sym, subst}
use Rattle.spec_solve.specs.Exact.{IsExactEnd}
use Rattle.lp_solve.proofs.exact.large_exactly.Goals as goal

pub returns-in_ok-large_from-in-Some : goal.returns-in_ok-large_from-in-Some
returns-in_ok-large_from-in-Some c =
    c.or_open.ensures c.args.model.now c.args.budget (option_map (λ basis. basis.now) c.args.starting)
    (λ usual. absurd (c.requires usual)) c.in_ok-large_from-in-Some.ensures

pub returns-in-None : goal.returns-in-None
returns-in-None c =
    subst (λ starting. IfOk c.large_cold.result
    (IsExactEnd c.args.model.now c.args.budget (option_map (λ basis. basis.now) starting)))
    (sym c.in-None.is) (c.large_cold.ensures c.args.budget)
