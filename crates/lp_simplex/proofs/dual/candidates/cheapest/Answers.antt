-- A refusal at a column.
use Rattle.std.proofs.Common.{sym, Some, None, arith}
use Rattle.std.proofs.lemmas.Result.{err_from_is_err_and}
use Rattle.spec_simplex.specs.Tableau.{all_columns}
use Rattle.spec_simplex.specs.Dual.{cheapest_with}
use Rattle.spec_exact.proofs.RunsInOrder.{steps_stop}
use Rattle.spec_exact.specs.Narrow.{number_limit}
use Rattle.lp_simplex.proofs.dual.candidates.cheapest.Goals as goal

pub returns-in_err-best : goal.returns-in_err-best
returns-in_err-best c =
    let p = err_from_is_err_and c.from_residual.result c.from_residual.ensures.1 in
    rw (p.1, p.2) (sym (steps_stop c.loop-k.k (all_columns c.args.tab.now)
    (cheapest_with (Some number_limit) c.args.tab.now c.args.out.position c.args.out.direction) None c.loop-k.best _
    (omega (arith, c.loop-k-test.true, c.width-k-end.ensures.value)) c.loop-k.invariant (sym c.in_err-best.ensures)))
