-- A refusal at a column, and one column more.
use Rattle.std.proofs.Common.{sym, Some, arith}
use Rattle.std.proofs.lemmas.Result.{err_from_is_err_and}
use Rattle.spec_simplex.specs.Tableau.{all_columns}
use Rattle.spec_exact.proofs.RunsInOrder.{steps_more, steps_stop}
use Rattle.spec_exact.specs.Narrow.{number_limit}
use Rattle.spec_range.specs.Rule.{no_ends, carried_if}
use Rattle.lp_range.proofs.carried.nonbasic.Goals as goal

pub returns-in_err-ends : goal.returns-in_err-ends
returns-in_err-ends c =
    let p = err_from_is_err_and c.from_residual.result c.from_residual.ensures.1 in
    rw (p.1, p.2) (sym (steps_stop c.loop-k.k (all_columns c.args.tab.now)
    (carried_if (Some number_limit) c.args.rhs c.args.tab.now c.args.s) no_ends c.loop-k.ends _
    (omega (arith, c.loop-k-test.true, c.width-k-end.ensures.value)) c.loop-k.invariant (sym c.in_err-ends.ensures)))

pub loop-k-preserved : goal.loop-k-preserved
loop-k-preserved c =
    steps_more c.loop-k.k (carried_if (Some number_limit) c.args.rhs c.args.tab.now c.args.s) no_ends c.loop-k.ends _
    c.loop-k.invariant (sym c.in_ok-ends.ensures)
