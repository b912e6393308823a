-- A refusal at a column.
use Rattle.std.proofs.Common.{sym, Some, None, arith}
use Rattle.std.proofs.lemmas.Result.{err_from_is_err_and}
use Rattle.spec_simplex.specs.Tableau.{all_columns}
use Rattle.spec_simplex.specs.Fit.{leaving_with}
use Rattle.spec_exact.proofs.RunsInOrder.{steps_stop}
use Rattle.spec_exact.specs.Narrow.{number_limit}
use Rattle.lp_simplex.proofs.dual.leaving.leaving.Goals as goal

pub returns-in_err-first : goal.returns-in_err-first
returns-in_err-first c =
    let p = err_from_is_err_and c.from_residual.result c.from_residual.ensures.1 in
    rw (p.1, p.2)
    (sym (steps_stop c.loop-col.col (all_columns c.args.tab.now) (leaving_with (Some number_limit) c.args.tab.now) None
    c.loop-col.first _ (omega (arith, c.loop-col-test.true, c.width-col-end.ensures.value)) c.loop-col.invariant
    (sym c.in_err-first.ensures)))
