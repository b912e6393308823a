-- A refusal at a position, and one position more.
use Rattle.std.proofs.Common.{sym, Some, arith}
use Rattle.std.proofs.lemmas.Result.{err_from_is_err_and}
use Rattle.spec_simplex.specs.Step.{best_with}
use Rattle.spec_exact.proofs.RunsInOrder.{steps_more}
use Rattle.spec_exact.specs.Narrow.{number_limit}
use Rattle.spec_factor.specs.Revised.{seen}
use Rattle.lp_simplex.proofs.Ratios.{best_refused}
use Rattle.lp_revised.proofs.state.Revised.best.Goals as goal

pub returns-in_err-best-2 : goal.returns-in_err-best-2
returns-in_err-best-2 c =
    let p = err_from_is_err_and c.from_residual-in_err-best-2.result c.from_residual-in_err-best-2.ensures.1 in
    let first = rw (c.lower.ensures, c.upper.ensures) at c.in_ok-best.ensures in
    rw (p.1, p.2)
    (sym (best_refused (Some number_limit) (seen c.args.starts.now c.args.self.now.bare c.args.e.col c.args.solved.now)
    c.args.e c.loop-i.i c.in_ok-best.best c.loop-i.best _ (sym first) c.loop-i.invariant
    (omega (arith, c.loop-i-test.true, c.rows-i-end.ensures.value)) (sym c.in_err-best-2.ensures)))

pub loop-i-preserved : goal.loop-i-preserved
loop-i-preserved c =
    steps_more c.loop-i.i (best_with (Some number_limit) (seen c.args.starts.now c.args.self.now.bare c.args.e.col
    c.args.solved.now) c.args.e) c.in_ok-best.best _ _ c.loop-i.invariant (sym c.in_ok-best-2.ensures)
