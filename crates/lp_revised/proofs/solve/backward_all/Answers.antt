-- A refused pair.
use Rattle.std.proofs.Common.{length, refl}
use Rattle.std.proofs.lemmas.Result.{err_from_is_err_and}
use Rattle.lp_revised.proofs.BothSolves.{btran_stops}
use Rattle.lp_revised.proofs.solve.backward_all.Goals as goal

pub returns-in_err-backward-clause-run : goal.returns-in_err-backward-clause-run
returns-in_err-backward-clause-run c =
    let p = err_from_is_err_and c.from_residual.result c.from_residual.ensures.1 in
    rw (p.1, p.2)
    (btran_stops (length c.args.v.now) c.args.etas.now c.requires c.args.v.now refl
    c.loop-done.done c.index-etas-last.result c.loop-done.v c.in_err-backward.field-0.0
    c.index-etas-last.is c.loop-done-test.true c.loop-done.invariant c.in_err-backward.ensures.run)
