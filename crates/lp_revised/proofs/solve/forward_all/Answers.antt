-- One pair more, and a refused one.
use Rattle.std.proofs.Common.{length, refl}
use Rattle.std.proofs.lemmas.Result.{err_from_is_err_and}
use Rattle.lp_revised.proofs.BothSolves.{ftran_next, ftran_stops}
use Rattle.lp_revised.proofs.solve.forward_all.Goals as goal

pub returns-in_err-forward-clause-run : goal.returns-in_err-forward-clause-run
returns-in_err-forward-clause-run c =
    let p = err_from_is_err_and c.from_residual.result c.from_residual.ensures.1 in
    rw (p.1, p.2)
    (ftran_stops (length c.args.v.now) c.args.etas.now c.requires c.args.v.now refl
    c.loop-eta.eta-index c.eta-item.result c.loop-eta.v c.in_err-forward.field-0.0
    c.eta-item.is c.loop-eta-test.true c.loop-eta.invariant c.in_err-forward.ensures.run)

pub loop-eta-preserved : goal.loop-eta-preserved
loop-eta-preserved c =
    ftran_next (length c.args.v.now) c.args.etas.now c.requires c.args.v.now
    refl c.loop-eta.eta-index c.eta-item.result c.loop-eta.v c.forward.new.v
    c.eta-item.is c.loop-eta-test.true c.loop-eta.invariant
    c.in_ok-forward.ensures.run c.forward.ensures.all c.forward.ensures.narrow
