-- The step is that of the reduction.
use Rattle.lp_presolve.proofs.Overs.{carried_empty, carried_single, carried_fixed}
use Rattle.lp_presolve.proofs.carrying.over.Goals as goal

pub returns-in_ok-over_empty-in-Empty-clause-carried : goal.returns-in_ok-over_empty-in-Empty-clause-carried
returns-in_ok-over_empty-in-Empty-clause-carried c = λ r m h.
    carried_empty c.args.step.now r m c.in-Empty.row c.args.certificate _ h c.in-Empty.is c.in_ok-over_empty-in-Empty.ensures

pub returns-in-Single-clause-carried : goal.returns-in-Single-clause-carried
returns-in-Single-clause-carried c = λ r m h.
    carried_single c.args.step.now r m c.in-Single.row c.in-Single.column c.in-Single.value c.in-Single.lower c.in-Single.upper
    c.args.certificate c.over_single.result h c.in-Single.is c.over_single.ensures

pub returns-in_ok-over_fixed-in-Fixed-clause-carried : goal.returns-in_ok-over_fixed-in-Fixed-clause-carried
returns-in_ok-over_fixed-in-Fixed-clause-carried c = λ r m h.
    carried_fixed c.args.step.now r m c.in-Fixed.column c.in-Fixed.value c.args.certificate _ h c.in-Fixed.is
    c.in_ok-over_fixed-in-Fixed.ensures
