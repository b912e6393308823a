-- One column more.
use Rattle.std.proofs.Common.{◌<◌, length, arith}
use Rattle.spec_simplex.specs.Form.{least_cost}
use Rattle.lp_form.proofs.MadeForms.{column_more}
use Rattle.lp_form.proofs.standard.costs.Goals as goal

pub loop-j-preserved : goal.loop-j-preserved
loop-j-preserved c =
    let m = c.args.model.now in
    let l : c.loop-j.j < length m.columns = omega (arith, c.loop-j-test.true, c.cols-j-end.ensures.value) in
    column_more (λ c. least_cost m.sense c.cost) m.columns _ _ _ _ c.in_ok-push.ensures.ok c.loop-j.invariant
    (rw (c.sense.ensures, c.col.ensures) at c.least_cost.ensures) l
