use Rattle.std.proofs.Common.{subst, below_more}
use Rattle.spec_model.specs.Model.{part}
use Rattle.lp_solve.specs.Standing.{ColumnStandsWith}
use Rattle.lp_solve.proofs.stands.columns_stand.Goals as goal

pub loop-j-preserved : goal.loop-j-preserved
loop-j-preserved c =
    below_more _ _ c.loop-j.invariant
    (subst (ColumnStandsWith c.args.model.now c.args.x.now c.loop-j.j (part c.args.reduced.now c.loop-j.j))
    c.status_at-status.ensures
    (subst (λ d. ColumnStandsWith c.args.model.now c.args.x.now c.loop-j.j d c.status_at-status.result) c.part.ensures
    (c.in_ok-column_stands.ensures c.if-not-branch.false)))
