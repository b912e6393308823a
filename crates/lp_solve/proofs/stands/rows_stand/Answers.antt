use Rattle.std.proofs.Common.{ap, subst, below_more, ◌+◌, ◌∙◌}
use Rattle.spec_model.specs.Model.{part}
use Rattle.spec_simplex.specs.Eliminate.{basis_at}
use Rattle.lp_solve.specs.Standing.{RowStandsWith}
use Rattle.lp_solve.proofs.stands.rows_stand.Goals as goal

pub loop-i-preserved : goal.loop-i-preserved
loop-i-preserved c =
    below_more _ _ c.loop-i.invariant
    (subst (RowStandsWith c.args.model.now c.args.y.now c.loop-i.i (part c.args.sums.now c.loop-i.i))
    (c.status_at-status.ensures ∙ ap (λ n. basis_at c.args.basis.now (n + c.loop-i.i)) c.cols-first.ensures.value)
    (subst (λ s. RowStandsWith c.args.model.now c.args.y.now c.loop-i.i s c.status_at-status.result) c.part.ensures
    (c.in_ok-row_stands.ensures c.if-not-branch.false)))
