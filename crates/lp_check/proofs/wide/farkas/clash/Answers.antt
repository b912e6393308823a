use Rattle.std.proofs.Common.{true, false}
use Rattle.lp_check.proofs.Gives.{clashed, by_test, crossed_bounds}
use Rattle.lp_check.proofs.wide.farkas.clash.Goals as goal

pub returns-then-branch : goal.returns-then-branch
returns-then-branch c =
    by_test 1 c.in_ok-is_crossed.field-0 true _
    (clashed c.args.model.now c.args.j _
    (crossed_bounds c.args.model.now c.args.j _ _ _ _ c.in_ok-lower.ensures c.in_ok-upper.ensures c.col-column.ensures
    c.in_ok-is_crossed.ensures)) c.if-branch.true

pub returns-else-branch : goal.returns-else-branch
returns-else-branch c =
    by_test 1 c.in_ok-is_crossed.field-0 false _
    (clashed c.args.model.now c.args.j _
    (crossed_bounds c.args.model.now c.args.j _ _ _ _ c.in_ok-lower.ensures c.in_ok-upper.ensures c.col-column.ensures
    c.in_ok-is_crossed.ensures)) c.if-branch.false
