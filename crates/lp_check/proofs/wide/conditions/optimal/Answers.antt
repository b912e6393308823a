use Rattle.std.proofs.Common.{sym, ◌∙◌}
use Rattle.lp_check.proofs.Gives.{passes, fails, no_first, no_second, no_third, no_fourth, all_pass}
use Rattle.lp_check.proofs.Gives.{within_are, tight_are, worth_is}
use Rattle.lp_check.proofs.wide.conditions.optimal.Goals as goal

pub returns-then-not-branch : goal.returns-then-not-branch
returns-then-not-branch c =
    no_first c.args.model.now c.args.x.now c.args.y.now (fails 1 _ _ c.in_ok-columns_within.ensures c.if-not-branch.true)

pub returns-then-not-branch-2 : goal.returns-then-not-branch-2
returns-then-not-branch-2 c =
    no_second c.args.model.now c.args.x.now c.args.y.now (passes 1 _ _ c.in_ok-columns_within.ensures c.if-not-branch.false)
    (sym (within_are c.args.model.now c.args.x.now c.in_ok-point.point.sums c.in_ok-point.ensures.sums)
    ∙ fails 2 _ _ c.in_ok-rows_within.ensures c.if-not-branch-2.true)

pub returns-then-not-branch-3 : goal.returns-then-not-branch-3
returns-then-not-branch-3 c =
    no_third c.args.model.now c.args.x.now c.args.y.now (passes 1 _ _ c.in_ok-columns_within.ensures c.if-not-branch.false)
    (sym (within_are c.args.model.now c.args.x.now c.in_ok-point.point.sums c.in_ok-point.ensures.sums)
    ∙ passes 2 _ _ c.in_ok-rows_within.ensures c.if-not-branch-2.false)
    (fails 3 _ _ c.in_ok-point_tight.ensures c.if-not-branch-3.true)

pub returns-then-not-branch-4 : goal.returns-then-not-branch-4
returns-then-not-branch-4 c =
    no_fourth c.args.model.now c.args.x.now c.args.y.now (passes 1 _ _ c.in_ok-columns_within.ensures c.if-not-branch.false)
    (sym (within_are c.args.model.now c.args.x.now c.in_ok-point.point.sums c.in_ok-point.ensures.sums)
    ∙ passes 2 _ _ c.in_ok-rows_within.ensures c.if-not-branch-2.false)
    (passes 3 _ _ c.in_ok-point_tight.ensures c.if-not-branch-3.false)
    (sym (tight_are c.args.model.now c.args.x.now c.args.y.now c.in_ok-point.point.sums c.in_ok-point.ensures.sums)
    ∙ fails 4 _ _ c.in_ok-rows_tight.ensures c.if-not-branch-4.true)

pub returns : goal.returns
returns c =
    all_pass c.args.model.now c.args.x.now c.args.y.now _ (passes 1 _ _ c.in_ok-columns_within.ensures c.if-not-branch.false)
    (sym (within_are c.args.model.now c.args.x.now c.in_ok-point.point.sums c.in_ok-point.ensures.sums)
    ∙ passes 2 _ _ c.in_ok-rows_within.ensures c.if-not-branch-2.false)
    (passes 3 _ _ c.in_ok-point_tight.ensures c.if-not-branch-3.false)
    (sym (tight_are c.args.model.now c.args.x.now c.args.y.now c.in_ok-point.point.sums c.in_ok-point.ensures.sums)
    ∙ passes 4 _ _ c.in_ok-rows_tight.ensures c.if-not-branch-4.false)
    (worth_is c.args.model.now c.args.x.now c.in_ok-point.point.cost _ c.in_ok-point.ensures.cost c.in_ok-value.ensures)
