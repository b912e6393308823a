use Rattle.std.proofs.Common.{sym, ap, ◌∙◌}
use Rattle.spec_exact.specs.Fraction.{0ℚ, lt_ℚ}
use Rattle.spec_check.specs.Checks.{signed}
use Rattle.lp_check.proofs.Gives.{passes, fails, ray_first, ray_second, ray_third, ray_fourth, ray_fifth, ray_all}
use Rattle.lp_check.proofs.Gives.{allows_are, better_is}
use Rattle.lp_check.proofs.wide.conditions.unbounded.Goals as goal

pub returns-then-not-branch : goal.returns-then-not-branch
returns-then-not-branch c =
    ray_first c.args.model.now c.args.x.now c.args.r.now (fails 1 _ _ c.in_ok-columns_within.ensures c.if-not-branch.true)

pub returns-then-not-branch-2 : goal.returns-then-not-branch-2
returns-then-not-branch-2 c =
    ray_second c.args.model.now c.args.x.now c.args.r.now (passes 1 _ _ c.in_ok-columns_within.ensures c.if-not-branch.false)
    (fails 2 _ _ c.in_ok-point_within.ensures c.if-not-branch-2.true)

pub returns-then-not-columns_allow : goal.returns-then-not-columns_allow
returns-then-not-columns_allow c =
    ray_third c.args.model.now c.args.x.now c.args.r.now (passes 1 _ _ c.in_ok-columns_within.ensures c.if-not-branch.false)
    (passes 2 _ _ c.in_ok-point_within.ensures c.if-not-branch-2.false)
    (fails 3 _ _ c.columns_allow.ensures c.if-not-columns_allow.true)

pub returns-then-not-branch-3 : goal.returns-then-not-branch-3
returns-then-not-branch-3 c =
    ray_fourth c.args.model.now c.args.x.now c.args.r.now (passes 1 _ _ c.in_ok-columns_within.ensures c.if-not-branch.false)
    (passes 2 _ _ c.in_ok-point_within.ensures c.if-not-branch-2.false)
    (passes 3 _ _ c.columns_allow.ensures c.if-not-columns_allow.false)
    (sym (allows_are c.args.model.now c.args.r.now c.in_ok-ray.ray.sums c.in_ok-ray.ensures.sums)
    ∙ fails 4 _ _ c.in_ok-rows_allow.ensures c.if-not-branch-3.true)

pub returns-then-not-gets_better : goal.returns-then-not-gets_better
returns-then-not-gets_better c =
    ray_fifth c.args.model.now c.args.x.now c.args.r.now (passes 1 _ _ c.in_ok-columns_within.ensures c.if-not-branch.false)
    (passes 2 _ _ c.in_ok-point_within.ensures c.if-not-branch-2.false)
    (passes 3 _ _ c.columns_allow.ensures c.if-not-columns_allow.false)
    (sym (allows_are c.args.model.now c.args.r.now c.in_ok-ray.ray.sums c.in_ok-ray.ensures.sums)
    ∙ passes 4 _ _ c.in_ok-rows_allow.ensures c.if-not-branch-3.false)
    (fails 5 c.gets_better.result _
    (better_is c.args.model.now c.args.r.now c.in_ok-ray.ray.cost c.gets_better.result c.in_ok-ray.ensures.cost
    (c.gets_better.ensures ∙ ap (λ s. lt_ℚ (signed s c.in_ok-ray.ray.cost) 0ℚ) c.sense.ensures))
    c.if-not-gets_better.true)

pub returns : goal.returns
returns c =
    ray_all c.args.model.now c.args.x.now c.args.r.now (passes 1 _ _ c.in_ok-columns_within.ensures c.if-not-branch.false)
    (passes 2 _ _ c.in_ok-point_within.ensures c.if-not-branch-2.false)
    (passes 3 _ _ c.columns_allow.ensures c.if-not-columns_allow.false)
    (sym (allows_are c.args.model.now c.args.r.now c.in_ok-ray.ray.sums c.in_ok-ray.ensures.sums)
    ∙ passes 4 _ _ c.in_ok-rows_allow.ensures c.if-not-branch-3.false)
    (passes 5 c.gets_better.result _
    (better_is c.args.model.now c.args.r.now c.in_ok-ray.ray.cost c.gets_better.result c.in_ok-ray.ensures.cost
    (c.gets_better.ensures ∙ ap (λ s. lt_ℚ (signed s c.in_ok-ray.ray.cost) 0ℚ) c.sense.ensures))
    c.if-not-gets_better.false)
