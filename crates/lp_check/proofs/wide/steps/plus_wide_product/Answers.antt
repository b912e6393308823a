use Rattle.lp_check.proofs.Gives.{plus_gives}
use Rattle.lp_check.proofs.wide.steps.plus_wide_product.Goals as goal

pub returns : goal.returns
returns c = plus_gives c.args.v.now c.args.w.now c.args.s _ _ c.in_ok-product.ensures c.in_ok-sum.ensures
