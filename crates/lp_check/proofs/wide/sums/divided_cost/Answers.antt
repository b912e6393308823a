use Rattle.std.proofs.Common.{◌≡◌, subst, IfOk}
use Rattle.spec_exact.specs.Fraction.{ℚ}
use Rattle.lp_ratio.specs.Multiple.{multiple}
use Rattle.lp_check.proofs.wide.sums.divided_cost.Goals as goal

pub returns : goal.returns
returns c =
    subst (λ (v : ℚ). IfOk c.divided.result (λ r. multiple c.args.by.now r ≡ v)) c.in_ok-cost.ensures c.divided.ensures
