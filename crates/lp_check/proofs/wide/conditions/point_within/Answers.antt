use Rattle.std.proofs.Common.{◌≡◌, subst, IfOk}
use Rattle.std.specs.Prelude.{⊤}
use Rattle.spec_check.specs.Run.{Run, need}
use Rattle.lp_check.proofs.Gives.{within_are}
use Rattle.lp_check.proofs.wide.conditions.point_within.Goals as goal

pub returns : goal.returns
returns c =
    subst (λ (o : Run ⊤). IfOk c.rows_within.result (λ b. o ≡ need 2 b))
    (within_are c.args.model.now c.args.x.now c.in_ok-point.point.sums c.in_ok-point.ensures.sums)
    c.rows_within.ensures
