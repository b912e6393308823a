use Rattle.std.proofs.Common.{◌≡◌, subst, IfOk}
use Rattle.std.specs.Prelude.{⊤}
use Rattle.spec_check.specs.Run.{Run, need}
use Rattle.lp_check.proofs.Gives.{columns_are}
use Rattle.lp_check.proofs.wide.conditions.point_tight.Goals as goal

pub returns : goal.returns
returns c =
    subst (λ (o : Run ⊤). IfOk c.columns_tight.result (λ b. o ≡ need 3 b))
    (columns_are c.args.model.now c.args.x.now c.args.y.now c.in_ok-reduced.reduced c.in_ok-reduced.ensures.value)
    c.columns_tight.ensures
