-- The parts behind the number.
use Rattle.std.proofs.Common.{refl}
use Rattle.std.proofs.lemmas.Result.{on_ok_weaker}
use Rattle.lp_text_commands.proofs.SideLines.{one_on, ended_first}
use Rattle.lp_text_commands.proofs.iis.points.print_point.Goals as goal

pub returns : goal.returns
returns c =
    on_ok_weaker c.print_parts.result
    (λ printed. one_on c.args.to.now _ _ _ _ _ (one_on c.args.to.now _ _ _ _ _ c.in_ok-push_numbered.ensures c.in_ok-push.ensures.ok refl)
    printed (ended_first _ _))
    c.print_parts.ensures
