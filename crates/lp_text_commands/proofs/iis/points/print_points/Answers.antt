-- One point more.
use Rattle.std.proofs.Common.{◌≡◌, length}
use Rattle.spec_model.specs.Model.{width}
use Rattle.lp_text_commands.proofs.SideLines.{ended_none, item_holds, one_on, points_more}
use Rattle.lp_text_commands.proofs.iis.points.print_points.Goals as goal

pub loop-k-init : goal.loop-k-init
loop-k-init c = ended_none c.args.to.now

pub print_point-requires : goal.print_point-requires
print_point-requires c =
    item_holds (λ z. length z ≡ width c.args.model.now) c.args.points.now c.loop-k.k c.get.result.now c.get.ensures c.requires

pub loop-k-preserved : goal.loop-k-preserved
loop-k-preserved c =
    one_on c.args.to.now _ _ _ _ _ c.loop-k.invariant c.in_ok-print_point.ensures
    (points_more c.args.model.now c.args.points.now c.loop-k.k c.get.result.now c.get.ensures)
