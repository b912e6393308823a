-- One side more.
use Rattle.spec_iis.specs.Sides.{IsSide}
use Rattle.lp_text_commands.proofs.SideLines.{ended_none, item_holds, one_on, sides_more}
use Rattle.lp_text_commands.proofs.iis.sides.print_sides.Goals as goal

pub loop-i-init : goal.loop-i-init
loop-i-init c = ended_none c.args.to.now

pub print_side-requires : goal.print_side-requires
print_side-requires c =
    item_holds (IsSide c.args.model.now) c.args.sides.now c.loop-i.i c.at.result c.at.ensures c.requires

pub loop-i-preserved : goal.loop-i-preserved
loop-i-preserved c =
    one_on c.args.to.now _ _ _ _ _ c.loop-i.invariant c.in_ok-print_side.ensures
    (sides_more c.args.model.now c.args.sides.now c.loop-i.i c.at.result c.at.ensures)
