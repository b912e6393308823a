-- One column more.
use Rattle.spec_model.specs.Model.{column}
use Rattle.lp_text_commands.proofs.SideLines.{ended_none, part_on}
use Rattle.lp_text_commands.proofs.iis.points.print_parts.Goals as goal

pub loop-j-init : goal.loop-j-init
loop-j-init c = ended_none c.args.to.now

pub loop-j-preserved : goal.loop-j-preserved
loop-j-preserved c =
    part_on (λ j. (column c.args.model.now j).name) c.args.point.now c.loop-j.j c.args.to.now _ _ _ _
    c.loop-j.invariant c.in_ok-print_part.ensures c.name_at.ensures c.part.ensures
