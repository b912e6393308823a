use Rattle.std.proofs.Common.{◌<◌, length, subst, sym, arith}
use Rattle.lp_model.proofs.Lowered.{AreLowered, row-above, lowered-more}
use Rattle.lp_model.proofs.entries.lower_rows.Goals as goal

pub overflow_sub-row : goal.overflow_sub-row
overflow_sub-row c =
    let within : c.loop-at.at < length c.args.entries.now = omega arith in
    row-above _ _ _ _ c.loop-at.invariant c.at-row.result c.loop-at.auto.at within c.at-row.ensures c.requires.above

pub loop-at-preserved : goal.loop-at-preserved
loop-at-preserved c =
    let within : c.loop-at.at < length c.args.entries.now = omega arith in
    subst (AreLowered _ _ _) (sym c.set.ensures)
    (lowered-more _ _ _ _ c.loop-at.invariant c.at-row.result c.loop-at.auto.at within c.at-row.ensures)
