use Rattle.lp_model.proofs.EmptyColumns.{ascending_here, lowered-more}
use Rattle.lp_model.proofs.changes.take_row_out_of.Goals as goal

pub take_row_out-requires : goal.take_row_out-requires
take_row_out-requires c =
    ascending_here c.args.i c.args.columns.now c.loop-column.columns c.loop-column.column-index
    c.column-item.result c.loop-column-test.true c.loop-column.invariant c.requires

pub loop-column-preserved : goal.loop-column-preserved
loop-column-preserved c =
    lowered-more c.args.i c.args.columns.now c.loop-column.columns c.loop-column.column-index
    c.column-item.result _ c.loop-column-test.true c.loop-column.auto.columns c.loop-column.invariant
    c.take_row_out.ensures
