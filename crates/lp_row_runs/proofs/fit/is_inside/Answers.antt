-- The position's row and the bounds of its basic column.
use Rattle.lp_row_runs.proofs.PrimalFeasibleStarts.{inside_read}
use Rattle.lp_row_runs.proofs.fit.is_inside.Goals as goal

pub returns : goal.returns
returns g c = λ h t s.
    inside_read g.T.Words.value c.args.tab.now t c.args.i c.width.result c.index.result.now c.index-row.result.now
    c.index-2.result.now _ c.index-3.result.now _ c.index-value.result.now c.requires.whole c.requires.place s
    c.index-row.ensures c.index.ensures c.width.ensures c.index-value.ensures c.index-2.ensures c.index-3.ensures
    (c.is_between.ensures h)
