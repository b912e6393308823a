use Rattle.std.proofs.Common.{◌∙◌, ap, get_or}
use Rattle.std.proofs.lemmas.Result.{IfOk-weaker}
use Rattle.lp_rows.proofs.RatioAtPosition.{position_is}
use Rattle.lp_rows.proofs.tableau.ratio.stop_in.Goals as goal

pub returns-clause-value : goal.returns-clause-value
returns-clause-value g c t shows best =
    IfOk-weaker c.stop_at.result _ _
    (λ s h. position_is g.T.Words.value c.args.tab.now t shows c.requires.whole c.args.e c.requires.column c.args.i
    c.requires.place c.index-row.result.now c.index-row.ensures c.index-col.result.now _ c.index-col.ensures
    c.index.result.now c.index-4.result.now c.index.ensures
    (c.index-4.ensures ∙ ap (λ k. get_or c.index-row.result.now.numbers.items k c.index-4.result.now) c.width.ensures)
    c.index-2.result.now c.index-3.result.now
    _ _ c.index-2.ensures c.index-3.ensures best
    ∙ h (g.T.Words.value c.args.tab.now.denominator) c.requires.whole.positive best)
    c.stop_at.ensures.value
