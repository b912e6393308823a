-- The first entry, one more, and all of them.
use Rattle.lp_revised.proofs.ScatteredColumns.{negated_first, in_column, negated_next, negated_whole}
use Rattle.lp_revised.proofs.choose.put_negatives.Goals as goal

pub loop-row-init : goal.loop-row-init
loop-row-init c =
    negated_first c.args.form.now c.args.k c.entries-row-items.result.now c.entries-row-items.ensures.value
    c.entries-row-items.ensures.kept c.requires.structural _ c.requires.zeros

pub set-requires : goal.set-requires
set-requires c =
    in_column c.args.form.now c.args.k c.entries-row-items.result.now c.entries-row-items.ensures.value
    c.entries-row-items.ensures.kept c.requires.structural
    c.loop-row.row-index c.loop-row-item.result c.loop-row-item.is c.loop-row-test.true c.loop-row.column
    c.loop-row.invariant

pub loop-row-preserved : goal.loop-row-preserved
loop-row-preserved c =
    negated_next c.args.form.now c.args.k c.entries-row-items.result.now c.entries-row-items.ensures.value
    c.entries-row-items.ensures.kept c.requires.structural
    c.loop-row.row-index c.loop-row-item.result c.loop-row-item.is c.loop-row-test.true c.loop-row.column _
    c.neg.result c.loop-row.invariant c.neg.ensures c.set.ensures

pub returns : goal.returns
returns c =
    negated_whole c.args.form.now c.args.k c.entries-row-items.result.now c.entries-row-items.ensures.value
    c.entries-row-items.ensures.kept c.requires.structural
    c.loop-row.row-index c.loop-row.column c.loop-row-test.false c.loop-row.invariant
