-- The first entry, one more, a refused one, and all of them.
use Rattle.std.proofs.Common.{sym, ap, ◌∙◌, Ok}
use Rattle.std.proofs.lemmas.Result.{err_from_is_err_and}
use Rattle.lp_revised.proofs.Prices.{priced_first, priced_stop, priced_next, priced_whole}
use Rattle.lp_revised.proofs.pricing.price_structural.Goals as goal

pub loop-row-init : goal.loop-row-init
loop-row-init c =
    priced_first c.args.form.now c.args.costs.now c.args.y.now c.args.k c.requires.all c.requires.narrow
    c.entries-row-items.result.now c.entries-row-items.ensures.value c.entries-row-items.ensures.kept c.requires.column
    c.narrow-rest.result (c.narrow-rest.ensures.value ∙ c.cost.ensures) c.narrow-rest.ensures.narrow

pub returns-in_err-less_product : goal.returns-in_err-less_product
returns-in_err-less_product c =
    let p = err_from_is_err_and c.from_residual.result c.from_residual.ensures.1 in
    let step = rw c.in_err-less_product.was at c.less_product.ensures in
    rw (p.1, p.2) (sym
    (priced_stop c.args.form.now c.args.costs.now c.args.y.now c.args.k c.requires.all c.requires.narrow
    c.entries-row-items.result.now c.entries-row-items.ensures.value c.entries-row-items.ensures.kept c.requires.column
    c.loop-row.row-index c.loop-row-item.result c.loop-row-item.is c.loop-row-test.true c.loop-row.rest
    c.loop-row.invariant
    c.index-y-row.result c.neg.result c.index-y-row.is c.neg.ensures c.in_err-less_product.field-0.0 (sym step)))

pub loop-row-preserved : goal.loop-row-preserved
loop-row-preserved c =
    let step = rw c.in_ok-less_product.was at c.less_product.ensures in
    priced_next c.args.form.now c.args.costs.now c.args.y.now c.args.k c.requires.all c.requires.narrow
    c.entries-row-items.result.now c.entries-row-items.ensures.value c.entries-row-items.ensures.kept c.requires.column
    c.loop-row.row-index c.loop-row-item.result c.loop-row-item.is c.loop-row-test.true c.loop-row.rest
    c.loop-row.invariant
    c.index-y-row.result c.neg.result c.index-y-row.is c.neg.ensures c.narrow-rest-in-loop-row.result
    (sym step ∙ ap Ok (sym c.narrow-rest-in-loop-row.ensures.value)) c.narrow-rest-in-loop-row.ensures.narrow

pub returns : goal.returns
returns c = sym
    (priced_whole c.args.form.now c.args.costs.now c.args.y.now c.args.k c.requires.all c.requires.narrow
    c.entries-row-items.result.now c.entries-row-items.ensures.value c.entries-row-items.ensures.kept c.requires.column
    c.loop-row.row-index c.loop-row.rest c.loop-row-test.false c.loop-row.invariant)
