-- One row alone.
use Rattle.std.proofs.Common.{◌-◌, sym, ap, ◌∙◌, Ok, arith}
use Rattle.std.proofs.lemmas.Result.{err_from_is_err_and}
use Rattle.lp_revised.proofs.Prices.{logical_stop, logical_priced}
use Rattle.lp_revised.proofs.pricing.price_logical.Goals as goal

pub returns-in_err-less_product : goal.returns-in_err-less_product
returns-in_err-less_product c =
    let p = err_from_is_err_and c.from_residual.result c.from_residual.ensures.1 in
    let step = rw c.in_err-less_product.was at c.less_product.ensures in
    rw (p.1, p.2) (sym
    (logical_stop c.args.form.now c.args.costs.now c.args.y.now c.args.k c.requires.all c.requires.narrow
    (c.args.k - c.cols.result) (ap (λ n. c.args.k - n) c.cols.ensures.value) c.requires.logical
    c.narrow-rest.result (c.narrow-rest.ensures.value ∙ c.cost.ensures) c.narrow-rest.ensures.narrow
    (omega (arith, c.cols.ensures.value, c.requires.column, c.requires.logical))
    c.index-y-k.result c.one.result c.index-y-k.is c.one.ensures c.in_err-less_product.field-0.0 (sym step)))

pub returns : goal.returns
returns c =
    let step = rw c.in_ok-less_product.was at c.less_product.ensures in
    sym
    (logical_priced c.args.form.now c.args.costs.now c.args.y.now c.args.k c.requires.all c.requires.narrow
    (c.args.k - c.cols.result) (ap (λ n. c.args.k - n) c.cols.ensures.value) c.requires.logical
    c.narrow-rest.result (c.narrow-rest.ensures.value ∙ c.cost.ensures) c.narrow-rest.ensures.narrow
    (omega (arith, c.cols.ensures.value, c.requires.column, c.requires.logical))
    c.index-y-k.result c.one.result c.index-y-k.is c.one.ensures c.narrow-less.result
    (sym step ∙ ap Ok (sym c.narrow-less.ensures.value)) c.narrow-less.ensures.narrow)
