-- An artificial.
use Rattle.std.proofs.Common.{◌-◌, sym, ◌∙◌, arith, refl}
use Rattle.lp_revised.proofs.Prices.{priced_nothing}
use Rattle.lp_revised.proofs.pricing.price.Goals as goal

pub returns-else-k-cols-2 : goal.returns-else-k-cols-2
returns-else-k-cols-2 c =
    sym
    (priced_nothing c.args.form.now c.args.costs.now c.args.y.now c.args.k c.requires.all c.requires.narrow
    (c.args.k - c.args.form.now.cols) refl (omega (arith, c.if-k-cols.false, c.cols.ensures.value))
    c.narrow.result (c.narrow.ensures.value ∙ c.cost.ensures) c.narrow.ensures.narrow
    (omega (arith, c.if-k-cols-2.false, c.cols-else-k-cols.ensures.value, c.rows.ensures.value)))
