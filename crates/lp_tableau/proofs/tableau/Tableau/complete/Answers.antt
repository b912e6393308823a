-- A stop in the values, one in the reduced costs, and the whole.
use Rattle.std.proofs.Common.{◌∙◌, Some, sym, ap}
use Rattle.std.proofs.lemmas.Result.{err_from_is_err_and}
use Rattle.spec_exact.specs.Narrow.{number_limit}
use Rattle.spec_simplex.specs.Tableau.{all_columns}
use Rattle.lp_tableau.proofs.Based.{values_stop, price_stop, filled}
use Rattle.lp_tableau.proofs.tableau.Tableau.complete.Goals as goal

pub returns-in_err-values-clause-err : goal.returns-in_err-values-clause-err
returns-in_err-values-clause-err c =
    let p = err_from_is_err_and c.from_residual.result c.from_residual.ensures.1 in
    rw (p.1, p.2) (values_stop (Some number_limit) c.args.form.now c.args.self.now _ c.in_err-values.ensures.err)

pub returns-in_err-price-clause-err : goal.returns-in_err-price-clause-err
returns-in_err-price-clause-err c =
    let p = err_from_is_err_and c.from_residual-in_err-price.result c.from_residual-in_err-price.ensures.1 in
    rw (p.1, p.2) (price_stop (Some number_limit) c.args.form.now c.args.self.now _ _ c.in_ok-values.ensures.ok
    c.costs.ensures _ c.in_err-price.ensures.priced)

pub set_values-requires : goal.set_values-requires
set_values-requires c = c.in_ok-values.ensures.len ∙ sym (ap all_columns c.in_ok-price.ensures.rest)

pub returns-clause-ok : goal.returns-clause-ok
returns-clause-ok c =
    filled (Some number_limit) c.args.form.now c.args.self.now _ _ c.in_ok-values.ensures.ok c.costs.ensures
    c.price.new.self _ c.in_ok-price.ensures.priced c.in_ok-price.ensures.rest c.set_values.ensures
