use Rattle.std.proofs.Common.{◌≡◌, length, arith, subst}
use Rattle.lp_rows.specs.Shows.{width}
use Rattle.lp_rows.specs.Held.{IsRowOf}
use Rattle.lp_rows.proofs.Converted.{if_some}
use Rattle.lp_rows.proofs.Taken.{priced_row}
use Rattle.lp_rows.proofs.tableau.second.priced.Goals as goal
use Rattle.lp_rows.proofs.SameNumbers.{of_some}

pub returns-in-Some : goal.returns-in-Some
returns-in-Some g c =
    let all : length c.args.form.now.cost ≡ width c.args.tab.now =
    omega (arith, c.rows.ensures.kept.all_costs, c.requires.rows, c.requires.cols) in
    if_some _ _ c.reduced.result
    (λ row less. priced_row g.T.Words.value c.args.tab.now c.args.form.now.cost c.zero.result
    (g.T.Words.value c.args.tab.now.denominator) c.in-Some.costs row all
    (subst (λ costs. IsRowOf g.T.Words.value costs c.zero.result
    (g.T.Words.value c.args.tab.now.denominator) c.in-Some.costs)
    c.costs.ensures (of_some _ c.in_ok-costs.field-0 c.in-Some.costs c.in-Some.is c.in_ok-costs.ensures)) less)
    c.reduced.ensures
