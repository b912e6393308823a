-- Each part from the call that makes it.
use Rattle.spec_exact.specs.Fraction.{0ℚ}
use Rattle.spec_exact.specs.Run.{made}
use Rattle.spec_simplex.specs.Tableau.{form_columns, all_columns, reduced_at, lower_at, upper_at}
use Rattle.lp_rows.specs.Held.{IsRowOf, AreRowsOf, AreBounds}
use Rattle.lp_rows.proofs.SameNumbers.{of_some}
use Rattle.lp_rows.proofs.tableau.convert.parts.Goals as goal

pub returns : goal.returns
returns g c =
    let t = c.args.tab.now in
    let bounds =
    of_some (AreBounds g.T.Words.value (made (all_columns t) (lower_at t)) (made (all_columns t) (upper_at t)))
    c.in_ok-bounds.field-0 c.in-Some.bounds c.in-Some.is c.in_ok-bounds.ensures in
    record {
      cols = c.cols.ensures.value;
      rows =
          of_some (λ v. AreRowsOf g.T.Words.value t (g.T.Words.value c.in-Some.bounds.denominator) t.rows v.items)
          c.in_ok-rows.field-0 c.in-Some-2.rows c.in-Some-2.is c.in_ok-rows.ensures;
      costs =
          of_some (IsRowOf g.T.Words.value (made (form_columns t) (reduced_at t)) 0ℚ
          (g.T.Words.value c.in-Some.bounds.denominator)) c.in_ok-costs.field-0 c.in-Some-3.costs c.in-Some-3.is
          c.in_ok-costs.ensures;
      basic = c.in_ok-standing.ensures.basic;
      status = c.in_ok-standing.ensures.status;
      lower = bounds.below;
      upper = bounds.above;
      fixed = c.in_ok-standing.ensures.fixed;
      positive = bounds.positive;
    }
