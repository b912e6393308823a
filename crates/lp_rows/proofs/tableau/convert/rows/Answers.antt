use Rattle.std.proofs.Common.{◌≡◌, subst, arith}
use Rattle.lp_rows.specs.Held.{AreRowsOf}
use Rattle.lp_rows.proofs.Converted.{rows_more}
use Rattle.lp_rows.proofs.tableau.convert.rows.Goals as goal
use Rattle.lp_rows.proofs.SameNumbers.{of_some}

pub loop-i-preserved : goal.loop-i-preserved
loop-i-preserved g c =
    rows_more g.T.Words.value c.args.tab.now (g.T.Words.value c.args.denominator) c.loop-i.i c.loop-i.rows.items _
    c.in-Some.row c.loop-i.invariant (of_some _ c.in_ok-row.field-0 c.in-Some.row c.in-Some.is c.in_ok-row.ensures)
    c.in_ok-push-in-Some.ensures.items

pub returns : goal.returns
returns g c =
    let all : c.loop-i.i ≡ c.args.tab.now.rows = omega (arith, c.loop-i-test.false, c.rows-i-end.ensures.value) in
    subst (λ n. AreRowsOf g.T.Words.value c.args.tab.now (g.T.Words.value c.args.denominator) n c.loop-i.rows.items) all
    c.loop-i.invariant
