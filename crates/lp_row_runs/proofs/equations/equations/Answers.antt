-- No row, one row more, and all.
use Rattle.std.proofs.Common.{◌≡◌, ◌+◌, sym, subst, arith}
use Rattle.spec_exact.specs.Fraction.{0ℚ}
use Rattle.spec_simplex.specs.declared.ends.RowStart.TheVariants.{Within}
use Rattle.spec_simplex.specs.Start.{start_entry}
use Rattle.spec_simplex.specs.Tableau.{at_place}
use Rattle.spec_simplex.specs.Eliminate.{basis_value, unsolved}
use Rattle.lp_rows.proofs.SameNumbers.{of_some}
use Rattle.lp_row_runs.specs.Rows.{AreRowsAt}
use Rattle.lp_row_runs.proofs.Unsolved.{rows_more, unsolved_at}
use Rattle.lp_row_runs.proofs.equations.equations.Goals as goal

pub loop-i-preserved : goal.loop-i-preserved
loop-i-preserved g c = λ basis.
    let f = c.args.form.now in
    rows_more g.T.Words.value (g.T.Words.value c.args.denominator) c.loop-i.i (f.cols + f.rows) (basis_value f basis)
    (at_place (unsolved f).rows) (start_entry f (Within 0ℚ) c.loop-i.i) c.loop-i.rows.items c.push.new.self.items c.in-Some.row
    (c.loop-i.invariant basis) (of_some _ c.in_ok-row.field-0 c.in-Some.row c.in-Some.is c.in_ok-row.ensures)
    (λ k l. sym (unsolved_at f c.loop-i.i k (omega (arith, c.loop-i-test.true, c.rows-i-end.ensures.value)) l))
    c.in_ok-push-in-Some.ensures.items

pub returns : goal.returns
returns g c = λ basis.
    let f = c.args.form.now in
    let all : c.loop-i.i ≡ f.rows =
    omega (arith, c.loop-i-test.false, c.loop-i.auto.i-end, c.rows-i-end.ensures.value) in
    subst (λ i. AreRowsAt g.T.Words.value (g.T.Words.value c.args.denominator) i (f.cols + f.rows) 0
    (basis_value f basis) (at_place (unsolved f).rows) c.loop-i.rows.items) all (c.loop-i.invariant basis)
