-- Rows of zeros, one column more, and all.
use Rattle.std.proofs.Common.{◌≡◌, ◌*◌, length, ap, ap₂, subst, sym, ◌∙◌, replicate, arith}
use Rattle.std.proofs.lemmas.List.{length-replicate}
use Rattle.spec_exact.specs.Fraction.{0ℚ}
use Rattle.lp_tableau.specs.Begun.{HoldsColumns}
use Rattle.lp_tableau.specs.Grid.{rows_of}
use Rattle.lp_tableau.proofs.FormColumns.{zero_columns}
use Rattle.lp_tableau.proofs.coefficients.coefficients.Goals as goal

pub loop-j-init : goal.loop-j-init
loop-j-init c =
    let f = c.args.form.now in
    let rows = c.rows.ensures.value in
    let cols = c.cols.ensures.value in
    subst (HoldsColumns f 0)
    (sym (c.from_block-grid.ensures ∙ ap₂ (λ n m. rows_of n m c.in_ok-zeros.field-0.items) cols rows))
    (zero_columns f c.rows.ensures.kept _ (c.in_ok-zeros.ensures ∙ ap₂ (λ m n. replicate (m * n) 0ℚ) rows cols))

pub from_block-grid-requires : goal.from_block-grid-requires
from_block-grid-requires c = record {
  few_rows = c.rows.ensures.bound;
  few_columns = omega (arith, c.cols.ensures.bound);
  size = ap length c.in_ok-zeros.ensures ∙ length-replicate _ 0ℚ;
}

pub loop-j-preserved : goal.loop-j-preserved
loop-j-preserved c = c.put_column.ensures

pub returns : goal.returns
returns c =
    let all : c.loop-j.j ≡ c.args.form.now.cols =
    omega (arith, c.loop-j.auto.j-end, c.loop-j-test.false, c.cols-j-end.ensures.value) in
    subst (λ n. HoldsColumns c.args.form.now n c.loop-j.grid) all c.loop-j.invariant
