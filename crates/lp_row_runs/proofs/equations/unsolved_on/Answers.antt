-- The parts.
use Rattle.std.proofs.Common.{◌+◌, ◌∙◌, subst₂, arith}
use Rattle.lp_rows.specs.Shows.{IsRow}
use Rattle.lp_rows.proofs.SameNumbers.{of_some}
use Rattle.lp_row_runs.proofs.Unsolved.{unsolved_is}
use Rattle.lp_row_runs.proofs.equations.unsolved_on.Goals as goal

pub returns : goal.returns
returns g c =
    unsolved_is g.T.Words.value c.args.form.now c.args.basis.now _ c.rows.ensures.kept c.requires.all
    c.cols.ensures.value
    (of_some _ c.in_ok-rows.field-0 c.in-Some-3.rows c.in-Some-3.is (c.in_ok-rows.ensures c.args.basis.now))
    (subst₂ (λ a b. IsRow g.T.Words.value (a + b) c.in_ok-zero_row.field-0) c.cols-2.ensures.value c.rows.ensures.value
    c.in_ok-zero_row.ensures.row)
    (λ k h. c.in_ok-zero_row.ensures.none k (omega (arith, h, c.cols-2.ensures.value, c.rows.ensures.value)))
    c.in_ok-no_columns.ensures c.in_ok-statuses.ensures
    (of_some _ c.in_ok-lower.field-0 c.in-Some.lower c.in-Some.is c.in_ok-lower.ensures ∙ c.requires.lower)
    (of_some _ c.in_ok-upper.field-0 c.in-Some-2.upper c.in-Some-2.is c.in_ok-upper.ensures ∙ c.requires.upper)
    c.in_ok-fixed.ensures c.requires.positive
