-- What stands alone in a row is not 0, and in a column of the model.
use Rattle.std.proofs.Common.{sym, ◌∙◌}
use Rattle.spec_presolve.proofs.InRows.{row_alone}
use Rattle.lp_presolve.proofs.choosing.single_at.Goals as goal

pub quotient-requires : goal.quotient-requires
quotient-requires c =
    (row_alone c.args.model.now c.args.i c.in-One.column c.in-One.value (sym c.in_row.ensures ∙ c.in-One.is)).not_zero

pub quotient-requires-in-One : goal.quotient-requires-in-One
quotient-requires-in-One c =
    (row_alone c.args.model.now c.args.i c.in-One.column c.in-One.value (sym c.in_row.ensures ∙ c.in-One.is)).not_zero

pub near-requires : goal.near-requires
near-requires c =
    (row_alone c.args.model.now c.args.i c.in-One.column c.in-One.value (sym c.in_row.ensures ∙ c.in-One.is)).inside
