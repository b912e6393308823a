use Rattle.std.proofs.Common.{length, refl, ap, ◌∙◌, arith}
use Rattle.spec_exact.specs.Fraction.{◌+ℚ◌, ◌*ℚ◌}
use Rattle.lp_check.proofs.Walks.{inside_at, part_is, column_step, column_end}
use Rattle.lp_check.proofs.wide.sums.add_column.Goals as goal

pub loop-entry-preserved : goal.loop-entry-preserved
loop-entry-preserved c =
    let row =
    inside_at (length c.args.sums.now.items) c.args.entries.now c.loop-entry.entry-index c.entry-item.result c.requires
    c.loop-entry-test.true c.entry-item.is in
    column_step (length c.args.sums.now.items) c.args.entries.now c.loop-entry.entry-index c.entry-item.result
    c.args.number.now c.add_product.new.self c.args.sums.now.items c.loop-entry.sums.items _ c.requires
    c.loop-entry-test.true c.entry-item.is refl
    (c.in_ok-add_product.ensures
    ∙ ap (λ z. z +ℚ c.entry-item.result.1 *ℚ c.args.number.now)
    (part_is c.loop-entry.sums.items c.entry-item.result.0 _ (omega (arith, row, c.loop-entry.invariant.0))
    c.index_mut.ensures.value))
    c.loop-entry.invariant

pub returns-clause-sums : goal.returns-clause-sums
returns-clause-sums c =
    column_end (length c.args.sums.now.items) c.args.entries.now c.loop-entry.entry-index c.args.number.now
    c.args.sums.now.items c.loop-entry.sums.items c.loop-entry-test.false c.loop-entry.invariant.1
