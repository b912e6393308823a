use Rattle.std.proofs.Common.{length, ap, ◌∙◌}
use Rattle.spec_exact.specs.Fraction.{◌+ℚ◌, ◌*ℚ◌}
use Rattle.spec_exact.specs.Sums.{sum_below}
use Rattle.spec_exact.proofs.Ruleset.{zero-+ℚ}
use Rattle.spec_model.specs.Model.{entry_of, part}
use Rattle.lp_check.proofs.Walks.{inside_at, part_is, weigh_step, weigh_end}
use Rattle.lp_check.proofs.wide.prices.weighed_sum.Goals as goal

pub loop-entry-init : goal.loop-entry-init
loop-entry-init c =
    ap (λ s. s +ℚ sum_below (length c.args.y.now) (λ i. part c.args.y.now i *ℚ entry_of c.args.entries.now i)) c.in_ok-sum.ensures
    ∙ zero-+ℚ _

pub loop-entry-preserved : goal.loop-entry-preserved
loop-entry-preserved c =
    weigh_step (length c.args.y.now) c.args.entries.now c.args.y.now c.loop-entry.entry-index c.entry-item.result
    c.index-y-entry.result c.loop-entry.sum c.add_product.new.self _ c.requires c.loop-entry-test.true c.entry-item.is
    (part_is c.args.y.now c.entry-item.result.0 c.index-y-entry.result
    (inside_at (length c.args.y.now) c.args.entries.now c.loop-entry.entry-index c.entry-item.result c.requires
    c.loop-entry-test.true c.entry-item.is)
    c.index-y-entry.is)
    c.in_ok-add_product.ensures c.loop-entry.invariant

pub returns : goal.returns
returns c =
    weigh_end (length c.args.y.now) c.args.entries.now c.args.y.now c.loop-entry.entry-index c.loop-entry.sum _
    c.loop-entry-test.false c.loop-entry.invariant
