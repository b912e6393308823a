use Rattle.std.proofs.Common.{◌∙◌, ap, slice_set}
use Rattle.spec_mps.specs.Bounds.{bounded}
use Rattle.lp_mps.specs.BoundSeen.{bound_seen}
use Rattle.lp_mps.proofs.ListItems.{changed_at-set, changed_at-past}
use Rattle.lp_mps.proofs.read.bound_card.bound_at.Goals as goal

pub returns-then-place-columns : goal.returns-then-place-columns
returns-then-place-columns c =
    ap (slice_set c.args.columns.now c.args.place) c.bound_column.ensures
    ∙ changed_at-set c.args.columns.now c.args.place
    (bounded c.args.lowered (bound_seen c.args.card.now)) c.index-columns-place.result c.if-place-columns.true

pub returns-else-place-columns : goal.returns-else-place-columns
returns-else-place-columns c =
    changed_at-past c.args.columns.now c.args.place
    (bounded c.args.lowered (bound_seen c.args.card.now)) c.if-place-columns.false
