use Rattle.std.proofs.Common.{◌<◌, subst, sym}
use Rattle.spec_model.specs.Model.{height, row}
use Rattle.spec_model.specs.Kept.{FitsKind}
use Rattle.lp_model.proofs.ChangedFields.{range_here}
use Rattle.lp_model.proofs.model.Model.set_range.Goals as goal

pub invariant_of-self : goal.invariant_of-self
invariant_of-self c =
    range_here _ _ _ c.self.invariant c.args.i c.index_mut.result.now c.index_mut.ensures.value
    (subst (λ m. c.args.i < height m) (sym c.self.view_is) c.requires.inside)
    c.args.range c.narrow_if.result c.narrow_if.ensures.value
    (subst (λ m. FitsKind (row m c.args.i).kind c.args.range) (sym c.self.view_is) c.requires.range)
    c.narrow_if.ensures.narrow
