use Rattle.std.proofs.Common.{◌<◌, subst, sym}
use Rattle.spec_exact.specs.Narrow.{IsNarrow}
use Rattle.spec_model.specs.Model.{height}
use Rattle.lp_model.proofs.ChangedFields.{rhs_here}
use Rattle.lp_model.proofs.model.Model.set_rhs.Goals as goal

pub invariant_of-self : goal.invariant_of-self
invariant_of-self c =
    rhs_here _ _ _ c.self.invariant c.args.i c.index_mut.result.now c.index_mut.ensures.value
    (subst (λ m. c.args.i < height m) (sym c.self.view_is) c.requires)
    c.args.v c.narrow.result c.narrow.ensures.value (subst IsNarrow c.narrow.ensures.value c.narrow.ensures.narrow)
