use Rattle.std.proofs.Common.{◌<◌, subst, sym}
use Rattle.spec_model.specs.Model.{width}
use Rattle.spec_edit.proofs.Keeping.{without_column-kept}
use Rattle.lp_model.proofs.model.Model.remove_col.Goals as goal

pub invariant_of-self : goal.invariant_of-self
invariant_of-self c =
    record {
      model =
          rw c.remove.ensures.items
          (without_column-kept _ c.args.j c.self.invariant.model
          (subst (λ m. c.args.j < width m) (sym c.self.view_is) c.requires));
      rows = c.self.invariant.rows;
      columns = tt;
    }
