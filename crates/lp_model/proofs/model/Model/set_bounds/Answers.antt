use Rattle.std.proofs.Common.{◌<◌, refl, subst, sym}
use Rattle.spec_model.specs.Model.{ExactColumn, width}
use Rattle.lp_model.proofs.NamePlaces.{names_set}
use Rattle.lp_model.proofs.ChangedFields.{bounds_here}
use Rattle.lp_model.proofs.model.Model.set_bounds.Goals as goal

pub invariant_of-self : goal.invariant_of-self
invariant_of-self c =
    record {
      model =
          bounds_here _ c.args.j c.index_mut-column.result.now c.index_mut-column.ensures.value
          (subst (λ m. c.args.j < width m) (sym c.self.view_is) c.requires.j_in_range)
          c.args.lower c.args.upper c.narrow_if-column.result c.narrow_if-column-2.result
          c.narrow_if-column.ensures.value c.narrow_if-column-2.ensures.value c.self.invariant.model
          (c.requires.lower, c.narrow_if-column.ensures.narrow) (c.requires.upper, c.narrow_if-column-2.ensures.narrow);
      rows = c.self.invariant.rows;
      columns =
          names_set (λ (x : ExactColumn). x.name) _ c.self.inside.columns.items c.args.j c.index_mut-column.result.now
          (record c.index_mut-column.result.now {
            lower = c.narrow_if-column.result;
            upper = c.narrow_if-column-2.result;
          }) c.index_mut-column.ensures.value
          (subst (λ m. c.args.j < width m) (sym c.self.view_is) c.requires.j_in_range) refl c.self.invariant.columns;
    }
