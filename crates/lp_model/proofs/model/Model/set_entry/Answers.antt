use Rattle.std.proofs.Common.{◌<◌, refl, subst, sym}
use Rattle.spec_model.specs.Model.{ExactColumn, width, height}
use Rattle.lp_model.proofs.NamePlaces.{names_set}
use Rattle.lp_model.proofs.ChangedFields.{entries_here}
use Rattle.lp_model.proofs.model.Model.set_entry.Goals as goal

pub invariant_of-self : goal.invariant_of-self
invariant_of-self c =
    record {
      model =
          entries_here _ c.args.j c.index_mut-column.result.now c.index_mut-column.ensures.value
          (subst (λ m. c.args.j < width m) (sym c.self.view_is) c.requires.j_in_range)
          c.put_entry.result c.args.i c.args.v c.put_entry.new.entries c.put_entry.ensures.ok c.put_entry.ensures.err
          (subst (λ m. c.args.i < height m) (sym c.self.view_is) c.requires.i_in_range)
          c.self.invariant.model c.put_entry.ensures.narrow;
      rows = c.self.invariant.rows;
      columns =
          names_set (λ (x : ExactColumn). x.name) _ c.self.inside.columns.items c.args.j c.index_mut-column.result.now
          (record c.index_mut-column.result.now { entries = c.put_entry.new.entries }) c.index_mut-column.ensures.value
          (subst (λ m. c.args.j < width m) (sym c.self.view_is) c.requires.j_in_range) refl c.self.invariant.columns;
    }
