use Rattle.std.proofs.Common.{◌<◌, refl, subst, sym}
use Rattle.spec_exact.specs.Narrow.{IsNarrow}
use Rattle.spec_model.specs.Model.{ExactColumn, width}
use Rattle.lp_model.proofs.NamePlaces.{names_set}
use Rattle.lp_model.proofs.ChangedFields.{cost_here}
use Rattle.lp_model.proofs.model.Model.set_cost.Goals as goal

pub invariant_of-self : goal.invariant_of-self
invariant_of-self c =
    record {
      model =
          cost_here _ c.args.j c.index_mut.result.now c.index_mut.ensures.value
          (subst (λ m. c.args.j < width m) (sym c.self.view_is) c.requires)
          c.args.v c.narrow.result c.narrow.ensures.value c.self.invariant.model
          (subst IsNarrow c.narrow.ensures.value c.narrow.ensures.narrow);
      rows = c.self.invariant.rows;
      columns =
          names_set (λ (x : ExactColumn). x.name) _ c.self.inside.columns.items c.args.j c.index_mut.result.now
          (record c.index_mut.result.now { cost = c.narrow.result }) c.index_mut.ensures.value
          (subst (λ m. c.args.j < width m) (sym c.self.view_is) c.requires) refl c.self.invariant.columns;
    }
