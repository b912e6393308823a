use Rattle.std.proofs.Common.{◌<◌, ◌∙◌, map, refl, ap, subst, sym}
use Rattle.spec_model.specs.Model.{ExactColumn, height}
use Rattle.spec_edit.proofs.ListLemmas.{map-map_unseen}
use Rattle.spec_edit.proofs.Keeping.{lowered, without_row-kept}
use Rattle.lp_model.proofs.EmptyColumns.{mapped_back}
use Rattle.lp_model.proofs.NamePlaces.{names_stay}
use Rattle.lp_model.proofs.model.Model.remove_row.Goals as goal

pub invariant_of-self : goal.invariant_of-self
invariant_of-self c =
    let lowered_all =
    mapped_back (lowered c.args.i) _ _ _ _ c.deref_mut.ensures.value
    c.deref_mut.ensures.len c.take_row_out_of.ensures in
    record {
      model =
          rw (c.remove.ensures.items, lowered_all)
          (without_row-kept _ c.args.i c.self.invariant.model
          (subst (λ m. c.args.i < height m) (sym c.self.view_is) c.requires));
      rows = tt;
      columns =
          names_stay _ _ _
          (ap (map (λ (x : ExactColumn). x.name)) lowered_all
          ∙ map-map_unseen (λ (x : ExactColumn). x.name) (lowered c.args.i) (λ x. refl) c.self.inside.columns.items)
          c.self.invariant.columns;
    }
