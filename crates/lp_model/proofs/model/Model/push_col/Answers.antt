use Rattle.std.proofs.Common.{◌≡◌, ◌<◌, ◌++◌, ◌∷◌, [], ◌∙◌, false, subst, sym, ap}
use Rattle.spec_model.specs.Model.{ExactColumn, width, height}
use Rattle.spec_model.specs.Kept.{IsKeptColumn, large_limits}
use Rattle.spec_edit.specs.Edited.{is_column_taken}
use Rattle.spec_edit.proofs.NameLemmas.{column_new}
use Rattle.spec_edit.proofs.Keeping.{with_column-kept}
use Rattle.lp_model.proofs.NamePlaces.{names_new, names_more}
use Rattle.lp_model.proofs.model.Model.push_col.Goals as goal

pub with_name-names-requires : goal.with_name-names-requires
with_name-names-requires c =
    names_new _ _ _ c.args.column.name _ c.take.ensures.value c.self.invariant.columns c.as_slice.ensures
    (column_new _ c.args.column.name
    (subst (λ m. is_column_taken m c.args.column.name ≡ false) (sym c.self.view_is) c.requires.free))

pub invariant_of-self-2 : goal.invariant_of-self-2
invariant_of-self-2 c =
    record {
      model =
          rw (c.in_ok-push.ensures.items, c.narrow_column.ensures.value)
          (with_column-kept _ c.args.column c.self.invariant.model
          (subst (λ m. width m < large_limits.columns) (sym c.self.view_is) c.requires.few)
          (subst (λ m. is_column_taken m c.args.column.name ≡ false) (sym c.self.view_is) c.requires.free)
          (subst (λ m. IsKeptColumn (height m) c.args.column) (sym c.self.view_is) c.requires.kept)
          c.narrow_column.ensures.narrow);
      rows = c.self.invariant.rows;
      columns =
          names_more (λ (x : ExactColumn). x.name) _ _ _ c.self.inside.columns.items _ c.args.column _
          c.take.ensures.value c.self.invariant.columns c.as_slice.ensures
          (c.in_ok-push.ensures.items ∙ ap (λ x. c.self.inside.columns.items ++ x ∷ []) c.narrow_column.ensures.value)
          c.with_name-names.ensures;
    }
