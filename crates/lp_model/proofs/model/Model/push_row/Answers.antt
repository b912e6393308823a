use Rattle.std.proofs.Common.{◌≡◌, ◌≢◌, ◌<◌, ◌++◌, ◌∷◌, [], ◌∙◌, false, subst, sym, ap}
use Rattle.std.proofs.lemmas.List.Elements.{All-tail}
use Rattle.spec_model.specs.Model.{ExactRow, height}
use Rattle.spec_model.specs.Kept.{large_limits}
use Rattle.spec_edit.specs.Edited.{is_row_taken}
use Rattle.spec_edit.proofs.NameLemmas.{row_new}
use Rattle.spec_edit.proofs.Keeping.{with_row-kept}
use Rattle.lp_model.proofs.NamePlaces.{names_new, names_more}
use Rattle.lp_model.proofs.model.Model.push_row.Goals as goal

pub with_name-names-requires : goal.with_name-names-requires
with_name-names-requires c =
    names_new _ _ _ c.args.row.name _ c.take.ensures.value c.self.invariant.rows c.as_slice.ensures
    (All-tail (λ x. x ≢ c.args.row.name) _ _
    (row_new _ c.args.row.name
    (subst (λ m. is_row_taken m c.args.row.name ≡ false) (sym c.self.view_is) c.requires.free)))

pub invariant_of-self-2 : goal.invariant_of-self-2
invariant_of-self-2 c =
    record {
      model =
          rw (c.in_ok-push.ensures.items, c.narrow_row.ensures.value)
          (with_row-kept _ c.args.row c.self.invariant.model
          (subst (λ m. height m < large_limits.rows) (sym c.self.view_is) c.requires.few) c.requires.name
          (subst (λ m. is_row_taken m c.args.row.name ≡ false) (sym c.self.view_is) c.requires.free)
          c.requires.range c.narrow_row.ensures.narrow);
      rows =
          names_more (λ (x : ExactRow). x.name) _ _ _ c.self.inside.rows.items _ c.args.row _ c.take.ensures.value
          c.self.invariant.rows c.as_slice.ensures
          (c.in_ok-push.ensures.items ∙ ap (λ r. c.self.inside.rows.items ++ r ∷ []) c.narrow_row.ensures.value)
          c.with_name-names.ensures;
      columns = c.self.invariant.columns;
    }
