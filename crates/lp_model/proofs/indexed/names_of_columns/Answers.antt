use Rattle.std.proofs.Common.{◌++◌, ◌∷◌, [], map, take, refl, ap, sym, ◌∙◌, arith}
use Rattle.std.proofs.lemmas.List.{take_more, take_all}
use Rattle.spec_model.specs.Model.{ExactColumn}
use Rattle.lp_model.proofs.NamePlaces.{names_before, names_new, names_more, names_stay}
use Rattle.lp_model.proofs.indexed.names_of_columns.Goals as goal

pub with_name-names-requires : goal.with_name-names-requires
with_name-names-requires c =
    names_new _ _ _ c.column-item.result.name _ refl c.loop-column.invariant c.as_slice.ensures
    (names_before (λ (x : ExactColumn). x.name) c.args.columns.now c.loop-column.column-index c.column-item.result
    c.column-item.is c.loop-column-test.true c.requires)

pub loop-column-preserved : goal.loop-column-preserved
loop-column-preserved c =
    let more = take_more c.args.columns.now c.loop-column.column-index c.column-item.result c.loop-column-test.true
    ∙ sym (ap (λ x. take c.loop-column.column-index c.args.columns.now ++ x ∷ []) c.column-item.is) in
    names_more (λ (x : ExactColumn). x.name) _ _ _ _ _ c.column-item.result _ refl c.loop-column.invariant
    c.as_slice.ensures more c.with_name-names.ensures

pub returns : goal.returns
returns c =
    names_stay _ _ _
    (ap (map (λ (x : ExactColumn). x.name)) (sym (take_all c.loop-column.column-index _ (omega arith))))
    c.loop-column.invariant
