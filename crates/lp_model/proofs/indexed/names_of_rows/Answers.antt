use Rattle.std.proofs.Common.{◌++◌, ◌∷◌, [], map, take, refl, ap, sym, ◌∙◌, arith}
use Rattle.std.proofs.lemmas.List.{take_more, take_all}
use Rattle.spec_model.specs.Model.{ExactRow}
use Rattle.lp_model.proofs.NamePlaces.{names_before, names_new, names_more, names_stay}
use Rattle.lp_model.proofs.indexed.names_of_rows.Goals as goal

pub with_name-names-requires : goal.with_name-names-requires
with_name-names-requires c =
    names_new _ _ _ c.row-item.result.name _ refl c.loop-row.invariant c.as_slice.ensures
    (names_before (λ (x : ExactRow). x.name) c.args.rows.now c.loop-row.row-index c.row-item.result
    c.row-item.is c.loop-row-test.true c.requires)

pub loop-row-preserved : goal.loop-row-preserved
loop-row-preserved c =
    let more = take_more c.args.rows.now c.loop-row.row-index c.row-item.result c.loop-row-test.true
    ∙ sym (ap (λ x. take c.loop-row.row-index c.args.rows.now ++ x ∷ []) c.row-item.is) in
    names_more (λ (x : ExactRow). x.name) _ _ _ _ _ c.row-item.result _ refl c.loop-row.invariant c.as_slice.ensures
    more c.with_name-names.ensures

pub returns : goal.returns
returns c =
    names_stay _ _ _
    (ap (map (λ (x : ExactRow). x.name)) (sym (take_all c.loop-row.row-index _ (omega arith))))
    c.loop-row.invariant
