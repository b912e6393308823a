-- The cards of one more, or the first item that has no room.
use Rattle.std.proofs.Common.{[], ◌∷◌, subst, arith}
use Rattle.std.proofs.lemmas.Result.{err_from_is_err_and}
use Rattle.std.proofs.lemmas.List.Concat.{flat_map_single}
use Rattle.spec_model.specs.Model.{no_row}
use Rattle.spec_mps.specs.Written.{WrittenCards, row_card}
use Rattle.lp_mps.specs.Adds.{IsAdded, Names, wide_in}
use Rattle.lp_mps.proofs.AddSteps.{nothing, each_next, each_stops, each_done}
use Rattle.lp_mps.proofs.write.line.Writer.row_cards.Goals as goal

pub loop-i-init : goal.loop-i-init
loop-i-init c = nothing c.args.self.now.style c.args.to.now

pub loop-i-preserved : goal.loop-i-preserved
loop-i-preserved c =
    each_next c.args.self.now.style (λ r. row_card r ∷ []) c.args.model.now.rows c.loop-i.i no_row (omega arith) _ _ _
    c.loop-i.invariant
    (rw (c.kind_word.ensures, c.as_slice.ensures, c.row-row.ensures) at c.in_ok-type_card.ensures)

pub returns-in_err-type_card : goal.returns-in_err-type_card
returns-in_err-type_card c =
    let p = err_from_is_err_and c.from_residual.result c.from_residual.ensures.1 in
    let P : WrittenCards → Type 0 = λ cs. Names (wide_in c.args.self.now.style cs) c.in_err-type_card.field-0.0 in
    rw (p.1, p.2) (subst P (flat_map_single row_card c.args.model.now.rows)
    (each_stops c.args.self.now.style (λ r. row_card r ∷ []) c.args.model.now.rows c.loop-i.i no_row
    (omega arith) _ _ c.in_err-type_card.field-0.0 c.loop-i.invariant
    (rw (c.kind_word.ensures, c.as_slice.ensures, c.row-row.ensures) at c.in_err-type_card.ensures)))

pub returns : goal.returns
returns c =
    let P : WrittenCards → Type 0 = λ cs. IsAdded c.args.self.now.style cs c.args.to.now c.loop-i.to in
    subst P (flat_map_single row_card c.args.model.now.rows) (each_done c.args.self.now.style
    (λ r. row_card r ∷ []) c.args.model.now.rows c.loop-i.i _ _ (omega arith) c.loop-i.invariant)
