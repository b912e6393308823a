-- The section's card, then the objective's, then those of the rows.
use Rattle.std.proofs.Common.{[], ◌∷◌, map}
use Rattle.std.specs.Prelude.{codes}
use Rattle.std.proofs.lemmas.Result.{err_from_is_err_and}
use Rattle.spec_mps.specs.Written.{rows_cards, row_card, section_card, type_card}
use Rattle.lp_mps.proofs.AddSteps.{joined, behind, first, goes_on}
use Rattle.lp_mps.proofs.write.line.Writer.rows.Goals as goal

pub returns-in_err-type_card : goal.returns-in_err-type_card
unfolding rows_cards
returns-in_err-type_card c =
    let p = err_from_is_err_and c.from_residual-in_err-type_card.result c.from_residual-in_err-type_card.ensures.1 in
    let h = rw (c.as_slice.ensures, c.objective.ensures) at c.in_err-type_card.ensures in
    rw (p.1, p.2)
    (first c.args.self.now.style (section_card (codes "ROWS") ∷ type_card (codes "N") c.args.model.now.objective ∷ [])
    (map row_card c.args.model.now.rows) c.in_err-type_card.field-0.0
    (behind c.args.self.now.style (section_card (codes "ROWS") ∷ [])
    (type_card (codes "N") c.args.model.now.objective ∷ []) _ _ c.in_err-type_card.field-0.0 c.in_ok-section.ensures h))

pub returns : goal.returns
unfolding rows_cards
returns c =
    let h = rw (c.as_slice.ensures, c.objective.ensures) at c.in_ok-type_card.ensures in
    goes_on c.args.self.now.style (section_card (codes "ROWS") ∷ type_card (codes "N") c.args.model.now.objective ∷ [])
    (map row_card c.args.model.now.rows) _ _ _ c.row_cards.result
    (joined c.args.self.now.style _ _ _ _ _ c.in_ok-section.ensures h) c.row_cards.ensures
