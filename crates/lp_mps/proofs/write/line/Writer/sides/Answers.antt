-- The section's card, then the objective's right side, then those of the rows.
use Rattle.std.proofs.Common.{[], ◌∷◌, ◌++◌}
use Rattle.std.specs.Prelude.{codes}
use Rattle.std.specs.List.{flat_map}
use Rattle.std.proofs.lemmas.Result.{err_from_is_err_and}
use Rattle.spec_exact.specs.Fraction.{neg_ℚ}
use Rattle.spec_mps.specs.Written.{sides_cards, side_cards, section_card}
use Rattle.lp_mps.proofs.AddSteps.{behind, first, goes_on}
use Rattle.lp_mps.proofs.write.line.Writer.sides.Goals as goal

pub returns-in_err-side : goal.returns-in_err-side
unfolding sides_cards
returns-in_err-side c =
    let p = err_from_is_err_and c.from_residual-in_err-side.result c.from_residual-in_err-side.ensures.1 in
    let h = rw (c.as_slice.ensures, c.objective.ensures, c.neg.ensures, c.offset.ensures) at c.in_err-side.ensures in
    rw (p.1, p.2)
    (behind c.args.self.now.style (section_card (codes "RHS") ∷ [])
    (side_cards c.args.model.now.objective (neg_ℚ c.args.model.now.offset) ++ flat_map (λ r. side_cards r.name r.rhs)
    c.args.model.now.rows) _ _ c.in_err-side.field-0.0 c.in_ok-section.ensures
    (first c.args.self.now.style (side_cards c.args.model.now.objective (neg_ℚ c.args.model.now.offset))
    (flat_map (λ r. side_cards r.name r.rhs) c.args.model.now.rows) c.in_err-side.field-0.0 h))

pub returns : goal.returns
unfolding sides_cards
returns c =
    let h = rw (c.as_slice.ensures, c.objective.ensures, c.neg.ensures, c.offset.ensures) at c.in_ok-side.ensures in
    goes_on c.args.self.now.style (section_card (codes "RHS") ∷ [])
    (side_cards c.args.model.now.objective (neg_ℚ c.args.model.now.offset)
    ++ flat_map (λ r. side_cards r.name r.rhs) c.args.model.now.rows) _ _ _ c.row_numbers.result c.in_ok-section.ensures
    (goes_on c.args.self.now.style (side_cards c.args.model.now.objective (neg_ℚ c.args.model.now.offset))
    (flat_map (λ r. side_cards r.name r.rhs) c.args.model.now.rows) _ _ _ c.row_numbers.result h c.row_numbers.ensures)
