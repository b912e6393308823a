-- The right sides, then the ranges, the bounds and the end.
use Rattle.std.proofs.Common.{[], ◌∷◌, ◌++◌}
use Rattle.std.specs.Prelude.{codes}
use Rattle.std.proofs.lemmas.Result.{err_from_is_err_and}
use Rattle.spec_mps.specs.Written.{sides_cards, ranges_cards, bounds_cards, section_card}
use Rattle.lp_mps.proofs.AddSteps.{joined, behind, first}
use Rattle.lp_mps.proofs.write.line.Writer.back.Goals as goal

pub returns-in_err-sides : goal.returns-in_err-sides
returns-in_err-sides c =
    let p = err_from_is_err_and c.from_residual.result c.from_residual.ensures.1 in
    rw (p.1, p.2)
    (first c.args.self.now.style
    ((sides_cards c.args.model.now) ++ (ranges_cards c.args.model.now) ++ (bounds_cards c.args.model.now))
    (section_card (codes "ENDATA") ∷ []) c.in_err-sides.field-0.0
    (first c.args.self.now.style ((sides_cards c.args.model.now) ++ (ranges_cards c.args.model.now))
    (bounds_cards c.args.model.now) c.in_err-sides.field-0.0 (first c.args.self.now.style
    (sides_cards c.args.model.now) (ranges_cards c.args.model.now) c.in_err-sides.field-0.0 c.in_err-sides.ensures)))

pub returns-in_err-ranges : goal.returns-in_err-ranges
returns-in_err-ranges c =
    let p = err_from_is_err_and c.from_residual-in_err-ranges.result c.from_residual-in_err-ranges.ensures.1 in
    rw (p.1, p.2)
    (first c.args.self.now.style
    ((sides_cards c.args.model.now) ++ (ranges_cards c.args.model.now) ++ (bounds_cards c.args.model.now))
    (section_card (codes "ENDATA") ∷ []) c.in_err-ranges.field-0.0
    (first c.args.self.now.style ((sides_cards c.args.model.now) ++ (ranges_cards c.args.model.now))
    (bounds_cards c.args.model.now) c.in_err-ranges.field-0.0
    (behind c.args.self.now.style (sides_cards c.args.model.now)
    (ranges_cards c.args.model.now) _ _ c.in_err-ranges.field-0.0 c.in_ok-sides.ensures c.in_err-ranges.ensures)))

pub returns-in_err-bounds : goal.returns-in_err-bounds
returns-in_err-bounds c =
    let p = err_from_is_err_and c.from_residual-in_err-bounds.result c.from_residual-in_err-bounds.ensures.1 in
    let h =
    joined c.args.self.now.style (sides_cards c.args.model.now)
    (ranges_cards c.args.model.now) _ _ _ c.in_ok-sides.ensures c.in_ok-ranges.ensures in
    rw (p.1, p.2) (first c.args.self.now.style
    ((sides_cards c.args.model.now) ++ (ranges_cards c.args.model.now) ++ (bounds_cards c.args.model.now))
    (section_card (codes "ENDATA") ∷ []) c.in_err-bounds.field-0.0
    (behind c.args.self.now.style ((sides_cards c.args.model.now) ++ (ranges_cards c.args.model.now))
    (bounds_cards c.args.model.now) _ _ c.in_err-bounds.field-0.0 h c.in_err-bounds.ensures))

pub returns : goal.returns
returns c =
    joined c.args.self.now.style
    ((sides_cards c.args.model.now) ++ (ranges_cards c.args.model.now) ++ (bounds_cards c.args.model.now))
    (section_card (codes "ENDATA") ∷ []) _ _ _
    (joined c.args.self.now.style ((sides_cards c.args.model.now) ++ (ranges_cards c.args.model.now))
    (bounds_cards c.args.model.now) _ _ _ (joined c.args.self.now.style (sides_cards c.args.model.now)
    (ranges_cards c.args.model.now) _ _ _ c.in_ok-sides.ensures c.in_ok-ranges.ensures) c.in_ok-bounds.ensures)
    c.in_ok-section.ensures
