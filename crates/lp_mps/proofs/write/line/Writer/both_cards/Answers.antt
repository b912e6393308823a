-- Which cards two bounds have.
use Rattle.std.proofs.Common.{sym, ◌∙◌, [], ◌∷◌}
use Rattle.std.specs.Prelude.{codes}
use Rattle.std.proofs.lemmas.Result.{err_from_is_err_and}
use Rattle.spec_mps.specs.Written.{bound_card}
use Rattle.lp_mps.proofs.AddSteps.{first, goes_on}
use Rattle.lp_mps.proofs.write.line.Writer.both_cards.Goals as goal

pub returns-then-are_same : goal.returns-then-are_same
returns-then-are_same c = rw (sym c.are_same.ensures.test ∙ c.if-are_same.true) c.bound_card.ensures

pub returns-then-is_up_from_zero : goal.returns-then-is_up_from_zero
returns-then-is_up_from_zero c =
    rw (sym c.are_same.ensures.test ∙ c.if-are_same.false, sym c.is_up_from_zero.ensures ∙ c.if-is_up_from_zero.true)
    c.bound_card-then-is_up_from_zero.ensures

pub returns-in_err-bound_card : goal.returns-in_err-bound_card
returns-in_err-bound_card c =
    let p = err_from_is_err_and c.from_residual.result c.from_residual.ensures.1 in
    rw (
      p.1,
      p.2,
      sym c.are_same.ensures.test ∙ c.if-are_same.false,
      sym c.is_up_from_zero.ensures ∙ c.if-is_up_from_zero.false,
    )
    (first c.args.self.now.style (bound_card (codes "LO") c.args.name.now c.args.lower ∷ [])
    (bound_card (codes "UP") c.args.name.now c.args.upper ∷ [])
    c.in_err-bound_card.field-0.0 c.in_err-bound_card.ensures)

pub returns : goal.returns
returns c =
    rw (sym c.are_same.ensures.test ∙ c.if-are_same.false, sym c.is_up_from_zero.ensures ∙ c.if-is_up_from_zero.false)
    (goes_on c.args.self.now.style (bound_card (codes "LO") c.args.name.now c.args.lower ∷ [])
    (bound_card (codes "UP") c.args.name.now c.args.upper ∷ []) _ _ _
    c.bound_card-3.result c.in_ok-bound_card.ensures c.bound_card-3.ensures)
