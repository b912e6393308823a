-- The cards are those of the front and of the back.
use Rattle.std.proofs.lemmas.Result.{err_from_is_err_and}
use Rattle.std.proofs.Common.{sym, subst}
use Rattle.spec_mps.specs.Written.{WrittenCards}
use Rattle.lp_mps.specs.Adds.{Adds, Names, wide_in, front_cards, back_cards}
use Rattle.lp_mps.proofs.AddSteps.{first, goes_on, all_cards_of}
use Rattle.lp_mps.proofs.write.line.Writer.cards.Goals as goal

pub returns-in_err-front : goal.returns-in_err-front
returns-in_err-front c =
    let p = err_from_is_err_and c.from_residual.result c.from_residual.ensures.1 in
    let P : WrittenCards → Type 0 = λ cs. Names (wide_in c.args.self.now.style cs) c.in_err-front.field-0.0 in
    rw (p.1, p.2) (subst P (sym (all_cards_of c.args.model.now)) (first c.args.self.now.style
    (front_cards c.args.model.now) (back_cards c.args.model.now) c.in_err-front.field-0.0 c.in_err-front.ensures))

pub returns : goal.returns
returns c =
    let P : WrittenCards → Type 0 = λ cs. Adds c.args.self.now.style cs c.args.to.now c.back.new.to c.back.result in
    subst P (sym (all_cards_of c.args.model.now)) (goes_on c.args.self.now.style (front_cards c.args.model.now)
    (back_cards c.args.model.now) _ _ _ c.back.result c.in_ok-front.ensures c.back.ensures)
