use Rattle.std.proofs.Common.{◌<◌, All, sym, subst, ◌∙◌, arith}
use Rattle.std.proofs.lemmas.Result.{on_ok_weaker}
use Rattle.spec_model.specs.Model.{width, height}
use Rattle.lp_bas.proofs.ChosenNumbers.{chosen_inside}
use Rattle.lp_bas.proofs.Added.{all_cards}
use Rattle.lp_bas.proofs.writing.push_cards.Goals as goal

pub push_pairs-requires-clause-columns : goal.push_pairs-requires-clause-columns
push_pairs-requires-clause-columns c =
    subst (All (λ j. j < width c.args.model.now)) (sym (c.deref.ensures.value ∙ c.in_ok-basic.ensures))
    (chosen_inside _ c.args.form.now.cols (width c.args.model.now) (omega arith))

pub push_pairs-requires-clause-rows : goal.push_pairs-requires-clause-rows
push_pairs-requires-clause-rows c =
    subst (All (λ i. i < height c.args.model.now)) (sym (c.deref-2.ensures.value ∙ c.in_ok-rows.ensures))
    (chosen_inside _ c.args.form.now.rows (height c.args.model.now) (omega arith))

pub push_uppers-requires : goal.push_uppers-requires
push_uppers-requires c =
    subst (All (λ j. j < width c.args.model.now)) (sym (c.deref-3.ensures.value ∙ c.in_ok-upper.ensures))
    (chosen_inside _ c.args.form.now.cols (width c.args.model.now) (omega arith))

pub returns : goal.returns
returns c =
    on_ok_weaker c.push_uppers.result
    (λ pushed. all_cards c.args.model.now c.args.form.now c.args.basis.now c.deref.result.now c.deref-2.result.now
    c.deref-3.result.now
    c.args.to.now c.push_pairs.new.to c.push_uppers.new.to (c.deref.ensures.value ∙ c.in_ok-basic.ensures)
    (c.deref-2.ensures.value ∙ c.in_ok-rows.ensures) (c.deref-3.ensures.value ∙ c.in_ok-upper.ensures)
    c.in_ok-push_pairs.ensures pushed)
    c.push_uppers.ensures
