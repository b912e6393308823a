-- The first rule that applies, or that is refused.
use Rattle.std.proofs.Common.{sym, ap, ◌∙◌, Ok}
use Rattle.std.proofs.lemmas.Result.{err_from_is_err_and}
use Rattle.lp_presolve.proofs.ChosenOne.{none_found, refused₁, refused₂, refused₃, found₁, found₂, found₃, found₄}
use Rattle.lp_presolve.proofs.choosing.choose.Goals as goal

pub returns-in_err-choice : goal.returns-in_err-choice
returns-in_err-choice c =
    let p = err_from_is_err_and c.from_residual.result c.from_residual.ensures.1 in
    rw (p.1, p.2) (sym (refused₁ _ _ (sym c.first_clash.ensures ∙ c.in_err-choice.was)))

pub returns-in-Some : goal.returns-in-Some
returns-in-Some c = sym (found₁ _ _ (sym c.first_clash.ensures ∙ c.in_ok-choice.was ∙ ap Ok c.in-Some.is))

pub returns-in_err-choice-2 : goal.returns-in_err-choice-2
returns-in_err-choice-2 c =
    let p = err_from_is_err_and c.from_residual-in_err-choice-2.result c.from_residual-in_err-choice-2.ensures.1 in
    rw (p.1, p.2)
    (sym (refused₂ _ _ (sym c.first_clash.ensures ∙ c.in_ok-choice.was ∙ ap Ok (none_found _ c.in_default.not-Some))
    (sym c.first_empty.ensures ∙ c.in_err-choice-2.was)))

pub returns-in-Some-2 : goal.returns-in-Some-2
returns-in-Some-2 c =
    sym (found₂ _ _ (sym c.first_clash.ensures ∙ c.in_ok-choice.was ∙ ap Ok (none_found _ c.in_default.not-Some))
    (sym c.first_empty.ensures ∙ c.in_ok-choice-2.was ∙ ap Ok c.in-Some-2.is))

pub returns-in_err-choice-3 : goal.returns-in_err-choice-3
returns-in_err-choice-3 c =
    let p = err_from_is_err_and c.from_residual-in_err-choice-3.result c.from_residual-in_err-choice-3.ensures.1 in
    rw (p.1, p.2)
    (sym (refused₃ _ _ (sym c.first_clash.ensures ∙ c.in_ok-choice.was ∙ ap Ok (none_found _ c.in_default.not-Some))
    (sym c.first_empty.ensures ∙ c.in_ok-choice-2.was ∙ ap Ok (none_found _ c.in_default-2.not-Some))
    (sym c.first_single.ensures ∙ c.in_err-choice-3.was)))

pub returns-in-Some-3 : goal.returns-in-Some-3
returns-in-Some-3 c =
    sym (found₃ _ _ (sym c.first_clash.ensures ∙ c.in_ok-choice.was ∙ ap Ok (none_found _ c.in_default.not-Some))
    (sym c.first_empty.ensures ∙ c.in_ok-choice-2.was ∙ ap Ok (none_found _ c.in_default-2.not-Some))
    (sym c.first_single.ensures ∙ c.in_ok-choice-3.was ∙ ap Ok c.in-Some-3.is))

pub returns-in-Some-first_fixed : goal.returns-in-Some-first_fixed
returns-in-Some-first_fixed c =
    sym (found₄ _ _ (sym c.first_clash.ensures ∙ c.in_ok-choice.was ∙ ap Ok (none_found _ c.in_default.not-Some))
    (sym c.first_empty.ensures ∙ c.in_ok-choice-2.was ∙ ap Ok (none_found _ c.in_default-2.not-Some))
    (sym c.first_single.ensures ∙ c.in_ok-choice-3.was ∙ ap Ok (none_found _ c.in_default-3.not-Some))
    (ap Ok (sym c.in-Some-first_fixed.is) ∙ c.first_fixed.ensures))

pub returns-in-None : goal.returns-in-None
returns-in-None c =
    sym (found₄ _ _ (sym c.first_clash.ensures ∙ c.in_ok-choice.was ∙ ap Ok (none_found _ c.in_default.not-Some))
    (sym c.first_empty.ensures ∙ c.in_ok-choice-2.was ∙ ap Ok (none_found _ c.in_default-2.not-Some))
    (sym c.first_single.ensures ∙ c.in_ok-choice-3.was ∙ ap Ok (none_found _ c.in_default-3.not-Some))
    (ap Ok (sym c.in-None.is) ∙ c.first_fixed.ensures))
