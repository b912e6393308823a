-- What is found, or refused, at a place is so of them all.
use Rattle.std.proofs.Common.{Ok, sym, ap, ◌∙◌}
use Rattle.std.proofs.lemmas.Result.{err_from_is_err_and}
use Rattle.lp_presolve.proofs.Firsts.{first_found, first_stops}
use Rattle.lp_presolve.proofs.choosing.first_empty.Goals as goal

pub returns-in_err-choice : goal.returns-in_err-choice
returns-in_err-choice c =
    let p = err_from_is_err_and c.from_residual.result c.from_residual.ensures.1 in
    rw (p.1, p.2, ← c.rows-i-end.ensures.value)
    (sym (first_stops _ _ _ _ c.loop-i-test.true c.loop-i.invariant (sym c.empty_at.ensures ∙ c.in_err-choice.was)))

pub returns-in-Some : goal.returns-in-Some
returns-in-Some c =
    rw (← c.rows-i-end.ensures.value)
    (sym (first_found _ _ _ _ c.loop-i-test.true c.loop-i.invariant
    (sym c.empty_at.ensures ∙ c.in_ok-choice.was ∙ ap Ok c.in-Some.is)))
