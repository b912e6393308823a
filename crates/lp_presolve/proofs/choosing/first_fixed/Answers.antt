-- What is found at a place is found in all.
use Rattle.std.proofs.Common.{Ok, sym, ap, ◌∙◌}
use Rattle.spec_model.specs.Model.{ExactColumn}
use Rattle.spec_presolve.specs.Choose.{fixed_by}
use Rattle.lp_presolve.proofs.Firsts.{first_found}
use Rattle.lp_presolve.proofs.choosing.first_fixed.Goals as goal

pub returns-in-Some : goal.returns-in-Some
returns-in-Some c =
    rw (← c.cols-j-end.ensures.value)
    (sym (first_found _ _ _ _ c.loop-j-test.true c.loop-j.invariant
    (ap Ok (sym (c.fixed_by.ensures ∙ ap (λ (x : ExactColumn). fixed_by c.loop-j.j x.lower x.upper) c.col-column.ensures)
    ∙ c.in-Some.is))))
