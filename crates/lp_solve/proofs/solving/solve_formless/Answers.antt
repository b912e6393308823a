-- Bounds that clash, and an operation that is refused.
use Rattle.std.proofs.Common.{refl}
use Rattle.lp_solve.proofs.Solved.{form_stop, form_clash, formless, clash_fits, clash_never_no}
use Rattle.lp_solve.proofs.Allowed.{cold_is_solved}
use Rattle.lp_solve.proofs.solving.solve_formless.Goals as goal

pub checked_cold-requires-clause-fits : goal.checked_cold-requires-clause-fits
checked_cold-requires-clause-fits c = clash_fits _ 0 _ _ (form_clash _ _ _ c.in-Cause.is c.requires)

pub checked_cold-requires-clause-never_no : goal.checked_cold-requires-clause-never_no
checked_cold-requires-clause-never_no c =
    clash_never_no c.args.model.now _ (form_clash _ _ _ c.in-Cause.is c.requires)

pub returns-in-Cause-clause-solved : goal.returns-in-Cause-clause-solved
returns-in-Cause-clause-solved c budget =
    cold_is_solved budget c.args.model.now _
    (formless _ _ _ _ _ (form_clash _ _ _ c.in-Cause.is c.requires) c.checked_cold.ensures.answer)
    c.checked_cold.ensures.narrow

pub returns-in-Cause-clause-formless : goal.returns-in-Cause-clause-formless
returns-in-Cause-clause-formless c = (_, form_clash _ _ _ c.in-Cause.is c.requires)

pub returns-in-Past-clause-solved : goal.returns-in-Past-clause-solved
returns-in-Past-clause-solved c budget =
    cold_is_solved budget c.args.model.now _
    (formless _ _ _ _ _ (form_stop _ _ _ c.in-Past.is c.requires) refl) tt

pub returns-in-Past-clause-formless : goal.returns-in-Past-clause-formless
returns-in-Past-clause-formless c = (_, form_stop _ _ _ c.in-Past.is c.requires)
