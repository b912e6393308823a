-- A refusal in the start, a certificate that fits, and a basis of the form.
use Rattle.std.proofs.Common.{◌≡◌, IfOk, Some, sym, subst}
use Rattle.spec_exact.specs.Narrow.{number_limit}
use Rattle.spec_runs.specs.Cold.{after_phases}
use Rattle.lp_solve.proofs.Solved.{start_stop, refused_from, end_fits, end_never_no}
use Rattle.lp_solve.proofs.Left.{phases_leave}
use Rattle.lp_solve.proofs.cold.from_form.Goals as goal

pub returns-in-Err-Past-clause-answer : goal.returns-in-Err-Past-clause-answer
returns-in-Err-Past-clause-answer c =
    rw c.in-Err-Past.past-is (refused_from _ _ _ _ _
    (start_stop _ _ _ c.in-Err-Past.field-0-is c.in-Err-Past.ensures.err))

pub finished-end-requires-clause-fits : goal.finished-end-requires-clause-fits
finished-end-requires-clause-fits c = end_fits _ c.args.budget _ _ _ c.requires c.in-Ok-phases.ensures.answer

pub finished-end-requires-clause-never_no : goal.finished-end-requires-clause-never_no
finished-end-requires-clause-never_no c =
    end_never_no c.args.budget c.args.model.now c.args.form.now _ c.requires c.in-Ok-phases.ensures.answer

pub finished-end-requires-clause-based : goal.finished-end-requires-clause-based
finished-end-requires-clause-based c =
    phases_leave _ c.args.budget c.args.model.now c.args.form.now c.requires _ c.in-Ok-phases.ensures.answer

pub returns-in-Ok-phases-clause-answer : goal.returns-in-Ok-phases-clause-answer
returns-in-Ok-phases-clause-answer c =
    subst (λ run. IfOk c.finished-end.result (λ s. s ≡ after_phases (Some number_limit) c.args.model.now run))
    (sym c.in-Ok-phases.ensures.answer) c.finished-end.ensures.answer
