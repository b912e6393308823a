-- The certificate fits the model, the basis is one of the form, and the count is that of the end.
use Rattle.std.proofs.Common.{◌≢◌, ℕ, List, Option, Some, IfSome, Err, sym, subst, ◌∙◌}
use Rattle.spec_exact.specs.Narrow.{number_limit}
use Rattle.spec_check.specs.Certificate.{IsFor}
use Rattle.spec_check.specs.Run.{check_run}
use Rattle.spec_check.specs.declared.certificate.CheckStop.TheVariants.{No}
use Rattle.spec_pivot.specs.declared.status.Status.{Status}
use Rattle.spec_simplex.specs.Eliminate.{IsBasisOf}
use Rattle.lp_solve.proofs.Solved.{finishes}
use Rattle.lp_solve.proofs.cold.finished.Goals as goal

pub basis_of-requires : goal.basis_of-requires
basis_of-requires c =
    subst (λ (o : Option (List Status)). IfSome o (λ basis. IsBasisOf c.args.form.now basis))
    (sym c.in_ok-statuses.ensures) c.requires.based

pub checked_cold-requires-clause-fits : goal.checked_cold-requires-clause-fits
checked_cold-requires-clause-fits c =
    subst (IsFor c.args.model.now) (sym c.in_ok-certificate.ensures.value) c.requires.fits

pub checked_cold-requires-clause-never_no : goal.checked_cold-requires-clause-never_no
checked_cold-requires-clause-never_no c =
    subst (λ cert. (n : ℕ) → check_run (Some number_limit) c.args.model.now cert ≢ Err (No n))
    (sym c.in_ok-certificate.ensures.value) c.requires.never_no

pub returns-clause-answer : goal.returns-clause-answer
returns-clause-answer c =
    rw (c.in_ok-certificate.ensures.value, c.basis_of.ensures, c.in_ok-statuses.ensures) at c.checked_cold.ensures.answer
    ∙ finishes (Some number_limit) c.args.model.now c.args.ended.now.tab c.args.ended.now.used c.args.ended.now.end
