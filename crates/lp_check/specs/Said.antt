-- What a verdict says of a certificate: what the conditions, run without a limit, come to.
use Rattle.std.specs.Prelude.{◌≡◌, None, List, Ok, Err}
use Rattle.spec_exact.specs.Fraction.{ℚ}
use Rattle.spec_model.specs.Model.{Model}
use Rattle.spec_check.specs.declared.certificate.Certificate.{Certificate}
use Rattle.spec_check.specs.declared.certificate.CheckStop.TheVariants as stop
use Rattle.spec_check.specs.Run.{check_run}
use Rattle.lp_check.specs.declared.wide.certificate.Verdict.{Verdict}
use Rattle.lp_check.specs.declared.wide.certificate.Verdict.TheVariants.{Yes, No}

-- The verdict on the certificate is that of the check without a limit: what it shows of the model, or the number of the
-- first condition that fails.
abbrev pub Says : Model → Certificate (List ℚ) → Verdict → Type 0
Says m cert (Yes known) = check_run None m cert ≡ Ok known
Says m cert (No n) = check_run None m cert ≡ Err (stop.No n)
