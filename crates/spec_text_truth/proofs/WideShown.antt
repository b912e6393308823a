-- What the checker says yes to without a limit is true.
use Rattle.std.proofs.Common.{◌≡◌, List, None, Ok, Err, refl, sym, subst}
use Rattle.spec_exact.specs.Fraction.{ℚ}
use Rattle.spec_model.specs.Model.{Model}
use Rattle.spec_check.specs.declared.certificate.Certificate.{Certificate}
use Rattle.spec_check.specs.declared.certificate.Known.{Known}
use Rattle.spec_check.specs.declared.certificate.SettleFault.TheVariants as settle
use Rattle.spec_check.specs.declared.certificate.Verdict.TheVariants as verdict
use Rattle.spec_check.specs.Certificate.{Holds}
use Rattle.spec_check.specs.Run.{check_run}
use Rattle.spec_check.specs.Settle.{Settled, certificate_for}
use Rattle.spec_check.specs.Raw.{ExactRaw}
use Rattle.spec_check.proofs.Fits.{settled_fits}
use Rattle.spec_check.proofs.RunSound.{run_sound}
use Rattle.spec_check.proofs.Sound.{checks_hold}
use Rattle.spec_server.specs.declared.asks.Reply.TheVariants as reply
use Rattle.spec_server.proofs.Truth.{said_yes, checked}
use Rattle.spec_commands.specs.CheckWideOut.{wide_verdict_on}

-- where `check --wide` says yes to a certificate for a model, the answer that it names is true of the model
pub wide_yes_holds : (m : Model) (raw : ExactRaw) (what : Known ℚ) →
    wide_verdict_on m (certificate_for m raw) ≡ reply.Checked (verdict.Yes what) → Holds m what
wide_yes_holds m raw what h = by (certificate_for m raw) refl h
  where
    by : (r : Settled (Certificate (List ℚ))) → certificate_for m raw ≡ r →
        wide_verdict_on m r ≡ reply.Checked (verdict.Yes what) → Holds m what
    by (Ok cert) is e =
        let sound =
        run_sound None m cert what (settled_fits m raw cert is)
        (said_yes (check_run None m cert) what (checked _ _ e))
        in
        subst (Holds m) (sym sound.1) (checks_hold m cert sound.0)
    by (Err (settle.UnknownName name)) is e = cc
    by (Err (settle.Repeated name)) is e = cc
