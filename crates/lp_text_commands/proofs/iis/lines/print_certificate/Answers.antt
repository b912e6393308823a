-- The certificate is of the model with the sides alone.
use Rattle.std.proofs.Common.{Some, ap, sym, subst, ◌∙◌}
use Rattle.std.specs.Prelude.{All}
use Rattle.spec_exact.specs.Narrow.{number_limit}
use Rattle.spec_check.specs.Certificate.{IsFor}
use Rattle.spec_iis.specs.Only.{only}
use Rattle.spec_iis.specs.Rule.{IsRead}
use Rattle.lp_text_commands.proofs.iis.lines.print_certificate.Goals as goal

pub only-requires-clause-read : goal.only-requires-clause-read
only-requires-clause-read c =
    subst (All (IsRead (Some number_limit) c.args.model.now)) (sym c.as_slice.ensures) c.requires.read

pub cert_text-lines-requires : goal.cert_text-lines-requires
cert_text-lines-requires c =
    subst (λ alone. IsFor alone c.args.certificate.now)
    (sym (c.in_ok-alone.ensures.value ∙ ap (only c.args.model.now) c.as_slice.ensures)) c.requires.fits
