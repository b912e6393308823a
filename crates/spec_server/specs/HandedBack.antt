-- That the certificate of an answer is accepted, if its lines are given back.
use Rattle.std.specs.Prelude.{ℕ, ◌≡◌, Some, List, ◌++◌, map}
use Rattle.spec_text.specs.declared.line.Line.{Line}
use Rattle.spec_text.specs.declared.line.Line.TheVariants.{Text}
use Rattle.spec_exact.specs.Fraction.{ℚ}
use Rattle.spec_model.specs.Model.{Model}
use Rattle.spec_check.specs.declared.certificate.Certificate.{Certificate}
use Rattle.spec_check.specs.declared.certificate.Known.{Known}
use Rattle.spec_check.specs.declared.certificate.Verdict.TheVariants.{Yes}
use Rattle.spec_certificate.specs.NarrowText.{ExactRaw, Spells}
use Rattle.spec_certificate.specs.TextWritten.{certificate_lines}
use Rattle.spec_server.specs.declared.asks.Reply.TheVariants as reply
use Rattle.spec_server.specs.Machine.{check_reply}

-- The lines of this certificate, whatever lines follow, spell a certificate; and a session that holds the model, with
-- memory enough, answers it with yes and what is known.
pub record IsAcceptedBack (m : Model) (known : Known ℚ) (cert : Certificate (List ℚ)) : Type 0 where
  pub raw : ExactRaw
  pub spelled : (more : List (Line (List ℕ))) → Spells (map Text (certificate_lines m cert) ++ more) raw
  pub accepted : check_reply (Some m) raw ≡ reply.Checked (Yes known)
