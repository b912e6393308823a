-- What the lines of a text and of a certificate say.
use Rattle.std.specs.Prelude.{ℕ, ◌≡◌, ◌+◌, Option, Some, Result, Ok, Err, List}
use Rattle.spec_text.specs.declared.line.Line.{Line}
use Rattle.spec_exact.specs.Fraction.{ℚ}
use Rattle.spec_model.specs.declared.parts.SizeLimits.{SizeLimits}
use Rattle.spec_model.specs.Kept.{usual_limits, large_limits}
use Rattle.spec_certificate.specs.declared.progress.Progress.TheVariants as progress
use Rattle.spec_certificate.specs.NarrowText as certificate
use Rattle.spec_server.specs.Said.{Step, On, Says, said_by}
use Rattle.spec_server.specs.TextSaid.{TextSaid, text_step}
use Rattle.lp_mps.specs.TextRead as text
use Rattle.lp_certificate.specs.CertificateRead.{CertificateRead}

-- the answer is what these lines say behind those that a reader of a model's text has read, within these limits: the
-- model or a fault; none where more lines are needed
abbrev pub TextSaysWithin : SizeLimits → text.TextRead → List (Line (List ℕ)) → Option TextSaid → Type 0
TextSaysWithin limits reader lines answer =
    said_by (text_step limits reader.style) (record { state = reader.state; lines = reader.lines }) lines ≡ answer

-- the answer is what these lines say behind those that a reader of a usual model's text has read;
-- none where more are needed
abbrev pub TextSays : text.TextRead → List (Line (List ℕ)) → Option TextSaid → Type 0
TextSays reader lines answer = TextSaysWithin usual_limits reader lines answer

-- the answer is what these lines say behind those that a reader of a large model's text has read;
-- none where more are needed
abbrev pub LargeSays : text.TextRead → List (Line (List ℕ)) → Option TextSaid → Type 0
LargeSays reader lines answer = TextSaysWithin large_limits reader lines answer

-- the state of a reader of a certificate's text, whose numbers have at most 127 bits
abbrev pub NarrowRead : Type 0
NarrowRead = CertificateRead ℚ

-- the certificate that a text spells, or the first line that does not fit
abbrev pub CertificateSaid : Type 0
CertificateSaid = Result certificate.ExactRaw ℕ

-- where line n of a certificate's text leads, by the outcome of its step: a state of n lines, the certificate, or n as
-- the line that does not fit
abbrev pub behind_line : ℕ → certificate.Outcome → Step NarrowRead CertificateSaid
behind_line n (progress.More raw) = On (record { raw = Some raw; lines = n })
behind_line n (progress.Done raw) = Says (Ok raw)
behind_line n progress.Unfit = Says (Err n)

-- what one more line of a certificate's text leads to: a further state of its reader, the certificate,
-- or its first wrong line
unfoldable pub certificate_step : NarrowRead → Line (List ℕ) → Step NarrowRead CertificateSaid
certificate_step reader line = behind_line (reader.lines + 1) (certificate.step reader.raw line)

-- the answer is what these lines say behind those that a reader of a certificate's text has read: the certificate, or
-- its first wrong line; none where more lines are needed
abbrev pub CertificateSays : NarrowRead → List (Line (List ℕ)) → Option CertificateSaid → Type 0
CertificateSays reader lines answer = said_by certificate_step reader lines ≡ answer
