-- What the command `check` says of its input: the text of a model and, from the line after it on, a certificate. Each
-- line is a step from what was read before it, up to the line at which something is said.
use Rattle.std.specs.Prelude.{ℕ, ◌≡◌, ◌+◌, Option, Some, None, Ok, Err, List}
use Rattle.spec_text.specs.declared.line.Line.{Line}
use Rattle.spec_model.specs.Model.{Model}
use Rattle.spec_model.specs.Kept.{usual_limits}
use Rattle.spec_mps.specs.declared.style.Style.{Style}
use Rattle.spec_mps.specs.Reader.{State, start}
use Rattle.spec_mps.specs.Steps as text
use Rattle.spec_certificate.specs.declared.progress.Progress.TheVariants as progress
use Rattle.spec_certificate.specs.NarrowText as certificate
use Rattle.spec_check.specs.Settle.{certificate_for}
use Rattle.spec_server.specs.declared.asks.Reply.TheVariants as reply
use Rattle.spec_server.specs.declared.asks.Refusal.TheVariants as refusal
use Rattle.spec_server.specs.Machine.{ExactReply, verdict_on}
use Rattle.spec_server.specs.Output.{check_line}
pub use Rattle.spec_server.specs.Said.{Step, On, Says, follow}
use Rattle.spec_server.specs.Said.{said_by}

-- a stage in reading the input of `check`, in the model's text or in the certificate behind it: what was read there,
-- and how many lines
pub data Stage : Type 0 where
  InText : (style : Style) → (state : State) → (lines : ℕ) → Stage
  InCertificate : (model : Model) → (so_far : Option certificate.ExactRaw) → (lines : ℕ) → Stage

-- what line n of the model's text leads to, by its outcome: a further stage in the text,
-- the certificate behind it, or a refusal
abbrev pub behind_text : Style → ℕ → text.Outcome → Step Stage ExactReply
behind_text style n (Ok (text.More s)) = On (InText style s n)
behind_text style n (Ok (text.Done m)) = On (InCertificate m None 0)
behind_text style n (Err code) = Says (reply.Refused (refusal.Misspelled (record { line = n; code = code })))

-- what line n of the certificate leads to, by its outcome: a further stage, the verdict on it, or a refusal
abbrev pub behind_certificate : Model → ℕ → certificate.Outcome → Step Stage ExactReply
behind_certificate m n (progress.More raw) = On (InCertificate m (Some raw) n)
behind_certificate m n (progress.Done raw) = Says (verdict_on m (certificate_for m raw))
behind_certificate m n progress.Unfit = Says (reply.Refused (refusal.Unfit n))

-- what one more line of the text, or of the certificate behind it, leads to: a further stage, or what `check` says
unfoldable pub check_step : Stage → Line (List ℕ) → Step Stage ExactReply
check_step (InText style s n) line = behind_text style (n + 1) (text.step usual_limits style s line)
check_step (InCertificate m so_far n) line = behind_certificate m (n + 1) (certificate.step so_far line)

-- what `check` says of lines from a stage of its input on, in the text or in the certificate; nothing where more lines
-- are needed
abbrev pub said_from : Stage → List (Line (List ℕ)) → Option ExactReply
said_from stage lines = said_by check_step stage lines

-- what `check` says of the lines of its input; none where more lines are needed
abbrev pub said : Style → List (Line (List ℕ)) → Option ExactReply
said style lines = said_from (InText style start 0) lines

-- what `check` may write of what it says: its line alone
abbrev pub CheckOut : ExactReply → List ℕ → Type 0
CheckOut replied written = written ≡ check_line replied

-- the exit status of `check`: 9 where its input is refused, and else 0
abbrev pub check_code : ExactReply → ℕ
check_code (reply.Refused why) = 9
check_code replied = 0
