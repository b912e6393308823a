-- What the command `check` says of its input where the certificate's numbers may have any width. It is what CheckOut has,
-- for large models too, with the verdict of the run without a limit, and the value of an optimum written at any width.
use Rattle.std.specs.Prelude.{ℕ, ◌≡◌, ◌+◌, Option, Some, None, Ok, Err, List, [], ◌∷◌, ◌++◌, codes}
use Rattle.spec_text.specs.declared.line.Line.{Line}
use Rattle.spec_exact.specs.Fraction.{ℚ}
use Rattle.spec_model.specs.Model.{Model}
use Rattle.spec_mps.specs.declared.style.Style.{Style}
use Rattle.spec_mps.specs.Reader.{start}
use Rattle.spec_mps.specs.Steps as text
use Rattle.spec_mps.specs.WideWritten.{wide_text}
use Rattle.spec_check.specs.declared.certificate.Certificate.{Certificate}
use Rattle.spec_check.specs.declared.certificate.Known.TheVariants as known
use Rattle.spec_check.specs.declared.certificate.Verdict.TheVariants as verdict
use Rattle.spec_check.specs.Run.{check_run, verdict_of}
use Rattle.spec_check.specs.Settle.{Settled, certificate_for}
use Rattle.spec_certificate.specs.declared.progress.Progress.TheVariants as progress
use Rattle.spec_certificate.specs.Text.{step_by}
use Rattle.spec_certificate.specs.NarrowText as certificate
use Rattle.spec_certificate.specs.WideText.{wide}
use Rattle.spec_program.specs.declared.command_line.TextCommand.TheVariants.{CheckWide}
use Rattle.spec_program.specs.TextLimits.{limits_of}
use Rattle.spec_server.specs.declared.asks.Reply.TheVariants as reply
use Rattle.spec_server.specs.declared.asks.Refusal.TheVariants as refusal
use Rattle.spec_server.specs.Machine.{ExactReply, settle_reply}
use Rattle.spec_server.specs.Output.{reply_text}
use Rattle.spec_commands.specs.CheckOut.{Stage, InText, InCertificate, behind_text}
use Rattle.spec_server.specs.Said.{Step, On, Says, said_by}

-- the reply to a certificate that was matched with the model: the verdict of the check without a limit; or a refusal
-- where a name does not match
abbrev pub wide_verdict_on : Model → Settled (Certificate (List ℚ)) → ExactReply
wide_verdict_on m (Ok certificate) = reply.Checked (verdict_of (check_run None m certificate))
wide_verdict_on m (Err fault) = settle_reply fault

-- what line n of the certificate leads to, by its outcome: a further stage,
-- the verdict on it without a limit, or a refusal
abbrev pub behind_wide : Model → ℕ → certificate.Outcome → Step Stage ExactReply
behind_wide m n (progress.More raw) = On (InCertificate m (Some raw) n)
behind_wide m n (progress.Done raw) = Says (wide_verdict_on m (certificate_for m raw))
behind_wide m n progress.Unfit = Says (reply.Refused (refusal.Unfit n))

-- what one more line of the text, or of the certificate behind it, leads to: a further stage,
-- or what `check --wide` says
unfoldable pub wide_step : Stage → Line (List ℕ) → Step Stage ExactReply
wide_step (InText style s n) line = behind_text style (n + 1) (text.step (limits_of CheckWide) style s line)
wide_step (InCertificate m so_far n) line = behind_wide m (n + 1) (step_by wide so_far line)

-- what `check --wide` says of the lines of its input; none where more lines are needed
abbrev pub wide_said : Style → List (Line (List ℕ)) → Option ExactReply
wide_said style lines = said_by wide_step (InText style start 0) lines

-- the text of a reply of `check --wide`: the value of an optimum at any width, as `wide_text` writes it, and any other
-- reply as `check` writes it
abbrev pub wide_reply_text : ExactReply → List ℕ
wide_reply_text (reply.Checked (verdict.Yes (known.Optimal v))) = codes "YES OPTIMAL " ++ wide_text v
wide_reply_text replied = reply_text replied

-- the line that `check --wide` writes of a reply
unfoldable pub wide_check_line : ExactReply → List ℕ
wide_check_line replied = wide_reply_text replied ++ 10 ∷ []

-- what `check --wide` may write for a reply: the line of the reply, and nothing else
abbrev pub WideCheckOut : ExactReply → List ℕ → Type 0
WideCheckOut replied written = written ≡ wide_check_line replied
