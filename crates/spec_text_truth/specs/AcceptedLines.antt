-- That the lines written behind an answer are a certificate that is accepted.
use Rattle.std.specs.Prelude.{ℕ, ◌≡◌, Some, List, ◌++◌}
use Rattle.spec_text.specs.declared.line.Line.{Line}
use Rattle.spec_text.specs.Lines.{ended_lines_of}
use Rattle.spec_mps.specs.declared.style.Style.{Style}
use Rattle.spec_check.specs.declared.certificate.Verdict.TheVariants.{Yes}
use Rattle.spec_server.specs.declared.asks.Reply.TheVariants as reply
use Rattle.spec_server.specs.declared.asks.Reply.TheVariants.{Known, Past, Spent}
use Rattle.spec_server.specs.Machine.{ExactReply}
use Rattle.spec_commands.specs.CheckOut.{said}

-- The reply answers a solve. Where it is a known answer, `check` says yes to the lines `text` with the lines of the
-- bytes `written` behind them, and that the same is known, whatever follows. Of PAST and SPENT, which have no
-- certificate, nothing is asked. No other reply is accepted.
abbrev pub IsAccepted : Style → List (Line (List ℕ)) → ExactReply → List ℕ → Type 0
IsAccepted style text (Known what) written =
    (more : List ℕ) → said style (text ++ ended_lines_of (written ++ more)) ≡ Some (reply.Checked (Yes what))
IsAccepted style text (Past p) written = Unit {0}
IsAccepted style text (Spent budget) written = Unit {0}
IsAccepted style text replied written = ⊥
