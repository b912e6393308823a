-- What a check with wide numbers says, as the definitions have it.
use Rattle.spec_check.specs.declared.certificate.Verdict.TheVariants as verdict
use Rattle.spec_server.specs.declared.asks.Reply.TheVariants as reply
use Rattle.spec_server.specs.Machine.{ExactReply}
use Rattle.lp_check.specs.declared.wide.certificate.Verdict.{Verdict}
use Rattle.lp_check.specs.declared.wide.certificate.Verdict.TheVariants as wide
use Rattle.lp_text_commands.specs.declared.check.wide.WideSaid.{WideSaid}
use Rattle.lp_text_commands.specs.declared.check.wide.WideSaid.TheVariants as said

-- the reply with a verdict of the wide check: yes with what is known, or no with the number of a condition
abbrev pub verdict_reply : Verdict → ExactReply
verdict_reply (wide.Yes what) = reply.Checked (verdict.Yes what)
verdict_reply (wide.No n) = reply.Checked (verdict.No n)

-- what the wide check says, as a reply: its verdict, or the refusal
abbrev pub reply_of : WideSaid → ExactReply
reply_of (said.Checked checked) = verdict_reply checked
reply_of (said.Refused why) = reply.Refused why
