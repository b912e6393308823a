-- The ask that came.
use Rattle.std.proofs.Common.{◌∙◌, ap, Ok}
use Rattle.lp_serve.proofs.NextAsk.{of_session_0}
use Rattle.lp_serve.proofs.link.next_ask.Goals as goal

pub returns-in-Ok-Some-clause-asks : goal.returns-in-Ok-Some-clause-asks
returns-in-Ok-Some-clause-asks g c =
    of_session_0 _ _ _ _ c.take.result c.in-Ok-Some.asked (c.in-Ok-Some.is ∙ ap Ok c.in-Ok-Some.field-0-is)
    c.take.ensures.taken c.take.ensures.more
