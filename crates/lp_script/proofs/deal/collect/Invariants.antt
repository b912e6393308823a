-- The replies so far.
use Rattle.std.proofs.Common.{◌≡◌, List, length, vec_len, vec_capacity}
use Rattle.spec_server.specs.Exchanges.{Exchange}
use Rattle.lp_script.specs.Dealt.{HoldReplies}
use Rattle.lp_script.proofs.Dealing.{Collecting}
use Rattle.lp_script.proofs.deal.collect.Given as goal

abbrev pub invariant-loop-session : goal.invariant-loop-session
invariant-loop-session l =
    ((exchanges : List Exchange) → HoldReplies (vec_len l.fn.parts) l.sessions l.fn.parts.items exchanges →
    Collecting (vec_len l.fn.parts) l.session-index l.parts.items l.replies.items exchanges)
    × (vec_len l.parts ≡ vec_len l.fn.parts)
    × (vec_len l.replies ≡ l.session-index)
    × (vec_capacity l.replies ≡ length l.sessions)
