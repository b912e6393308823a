-- The asks that were dealt so far.
use Rattle.std.proofs.Common.{◌≡◌, ◌+◌, vec_len, vec_capacity}
use Rattle.lp_script.proofs.Dealing.{Dealing}
use Rattle.lp_script.proofs.deal.deal.Given as goal

abbrev pub invariant-loop-asked : goal.invariant-loop-asked
invariant-loop-asked l =
    Dealing (vec_len l.fn.parts) l.fn.asks.items l.asks.items l.sessions.items l.parts.items
    × (vec_len l.parts ≡ vec_len l.fn.parts)
    × (vec_len l.sessions + vec_len l.asks ≡ vec_len l.fn.asks)
    × (vec_capacity l.sessions ≡ vec_len l.fn.asks)

abbrev pub decreases-loop-asked : goal.decreases-loop-asked
decreases-loop-asked l = vec_len l.asks
