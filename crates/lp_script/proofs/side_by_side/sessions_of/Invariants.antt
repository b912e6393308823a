-- The sessions so far.
use Rattle.std.proofs.Common.{◌≡◌, length, map, take, vec_len, vec_capacity}
use Rattle.lp_script.proofs.side_by_side.sessions_of.Given as goal

abbrev pub invariant-loop-asked : goal.invariant-loop-asked
invariant-loop-asked l =
    (l.sessions.items ≡ map (λ asked. asked.session) (take l.asked-index l.asks))
    × (vec_len l.sessions ≡ l.asked-index)
    × (vec_capacity l.sessions ≡ length l.asks)
