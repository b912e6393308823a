-- The sessions so far.
use Rattle.std.proofs.Common.{◌≡◌, replicate, vec_len, vec_capacity}
use Rattle.spec_server.specs.Halves.{at_rest}
use Rattle.spec_server.specs.Machine.{opening}
use Rattle.lp_script.proofs.sessions.opening_sessions.Given as goal

abbrev pub invariant-loop-index : goal.invariant-loop-index
invariant-loop-index l =
    (l.all.items ≡ replicate l.index (at_rest opening)) × (vec_len l.all ≡ l.index) × (vec_capacity l.all ≡ 65)
