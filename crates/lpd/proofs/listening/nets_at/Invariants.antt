-- The listeners so far.
use Rattle.std.proofs.Common.{◌≡◌, vec_len}
use Rattle.lpd.proofs.listening.nets_at.Given as goal

abbrev pub invariant-loop-index : goal.invariant-loop-index
invariant-loop-index l = vec_len l.nets ≡ l.index
