-- The loop over the columns.
use Rattle.std.proofs.Common.{◌≡◌}
use Rattle.spec_exact.specs.Run.{made}
use Rattle.spec_board.specs.Words.{status_at}
use Rattle.lp_form.proofs.unpacking.unpack.Given as goal

-- the list has the statuses of the first c columns of the words
abbrev pub invariant-loop-c : goal.invariant-loop-c
invariant-loop-c l = l.statuses.items ≡ made l.c (status_at l.words)
