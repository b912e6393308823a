-- The loop over the columns.
use Rattle.std.proofs.Common.{Some}
use Rattle.spec_exact.specs.Narrow.{number_limit}
use Rattle.lp_simplex.proofs.ColumnFlips.{Flipping}
use Rattle.lp_simplex.proofs.dual.flips.flips.Given as goal

-- the flips so far
abbrev pub invariant-loop-k : goal.invariant-loop-k
invariant-loop-k l = Flipping (Some number_limit) l.budget l.fn.tab l.k (record { tableau = l.tab; used = l.used })
