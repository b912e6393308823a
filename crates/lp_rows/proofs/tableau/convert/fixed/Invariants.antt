-- The answers so far.
use Rattle.std.proofs.Common.{◌≡◌}
use Rattle.spec_exact.specs.Run.{made}
use Rattle.spec_simplex.specs.Tableau.{is_fixed, lower_at, upper_at}
use Rattle.lp_rows.proofs.tableau.convert.fixed.Given as goal

abbrev pub invariant-loop-k : goal.invariant-loop-k
invariant-loop-k l = l.list.items ≡ made l.k (λ k. is_fixed (lower_at l.tab k) (upper_at l.tab k))
