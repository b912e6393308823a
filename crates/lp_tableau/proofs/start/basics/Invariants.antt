-- The loop over the rows.
use Rattle.std.proofs.Common.{◌≡◌}
use Rattle.spec_exact.specs.Run.{made}
use Rattle.spec_simplex.specs.Start.{start_basic}
use Rattle.lp_tableau.proofs.start.basics.Given as goal

-- the positions so far are there
abbrev pub invariant-loop-i : goal.invariant-loop-i
invariant-loop-i l = l.list.items ≡ made l.i (start_basic l.form l.starts)
