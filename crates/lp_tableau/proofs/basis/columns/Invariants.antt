-- The loop over the positions.
use Rattle.std.proofs.Common.{◌≡◌, None, get_or}
use Rattle.spec_exact.specs.Run.{made}
use Rattle.spec_simplex.specs.Eliminate.{or_first}
use Rattle.lp_tableau.proofs.basis.columns.Given as goal

-- the positions so far are there
abbrev pub invariant-loop-i : goal.invariant-loop-i
invariant-loop-i l = l.columns.items ≡ made l.i (λ i. or_first (get_or l.basic i None))
