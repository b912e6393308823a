-- The loop over the columns.
use Rattle.std.proofs.Common.{Some, get_or}
use Rattle.spec_exact.specs.Fraction.{0ℚ}
use Rattle.spec_exact.specs.Run.{less_product}
use Rattle.spec_exact.specs.Narrow.{number_limit}
use Rattle.spec_simplex.specs.Tableau.{at_place}
use Rattle.lp_tableau.proofs.Done.{IsDone}
use Rattle.lp_tableau.proofs.pivot.reprice.Given as goal

-- the reduced costs are done so far
abbrev pub invariant-loop-k : goal.invariant-loop-k
invariant-loop-k l =
    IsDone l.k (λ k. less_product (Some number_limit) (get_or l.fn.reduced l.j 0ℚ)
    (at_place l.grid l.p k) (get_or l.fn.reduced k 0ℚ)) l.fn.reduced l.reduced
