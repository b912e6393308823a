-- The loop over the columns.
use Rattle.std.proofs.Common.{◌≡◌, Some, Ok, cond}
use Rattle.spec_exact.specs.Fraction.{0ℚ}
use Rattle.spec_exact.specs.Run.{steps, less_product}
use Rattle.spec_exact.specs.Narrow.{number_limit}
use Rattle.spec_simplex.specs.Tableau.{entry_at, value_at, status_at}
use Rattle.spec_simplex.specs.Tableau.{is_basic}
use Rattle.lp_tableau.proofs.tableau.Tableau.position.Given as goal

-- the value so far
abbrev pub invariant-loop-k : goal.invariant-loop-k
invariant-loop-k l =
    steps l.k (λ k v. cond (is_basic (status_at l.self k)) (Ok v)
    (less_product (Some number_limit) (entry_at l.self l.i k) (value_at l.self k) v)) 0ℚ ≡ Ok l.value
