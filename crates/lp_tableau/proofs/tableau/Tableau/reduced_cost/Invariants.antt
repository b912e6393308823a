-- The loop over the positions.
use Rattle.std.proofs.Common.{◌≡◌, Some, Ok}
use Rattle.spec_exact.specs.Run.{steps, less_product}
use Rattle.spec_exact.specs.Narrow.{number_limit}
use Rattle.spec_simplex.specs.Tableau.{entry_at, basic_at}
use Rattle.spec_simplex.specs.Start.{cost_at}
use Rattle.lp_tableau.proofs.tableau.Tableau.reduced_cost.Given as goal

-- what is left so far
abbrev pub invariant-loop-i : goal.invariant-loop-i
invariant-loop-i l =
    steps l.i (λ i d. less_product (Some number_limit) (cost_at l.costs (basic_at l.self i)) (entry_at l.self i l.k) d)
    (cost_at l.costs l.k) ≡ Ok l.rest
