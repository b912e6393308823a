-- The loop over the positions.
use Rattle.std.proofs.Common.{◌≡◌}
use Rattle.spec_exact.specs.Fraction.{◌*ℚ◌}
use Rattle.spec_exact.specs.Run.{made}
use Rattle.spec_simplex.specs.Start.{cost_at}
use Rattle.spec_simplex.specs.Tableau.{basic_at}
use Rattle.spec_factor.specs.Revised.{sign_of}
use Rattle.lp_revised.proofs.state.Revised.basic_costs.Given as goal

-- the costs of the positions so far
abbrev pub invariant-loop-place : goal.invariant-loop-place
invariant-loop-place l =
    l.list ≡ made l.place (λ p. sign_of l.starts l.self.bare (basic_at l.self.bare p) *ℚ cost_at l.costs
    (basic_at l.self.bare p))
