use Rattle.spec_exact.specs.Fraction.{1ℚ}
use Rattle.spec_pivot.specs.declared.status.Way.TheVariants.{Up}
use Rattle.spec_pivot.proofs.DualInstance.{f, cost, b, opening, is_tableau, feasible, leaves, cheapest, stops, refutes}
use Rattle.spec_pivot.proofs.dual.some_dual_step_exists.Goals as goal

pub returns : goal.returns
returns c = record {
  step = (1, 2, f, cost, b, opening, Up, 0, 0, 1ℚ, is_tableau, feasible, leaves, cheapest);
  row = (1, 2, (λ i k. 1ℚ), b, (λ k. 1ℚ), stops, refutes);
}
