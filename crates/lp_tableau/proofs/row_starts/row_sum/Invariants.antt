-- The loop over the columns.
use Rattle.std.proofs.Common.{◌≡◌, Some, Ok}
use Rattle.spec_exact.specs.Fraction.{0ℚ}
use Rattle.spec_exact.specs.Run.{steps, plus_product}
use Rattle.spec_exact.specs.Narrow.{number_limit}
use Rattle.spec_simplex.specs.Form.{form_entry}
use Rattle.spec_simplex.specs.Start.{first_value}
use Rattle.lp_tableau.proofs.row_starts.row_sum.Given as goal

-- the sum so far
abbrev pub invariant-loop-j : goal.invariant-loop-j
invariant-loop-j l =
    steps l.j (λ j s. plus_product (Some number_limit) (form_entry l.form l.i j) (first_value l.form j) s) 0ℚ ≡ Ok l.sum
