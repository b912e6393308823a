-- The loop over the rows.
use Rattle.std.proofs.Common.{◌≡◌, Ok}
use Rattle.spec_model.specs.Model.{part}
use Rattle.spec_check.specs.Run as run
use Rattle.lp_check.specs.Sums as given
use Rattle.lp_check.proofs.wide.multipliers.rows_tight.Given as goal

-- condition 4 holds at the first i rows, by their sums
abbrev pub invariant-loop-i : goal.invariant-loop-i
invariant-loop-i l = run.each l.i (λ i. given.row_tight l.model l.y i (part l.sums i)) ≡ Ok tt
