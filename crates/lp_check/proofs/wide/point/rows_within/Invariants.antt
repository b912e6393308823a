-- The loop over the rows.
use Rattle.std.proofs.Common.{◌≡◌, Ok}
use Rattle.spec_model.specs.Model.{part}
use Rattle.spec_check.specs.Run as run
use Rattle.lp_check.specs.Sums as given
use Rattle.lp_check.proofs.wide.point.rows_within.Given as goal

-- the sums of the first i rows are within the rows' limits
abbrev pub invariant-loop-i : goal.invariant-loop-i
invariant-loop-i l = run.each l.i (λ i. given.row_within l.model i (part l.sums i)) ≡ Ok tt
