-- The loop over the steps.
use Rattle.std.proofs.Common.{◌≡◌, ◌-◌, Some}
use Rattle.spec_exact.specs.Narrow.{number_limit}
use Rattle.spec_simplex.specs.Dual.{dual_from}
use Rattle.lp_simplex.specs.Starts.{IsSeated}
use Rattle.lp_simplex.proofs.dual.steps.steps.Given as goal

-- what is left of the run is the same run, and each basic column has a position
abbrev pub invariant-loop-end : goal.invariant-loop-end
invariant-loop-end l =
    (dual_from (Some number_limit) (l.budget - l.fn.used) l.fn.used l.fn.tab
    ≡ dual_from (Some number_limit) (l.budget - l.used) l.used l.tab) × IsSeated l.tab

abbrev pub decreases-loop-end : goal.decreases-loop-end
decreases-loop-end l = l.budget - l.used
