-- The loop over the steps.
use Rattle.std.proofs.Common.{◌≡◌, ◌-◌, Some}
use Rattle.spec_exact.specs.Narrow.{number_limit}
use Rattle.spec_simplex.specs.Phases.{run_from}
use Rattle.lp_simplex.proofs.StepRuns.{IsUnderWay}
use Rattle.lp_simplex.proofs.primal.steps.run.Given as goal

-- what is left of the run is the same run, and the steps so far are counted
abbrev pub invariant-loop-next : goal.invariant-loop-next
invariant-loop-next l = record {
  same : run_from (Some number_limit) (l.budget - l.fn.used) l.fn.used l.fn.tab
      ≡ run_from (Some number_limit) (l.budget - l.used) l.used l.tab;
  way : IsUnderWay l.budget l.fn.used l.fn.tab l.used l.tab;
}

abbrev pub decreases-loop-next : goal.decreases-loop-next
decreases-loop-next l = l.budget - l.used
