-- The loop over the steps.
use Rattle.std.proofs.Common.{◌≡◌, ◌-◌, ◌<◌, Some}
use Rattle.spec_exact.specs.Narrow.{number_limit}
use Rattle.spec_factor.specs.Revised.{replacements}
use Rattle.spec_factor.specs.Over.{over_from}
use Rattle.lp_revised.proofs.state.Revised.run.Given as goal

-- what is left of the run is the same run
abbrev pub invariant-loop-selected : goal.invariant-loop-selected
invariant-loop-selected l = record {
  same :
      over_from (Some number_limit) l.form l.starts l.costs (l.budget - l.fn.used) l.fn.used l.fn.self
      ≡ over_from (Some number_limit) l.form l.starts l.costs (l.budget - l.used) l.used l.self;
  rows : l.self.bare.rows ≡ l.fn.self.bare.rows;
  cols : l.self.bare.cols ≡ l.fn.self.bare.cols;
  few : l.self.replaced < replacements;
}

abbrev pub decreases-loop-selected : goal.decreases-loop-selected
decreases-loop-selected l = l.budget - l.used
