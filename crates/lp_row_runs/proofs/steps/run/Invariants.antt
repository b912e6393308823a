-- The loop over the steps.
use Rattle.std.proofs.Common.{◌-◌}
use Rattle.spec_simplex.specs.Tableau.{Tableau}
use Rattle.lp_rows.specs.Shows.{IsReached, Shows}
use Rattle.lp_row_runs.specs.Steps.{ComesTo, Keeps}
use Rattle.lp_row_runs.proofs.steps.run.Given as goal

-- what is left of the steps are the same steps
abbrev pub invariant-loop-next : goal.invariant-loop-next
invariant-loop-next g l = record {
  comes : (t : Tableau) → IsReached t → Shows g.T.Words.value l.fn.tab t →
      ComesTo g.T.Words.value l.budget l.fn.used t l.tab l.used;
  keeps : Keeps g.T.Words.value l.fn.tab l.tab;
}

abbrev pub decreases-loop-next : goal.decreases-loop-next
decreases-loop-next g l = l.budget - l.used
