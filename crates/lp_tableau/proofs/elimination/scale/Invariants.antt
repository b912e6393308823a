-- The loop over the columns.
use Rattle.std.proofs.Common.{Some}
use Rattle.spec_exact.specs.Run.{quotient_run}
use Rattle.spec_exact.specs.Narrow.{number_limit}
use Rattle.spec_simplex.specs.Tableau.{at_place}
use Rattle.lp_tableau.specs.Grid.{IsGrid}
use Rattle.lp_tableau.proofs.Done.{IsRowDone}
use Rattle.lp_tableau.proofs.elimination.scale.Given as goal

-- row p is done so far
abbrev pub invariant-loop-k : goal.invariant-loop-k
invariant-loop-k l = record {
  done : IsRowDone l.p l.k (λ k. quotient_run (Some number_limit) (at_place l.fn.grid l.p k) l.by) l.fn.grid l.grid;
  shape : IsGrid l.height l.width l.grid;
}
