-- The loop over the columns.
use Rattle.std.proofs.Common.{Some}
use Rattle.spec_exact.specs.Narrow.{number_limit}
use Rattle.spec_simplex.specs.Start.{reduced_run}
use Rattle.lp_tableau.proofs.Done.{IsDone}
use Rattle.lp_tableau.proofs.Pivots.{RepricedFrom}
use Rattle.lp_tableau.proofs.tableau.Tableau.price.Given as goal

-- the columns so far have their reduced costs
abbrev pub invariant-loop-k : goal.invariant-loop-k
invariant-loop-k l = record {
  done : IsDone l.k (reduced_run (Some number_limit) l.fn.self l.costs) l.fn.self.reduced l.self.reduced;
  rest : RepricedFrom l.fn.self l.self;
}
