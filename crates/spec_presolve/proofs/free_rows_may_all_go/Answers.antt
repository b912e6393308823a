use Rattle.spec_presolve.proofs.FreeRows.{optimal_without, infeasible_without, unbounded_without, rows_without}
use Rattle.spec_presolve.proofs.FreeRows.{checks_without, fits_and_shows, comes_from}
use Rattle.spec_presolve.proofs.free_rows_may_all_go.Goals as goal

pub returns-clause-rows : goal.returns-clause-rows
returns-clause-rows c = rows_without

pub returns-clause-optimal : goal.returns-clause-optimal
returns-clause-optimal c = optimal_without

pub returns-clause-infeasible : goal.returns-clause-infeasible
returns-clause-infeasible c = infeasible_without

pub returns-clause-unbounded : goal.returns-clause-unbounded
returns-clause-unbounded c = unbounded_without

pub returns-clause-less : goal.returns-clause-less
returns-clause-less c = checks_without

pub returns-clause-fits : goal.returns-clause-fits
returns-clause-fits c = fits_and_shows

pub returns-clause-more : goal.returns-clause-more
returns-clause-more c = comes_from
