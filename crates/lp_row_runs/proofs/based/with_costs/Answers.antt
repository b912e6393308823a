-- The same rows with these costs.
use Rattle.std.proofs.Common.{arith}
use Rattle.lp_rows.proofs.SameNumbers.{of_some}
use Rattle.lp_row_runs.proofs.BasisRows.{priced_size, priced_shows}
use Rattle.lp_row_runs.proofs.based.with_costs.Goals as goal

pub priced-requires-clause-whole : goal.priced-requires-clause-whole
priced-requires-clause-whole g c = c.requires.whole

pub priced-requires-clause-rows : goal.priced-requires-clause-rows
priced-requires-clause-rows g c = c.requires.rows

pub priced-requires-clause-cols : goal.priced-requires-clause-cols
priced-requires-clause-cols g c = c.requires.cols

pub returns-in-Some-clause-whole : goal.returns-in-Some-clause-whole
returns-in-Some-clause-whole g c =
    priced_size g.T.Words.value c.args.form.now c.args.tab c.in-Some.costs c.requires
    (of_some _ c.in_ok-costs.field-0 c.in-Some.costs c.in-Some.is c.in_ok-costs.ensures)

pub returns-in-Some-clause-shown : goal.returns-in-Some-clause-shown
returns-in-Some-clause-shown g c = λ basis proper fits shows.
    priced_shows g.T.Words.value c.args.form.now c.args.tab c.in-Some.costs c.requires
    (of_some _ c.in_ok-costs.field-0 c.in-Some.costs c.in-Some.is c.in_ok-costs.ensures) basis proper fits
    (omega (arith, c.rows.ensures.kept.all_costs)) shows
