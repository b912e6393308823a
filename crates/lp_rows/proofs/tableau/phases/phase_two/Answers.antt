use Rattle.std.proofs.Common.{length, ap}
use Rattle.lp_rows.specs.Second.{IsPricedRow}
use Rattle.lp_rows.proofs.SecondPhaseRows.{begun_whole, begun_shown}
use Rattle.lp_rows.proofs.tableau.phases.phase_two.Goals as goal
use Rattle.lp_rows.proofs.SameNumbers.{of_some}

pub returns-in-Some-clause-whole : goal.returns-in-Some-clause-whole
returns-in-Some-clause-whole g c is_made =
    let priced = of_some (IsPricedRow g.T.Words.value c.args.tab.now c.args.form.now.cost) c.in_ok-costs.field-0
    c.in-Some.costs c.in-Some.is c.in_ok-costs.ensures in
    begun_whole g.T.Words.value c.args.tab.now c.in-Some.costs c.begin.new.tab c.requires.whole c.begin.ensures
    priced.is_row

pub returns-in-Some-clause-rows : goal.returns-in-Some-clause-rows
returns-in-Some-clause-rows g c is_made = ap (λ (rows : _). length rows.items) c.begin.ensures.rows

pub returns-in-Some-clause-cols : goal.returns-in-Some-clause-cols
returns-in-Some-clause-cols g c is_made = c.begin.ensures.cols

pub returns-in-Some-clause-shown : goal.returns-in-Some-clause-shown
returns-in-Some-clause-shown g c is_made t u reached s h =
    begun_shown g.T.Words.value c.args.tab.now c.in-Some.costs c.begin.new.tab c.requires.whole c.begin.ensures t
    reached s
    c.args.form.now u (of_some _ c.in_ok-costs.field-0 c.in-Some.costs c.in-Some.is c.in_ok-costs.ensures) h
