-- The tableau's rows, and the phase in which the run begins.
use Rattle.std.proofs.Common.{sym, ◌∙◌}
use Rattle.lp_rows.specs.Shows.{Shows}
use Rattle.lp_rows.proofs.SameNumbers.{of_some}
use Rattle.lp_row_runs.proofs.start.at_start.Goals as goal

pub first_phase-phase-requires : goal.first_phase-phase-requires
first_phase-phase-requires g c =
    of_some _ c.in_ok-rows.field-0 c.in-Some.rows c.in-Some.is c.in_ok-rows.ensures.whole

pub returns-in-Some-clause-run : goal.returns-in-Some-clause-run
returns-in-Some-clause-run g c budget f reached =
    let shown : Shows g.T.Words.value c.in-Some.rows c.args.tab.now =
    of_some _ c.in_ok-rows.field-0 c.in-Some.rows c.in-Some.is (c.in_ok-rows.ensures.shown reached) in
    record {
      tableau = c.args.tab.now;
      reached = reached;
      shown = shown;
      same = c.first_phase-phase.ensures budget f c.args.tab.now shown;
    }

pub returns-in-Some-clause-ready : goal.returns-in-Some-clause-ready
returns-in-Some-clause-ready g c f rows cols = record {
  whole = of_some _ c.in_ok-rows.field-0 c.in-Some.rows c.in-Some.is c.in_ok-rows.ensures.whole;
  rows = rows ∙ sym (of_some _ c.in_ok-rows.field-0 c.in-Some.rows c.in-Some.is c.in_ok-rows.ensures.rows);
  cols = cols ∙ sym (of_some _ c.in_ok-rows.field-0 c.in-Some.rows c.in-Some.is c.in_ok-rows.ensures.cols);
}
