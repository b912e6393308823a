-- The rows are the same fractions.
use Rattle.std.proofs.Common.{refl, sym, ◌∙◌}
use Rattle.lp_row_runs.proofs.BothPhases.{of_some}
use Rattle.lp_row_runs.proofs.ladder.wider.Goals as goal

pub returns-in-Some-clause-run : goal.returns-in-Some-clause-run
returns-in-Some-clause-run g c = λ budget f t reached shown. record {
  tableau = t;
  reached = reached;
  shown = of_some _ _ _ c.in-Some.is (c.in_ok-tab.ensures.shown t shown);
  same = refl;
}

pub returns-in-Some-clause-ready : goal.returns-in-Some-clause-ready
returns-in-Some-clause-ready g c = λ f r. record {
  whole = of_some _ _ _ c.in-Some.is c.in_ok-tab.ensures.whole;
  rows = r.rows ∙ sym (of_some _ _ _ c.in-Some.is c.in_ok-tab.ensures.rows);
  cols = r.cols ∙ sym (of_some _ _ _ c.in-Some.is c.in_ok-tab.ensures.cols);
}
