-- The least column that may enter.
use Rattle.std.proofs.Common.{sym, arith}
use Rattle.spec_simplex.specs.Tableau.{all_columns}
use Rattle.spec_simplex.proofs.EnteringColumns.{enters_at}
use Rattle.lp_simplex.proofs.primal.entering.entering.Goals as goal

pub returns-in-Some-clause-value : goal.returns-in-Some-clause-value
returns-in-Some-clause-value c =
    sym (enters_at c.args.tab.now c.loop-col.col (all_columns c.args.tab.now) c.in-Some.direction c.loop-col.invariant
    (omega (arith, c.loop-col-test.true, c.width-col-end.ensures.value)) (sym c.in-Some.ensures))
