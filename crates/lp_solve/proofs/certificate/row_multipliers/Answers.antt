-- One entry more.
use Rattle.std.proofs.Common.{◌+◌}
use Rattle.spec_simplex.specs.Step.{directed}
use Rattle.spec_simplex.specs.Tableau.{entry_at}
use Rattle.lp_solve.proofs.Pushed.{pushed}
use Rattle.lp_solve.proofs.certificate.row_multipliers.Goals as goal

pub loop-i-preserved : goal.loop-i-preserved
loop-i-preserved c =
    pushed
    (λ i. directed c.args.way (entry_at c.args.tab.now c.args.position (c.args.tab.now.cols + i))) c.loop-i.i _ _ _
    c.in_ok-push.ensures.pushed c.in_ok-push.ensures.narrow
    (rw (c.entry.ensures, c.cols.ensures.value) at c.directed.ensures) c.loop-i.invariant
