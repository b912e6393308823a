-- One multiplier more.
use Rattle.std.proofs.Common.{◌+◌}
use Rattle.spec_simplex.specs.Tableau.{reduced_at}
use Rattle.lp_solve.proofs.Pushed.{pushed}
use Rattle.lp_solve.proofs.certificate.multipliers.Goals as goal

pub loop-i-preserved : goal.loop-i-preserved
loop-i-preserved c =
    pushed (λ i. reduced_at c.args.tab.now (c.args.tab.now.cols + i)) c.loop-i.i _ _ _ c.in_ok-push.ensures.pushed
    c.in_ok-push.ensures.narrow (rw c.cols.ensures.value at c.reduced.ensures) c.loop-i.invariant
