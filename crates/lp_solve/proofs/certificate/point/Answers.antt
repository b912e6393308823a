-- One value more.
use Rattle.spec_simplex.specs.Tableau.{value_at}
use Rattle.lp_solve.proofs.Pushed.{pushed}
use Rattle.lp_solve.proofs.certificate.point.Goals as goal

pub loop-j-preserved : goal.loop-j-preserved
loop-j-preserved c =
    pushed (value_at c.args.tab.now) c.loop-j.j _ _ _ c.in_ok-push.ensures.pushed c.in_ok-push.ensures.narrow
    c.value.ensures c.loop-j.invariant
