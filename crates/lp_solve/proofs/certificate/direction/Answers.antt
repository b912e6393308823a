-- One move more.
use Rattle.spec_runs.specs.Cold.{moves_by}
use Rattle.lp_solve.proofs.Pushed.{pushed}
use Rattle.lp_solve.proofs.certificate.direction.Goals as goal

pub loop-k-preserved : goal.loop-k-preserved
loop-k-preserved c =
    pushed (moves_by c.args.tab.now c.args.j c.args.way) c.loop-k.k _ _ _ c.in_ok-push.ensures.pushed
    c.in_ok-push.ensures.narrow c.move_of.ensures c.loop-k.invariant
