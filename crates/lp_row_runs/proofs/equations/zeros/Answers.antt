-- One zero more.
use Rattle.std.proofs.Common.{◌≡◌, ap, pos, subst, arith}
use Rattle.lp_row_runs.specs.Rows.{AreZeros}
use Rattle.lp_row_runs.proofs.Unsolved.{zeros_more}
use Rattle.lp_row_runs.proofs.equations.zeros.Goals as goal

pub loop-preserved : goal.loop-preserved
loop-preserved g c =
    zeros_more g.T.Words.value c.loop.counter c.loop.numbers.items _ _ (ap pos c.zero.ensures) c.loop.invariant
    c.in_ok-push.ensures.items

pub returns : goal.returns
returns g c =
    let all : c.loop.counter ≡ c.args.n = omega (arith, c.loop-test.false, c.loop.auto.counter-end) in
    subst (λ n. AreZeros g.T.Words.value n c.loop.numbers.items) all c.loop.invariant
