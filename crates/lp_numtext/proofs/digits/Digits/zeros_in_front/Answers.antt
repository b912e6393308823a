use Rattle.std.proofs.Common.{arith}
use Rattle.lp_numtext.proofs.DigitSteps.{front_stop, front_go}
use Rattle.lp_numtext.proofs.digits.Digits.zeros_in_front.Goals as goal

pub returns-then-b-ne48-clause-value : goal.returns-then-b-ne48-clause-value
returns-then-b-ne48-clause-value c =
    omega (
      arith,
      c.loop-at.invariant,
      front_stop c.args.self.bytes.now c.loop-at.at c.loop-at-test.true c.if-b-ne48.true,
    )

pub loop-at-preserved : goal.loop-at-preserved
loop-at-preserved c =
    omega (
      arith,
      c.loop-at.invariant,
      front_go c.args.self.bytes.now c.loop-at.at c.loop-at-test.true c.if-b-ne48.false,
    )
