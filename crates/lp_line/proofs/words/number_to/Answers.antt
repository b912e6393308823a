use Rattle.std.proofs.Common.{arith}
use Rattle.lp_line.proofs.NumberLemmas.{too_large}
use Rattle.lp_line.proofs.words.number_to.Goals as goal

pub returns-then-number-last : goal.returns-then-number-last
returns-then-number-last c =
    too_large _ _ c.args.text.now _ c.loop-digit.number c.loop-digit.invariant.spelled c.loop-digit-test.true
    (omega arith)
