use Rattle.std.proofs.Common.{◌∙◌}
use Rattle.lp_mps.proofs.TextEnds.{front_stop, front_go}
use Rattle.lp_mps.proofs.card.columns.without_front.Goals as goal

pub returns-then-byte-ne32 : goal.returns-then-byte-ne32
returns-then-byte-ne32 c =
    front_stop c.args.text.now c.loop-at.at c.loop-at-test.true c.if-byte-ne32.true ∙ c.loop-at.invariant

pub loop-at-preserved : goal.loop-at-preserved
loop-at-preserved c =
    front_go c.args.text.now c.loop-at.at c.loop-at-test.true c.if-byte-ne32.false ∙ c.loop-at.invariant
