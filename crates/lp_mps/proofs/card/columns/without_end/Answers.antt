use Rattle.std.proofs.Common.{◌∙◌, sym, ◌-◌, arith}
use Rattle.lp_mps.proofs.TextEnds.{spaces_stop, spaces_go}
use Rattle.lp_mps.proofs.card.columns.without_end.Goals as goal

pub returns-then-text-len-ne32 : goal.returns-then-text-len-ne32
returns-then-text-len-ne32 c =
    sym (spaces_stop c.args.text.now c.loop-len.len (c.loop-len.len - 1)
    (omega arith) (omega arith) c.if-text-len-ne32.true) ∙ c.loop-len.invariant

pub loop-len-preserved : goal.loop-len-preserved
loop-len-preserved c =
    spaces_go c.args.text.now c.loop-len.len (c.loop-len.len - 1) (omega arith) (omega arith) c.if-text-len-ne32.false
    ∙ c.loop-len.invariant
