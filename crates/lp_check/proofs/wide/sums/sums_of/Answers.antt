-- One column more.
use Rattle.std.proofs.Common.{arith}
use Rattle.lp_check.proofs.Walks.{part_is, sums_more}
use Rattle.lp_check.proofs.wide.sums.sums_of.Goals as goal

pub loop-j-preserved : goal.loop-j-preserved
loop-j-preserved c =
    sums_more c.args.model.now c.args.numbers.now _ _ c.loop-j.j c.entries.result.now c.index-numbers-j.result
    c.entries.ensures.value
    (part_is c.args.numbers.now c.loop-j.j c.index-numbers-j.result
    (omega (arith, c.loop-j-test.true, c.cols-j-end.ensures.value, c.requires)) c.index-numbers-j.is)
    c.in_ok-add_column.ensures.len c.in_ok-add_column.ensures.sums c.loop-j.invariant
