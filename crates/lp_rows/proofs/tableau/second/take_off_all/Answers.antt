use Rattle.std.proofs.Common.{◌<◌, arith}
use Rattle.lp_rows.specs.Shows.{height}
use Rattle.lp_rows.proofs.Taken.{none_yet, one_more}
use Rattle.lp_rows.proofs.tableau.second.take_off_all.Goals as goal

pub loop-i-init : goal.loop-i-init
loop-i-init g c = none_yet g.T.Words.value c.args.tab.now c.args.costs.now c.requires.row

pub loop-i-preserved : goal.loop-i-preserved
loop-i-preserved g c =
    let inside : c.loop-i.i < height c.args.tab.now = omega (arith, c.loop-i-test.true, c.len-i-end.ensures) in
    one_more g.T.Words.value c.args.tab.now c.loop-i.i c.args.costs.now c.loop-i.costs c.take_off.new.costs inside
    c.loop-i.invariant (c.take_off.ensures c.if-not-take_off.false)
