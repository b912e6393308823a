use Rattle.std.proofs.Common.{arith}
use Rattle.lp_rows.proofs.Asks.{not_yet, none_wanting}
use Rattle.lp_rows.proofs.tableau.phases.is_stuck.Goals as goal

pub loop-i-preserved : goal.loop-i-preserved
loop-i-preserved g c t s =
    not_yet g.T.Words.value c.args.tab.now t c.loop-i.i s c.requires
    (omega (arith, c.loop-i-test.true, c.len-i-end.ensures)) (c.loop-i.invariant t s) (c.if-is_wanting.ensures t s)

pub returns : goal.returns
returns g c t s =
    none_wanting g.T.Words.value c.args.tab.now t c.loop-i.i s c.requires
    (omega (arith, c.loop-i-test.false, c.len-i-end.ensures)) (c.loop-i.invariant t s)
