use Rattle.std.proofs.Common.{◌≡◌, arith}
use Rattle.lp_rows.specs.Shows.{height}
use Rattle.lp_rows.proofs.Read.{moved_all}
use Rattle.lp_rows.proofs.tableau.ends.move_of.Goals as goal

pub returns : goal.returns
returns g c t s =
    let all : c.loop-i.i ≡ height c.args.tab.now = omega (arith, c.loop-i-test.false, c.len-i-end.ensures) in
    moved_all g.T.Words.value c.args.tab.now t c.loop-i.i c.args.e.col c.args.k c.args.e.direction _ s all (c.loop-i.invariant t s)

pub loop-i-preserved : goal.loop-i-preserved
loop-i-preserved g c t s = c.move_by-moved.ensures t s (c.loop-i.invariant t s)

pub loop-i-init : goal.loop-i-init
loop-i-init g c t s = c.own_move-moved.ensures t
