use Rattle.std.proofs.Common.{◌<◌, length, sym, subst, arith}
use Rattle.lp_rows.proofs.Lasts.{none_yet, one_cleared, all_cleared}
use Rattle.lp_rows.proofs.tableau.moves.clear_all.Goals as goal

pub loop-i-init : goal.loop-i-init
loop-i-init g c = none_yet g.T.Words.value c.args.n _ c.args.rows.now c.requires.rows

pub bounds-rows-i : goal.bounds-rows-i
bounds-rows-i g c = subst (λ m. c.loop-i.i < m) (sym c.loop-i.invariant.len) c.loop-i-test.true

pub clear_one-requires-clause-row : goal.clear_one-requires-clause-row
clear_one-requires-clause-row g c =
    c.loop-i.invariant.rows c.loop-i.i c.index-rows-i.result
    (subst (λ m. c.loop-i.i < m) (sym c.loop-i.invariant.len) c.loop-i-test.true)

pub loop-i-preserved : goal.loop-i-preserved
loop-i-preserved g c =
    let n : c.loop-i.i < length c.loop-i.rows = omega (arith, c.loop-i.invariant.len, c.loop-i-test.true) in
    one_cleared g.T.Words.value c.args.n c.args.j c.loop-i.i c.args.own.now c.args.rows.now c.loop-i.rows
    c.index-rows-i.result c.clear_one.new.row c.loop-i.invariant n
    (c.clear_one.ensures c.if-not-clear_one.false)

pub returns : goal.returns
returns g c t =
    all_cleared g.T.Words.value c.args.n c.args.j c.loop-i.i c.args.own.now c.args.rows.now c.loop-i.rows
    c.loop-i.invariant c.loop-i-test.false
