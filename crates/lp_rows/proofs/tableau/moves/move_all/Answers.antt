use Rattle.std.proofs.Common.{◌<◌, length, sym, subst, arith}
use Rattle.spec_exact.specs.Fraction.{over}
use Rattle.lp_natural.specs.Whole.{whole}
use Rattle.lp_rows.proofs.Lasts.{none_yet, one_moved, all_moved}
use Rattle.lp_rows.proofs.tableau.moves.move_all.Goals as goal

pub loop-i-init : goal.loop-i-init
loop-i-init g c = none_yet g.T.Words.value c.args.n _ c.args.rows.now c.requires.rows

pub bounds-rows-i : goal.bounds-rows-i
bounds-rows-i g c = subst (λ m. c.loop-i.i < m) (sym c.loop-i.invariant.len) c.loop-i-test.true

pub move_last-requires-clause-row : goal.move_last-requires-clause-row
move_last-requires-clause-row g c =
    c.loop-i.invariant.rows c.loop-i.i c.index-rows-i.result
    (subst (λ m. c.loop-i.i < m) (sym c.loop-i.invariant.len) c.loop-i-test.true)

pub loop-i-preserved : goal.loop-i-preserved
loop-i-preserved g c =
    let n : c.loop-i.i < length c.loop-i.rows = omega (arith, c.loop-i.invariant.len, c.loop-i-test.true) in
    one_moved g.T.Words.value c.args.n c.args.j c.loop-i.i
    (over (whole c.args.by.negative (g.T.Words.value c.args.by.size)) 1)
    c.args.rows.now c.loop-i.rows c.index-rows-i.result c.move_last.new.row c.loop-i.invariant n
    (c.move_last.ensures c.if-not-move_last.false)

pub returns : goal.returns
returns g c t =
    all_moved g.T.Words.value c.args.n c.args.j c.loop-i.i
    (over (whole c.args.by.negative (g.T.Words.value c.args.by.size)) 1)
    c.args.rows.now c.loop-i.rows
    c.loop-i.invariant c.loop-i-test.false
