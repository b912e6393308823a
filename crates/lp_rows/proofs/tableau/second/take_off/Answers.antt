use Rattle.std.proofs.Common.{◌<◌, ◌≤◌, refl, arith}
use Rattle.lp_rows.specs.Shows.{width}
use Rattle.lp_rows.proofs.Taken.{taken_off, none_off}
use Rattle.lp_rows.proofs.tableau.second.take_off.Goals as goal

pub returns-then-k-width : goal.returns-then-k-width
returns-then-k-width g c h =
    let inside : c.index.result.now < width c.args.tab.now = omega (arith, c.if-k-width.true, c.width.ensures) in
    taken_off g.T.Words.value c.args.tab.now c.args.i _ c.index.result.now c.args.costs.now c.clear_reduced.new.row
    c.index-then-k-width.result.now c.requires.whole c.requires.place c.requires.row c.index.ensures refl inside
    c.index-then-k-width.ensures (c.clear_reduced.ensures.rest h) (c.clear_reduced.ensures.positive h)

pub returns-else-k-width : goal.returns-else-k-width
returns-else-k-width g c h =
    let past : width c.args.tab.now ≤ c.index.result.now = omega (arith, c.if-k-width.false, c.width.ensures) in
    none_off g.T.Words.value c.args.tab.now c.args.i _ c.index.result.now c.args.costs.now c.requires.whole
    c.requires.place c.requires.row c.index.ensures refl past
