-- The row of the pivot, the rows that are cleared, and the value that enters.
use Rattle.std.proofs.Common.{◌<◌, ◌∙◌, sym, subst}
use Rattle.std.proofs.lemmas.List.{length-set}
use Rattle.std.proofs.lemmas.List.Elements.{All-set}
use Rattle.spec_exact.specs.Fraction.{over}
use Rattle.lp_natural.specs.Whole.{whole}
use Rattle.lp_rows.specs.Shows.{IsRow}
use Rattle.lp_rows.proofs.Lasts.{turned_by, less_neg}
use Rattle.lp_rows.proofs.tableau.moves.turn_rows.Goals as goal

pub bounds-rows-place : goal.bounds-rows-place
bounds-rows-place g c = c.requires.place

pub scale-requires-clause-row : goal.scale-requires-clause-row
scale-requires-clause-row g c =
    c.requires.rows c.args.turn.place c.index-rows-place.result c.requires.place

pub clear_all-requires-clause-rows : goal.clear_all-requires-clause-rows
clear_all-requires-clause-rows g c =
    let is = IsRow g.T.Words.value c.args.n in
    All-set is c.args.rows.now c.args.turn.place c.swap.new.x (subst is (sym c.swap.ensures.x_after) c.requires.costs)
    c.requires.rows

pub clear_all-requires-clause-own : goal.clear_all-requires-clause-own
clear_all-requires-clause-own g c =
    let scaled = c.scale.ensures c.if-not-scale.false in
    subst (IsRow g.T.Words.value c.args.n) (sym c.swap.ensures.y_after) scaled.row

pub bounds-rows-place-2 : goal.bounds-rows-place-2
bounds-rows-place-2 g c =
    let cleared = c.clear_all.ensures c.if-not-clear_all.false in
    subst (λ m. c.args.turn.place < m)
    (sym (cleared.len ∙ length-set c.args.rows.now c.args.turn.place c.swap.new.x)) c.requires.place

pub take_off-requires : goal.take_off-requires
take_off-requires g c =
    let scaled = c.scale.ensures c.if-not-scale.false in
    subst (IsRow g.T.Words.value c.args.n) (sym (c.swap-2.ensures.x_after ∙ c.swap.ensures.y_after)) scaled.row

pub returns : goal.returns
returns g c h =
    turned_by g.T.Words.value c.args.n c.args.turn.place c.args.turn.col
    (over (whole c.args.turn.leaves_at.negative (g.T.Words.value c.args.turn.leaves_at.size)) 1)
    (over (whole c.args.turn.enters_from.negative (g.T.Words.value c.args.turn.enters_from.size)) 1) _
    c.args.rows.now c.args.costs.now c.requires.rows c.requires.place c.requires.column c.index-rows-place.result
    c.scale.new.row (c.scale.ensures c.if-not-scale.false)
    c.swap.new.x c.swap.new.y c.swap.ensures.x_after c.swap.ensures.y_after c.clear_all.new.rows
    (c.clear_all.ensures c.if-not-clear_all.false) c.index-rows-place-2.result c.swap-2.new.x c.swap-2.new.y
    c.swap-2.ensures.x_after c.swap-2.ensures.y_after
    c.take_off.new.row (less_neg _ _ c.negated.ensures) (c.take_off.ensures h)
