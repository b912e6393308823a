use Rattle.std.proofs.Common.{◌<◌, All, length, refl, sym, subst, subst₂, ◌∙◌}
use Rattle.lp_natural.specs.Whole.{whole}
use Rattle.lp_rows.specs.Shows.{IsRow}
use Rattle.lp_rows.proofs.Cleared.{written}
use Rattle.lp_rows.proofs.SameCounts.{before_all, flipped_is}
use Rattle.lp_rows.proofs.tableau.pivot.flip.Goals as goal

pub index-requires : goal.index-requires
index-requires g c =
    subst (λ n. c.args.col < n) (sym (c.args.tab.now.status.ok.0 ∙ c.requires.whole.all_statuses))
    (before_all c.args.col _ (length c.args.tab.now.rows.items) c.requires.column)

pub index-requires-2 : goal.index-requires-2
index-requires-2 g c =
    subst (λ n. c.args.col < n) (sym (c.args.tab.now.upper.ok.0 ∙ c.requires.whole.all_upper))
    (before_all c.args.col _ (length c.args.tab.now.rows.items) c.requires.column)

pub index-requires-3 : goal.index-requires-3
index-requires-3 g c =
    subst (λ n. c.args.col < n) (sym (c.args.tab.now.lower.ok.0 ∙ c.requires.whole.all_lower))
    (before_all c.args.col _ (length c.args.tab.now.rows.items) c.requires.column)

pub move_all-requires-clause-rows : goal.move_all-requires-clause-rows
move_all-requires-clause-rows g c =
    subst₂ (λ n rows. All (IsRow g.T.Words.value n) rows) (sym c.width-n.ensures) (sym c.deref_mut.ensures.value)
    c.requires.whole.each_row

pub move_all-requires-clause-column : goal.move_all-requires-clause-column
move_all-requires-clause-column g c = subst (λ n. c.args.col < n) (sym c.width-n.ensures) c.requires.column

pub index_mut-requires : goal.index_mut-requires
index_mut-requires g c =
    subst (λ n. c.args.col < n) (sym (c.args.tab.now.status.ok.0 ∙ c.requires.whole.all_statuses))
    (before_all c.args.col _ (length c.args.tab.now.rows.items) c.requires.column)

pub returns : goal.returns
returns g c h =
    let m = c.move_all.ensures c.if-not-move_all.false in
    flipped_is g.T.Words.value c.args.tab.now _ c.requires.whole c.args.col c.width-n.result c.deref_mut.result.now
    c.move_all.new.rows c.flip_way-way.result (whole c.toward.result.negative (g.T.Words.value c.toward.result.size))
    (whole c.in-Some.range.negative (g.T.Words.value c.in-Some.range.size))
    (whole c.or_zero.result.negative (g.T.Words.value c.or_zero.result.size))
    (whole c.or_zero-2.result.negative (g.T.Words.value c.or_zero-2.result.size)) c.index.result.now _
    c.other_bound.result c.index-2.result.now c.index-3.result.now _ _ c.requires.column c.width-n.ensures
    c.deref_mut.ensures.value m
    (written _ c.move_all.new.rows c.args.tab.now.rows.items (m.len ∙ c.deref_mut.ensures.len))
    c.index.ensures c.flip_way-way.ensures c.index-2.ensures c.index-3.ensures c.or_zero.ensures c.or_zero-2.ensures
    c.in-Some.ensures c.toward.ensures c.other_bound.ensures refl refl refl refl refl refl refl refl
