-- The rows are moved.
use Rattle.std.proofs.Common.{ℕ, ◌+◌, ◌<◌, All, length, refl, sym, subst, subst₂, ◌∙◌, arith}
use Rattle.lp_natural.specs.Whole.{whole}
use Rattle.lp_rows.specs.Shows.{IsRow}
use Rattle.lp_rows.proofs.Cleared.{written}
use Rattle.lp_row_runs.proofs.Placed.{placed_whole, value_placed}
use Rattle.lp_row_runs.proofs.equations.place_value.Goals as goal

-- a column before n is before n + m
before_all : (k n m : ℕ) → k < n → k < n + m
before_all k n m h = omega arith

pub index-requires : goal.index-requires
index-requires g c =
    subst (λ n. c.args.k < n) (sym (c.args.tab.now.status.ok.0 ∙ c.requires.whole.all_statuses))
    (before_all c.args.k _ (length c.args.tab.now.rows.items) c.requires.column)

pub index-requires-2 : goal.index-requires-2
index-requires-2 g c =
    subst (λ n. c.args.k < n) (sym (c.args.tab.now.lower.ok.0 ∙ c.requires.whole.all_lower))
    (before_all c.args.k _ (length c.args.tab.now.rows.items) c.requires.column)

pub index-requires-3 : goal.index-requires-3
index-requires-3 g c =
    subst (λ n. c.args.k < n) (sym (c.args.tab.now.upper.ok.0 ∙ c.requires.whole.all_upper))
    (before_all c.args.k _ (length c.args.tab.now.rows.items) c.requires.column)

pub move_all-requires-clause-rows : goal.move_all-requires-clause-rows
move_all-requires-clause-rows g c =
    subst₂ (λ n rows. All (IsRow g.T.Words.value n) rows) (sym c.width-n.ensures) (sym c.deref_mut.ensures.value)
    c.requires.whole.each_row

pub move_all-requires-clause-column : goal.move_all-requires-clause-column
move_all-requires-clause-column g c = subst (λ n. c.args.k < n) (sym c.width-n.ensures) c.requires.column

pub returns-clause-whole : goal.returns-clause-whole
returns-clause-whole g c = λ h.
    let m = c.move_all.ensures h in
    placed_whole g.T.Words.value c.args.k c.args.tab.now _ c.requires.whole c.requires.column
    (whole c.stand-value.result.negative (g.T.Words.value c.stand-value.result.size))
    c.width-n.result c.deref_mut.result.now c.move_all.new.rows c.width-n.ensures c.deref_mut.ensures.value
    (written _ c.move_all.new.rows c.args.tab.now.rows.items (m.len ∙ c.deref_mut.ensures.len)) m
    refl refl refl refl refl refl refl refl

pub returns-clause-placed : goal.returns-clause-placed
returns-clause-placed g c = λ h f basis u.
    let m = c.move_all.ensures h in
    let by = whole c.stand-value.result.negative (g.T.Words.value c.stand-value.result.size) in
    value_placed g.T.Words.value c.args.k c.args.tab.now _ c.requires.whole c.requires.column by
    c.width-n.result c.deref_mut.result.now c.move_all.new.rows c.width-n.ensures c.deref_mut.ensures.value
    (written _ c.move_all.new.rows c.args.tab.now.rows.items (m.len ∙ c.deref_mut.ensures.len)) m
    refl refl refl refl refl refl refl refl f basis u c.index.result.now _ c.index-2.result.now _ c.index-3.result.now _
    c.index.ensures c.index-2.ensures c.index-3.ensures c.stand-value.ensures
