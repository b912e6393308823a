use Rattle.std.proofs.Common.{◌+◌, ◌<◌, ◌≤◌, ◌∙◌, All, List, length, refl, sym, ap, subst, subst₂}
use Rattle.lp_natural.specs.Whole.{whole}
use Rattle.lp_rows.specs.declared.fractions.Row.{Row}
use Rattle.lp_rows.proofs.Cleared.{written}
use Rattle.lp_rows.specs.Changes.{upper_in, basic_in, left_upper}
use Rattle.lp_rows.specs.Shows.{IsRow}
use Rattle.lp_rows.proofs.SameCounts.{before_all, basic_read, basic_inside, pivoted_is}
use Rattle.lp_rows.proofs.tableau.pivot.pivot.Goals as goal

pub index-requires : goal.index-requires
index-requires g c =
    subst (λ n. c.args.at.position < n) (sym (c.args.tab.now.basic.ok.0 ∙ c.requires.whole.all_basic)) c.requires.place

pub index-requires-2 : goal.index-requires-2
index-requires-2 g c =
    subst (λ n. c.index.result.now < n) (sym (c.args.tab.now.lower.ok.0 ∙ c.requires.whole.all_lower))
    (basic_inside g.T.Words.value c.args.tab.now c.args.tab.now c.requires.whole c.args.at.position c.index.result.now _
    c.requires.place c.index.ensures)

pub index-requires-3 : goal.index-requires-3
index-requires-3 g c =
    subst (λ n. c.index.result.now < n) (sym (c.args.tab.now.upper.ok.0 ∙ c.requires.whole.all_upper))
    (basic_inside g.T.Words.value c.args.tab.now c.args.tab.now c.requires.whole c.args.at.position c.index.result.now _
    c.requires.place c.index.ensures)

pub index-requires-4 : goal.index-requires-4
index-requires-4 g c =
    subst (λ n. c.args.at.column < n) (sym (c.args.tab.now.status.ok.0 ∙ c.requires.whole.all_statuses))
    (before_all c.args.at.column _ (length c.args.tab.now.rows.items) c.requires.column)

pub index-requires-5 : goal.index-requires-5
index-requires-5 g c =
    subst (λ n. c.args.at.column < n) (sym (c.args.tab.now.lower.ok.0 ∙ c.requires.whole.all_lower))
    (before_all c.args.at.column _ (length c.args.tab.now.rows.items) c.requires.column)

pub index-requires-6 : goal.index-requires-6
index-requires-6 g c =
    subst (λ n. c.args.at.column < n) (sym (c.args.tab.now.upper.ok.0 ∙ c.requires.whole.all_upper))
    (before_all c.args.at.column _ (length c.args.tab.now.rows.items) c.requires.column)

pub turn_rows-requires-clause-rows : goal.turn_rows-requires-clause-rows
turn_rows-requires-clause-rows g c =
    subst₂ (λ n rows. All (IsRow g.T.Words.value n) rows) (sym c.width-n.ensures) (sym c.deref_mut.ensures.value)
    c.requires.whole.each_row

pub turn_rows-requires-clause-costs : goal.turn_rows-requires-clause-costs
turn_rows-requires-clause-costs g c =
    subst (λ n. IsRow g.T.Words.value n c.args.tab.now.costs) (sym c.width-n.ensures) c.requires.whole.costs

pub turn_rows-requires-clause-place : goal.turn_rows-requires-clause-place
turn_rows-requires-clause-place g c =
    subst (λ (rows : List (Row g.row.T.Denot)). c.args.at.position < length rows) (sym c.deref_mut.ensures.value)
    c.requires.place

pub turn_rows-requires-clause-column : goal.turn_rows-requires-clause-column
turn_rows-requires-clause-column g c =
    subst (λ n. c.args.at.column < n) (sym c.width-n.ensures) c.requires.column

pub exchange-requires-clause-rows : goal.exchange-requires-clause-rows
exchange-requires-clause-rows g c =
    let m = c.turn_rows.ensures c.if-not-turn_rows.false in
    let rows = written _ c.turn_rows.new.rows c.args.tab.now.rows.items (m.len ∙ c.deref_mut.ensures.len) in
    subst (λ n. n ≤ 256) (sym (ap length rows ∙ m.len ∙ ap length c.deref_mut.ensures.value))
    c.requires.whole.few_rows

pub exchange-requires-clause-place : goal.exchange-requires-clause-place
exchange-requires-clause-place g c =
    subst (λ n. c.args.at.position < n) (sym c.requires.whole.all_basic) c.requires.place

pub exchange-requires-clause-leaving : goal.exchange-requires-clause-leaving
exchange-requires-clause-leaving g c =
    subst (λ n. basic_in c.args.tab.now c.args.at.position < n) (sym c.requires.whole.all_statuses)
    (basic_inside g.T.Words.value c.args.tab.now c.args.tab.now c.requires.whole c.args.at.position _ 0 c.requires.place
    refl)

pub exchange-requires-clause-bounds : goal.exchange-requires-clause-bounds
exchange-requires-clause-bounds g c = c.requires.whole.all_upper ∙ sym c.requires.whole.all_statuses

pub exchange-requires-clause-column : goal.exchange-requires-clause-column
exchange-requires-clause-column g c =
    subst (λ n. c.args.at.column < n) (sym c.requires.whole.all_statuses)
    (before_all c.args.at.column _ (length c.args.tab.now.rows.items) c.requires.column)

pub returns : goal.returns
returns g c h =
    let m = c.turn_rows.ensures c.if-not-turn_rows.false in
    let rows = written _ c.turn_rows.new.rows c.args.tab.now.rows.items (m.len ∙ c.deref_mut.ensures.len) in
    let rest = c.exchange.ensures.rest in
    let wide = ap (λ (xs : List (Row g.row.T.Denot)). c.args.tab.now.cols + length xs) rows
    ∙ ap (λ n. c.args.tab.now.cols + n) (m.len ∙ ap length c.deref_mut.ensures.value) in
    pivoted_is g.T.Words.value c.args.tab.now c.exchange.new.tab c.requires.whole c.args.at.position c.args.at.column
    c.width-n.result
    c.index.result.now c.args.to c.index-4.result.now _ c.deref_mut.result.now c.turn_rows.new.rows
    c.turn_rows.new.costs
    (whole c.stand.result.negative (g.T.Words.value c.stand.result.size))
    (whole c.stand-2.result.negative (g.T.Words.value c.stand-2.result.size)) c.index-2.result.now c.index-3.result.now
    c.index-5.result.now c.index-6.result.now _ _ _ _ c.requires.place c.requires.column c.width-n.ensures
    c.deref_mut.ensures.value
    (basic_read g.T.Words.value c.args.tab.now c.args.tab.now c.requires.whole c.args.at.position c.index.result.now _
    c.requires.place c.index.ensures)
    c.index-4.ensures m (ap (λ s. s.rows.items) rest ∙ rows)
    (ap (λ s. s.costs) rest) c.index-2.ensures c.index-3.ensures
    c.index-5.ensures c.index-6.ensures c.stand.ensures c.stand-2.ensures c.exchange.ensures.basic
    c.exchange.ensures.status
    (λ k. c.exchange.ensures.upper k c.requires.whole.positive
    ∙ ap (λ n. left_upper n (basic_in c.args.tab.now c.args.at.position) k
    (upper_in g.T.Words.value c.args.tab.now k)) wide)
    c.exchange.ensures.len (ap (λ s. s.cols) rest) (ap (λ s. s.lower) rest) (ap (λ s. s.fixed) rest)
    (ap (λ s. s.denominator) rest)
