-- The rows are turned, and the position has the column.
use Rattle.std.proofs.Common.{◌+◌, ◌<◌, All, List, length, sym, ap, ap₂, subst, subst₂, ◌∙◌, arith}
use Rattle.std.proofs.Common.{true}
use Rattle.std.proofs.lemmas.List.{length-set}
use Rattle.spec_exact.specs.Fraction.{over}
use Rattle.lp_natural.specs.Whole.{whole}
use Rattle.lp_rows.specs.declared.fractions.Row.{Row}
use Rattle.lp_rows.specs.Shows.{IsRow}
use Rattle.lp_rows.proofs.Cleared.{written}
use Rattle.lp_row_runs.proofs.SolvedRows.{column_solved, none_over, turned_here, turned_whole}
use Rattle.lp_row_runs.proofs.elimination.Elimination.solve_at.Goals as goal

pub turn_rows-requires-clause-rows : goal.turn_rows-requires-clause-rows
turn_rows-requires-clause-rows g c =
    subst₂ (λ n rows. All (IsRow g.T.Words.value n) rows) (sym c.width-n.ensures) (sym c.deref_mut.ensures.value)
    c.requires.complete.whole.each_row

pub turn_rows-requires-clause-costs : goal.turn_rows-requires-clause-costs
turn_rows-requires-clause-costs g c =
    subst (λ n. IsRow g.T.Words.value n c.args.self.now.tab.costs) (sym c.width-n.ensures)
    c.requires.complete.whole.costs

pub turn_rows-requires-clause-place : goal.turn_rows-requires-clause-place
turn_rows-requires-clause-place g c =
    subst (λ (rows : List (Row g.row.T.Denot)). c.args.p < length rows) (sym c.deref_mut.ensures.value)
    c.requires.place

pub turn_rows-requires-clause-column : goal.turn_rows-requires-clause-column
turn_rows-requires-clause-column g c = subst (λ n. c.args.j < n) (sym c.width-n.ensures) c.requires.column

pub mark-requires-clause-basic : goal.mark-requires-clause-basic
mark-requires-clause-basic g c =
    subst (λ n. c.args.p < n) (sym c.requires.complete.whole.all_basic) c.requires.place

pub mark-requires-clause-taken : goal.mark-requires-clause-taken
mark-requires-clause-taken g c = subst (λ n. c.args.p < n) (sym c.requires.complete.each) c.requires.place

pub returns-clause-complete : goal.returns-clause-complete
returns-clause-complete g c = λ _.
    let m = c.turn_rows.ensures c.if-not-turn_rows.false in
    let rows = written _ c.turn_rows.new.rows c.args.self.now.tab.rows.items (m.len ∙ c.deref_mut.ensures.len) in
    let rest = c.mark.ensures.rest in
    let turned = turned_whole g.T.Words.value c.args.j c.args.p c.width-n.result c.args.self.now.tab c.mark.new.self.tab
    c.requires.complete.whole c.requires.column c.deref_mut.result.now c.turn_rows.new.rows c.turn_rows.new.costs
    (over (whole c.none.result.negative (g.T.Words.value c.none.result.size)) 1)
    (over (whole c.none-2.result.negative (g.T.Words.value c.none-2.result.size)) 1) c.width-n.ensures
    c.deref_mut.ensures.value (ap (λ s. s.rows.items) rest ∙ rows) (ap (λ s. s.costs) rest) m
    (ap (λ s. s.cols) rest) (ap (λ s. s.status) rest) (ap (λ s. s.lower) rest) (ap (λ s. s.upper) rest)
    (ap (λ s. s.fixed) rest) (ap (λ s. s.denominator) rest) c.mark.ensures.basic in
    record {
      whole = turned;
      each =
          ap length c.mark.ensures.taken
          ∙ length-set c.args.self.now.taken.items c.args.p true
          ∙ c.requires.complete.each
          ∙ sym (ap length (ap (λ s. s.rows.items) rest ∙ rows) ∙ m.len ∙ ap length c.deref_mut.ensures.value);
    }

pub returns-clause-size : goal.returns-clause-size
returns-clause-size g c = λ _.
    let m = c.turn_rows.ensures c.if-not-turn_rows.false in
    let rows = written _ c.turn_rows.new.rows c.args.self.now.tab.rows.items (m.len ∙ c.deref_mut.ensures.len) in
    let rest = c.mark.ensures.rest in
    ap₂ (λ a b. a + b) (ap (λ s. s.cols) rest)
    (ap length (ap (λ s. s.rows.items) rest ∙ rows) ∙ m.len ∙ ap length c.deref_mut.ensures.value)

pub returns-clause-solved : goal.returns-clause-solved
returns-clause-solved g c = λ _ f basis basic s opens.
    let m = c.turn_rows.ensures c.if-not-turn_rows.false in
    let rows = written _ c.turn_rows.new.rows c.args.self.now.tab.rows.items (m.len ∙ c.deref_mut.ensures.len) in
    let rest = c.mark.ensures.rest in
    let v = over (whole c.none.result.negative (g.T.Words.value c.none.result.size)) 1 in
    let w = over (whole c.none-2.result.negative (g.T.Words.value c.none-2.result.size)) 1 in
    column_solved g.T.Words.value f basis c.args.j c.args.p c.args.self.now c.mark.new.self s c.requires.complete.whole
    (omega (arith, c.requires.column, s.form.cols, s.rows.len)) (omega (arith, c.requires.place, s.rows.len)) basic opens
    v w (none_over _ c.none.ensures) (none_over _ c.none-2.ensures)
    (turned_here g.T.Words.value f basis c.args.j c.args.p c.width-n.result c.args.self.now c.mark.new.self s
    c.deref_mut.result.now c.turn_rows.new.rows c.turn_rows.new.costs v w c.width-n.ensures c.deref_mut.ensures.value
    (ap (λ s. s.rows.items) rest ∙ rows) (ap (λ s. s.costs) rest) m)
    (ap (λ s. s.cols) rest) (ap (λ s. s.status) rest) (ap (λ s. s.lower) rest) (ap (λ s. s.upper) rest)
    (ap (λ s. s.fixed) rest) (ap (λ s. s.denominator) rest) c.mark.ensures.basic
    (omega (arith, c.requires.complete.each, s.rows.len)) c.mark.ensures.taken
