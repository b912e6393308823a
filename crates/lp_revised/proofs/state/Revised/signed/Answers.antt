-- By the start of an artificial's row.
use Rattle.std.proofs.Common.{ap, ◌∙◌, arith, ⊎_elim}
use Rattle.spec_simplex.specs.Start.{logical_sign}
use Rattle.lp_revised.proofs.Signed.{of_form, of_start, turned, within_as_it_is, above_as_it_is}
use Rattle.lp_revised.proofs.state.Revised.signed.Goals as goal

pub returns-then-col-first : goal.returns-then-col-first
returns-then-col-first c =
    of_form c.args.starts.now c.args.self.now.bare c.args.col c.args.v
    (omega (arith, c.form_columns-first.ensures.value, c.if-col-first.true))

pub returns-in-Below : goal.returns-in-Below
returns-in-Below c =
    let s = of_start c.args.starts.now c.args.self.now.bare c.args.col c.args.v c.index-starts-col.result
    c.form_columns-first.result c.form_columns-first.ensures.value c.if-col-first.false
    (omega (arith, c.form_columns-first.ensures.value, c.if-col-first.false, c.requires.all, c.requires.column))
    c.index-starts-col.is in
    turned c.args.starts.now c.args.self.now.bare c.args.col c.args.v c.in-Below.field-0 c.neg.result
    (s ∙ ap logical_sign c.in-Below.is) c.neg.ensures

pub returns-in-Within : goal.returns-in-Within
returns-in-Within c =
    let s = of_start c.args.starts.now c.args.self.now.bare c.args.col c.args.v c.index-starts-col.result
    c.form_columns-first.result c.form_columns-first.ensures.value c.if-col-first.false
    (omega (arith, c.form_columns-first.ensures.value, c.if-col-first.false, c.requires.all, c.requires.column))
    c.index-starts-col.is in
    ⊎_elim
    (λ e. within_as_it_is c.args.starts.now c.args.self.now.bare c.args.col c.args.v e.0 (s ∙ ap logical_sign e.1))
    (λ e. above_as_it_is c.args.starts.now c.args.self.now.bare c.args.col c.args.v e.0 (s ∙ ap logical_sign e.1))
    c.in-Within.is
