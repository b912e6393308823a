-- The equations with the values of the columns that are not basic.
use Rattle.std.proofs.Common.{length, false, sym, ap, ◌∙◌}
use Rattle.std.proofs.lemmas.List.{length-replicate}
use Rattle.lp_rows.proofs.SameNumbers.{of_some}
use Rattle.lp_row_runs.proofs.SolvedRows.{solving_begins}
use Rattle.lp_row_runs.proofs.based.begun.Goals as goal

pub place_values-requires : goal.place_values-requires
place_values-requires g c = (of_some _ c.in_ok-tab.field-0 c.in-Some.tab c.in-Some.is c.in_ok-tab.ensures).whole

pub returns-clause-begun : goal.returns-clause-begun
returns-clause-begun g c =
    solving_begins g.T.Words.value c.args.form.now c.args.basis.now _
    (c.place_values.ensures.placed c.if-not-place_values.false c.args.form.now c.args.basis.now
    (of_some _ c.in_ok-tab.field-0 c.in-Some.tab c.in-Some.is c.in_ok-tab.ensures))
    c.in_ok-taken.ensures

pub returns-clause-complete : goal.returns-clause-complete
returns-clause-complete g c =
    let u =
    c.place_values.ensures.placed c.if-not-place_values.false c.args.form.now c.args.basis.now
    (of_some _ c.in_ok-tab.field-0 c.in-Some.tab c.in-Some.is c.in_ok-tab.ensures) in
    record {
      whole = u.whole;
      each = ap length c.in_ok-taken.ensures ∙ length-replicate c.args.form.now.rows false ∙ sym u.rows.len;
    }
