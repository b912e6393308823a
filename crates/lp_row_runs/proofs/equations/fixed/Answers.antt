-- One column more.
use Rattle.std.proofs.Common.{◌≡◌, ◌+◌, ◌∙◌, Some, refl, ap₂, arith}
use Rattle.spec_simplex.specs.Form.{form_lower, form_upper}
use Rattle.spec_simplex.specs.Tableau.{is_fixed}
use Rattle.lp_rows.proofs.Read.{one_more, all_made}
use Rattle.lp_row_runs.proofs.equations.fixed.Goals as goal

pub loop-k-preserved : goal.loop-k-preserved
loop-k-preserved c =
    one_more _ _ c.is_fixed.result c.in_ok-push.ensures.items
    (λ k. is_fixed (form_lower c.args.form.now k) (form_upper c.args.form.now k)) c.loop-k.k
    (Some c.is_fixed.result) refl c.loop-k.invariant (c.is_fixed.ensures ∙ ap₂ is_fixed c.lower.ensures c.upper.ensures)

pub returns : goal.returns
returns c =
    let all : c.loop-k.k ≡ c.args.form.now.cols + c.args.form.now.rows =
    omega (arith, c.loop-k-test.false, c.loop-k.auto.k-end, c.cols.ensures.value, c.rows.ensures.value) in
    all_made (λ k. is_fixed (form_lower c.args.form.now k) (form_upper c.args.form.now k)) c.loop-k.list.items c.loop-k.k _ all
    c.loop-k.invariant
