-- One entry more.
use Rattle.std.proofs.Common.{◌≡◌, ◌+◌, Some, refl, arith}
use Rattle.spec_exact.specs.Fraction.{0ℚ}
use Rattle.spec_simplex.specs.declared.ends.RowStart.TheVariants.{Within}
use Rattle.spec_simplex.specs.Start.{start_entry}
use Rattle.lp_rows.proofs.Read.{one_more, all_made}
use Rattle.lp_row_runs.proofs.equations.entries.Goals as goal

pub loop-k-preserved : goal.loop-k-preserved
loop-k-preserved c =
    one_more _ _ c.entry.result c.in_ok-push.ensures.items (start_entry c.args.form.now (Within 0ℚ) c.args.i) c.loop-k.k
    (Some c.entry.result) refl c.loop-k.invariant c.entry.ensures

pub returns : goal.returns
returns c =
    let all : c.loop-k.k ≡ c.args.form.now.cols + c.args.form.now.rows =
    omega (arith, c.loop-k-test.false, c.loop-k.auto.k-end, c.cols.ensures.value, c.rows.ensures.value) in
    all_made (start_entry c.args.form.now (Within 0ℚ) c.args.i) c.loop-k.list.items c.loop-k.k _ all
    c.loop-k.invariant
