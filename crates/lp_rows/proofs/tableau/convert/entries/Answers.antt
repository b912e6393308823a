-- One item more, and all of them.
use Rattle.std.proofs.Common.{◌≡◌, arith}
use Rattle.spec_simplex.specs.Tableau.{form_columns, entry_at}
use Rattle.lp_rows.proofs.GrowingRows.{made_more}
use Rattle.lp_rows.proofs.Read.{all_made}
use Rattle.lp_rows.proofs.tableau.convert.entries.Goals as goal

pub loop-k-preserved : goal.loop-k-preserved
loop-k-preserved c =
    made_more (entry_at c.args.tab.now c.args.position) c.loop-k.k c.loop-k.list.items _ _ c.loop-k.invariant
    c.in_ok-push.ensures.items c.entry.ensures

pub returns : goal.returns
returns c =
    let all : c.loop-k.k ≡ form_columns c.args.tab.now =
    omega (arith, c.loop-k-test.false, c.loop-k.auto.k-end, c.cols.ensures.value, c.rows.ensures.value) in
    all_made (entry_at c.args.tab.now c.args.position) c.loop-k.list.items c.loop-k.k (form_columns c.args.tab.now) all
    c.loop-k.invariant
