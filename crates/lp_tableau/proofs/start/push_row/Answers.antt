-- One column more, and all.
use Rattle.spec_simplex.specs.Start.{start_entry, start_at}
use Rattle.lp_tableau.proofs.GrowingLists.{more_made, all_made}
use Rattle.lp_tableau.proofs.start.push_row.Goals as goal

pub loop-k-preserved : goal.loop-k-preserved
loop-k-preserved c =
    more_made c.args.block.now.items _ _ c.loop-k.k
    (start_entry c.args.form.now (start_at c.args.starts.now c.args.i) c.args.i) _ c.loop-k.invariant
    c.entry.ensures c.in_ok-push.ensures.items

pub returns : goal.returns
returns c =
    all_made c.args.block.now.items _ c.loop-k.k _ _
    (start_entry c.args.form.now (start_at c.args.starts.now c.args.i) c.args.i) c.loop-k.invariant
    c.loop-k.auto.k-end c.loop-k-test.false c.front-k-end.ensures.value
