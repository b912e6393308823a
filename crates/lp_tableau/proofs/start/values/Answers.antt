-- One column more, and all.
use Rattle.std.proofs.Common.{[]}
use Rattle.spec_simplex.specs.Start.{start_value}
use Rattle.lp_tableau.proofs.GrowingLists.{more_made, all_made}
use Rattle.lp_tableau.proofs.start.values.Goals as goal

pub loop-k-preserved : goal.loop-k-preserved
loop-k-preserved c =
    more_made [] _ _ c.loop-k.k (start_value c.args.form.now c.args.starts.now) _ c.loop-k.invariant
    c.value.ensures c.in_ok-push.ensures.items

pub returns : goal.returns
returns c =
    all_made [] _ c.loop-k.k _ _ (start_value c.args.form.now c.args.starts.now) c.loop-k.invariant
    c.loop-k.auto.k-end c.loop-k-test.false c.width-k-end.ensures.value
