-- One position more, and all.
use Rattle.std.proofs.Common.{[]}
use Rattle.spec_simplex.specs.Start.{start_basic}
use Rattle.lp_tableau.proofs.GrowingLists.{more_made, all_made}
use Rattle.lp_tableau.proofs.start.basics.Goals as goal

pub loop-i-preserved : goal.loop-i-preserved
loop-i-preserved c =
    more_made [] _ _ c.loop-i.i (start_basic c.args.form.now c.args.starts.now) _ c.loop-i.invariant
    c.basic.ensures.value c.in_ok-push.ensures.items

pub returns : goal.returns
returns c =
    all_made [] _ c.loop-i.i _ _ (start_basic c.args.form.now c.args.starts.now) c.loop-i.invariant
    c.loop-i.auto.i-end c.loop-i-test.false c.rows-i-end.ensures.value
