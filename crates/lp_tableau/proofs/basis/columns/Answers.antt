-- One position more, and all.
use Rattle.std.proofs.Common.{[], None, get_or, refl}
use Rattle.spec_simplex.specs.Eliminate.{or_first}
use Rattle.lp_tableau.proofs.GrowingLists.{more_made, all_made}
use Rattle.lp_tableau.proofs.basis.columns.Goals as goal

pub loop-i-preserved : goal.loop-i-preserved
loop-i-preserved c =
    more_made [] _ _ c.loop-i.i (λ i. or_first (get_or c.args.basic.now i None)) _ c.loop-i.invariant
    c.or_first.ensures c.in_ok-push.ensures.items

pub returns : goal.returns
returns c =
    all_made [] _ c.loop-i.i _ _ (λ i. or_first (get_or c.args.basic.now i None)) c.loop-i.invariant
    c.loop-i.auto.i-end c.loop-i-test.false refl
