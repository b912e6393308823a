-- The column of one place more, and of all of them.
use Rattle.std.proofs.Common.{[], None, get_or, arith}
use Rattle.std.specs.Prelude.{unwrap_or}
use Rattle.std.proofs.lemmas.List.{get_or_default}
use Rattle.lp_tableau.proofs.GrowingLists.{more_mapped, all_mapped}
use Rattle.lp_revised.proofs.choose.basic_of.Goals as goal

pub loop-column-preserved : goal.loop-column-preserved
loop-column-preserved c =
    let items = c.args.columns.now in
    let i = c.loop-column.column-index in
    more_mapped [] _ _ (λ o. unwrap_or o 0) items i (get_or items i None) _ c.loop-column-test.true
    (get_or_default items i None (get_or items i None) c.loop-column-test.true) c.loop-column.invariant
    c.unwrap_or.ensures c.in_ok-push.ensures.items

pub returns : goal.returns
returns c =
    all_mapped [] _ (λ o. unwrap_or o 0) c.args.columns.now c.loop-column.column-index
    (omega (arith, c.loop-column-test.false)) c.loop-column.invariant
