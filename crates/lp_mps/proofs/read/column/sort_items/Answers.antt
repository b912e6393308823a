use Rattle.std.proofs.Common.{rules}
use Rattle.std.proofs.lemmas.Fn.{always_returns_same}
use Rattle.std.proofs.lemmas.List.Sorted.{IsNonDecreasingBy-from_sort_by_key}
use Rattle.lp_mps.proofs.EntryOrder.{sorted_in_order}
use Rattle.lp_mps.proofs.read.column.sort_items.Goals as goal

pub returns : goal.returns
returns c =
    sorted_in_order c.args.items.now.items _
    (IsNonDecreasingBy-from_sort_by_key (λ e. e.0) _ c.in_ok-sort_by_key.ensures.sorted (λ a r q k. search rules))
    (c.sort_by_key.ensures.stable (λ e. e.0) (always_returns_same _ _ _ (λ a r q k. search rules)))
