-- The numbers that are turned.
use Rattle.std.proofs.Common.{◌≡◌}
use Rattle.lp_rows.specs.Row.{at, turned_if}
use Rattle.lp_rows.proofs.Done.{AreSo}
use Rattle.lp_rows.proofs.row.turn.Given as goal

abbrev pub invariant-loop-k : goal.invariant-loop-k
invariant-loop-k g l =
    AreSo g.T.Words.value l.k (λ k n. n ≡ turned_if l.is_turned (at g.T.Words.value l.fn.row k)) l.fn.row l.row
