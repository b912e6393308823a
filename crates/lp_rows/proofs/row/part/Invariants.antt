-- The numbers that are divided.
use Rattle.std.proofs.Common.{◌≡◌, ◌*ℤ◌, pos}
use Rattle.lp_rows.specs.Row.{at}
use Rattle.lp_rows.proofs.Done.{AreSo}
use Rattle.lp_rows.proofs.row.part.Given as goal

abbrev pub invariant-loop-k : goal.invariant-loop-k
invariant-loop-k g l =
    AreSo g.T.Words.value l.k (λ k n. n *ℤ pos (g.T.Words.value l.by.number) ≡ at g.T.Words.value l.fn.row k) l.fn.row l.row
