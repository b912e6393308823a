-- The numbers that are done.
use Rattle.std.proofs.Common.{◌*ℤ◌, ◌-ℤ◌}
use Rattle.lp_natural.specs.Whole.{whole}
use Rattle.lp_rows.specs.Row.{at}
use Rattle.lp_rows.proofs.Done.{IsDone}
use Rattle.lp_rows.proofs.row.combine.Given as goal

abbrev pub invariant-loop-k : goal.invariant-loop-k
invariant-loop-k g l =
    IsDone g.T.Words.value l.k (λ k. whole l.a.negative (g.T.Words.value l.a.size) *ℤ at g.T.Words.value l.fn.row k -ℤ
    whole l.b.negative (g.T.Words.value l.b.size) *ℤ at g.T.Words.value l.other k) l.fn.row l.row
