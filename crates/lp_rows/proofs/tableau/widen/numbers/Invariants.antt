-- The numbers so far.
use Rattle.std.proofs.Common.{◌≡◌, take}
use Rattle.lp_rows.specs.Held.{wholes}
use Rattle.lp_rows.proofs.tableau.widen.numbers.Given as goal

abbrev pub invariant-loop-n : goal.invariant-loop-n
invariant-loop-n g l = wholes g.U.Words.value l.list.items ≡ wholes g.T.Words.value (take l.n-index l.from)
