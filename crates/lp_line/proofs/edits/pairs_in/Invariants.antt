-- The pairs so far.
use Rattle.std.proofs.Common.{length}
use Rattle.std.specs.Prelude.{IfSome}
use Rattle.spec_server.specs.EditCommand.{two_by_two}
use Rattle.lp_line.proofs.PairsLeft.{PairsLeft}
use Rattle.lp_line.proofs.edits.pairs_in.Given as goal

abbrev pub invariant-loop-left : goal.invariant-loop-left
invariant-loop-left l = IfSome (two_by_two l.fn.words) (λ all. PairsLeft all l.left l.pairs)

abbrev pub decreases-loop-left : goal.decreases-loop-left
decreases-loop-left l = length l.left
