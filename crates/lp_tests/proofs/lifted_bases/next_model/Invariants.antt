-- As many lines so far were read as were gone over.
use Rattle.std.proofs.Common.{◌≡◌}
use Rattle.lp_tests.proofs.lifted_bases.next_model.Given as goal

-- the reader has read as many lines as were gone over
abbrev pub invariant-loop : goal.invariant-loop
invariant-loop l = l.reader.lines ≡ l.counter
