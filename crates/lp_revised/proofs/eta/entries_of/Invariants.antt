-- The loop over the places.
use Rattle.lp_revised.specs.Eta.{AreItems}
use Rattle.lp_revised.proofs.eta.entries_of.Given as goal

-- the entries are those of the items so far
abbrev pub invariant-loop-i : goal.invariant-loop-i
invariant-loop-i l = AreItems l.i l.column l.entries
