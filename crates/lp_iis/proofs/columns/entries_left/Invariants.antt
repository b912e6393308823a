use Rattle.std.proofs.Common.{◌≡◌, take}
use Rattle.spec_iis.specs.Only.{stays, only_entries}
use Rattle.lp_iis.proofs.columns.entries_left.Given as goal

-- the list has those of the entries passed so far whose rows stay, by the rows' new numbers
abbrev pub invariant-loop-entry : goal.invariant-loop-entry
invariant-loop-entry l = l.left ≡ only_entries (stays l.sides) (take l.entry-index l.entries)
