-- The loop over the entries.
use Rattle.std.proofs.Common.{◌≡◌, drop}
use Rattle.spec_model.specs.Model.{entry_of}
use Rattle.lp_presolve.proofs.carrying.entry.Given as goal

-- those so far are of other rows
abbrev pub invariant-loop-e : goal.invariant-loop-e
invariant-loop-e l = entry_of l.entries l.i ≡ entry_of (drop l.e-index l.entries) l.i
