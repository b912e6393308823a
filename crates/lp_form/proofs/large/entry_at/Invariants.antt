use Rattle.std.proofs.Common.{◌≡◌, drop}
use Rattle.spec_model.specs.Model.{entry_of}
use Rattle.lp_form.proofs.large.entry_at.Given as goal

-- the entries that are left give row i the same coefficient as all entries
abbrev pub invariant-loop-row : goal.invariant-loop-row
invariant-loop-row l = entry_of (drop l.row-index l.entries) l.i ≡ entry_of l.entries l.i
