-- The loop over the columns.
use Rattle.std.proofs.Common.{◌≡◌, map, take}
use Rattle.std.specs.Prelude.{All}
use Rattle.spec_model.specs.Model.{height}
use Rattle.spec_model.specs.Kept.{AreEntries}
use Rattle.lp_form.proofs.standard.entries.Given as goal

-- the lists of entries are those of the first j columns, each in order and of rows of the model
abbrev pub invariant-loop-j : goal.invariant-loop-j
invariant-loop-j l = record {
  items : l.entries ≡ map (λ c. c.entries) (take l.j l.model.columns);
  kept : All (AreEntries (height l.model)) l.entries;
}
