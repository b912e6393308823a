use Rattle.std.proofs.Common.{◌≡◌, [], take, drop, All}
use Rattle.spec_exact.specs.Narrow.{IsNarrow}
use Rattle.spec_model.specs.Model.{height}
use Rattle.spec_model.specs.Kept.{AreEntries}
use Rattle.spec_edit.specs.Edited as edited
use Rattle.lp_model.proofs.column.entries_of.Given as goal

-- The entries so far, with the pairs from `place` on put to them, are what all pairs give. They are in order, of rows
-- of the model, not 0 and of at most 127 bits, and the pairs are still the old ones.
abbrev pub invariant-loop-place : goal.invariant-loop-place
invariant-loop-place l =
    record {
      answer : edited.entries_of l.model (take l.place l.initial.pairs) (drop l.place l.initial.pairs) l.entries
          ≡ edited.entries_of l.model [] l.initial.pairs [];
      kept : AreEntries (height l.model) l.entries;
      pairs : l.pairs ≡ l.initial.pairs;
      narrow : All (λ e. IsNarrow e.1) l.entries;
    }
