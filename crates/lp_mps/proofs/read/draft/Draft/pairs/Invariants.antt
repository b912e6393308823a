use Rattle.std.proofs.Common.{◌≡◌, length}
use Rattle.spec_mps.specs.Fields.{texts_of}
use Rattle.spec_mps.specs.Reader.{pairs_of}
use Rattle.lp_mps.specs.Draft.{state_of}
use Rattle.lp_mps.specs.Numbers.{pairs_by}
use Rattle.lp_mps.proofs.read.draft.Draft.pairs.Given as goal

-- the pairs that are left decide
abbrev pub invariant-loop-fields : goal.invariant-loop-fields
invariant-loop-fields l =
    pairs_by l.what (state_of l.self) (pairs_of (texts_of l.fields))
    ≡ pairs_by l.what (state_of l.initial.self) (pairs_of (texts_of l.initial.fields))

abbrev pub decreases-loop-fields : goal.decreases-loop-fields
decreases-loop-fields l = length l.fields
