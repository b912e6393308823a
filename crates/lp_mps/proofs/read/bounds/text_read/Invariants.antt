use Rattle.std.proofs.Common.{◌≡◌, drop, slice_get}
use Rattle.std.specs.List.{filter}
use Rattle.spec_mps.specs.Fields.{texts_of}
use Rattle.spec_mps.specs.Bounds.{is_read}
use Rattle.lp_mps.proofs.read.bounds.text_read.Given as goal

-- the fields that are left decide
abbrev pub invariant-loop-field : goal.invariant-loop-field
invariant-loop-field l =
    slice_get (texts_of (filter (λ f. is_read l.kind f.number) (drop l.field-index l.fields))) l.left
    ≡ slice_get (texts_of (filter (λ f. is_read l.kind f.number) l.fields)) l.place
