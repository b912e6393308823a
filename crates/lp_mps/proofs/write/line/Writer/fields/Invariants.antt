-- The fields so far have room, and follow the line.
use Rattle.std.proofs.Common.{◌≡◌, None, take}
use Rattle.spec_mps.specs.Written.{with_fields}
use Rattle.lp_mps.specs.Adds.{fields_of, wide_field}
use Rattle.lp_mps.proofs.write.line.Writer.fields.Given as goal

abbrev pub invariant-loop-number : goal.invariant-loop-number
invariant-loop-number l =
    (wide_field l.self.style (fields_of (take l.number-index l.fields)) ≡ None)
    × (l.line ≡ with_fields l.self.style l.initial.line (fields_of (take l.number-index l.fields)))
