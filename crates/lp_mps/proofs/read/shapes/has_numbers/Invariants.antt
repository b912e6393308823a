use Rattle.std.proofs.Common.{◌≡◌, drop}
use Rattle.spec_text.specs.Words.{same}
use Rattle.spec_mps.specs.Fields.{numbers_of}
use Rattle.lp_mps.proofs.read.shapes.has_numbers.Given as goal

-- the fields and the numbers that are left decide
abbrev pub invariant-loop-field : goal.invariant-loop-field
invariant-loop-field l = same (numbers_of (drop l.field-index l.fields)) l.rest ≡ same (numbers_of l.fields) l.numbers
