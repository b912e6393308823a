-- None of the lists so far fits.
use Rattle.std.proofs.Common.{◌≡◌, false, take}
use Rattle.std.specs.List.{list_any}
use Rattle.spec_text.specs.Words.{same}
use Rattle.spec_mps.specs.Fields.{numbers_of}
use Rattle.lp_mps.proofs.read.shapes.has_one_of.Given as goal

abbrev pub invariant-loop-numbers : goal.invariant-loop-numbers
invariant-loop-numbers l =
    list_any (λ numbers. same (numbers_of l.fields) numbers.now) (take l.numbers-index l.shapes) ≡ false
