use Rattle.std.proofs.Common.{◌≡◌, true, take}
use Rattle.std.specs.List.{list_all}
use Rattle.spec_mps.specs.NumberText.{is_zero}
use Rattle.lp_numtext.proofs.digits.are_zeros.Given as goal

abbrev pub invariant-loop-b : goal.invariant-loop-b
invariant-loop-b l = list_all is_zero (take l.b-index l.digits) ≡ true
