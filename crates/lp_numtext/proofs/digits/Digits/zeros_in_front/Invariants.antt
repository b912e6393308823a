use Rattle.std.proofs.Common.{◌≡◌, ◌+◌, drop}
use Rattle.std.specs.List.{prefix_len}
use Rattle.spec_mps.specs.NumberText.{is_zero}
use Rattle.lp_numtext.proofs.digits.Digits.zeros_in_front.Given as goal

abbrev pub invariant-loop-at : goal.invariant-loop-at
invariant-loop-at l =
    prefix_len is_zero l.fn.self.bytes.now ≡ l.at + prefix_len is_zero (drop l.at l.fn.self.bytes.now)
