-- The loop over the rows.
use Rattle.std.proofs.Common.{◌≡◌, All, get_or}
use Rattle.spec_exact.specs.Fraction.{0ℚ, neg_ℚ}
use Rattle.spec_exact.specs.Narrow.{IsNarrow}
use Rattle.spec_exact.specs.Run.{made}
use Rattle.lp_revised.proofs.ends.negatives_of.Given as goal

-- the negatives so far are there, each of at most 127 bits
abbrev pub invariant-loop-i : goal.invariant-loop-i
invariant-loop-i l = (l.list ≡ made l.i (λ i. neg_ℚ (get_or l.y i 0ℚ))) × All IsNarrow l.list
