-- The numbers so far.
use Rattle.std.proofs.Common.{◌≡◌, map, take}
use Rattle.spec_exact.specs.Fraction.{over}
use Rattle.lp_rows.specs.Held.{whole_of}
use Rattle.lp_rows.proofs.tableau.common.numbers_on.Given as goal

abbrev pub invariant-loop-f : goal.invariant-loop-f
invariant-loop-f g l =
    map (λ n. over (whole_of g.T.Words.value n) (g.T.Words.value l.denominator)) l.numbers.items ≡ take l.f-index l.list
