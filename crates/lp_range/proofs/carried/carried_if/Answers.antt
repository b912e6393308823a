-- The entry is not 0.
use Rattle.std.proofs.Common.{◌≡◌, true, false, sym, ◌∙◌}
use Rattle.spec_exact.specs.Fraction.{0ℚ}
use Rattle.spec_exact.proofs.Same.{eq_test}
use Rattle.lp_range.proofs.carried.carried_if.Goals as goal

pub carried-requires : goal.carried-requires
carried-requires c =
    λ z. (let o : false ≡ true =
    sym c.if-is_zero.false ∙ c.is_zero.ensures ∙ eq_test c.entry-entry.result 0ℚ z in cc)
