-- A finite bound that is read is less than 10^20 from 0.
use Rattle.std.proofs.Common.{◌≡◌, ℕ, List, Ok, refl, ap, ◌∙◌}
use Rattle.spec_exact.specs.Fraction.{ℚ, abs_ℚ, ◌<ℚ◌}
use Rattle.spec_mps.specs.declared.number.BoundValue.TheVariants as value
use Rattle.spec_mps.specs.BoundText.{BoundReading, Finite, PlusInf, MinusInf, Shape, Wide, infinite, bound_of}
use Rattle.spec_mps.specs.BoundText.{bound_answer}
use Rattle.spec_mps.proofs.BoundLemmas.{bound_is_within, abs_from_within}
use Rattle.spec_server.specs.EditCommand.{as_read}

-- a finite bound is less than 10 ^ 20 from 0
pub small_bound : (text : List ℕ) (q : ℚ) → Ok (value.Finite q) ≡ as_read (bound_answer (bound_of text)) →
    abs_ℚ q <ℚ infinite
small_bound text q e = by (bound_of text) refl e
  where
    by : (r : BoundReading) → bound_of text ≡ r → Ok (value.Finite q) ≡ as_read (bound_answer r) → abs_ℚ q <ℚ infinite
    by (Finite v) is e =
        let same : v ≡ q = cc in abs_from_within infinite q (bound_is_within text q (is ∙ ap Finite same))
    by PlusInf is e = absurd (let h = e in cc)
    by MinusInf is e = absurd (let h = e in cc)
    by Shape is e = absurd (let h = e in cc)
    by Wide is e = absurd (let h = e in cc)
