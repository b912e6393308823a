-- What the readers of numbers answer, as the definitions of certificates read a number; and tests for 0.
--
-- `narrow_ok`: where the reader at 127 bits answers a number, the definition reads that number.
-- `narrow_err`: where the reader at 127 bits answers a fault, the definition reads none.
-- `wide_ok`: where the reader at any width answers a number, the definition reads that number.
-- `wide_shape`: where the reader at any width finds no number, the definition reads none.
-- `wide_far`: where the reader at any width finds an exponent out of range, the definition reads none.
-- `above_is`: a number above 0 is not 0.
-- `not_above_is`: a number that is not above 0 is 0 exactly if it is not below 0.
use Rattle.std.proofs.Common.{◌≡◌, Bool, true, false, not, Some, None, Ok, Err, refl, sym, ap, ◌∙◌}
use Rattle.spec_exact.specs.Fraction.{ℚ, 0ℚ, eq_ℚ, lt_ℚ}
use Rattle.spec_exact.proofs.Order.{≤ℚ_refl, ≤ℚ_antisym, le_if_not, not_lt_test}
use Rattle.spec_exact.proofs.Same.{eq_if, eq_test}
use Rattle.spec_mps.specs.declared.number.NumFault.{NumFault}
use Rattle.spec_mps.specs.NumberText.{NumberReading, Is, Shape, Wide, answer}
use Rattle.spec_mps.specs.WideText.{WideReading}
use Rattle.spec_mps.specs.WideText as wide
use Rattle.spec_certificate.specs.NarrowText.{value_in}
use Rattle.spec_certificate.specs.WideText.{wide_in}

pub narrow_ok : (reading : NumberReading) (v : ℚ) → Ok v ≡ answer reading → Some v ≡ value_in reading
narrow_ok (Is value) v e = cc
narrow_ok Shape v e = cc
narrow_ok Wide v e = cc

pub narrow_err : (reading : NumberReading) (fault : NumFault) → Err fault ≡ answer reading → None ≡ value_in reading
narrow_err (Is value) fault e = cc
narrow_err Shape fault e = refl
narrow_err Wide fault e = refl

pub wide_ok : (reading : WideReading) (v : ℚ) → reading ≡ wide.Is v → Some v ≡ wide_in reading
wide_ok reading v e = sym (ap wide_in e)

pub wide_shape : (reading : WideReading) → reading ≡ wide.Shape → None ≡ wide_in reading
wide_shape reading e = sym (ap wide_in e)

pub wide_far : (reading : WideReading) → reading ≡ wide.Far → None ≡ wide_in reading
wide_far reading e = sym (ap wide_in e)

-- ---- which of them is 0
pub above_is : (v : ℚ) → lt_ℚ 0ℚ v ≡ true → false ≡ eq_ℚ v 0ℚ
above_is v h = by (eq_ℚ v 0ℚ) refl
  where
    by : (t : Bool) → eq_ℚ v 0ℚ ≡ t → false ≡ t
    by true e =
        let z : true ≡ false =
        sym h ∙ ap (lt_ℚ 0ℚ) (eq_if v 0ℚ e) ∙ not_lt_test 0ℚ 0ℚ (≤ℚ_refl 0ℚ) in cc
    by false e = refl

pub not_above_is : (v : ℚ) (below : Bool) → lt_ℚ 0ℚ v ≡ false → below ≡ lt_ℚ v 0ℚ → not below ≡ eq_ℚ v 0ℚ
not_above_is v true h k = by (eq_ℚ v 0ℚ) refl
  where
    by : (t : Bool) → eq_ℚ v 0ℚ ≡ t → false ≡ t
    by true e =
        let z : true ≡ false =
        k ∙ ap (λ (v : ℚ). lt_ℚ v 0ℚ) (eq_if v 0ℚ e) ∙ not_lt_test 0ℚ 0ℚ (≤ℚ_refl 0ℚ) in cc
    by false e = refl
not_above_is v false h k =
    sym (eq_test v 0ℚ (≤ℚ_antisym v 0ℚ (le_if_not 0ℚ v h) (le_if_not v 0ℚ (sym k))))
