-- A number within the width asks for no far power of ten, so it is read as the same number.
use Rattle.std.proofs.Common.{◌≡◌, ℕ, zero, suc, ◌*◌, ◌^◌, ◌<◌, ◌≤◌, pos, negsuc, Bool, true, false, cond, List, Option, Some, None}
use Rattle.std.proofs.Common.{refl, ap, ◌∙◌, arith, ◌⊎◌, inl, inr, le-leb}
use Rattle.std.proofs.lemmas.Bool.{cases_lt, leb-true, and_parts}
use Rattle.std.proofs.Math.Nat.{pow-le-pow_right, mul-le-mul_right}
use Rattle.spec_exact.specs.Fraction.{ℚ}
use Rattle.spec_exact.specs.Narrow.{number_limit}
use Rattle.spec_mps.specs.NumberText.{NumberParts, Decimal, Quotient, is_narrow, number_by, number_of, value_of, parts_of}
use Rattle.spec_mps.specs.NumberText as number
use Rattle.spec_mps.specs.WideText.{is_near, wide_by, wide_of}
use Rattle.spec_mps.specs.WideText as wide

-- a power of ten within 127 bits has an exponent below 39
small_power : (e : ℕ) → 10 ^ e ≤ number_limit → e < 39
small_power e h = by (cases_lt e 39)
  where
    by : (e < 39) ⊎ (39 ≤ e) → e < 39
    by (inl l) = l
    by (inr g) = let p : 10 ^ 39 ≤ 10 ^ e = pow-le-pow_right (omega arith) g in absurd (omega arith)

-- a power of ten in a positive number of 127 bits has an exponent below 39
small_product : (s e : ℕ) → suc s * 10 ^ e ≤ number_limit → e < 39
small_product s e h =
    let m : 1 * 10 ^ e ≤ suc s * 10 ^ e = mul-le-mul_right (10 ^ e) (omega arith) in
    small_power e (omega arith)

-- parts of a number within the width ask for no far power of ten
narrow_near : (p : NumberParts) → is_narrow p ≡ true → is_near p ≡ true
unfolding is_narrow is_near
narrow_near (Decimal negative zero e) h = refl
narrow_near (Decimal negative (suc s) (pos e)) h =
    let l : e < 39 = small_product s e (leb-true _ _ h) in le-leb e 16384 (omega arith)
narrow_near (Decimal negative (suc s) (negsuc e)) h =
    let l : suc e < 39 = small_power (suc e) (leb-true (10 ^ suc e) number_limit (and_parts _ _ h).1) in
    le-leb (suc e) 16384 (omega (arith, l))
narrow_near (Quotient negative top bottom) h = refl

-- parts that are read as a number within the width are read as that number at any width
same_by : (o : Option NumberParts) (q : ℚ) → number_by o ≡ number.Is q → wide_by o ≡ wide.Is q
unfolding number_by wide_by
same_by None q e = cc
same_by (Some p) q e = by (is_narrow p) refl e
  where
    by : (t : Bool) → is_narrow p ≡ t → cond t (number.Is (value_of p)) number.Wide ≡ number.Is q →
        cond (is_near p) (wide.Is (value_of p)) wide.Far ≡ wide.Is q
    by true h e =
        let same : value_of p ≡ q = cc in
        ap (λ t. cond t (wide.Is (value_of p)) wide.Far) (narrow_near p h) ∙ ap (λ v. wide.Is v) same
    by false h e = cc

-- a text that is read as a number within the width is read as that number at any width
pub same_reading : (text : List ℕ) (q : ℚ) → number_of text ≡ number.Is q → wide_of text ≡ wide.Is q
unfolding number_of wide_of
same_reading text q e = same_by (parts_of text) q e
