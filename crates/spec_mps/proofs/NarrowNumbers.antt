-- Numbers read from texts are within 127 bits.
--
-- `same_number`: two equal readings of a number have equal numbers.
-- `number_narrow`: a number that a text is read as is within 127 bits.
-- `bound_narrow`: a finite bound that a text is read as is within 127 bits.
use Rattle.std.proofs.Common.{◌≡◌, ℕ, zero, suc, ◌*◌, ◌^◌, ◌≤◌, Bool, true, false, cond, not, Option, Some}
use Rattle.std.proofs.Common.{None, List, ℤ, pos, negsuc, unsigned_abs, refl, sym, ap, subst, arith}
use Rattle.std.specs.Prelude.{nat_le}
use Rattle.std.proofs.lemmas.Bool.{and_parts}
use borrow.Author.Tests.{leb-true}
use Rattle.spec_exact.specs.Fraction.{ℚ, whole, neg_ℚ, lt_ℚ}
use Rattle.spec_exact.specs.Narrow.{IsNarrow, number_limit}
use Rattle.spec_exact.specs.Quotients.{abs-neg_ℤ}
use Rattle.spec_exact.proofs.Narrow.{zero_narrow, over_narrow}
use Rattle.spec_mps.specs.NumberText.{NumberParts, Decimal, Quotient, NumberReading, Is, Wide, signed, parts_of}
use Rattle.spec_mps.specs.NumberText.{value_of, is_narrow, number_by, number_of, is_negative, without_sign}
use Rattle.spec_mps.specs.NumberText as number
use Rattle.spec_mps.specs.BoundText.{BoundReading, Finite, PlusInf, MinusInf, Shape, infinite}
use Rattle.spec_mps.specs.BoundText.{is_infinity, infinity, as_bound, bound_by_value, bound_by, bound_of}
use Rattle.spec_mps.proofs.RoundTrip.{zero_value}

-- ---- fractions

-- a whole number whose size is within the limit has 127 bits
whole_narrow : (n : ℤ) → unsigned_abs n ≤ number_limit → IsNarrow (whole n)
unfolding whole
whole_narrow n h = record { top = h; bottom = omega arith }

-- ---- numbers

-- the size of a number with a sign is the number without it
signed_size : (negative : Bool) (n : ℕ) → unsigned_abs (signed negative n) ≡ n
signed_size true n = abs-neg_ℤ (pos n)
signed_size false n = refl

-- a number within the limit, with a sign, has a size within the limit
signed_narrow : (negative : Bool) (n : ℕ) → nat_le n number_limit ≡ true →
    unsigned_abs (signed negative n) ≤ number_limit
signed_narrow negative n h = subst (λ k. k ≤ number_limit) (sym (signed_size negative n)) (leb-true n number_limit h)

-- parts of a number within the width have a value of 127 bits
value_narrow : (p : NumberParts) → is_narrow p ≡ true → IsNarrow (value_of p)
unfolding is_narrow value_of
value_narrow (Decimal negative zero (pos e)) h = subst IsNarrow (sym (zero_value negative (pos e))) zero_narrow
value_narrow (Decimal negative zero (negsuc e)) h = subst IsNarrow (sym (zero_value negative (negsuc e))) zero_narrow
value_narrow (Decimal negative (suc s) (pos e)) h =
    whole_narrow (signed negative (suc s * 10 ^ e)) (signed_narrow negative (suc s * 10 ^ e) h)
value_narrow (Decimal negative (suc s) (negsuc e)) h =
    let p = and_parts (nat_le (suc s) number_limit) (nat_le (10 ^ suc e) number_limit) h in
    over_narrow (signed negative (suc s)) (10 ^ suc e)
    (signed_narrow negative (suc s) p.0) (leb-true (10 ^ suc e) number_limit p.1)
value_narrow (Quotient negative top bottom) h =
    let p = and_parts (nat_le top number_limit) (nat_le bottom number_limit) h in
    over_narrow (signed negative top) bottom (signed_narrow negative top p.0) (leb-true bottom number_limit p.1)

pub same_number : (p q : ℚ) → Is p ≡ Is q → p ≡ q
same_number p q e = cc

-- a number that parts are read as has 127 bits
parts_narrow : (o : Option NumberParts) (q : ℚ) → number_by o ≡ Is q → IsNarrow q
unfolding number_by
parts_narrow None q e = absurd (cc)
parts_narrow (Some p) q e = by (is_narrow p) refl e
  where
    by : (t : Bool) → is_narrow p ≡ t → ◌≡◌ {A = NumberReading} (cond t (Is (value_of p)) Wide) (Is q) → IsNarrow q
    by true n e = subst IsNarrow (same_number (value_of p) q e) (value_narrow p n)
    by false n e = absurd (cc)

pub number_narrow : (text : List ℕ) (q : ℚ) → number_of text ≡ Is q → IsNarrow q
unfolding number_of
number_narrow text q e = parts_narrow (parts_of text) q e

-- ---- bounds

-- a text that is read as a finite bound is read as that number
finite_is : (reading : NumberReading) (q : ℚ) → as_bound reading ≡ Finite q → reading ≡ Is q
finite_is (Is v) q e = let same : v ≡ q = cc in ap Is same
finite_is number.Shape q e = cc
finite_is number.Wide q e = cc

pub bound_narrow : (text : List ℕ) (q : ℚ) → bound_of text ≡ Finite q → IsNarrow q
unfolding bound_of bound_by bound_by_value
bound_narrow text q e = by (parts_of text) e
  where
    by_word : (t n : Bool) → ◌≡◌ {A = BoundReading} (cond t (infinity n) Shape) (Finite q) → IsNarrow q
    by_word true true e = absurd (cc)
    by_word true false e = absurd (cc)
    by_word false n e = absurd (cc)

    by_tests : (p : NumberParts) (s t : Bool) →
        ◌≡◌ {A = BoundReading} (cond s PlusInf (cond t MinusInf (as_bound (number_by (Some p))))) (Finite q) →
        IsNarrow q
    by_tests p true t e = absurd (cc)
    by_tests p false true e = absurd (cc)
    by_tests p false false e = parts_narrow (Some p) q (finite_is (number_by (Some p)) q e)

    by : (o : Option NumberParts) → bound_by text o ≡ Finite q → IsNarrow q
    by None e = by_word (is_infinity (without_sign text)) (is_negative text) e
    by (Some p) e = by_tests p (not (lt_ℚ (value_of p) infinite)) (not (lt_ℚ (neg_ℚ infinite) (value_of p))) e
