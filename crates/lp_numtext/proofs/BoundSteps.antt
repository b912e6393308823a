-- Which sizes are at least 10 ^ 20, by the places of their digits.
--
-- `zeros_first`: where not all digits in front are 0, the zeros at the start of both lists are those of the front.
-- `zeros_both`: where all digits in front are 0, the zeros at the start of both lists go on behind them.
-- `decimal_small`: a decimal whose digits are all 0 is not huge.
-- `decimal_huge`: a decimal is huge exactly where its first digit that is not 0, moved by the exponent, stands more than
--   20 places before the point.
-- `quotient_huge`: a quotient is huge exactly where its numerator without the last 20 digits is at least its
--   denominator.
use Rattle.std.proofs.Common.{◌≡◌, ℕ, zero, suc, ◌+◌, ◌-◌, ◌*◌, ◌^◌, ◌<◌, ◌≤◌, min, Bool, true}
use Rattle.std.proofs.Common.{false, ◌&&◌, cond, ◌⊎◌, inl, inr, eqb, List, [], ◌∷◌, ◌++◌, length}
use Rattle.std.proofs.Common.{take, drop, refl, sym, ap, ◌∙◌, arith, leb, leb-true, le-leb}
use Rattle.std.proofs.Common.{length-append, length-drop, ℤ, pos, negsuc, ◌+ℤ◌, ◌-ℤ◌, ◌≤ℤ◌, ◌<ℤ◌, subst}
use Rattle.std.specs.Prelude.{int_lt}
use Rattle.std.specs.List.{list_all, prefix_len}
use Rattle.std.specs.Char.{is_ascii_digit}
use Rattle.std.proofs.lemmas.Bool.{eq-eqb, lt-leb, leb-false, eqb-false, and_parts, ne_eqb}
use Rattle.std.proofs.lemmas.List.{take-append-drop}
use Rattle.std.proofs.lemmas.List.Folds.{prefix_len-append, list_all-append}
use Rattle.std.proofs.Math.Nat.{one-le-pow, pow-le-pow_right, mul-le-mul_right}
use Rattle.std.proofs.lemmas.Nat.{pow-add}
use borrow.Author.Differences.{ints, lt-true, lt-false}
use Rattle.spec_mps.specs.NumberText.{Decimal, Quotient, spelled_from, spelled, is_zero, without_zeros, signed, scaled}
use Rattle.spec_mps.proofs.DigitLemmas.{all-append, spelled-append, cut}
use Rattle.lp_numtext.specs.Huge.{is_huge}
use Rattle.lp_numtext.specs.Near.{near, far}
use Rattle.lp_numtext.proofs.DigitSteps.{digits_kept, zero_spelled}
use Rattle.lp_numtext.proofs.ReadSteps.{cases_min}
use Rattle.lp_numtext.proofs.SizeSteps.{at_least, below, led}

-- ---- leading zeros

-- of the digits before and after a point
pub zeros_first : (front back : List ℕ) → prefix_len is_zero front < length front →
    prefix_len is_zero (front ++ back) ≡ prefix_len is_zero front
zeros_first front back h =
    prefix_len-append is_zero front back ∙ rw (ne_eqb (prefix_len is_zero front) (length front) (λ e. omega arith)) refl

pub zeros_both : (front back : List ℕ) → prefix_len is_zero front ≡ length front →
    prefix_len is_zero (front ++ back) ≡ prefix_len is_zero front + prefix_len is_zero back
zeros_both front back h =
    prefix_len-append is_zero front back ∙ rw (eq-eqb (prefix_len is_zero front) (length front) h) (omega arith)

-- where not all are zeros, the trailing zeros leave the leading ones
zeros_kept : (ds : List ℕ) → list_all is_zero ds ≡ false → prefix_len is_zero (without_zeros ds) ≡ prefix_len is_zero ds
zeros_kept [] h = cc
zeros_kept (d ∷ ds) h = rw h (by (eqb d 48) h (zeros_kept ds))
  where
    by : (t : Bool) → (t && list_all is_zero ds) ≡ false →
        (list_all is_zero ds ≡ false → prefix_len is_zero (without_zeros ds) ≡ prefix_len is_zero ds) →
        cond t (1 + prefix_len is_zero (without_zeros ds)) 0 ≡ cond t (1 + prefix_len is_zero ds) 0
    by true h i = ap (λ n. 1 + n) (i h)
    by false h i = refl

-- digits test as all 0 exactly where there are as many leading zeros as digits
are_all_zeros : (ds : List ℕ) → list_all is_zero ds ≡ eqb (prefix_len is_zero ds) (length ds)
are_all_zeros [] = refl
are_all_zeros (d ∷ ds) = by (eqb d 48) (are_all_zeros ds)
  where
    more : (m n : ℕ) → eqb m n ≡ eqb (1 + m) (suc n)
    more m n = grind arith

    by : (t : Bool) → list_all is_zero ds ≡ eqb (prefix_len is_zero ds) (length ds) →
        (t && list_all is_zero ds) ≡ eqb (cond t (1 + prefix_len is_zero ds) 0) (suc (length ds))
    by true i = i ∙ more _ _
    by false i = sym (ne_eqb 0 (suc (length ds)) (λ e. omega (arith, e)))

-- digits that are all 0 leave none without their trailing zeros
none_kept : (ds : List ℕ) → list_all is_zero ds ≡ true → without_zeros ds ≡ []
none_kept [] h = refl
none_kept (d ∷ ds) h = rw h refl

-- ---- a decimal by the place of its first digit

-- a decimal of s, a number of c + 1 digits, and the exponent e is huge exactly where c + 1 + e is above 20
size_huge : (negative : Bool) (s c : ℕ) (e : ℤ) → 10 ^ c ≤ s → s < 10 ^ suc c →
    int_lt (pos 20) (pos (suc c) +ℤ e) ≡ is_huge (Decimal negative s e)
unfolding is_huge
size_huge negative s c (pos e) low high = by (int_lt (pos 20) (pos (suc c) +ℤ pos e)) refl
  where
    by : (t : Bool) → int_lt (pos 20) (pos (suc c) +ℤ pos e) ≡ t → t ≡ leb (10 ^ 20) (s * 10 ^ e)
    by true h =
        let k : 20 ≤ c + e = omega (arith, ints, lt-true (pos 20) (pos (suc c) +ℤ pos e) h) in
        let p : 10 ^ 20 ≤ 10 ^ (c + e) = pow-le-pow_right (omega arith) {i = 20} {j = c + e} k in
        let m : 10 ^ c * 10 ^ e ≤ s * 10 ^ e = mul-le-mul_right (10 ^ e) low in
        sym (le-leb (10 ^ 20) (s * 10 ^ e) (omega (arith, pow-add 10 c e)))
    by false h =
        let k : c + e < 20 = omega (arith, ints, lt-false (pos 20) (pos (suc c) +ℤ pos e) h) in
        let p : 10 ^ (suc c + e) ≤ 10 ^ 20 = pow-le-pow_right (omega arith) {i = suc c + e} {j = 20} (omega arith) in
        let one = one-le-pow e 10 (omega arith) in
        let m : suc s * 10 ^ e ≤ 10 ^ suc c * 10 ^ e = mul-le-mul_right (10 ^ e) high in
        sym (lt-leb (10 ^ 20) (s * 10 ^ e) (omega (arith, pow-add 10 (suc c) e)))
size_huge negative s c (negsuc e) low high = by (int_lt (pos 20) (pos (suc c) +ℤ negsuc e)) refl
  where
    by : (t : Bool) → int_lt (pos 20) (pos (suc c) +ℤ negsuc e) ≡ t → t ≡ leb (10 ^ 20 * 10 ^ suc e) s
    by true h =
        let k : 20 + suc e ≤ c = omega (arith, ints, lt-true (pos 20) (pos (suc c) +ℤ negsuc e) h) in
        let p : 10 ^ (20 + suc e) ≤ 10 ^ c = pow-le-pow_right (omega arith) {i = 20 + suc e} {j = c} k in
        sym (le-leb (10 ^ 20 * 10 ^ suc e) s (omega (arith, pow-add 10 20 (suc e))))
    by false h =
        let k : suc c ≤ 20 + suc e = omega (arith, ints, lt-false (pos 20) (pos (suc c) +ℤ negsuc e) h) in
        let p : 10 ^ suc c ≤ 10 ^ (20 + suc e) = pow-le-pow_right (omega arith) {i = suc c} {j = 20 + suc e} k in
        sym (lt-leb (10 ^ 20 * 10 ^ suc e) s (omega (arith, pow-add 10 20 (suc e))))

-- a whole number below another one tests as below it
lt_is : (x y : ℤ) → x <ℤ y → int_lt x y ≡ true
lt_is x y h = by (int_lt x y) refl
  where
    by : (t : Bool) → int_lt x y ≡ t → int_lt x y ≡ true
    by true e = e
    by false e = absurd (omega (arith, ints, lt-false x y e))

-- a power is above 20 with the exponent that is cut off exactly where it is above 20 with the exponent itself
near_same : (t : Bool) (n w z : ℕ) → w ≤ 2 ^ 65 → z ≤ 2 ^ 65 →
    int_lt (pos 20) (near t n +ℤ pos w -ℤ pos z) ≡ int_lt (pos 20) (signed t n +ℤ pos w -ℤ pos z)
unfolding near
near_same t n w z a b = by t (min n far) (cases_min n)
  where
    not_lt : (x y : ℤ) → y ≤ℤ x → int_lt x y ≡ false
    not_lt x y h = go (int_lt x y) refl
      where
        go : (t : Bool) → int_lt x y ≡ t → int_lt x y ≡ false
        go true e = absurd (omega (arith, ints, lt-true x y e))
        go false e = e

    by : (t : Bool) (m : ℕ) → (m ≡ n) ⊎ ((m ≡ far) × (far ≤ n)) →
        int_lt (pos 20) (signed t m +ℤ pos w -ℤ pos z) ≡ int_lt (pos 20) (signed t n +ℤ pos w -ℤ pos z)
    by t m (inl e) = ap (λ x. int_lt (pos 20) (signed t x +ℤ pos w -ℤ pos z)) e
    by true m (inr h) =
        not_lt (pos 20) (signed true m +ℤ pos w -ℤ pos z) (omega (arith, ints))
        ∙ sym (not_lt (pos 20) (signed true n +ℤ pos w -ℤ pos z) (omega (arith, ints)))
    by false m (inr h) =
        lt_is (pos 20) (signed false m +ℤ pos w -ℤ pos z) (omega (arith, ints))
        ∙ sym (lt_is (pos 20) (signed false n +ℤ pos w -ℤ pos z) (omega (arith, ints)))

-- a decimal whose digits spell 0 is not huge
zero_huge : (negative : Bool) (e : ℤ) → false ≡ is_huge (Decimal negative 0 e)
unfolding is_huge
zero_huge negative (pos e) =
    let z : 0 * 10 ^ e ≡ 0 = omega arith in
    sym (lt-leb (10 ^ 20) (0 * 10 ^ e) (omega arith))
zero_huge negative (negsuc e) =
    let one = one-le-pow (suc e) 10 (omega arith) in
    sym (lt-leb (10 ^ 20 * 10 ^ suc e) 0 (omega arith))

-- digits that are not all 0 spell a number above 0, without the zeros at their end too
zeros_off : (ds : List ℕ) → list_all is_ascii_digit ds ≡ true → list_all is_zero ds ≡ false →
    0 < spelled (without_zeros ds)
zeros_off ds h z =
    let c = cut 0 ds in
    let ne : spelled ds ≡ 0 → ⊥ = eqb-false _ _ (sym (zero_spelled ds h) ∙ z) in
    by (spelled (without_zeros ds)) c.zeros c.size ne
  where
    by : (s n : ℕ) → spelled ds ≡ s * 10 ^ n → (spelled ds ≡ 0 → ⊥) → 0 < s
    by zero n e ne = absurd (ne (e ∙ omega arith))
    by (suc s) n e ne = omega arith

-- where k is z plus c + 1, e plus w less z is c + 1 plus what e plus w less k is
place : (e : ℤ) (w z c k : ℕ) → k ≡ z + suc c → e +ℤ pos w -ℤ pos z ≡ pos (suc c) +ℤ (e +ℤ pos w -ℤ pos k)
place e w z c k h = omega (arith, ints)

pub decimal_small : (negative : Bool) (front back : List ℕ) (e : ℤ) (z : ℕ) → z ≡ prefix_len is_zero (front ++ back) →
    z ≡ length front + length back → false ≡ is_huge (scaled negative front back e)
unfolding scaled
decimal_small negative front back e z p l =
    let len : prefix_len is_zero (front ++ back) ≡ length (front ++ back) =
    sym p ∙ l ∙ sym (length-append front back) in
    let all : list_all is_zero (front ++ back) ≡ true = are_all_zeros (front ++ back) ∙ eq-eqb _ _ len in
    rw (none_kept (front ++ back) all) (zero_huge negative (e +ℤ pos (length front) -ℤ pos 0))

pub decimal_huge : (negative : Bool) (front back : List ℕ) (t : Bool) (n z : ℕ) (e : ℤ) →
    list_all is_ascii_digit front ≡ true → list_all is_ascii_digit back ≡ true →
    z ≡ prefix_len is_zero (front ++ back) → (z ≡ length front + length back → ⊥) →
    length front ≤ 2 ^ 65 → z ≤ 2 ^ 65 → e ≡ near t n +ℤ pos (length front) -ℤ pos z →
    int_lt (pos 20) e ≡ is_huge (scaled negative front back (signed t n))
unfolding scaled
decimal_huge negative front back t n z e h k p l a b q =
    let all : list_all is_zero (front ++ back) ≡ false =
    are_all_zeros (front ++ back) ∙ ne_eqb _ _ (λ x. l (p ∙ x ∙ length-append front back)) in
    let digits = all-append front back h k in
    let kept = led (without_zeros (front ++ back)) (digits_kept (front ++ back) digits) in
    let zeros : prefix_len is_zero (without_zeros (front ++ back)) ≡ z = zeros_kept (front ++ back) all ∙ sym p in
    ap (int_lt (pos 20)) q ∙ near_same t n (length front) z a b
    ∙ by kept.count (zeros_off (front ++ back) digits all)
    (kept.len ∙ ap (λ x. x + kept.count) zeros) kept.high kept.low
  where
    by : (count : ℕ) → 0 < spelled (without_zeros (front ++ back)) →
        length (without_zeros (front ++ back)) ≡ z + count → spelled (without_zeros (front ++ back)) < 10 ^ count →
        ((c : ℕ) → count ≡ suc c → 10 ^ c ≤ spelled (without_zeros (front ++ back))) →
        int_lt (pos 20) (signed t n +ℤ pos (length front) -ℤ pos z)
        ≡ is_huge (Decimal negative (spelled (without_zeros (front ++ back)))
        (signed t n +ℤ pos (length front) -ℤ pos (length (without_zeros (front ++ back)))))
    by zero some len high low = absurd (omega arith)
    by (suc c) some len high low =
        ap (int_lt (pos 20)) (place (signed t n) (length front) z c (length (without_zeros (front ++ back))) len)
        ∙ size_huge negative (spelled (without_zeros (front ++ back))) c
        (signed t n +ℤ pos (length front) -ℤ pos (length (without_zeros (front ++ back)))) (low c refl) high

-- ---- a quotient without the last twenty digits of its first number

-- the first digits spell the whole number divided by 10 ^ 20
record IsQuotient (high whole : ℕ) : Type 0 where
  low : 10 ^ 20 * high ≤ whole
  up : whole < 10 ^ 20 * suc high

-- digits without the first n are digits
drop_digits : (n : ℕ) (ds : List ℕ) → list_all is_ascii_digit ds ≡ true → list_all is_ascii_digit (drop n ds) ≡ true
drop_digits n ds h =
    let e : (list_all is_ascii_digit (take n ds) && list_all is_ascii_digit (drop n ds)) ≡ true =
    sym (list_all-append is_ascii_digit (take n ds) (drop n ds))
    ∙ ap (list_all is_ascii_digit) (take-append-drop n ds) ∙ h in
    (and_parts _ _ e).1

-- digits without the last twenty spell the quotient by 10 ^ 20 of what all of them spell
high_digits : (ds : List ℕ) → list_all is_ascii_digit ds ≡ true →
    IsQuotient (spelled (take (length ds - 20) ds)) (spelled ds)
high_digits ds h = by (leb 20 (length ds)) refl
  where
    by : (t : Bool) → leb 20 (length ds) ≡ t → IsQuotient (spelled (take (length ds - 20) ds)) (spelled ds)
    by true e =
        let high : ℕ = spelled (take (length ds - 20) ds) in
        let rest : List ℕ = drop (length ds - 20) ds in
        let l = leb-true 20 (length ds) e in
        let len : length rest ≡ 20 = omega (arith, length-drop (length ds - 20) ds) in
        let whole : spelled ds ≡ spelled_from high rest =
        ap spelled (sym (take-append-drop (length ds - 20) ds)) ∙ spelled-append 0 (take (length ds - 20) ds) rest in
        let power : 10 ^ length rest ≡ 10 ^ 20 = ap (λ n. 10 ^ n) len in
        let low : high * 10 ^ 20 ≤ spelled_from high rest =
        subst (λ n. high * n ≤ spelled_from high rest) power (at_least high rest) in
        let up : spelled_from high rest < suc high * 10 ^ 20 =
        subst (λ n. spelled_from high rest < suc high * n) power
        (below high rest (drop_digits (length ds - 20) ds h)) in
        record { low = omega arith; up = omega arith }
    by false e =
        let l = leb-false 20 (length ds) e in
        let none : length ds - 20 ≡ 0 = omega arith in
        let high : spelled (take (length ds - 20) ds) ≡ 0 = ap (λ n. spelled (take n ds)) none in
        let less : spelled ds < suc 0 * 10 ^ length ds = below 0 ds h in
        let p : 10 ^ length ds ≤ 10 ^ 20 = pow-le-pow_right (omega arith) {i = length ds} {j = 20} (omega arith) in
        record { low = omega arith; up = omega arith }

pub quotient_huge : (negative : Bool) (top : List ℕ) (bottom : ℕ) → list_all is_ascii_digit top ≡ true → 0 < bottom →
    leb bottom (spelled (take (length top - 20) top)) ≡ is_huge (Quotient negative (spelled top) bottom)
unfolding is_huge
quotient_huge negative top bottom h p = by (leb bottom (spelled (take (length top - 20) top))) refl (high_digits top h)
  where
    by : (t : Bool) → leb bottom (spelled (take (length top - 20) top)) ≡ t →
        IsQuotient (spelled (take (length top - 20) top)) (spelled top) → t ≡ leb (10 ^ 20 * bottom) (spelled top)
    by true e q = let l = leb-true _ _ e in sym (le-leb (10 ^ 20 * bottom) (spelled top) (omega (arith, q.low)))
    by false e q = let l = leb-false _ _ e in sym (lt-leb (10 ^ 20 * bottom) (spelled top) (omega (arith, q.up)))
