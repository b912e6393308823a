-- The text of a number whose numerator and denominator have few digits is short.
use Rattle.std.proofs.Common.{◌≡◌, ℕ, zero, suc, ◌+◌, ◌*◌, ◌/◌, ◌%◌, ◌^◌, ◌≤◌, ◌<◌, Bool, true, false, cond}
use Rattle.std.proofs.Common.{List, [], ◌∷◌, ◌++◌, length, refl, length-append, arith, leb-true, nat_eq, nat_le}
use Rattle.std.proofs.lemmas.Bool.{and_parts, ne_eqb}
use Rattle.std.proofs.Math.Nat.{pow-suc}
use Rattle.std.specs.Fmt.{digits_onto, digit_glyph}
use Rattle.std.specs.Prelude.{unsigned_abs, int_lt, pos}
use Rattle.spec_exact.specs.Fraction.{ℚ}
use Rattle.spec_exact.specs.Narrow.{number_limit, IsNarrow}
use Rattle.spec_mps.specs.NumberWritten.{number_text}
use Rattle.spec_mps.specs.WideWritten.{all_digits, past_text, is_within, wide_text}
use Rattle.spec_solve.specs.Exact.{FitsLine}
use Rattle.spec_commands.proofs.PlainLines.{narrow_fitting}

-- ---- digits

-- the decimal digits of a number, put before a text
abbrev onto : ℕ → ℕ → List ℕ → List ℕ
onto fuel n acc = digits_onto fuel 10 false n acc

-- writing the digits of a number below 10 ^ (k + 1) before a text makes it at most k + 1 bytes longer
digits_few : (k fuel n : ℕ) (acc : List ℕ) → n < 10 ^ suc k → length (onto fuel n acc) ≤ suc k + length acc
digits_few k zero n acc h = omega arith
digits_few k (suc fuel) n acc h = by k h (n / 10) refl (λ k below. digits_few k fuel (n / 10) rest below)
  where
    rest : List ℕ
    rest = digit_glyph false (n % 10) ∷ acc

    front : (k : ℕ) → n < 10 ^ suc (suc k) → n / 10 < 10 ^ suc k
    front k h = let p : 10 ^ suc (suc k) ≡ 10 ^ suc k * 10 = pow-suc 10 (suc k) in omega arith

    by : (k : ℕ) → n < 10 ^ suc k → (m : ℕ) → n / 10 ≡ m →
        ((k : ℕ) → n / 10 < 10 ^ suc k → length (onto fuel (n / 10) rest) ≤ suc k + length rest) →
        length (onto (suc fuel) n acc) ≤ suc k + length acc
    by k h zero e more = rw (e) omega arith
    by zero h (suc m) e more = absurd (omega (arith, e, h))
    by (suc k) h (suc m) e more =
        let few = more k (front k h) in
        rw (ne_eqb (n / 10) 0 (λ z. omega (arith, z, e))) omega (arith, few)

-- a number below 10 ^ k has at most k + 1 digits
all_few : (k n : ℕ) → n < 10 ^ k → length (all_digits n) ≤ suc k
unfolding all_digits
all_few k n h =
    let p : 10 ^ suc k ≡ 10 ^ k * 10 = pow-suc 10 k in
    let few = digits_few k (suc n) n [] (omega (arith, p, h)) in
    omega (arith, few)

-- ---- a number

-- the text of a quotient of numbers below 10 ^ a and 10 ^ b takes at most a + b + 3 bytes
past_few : (above below n den : ℕ) → n < 10 ^ above → den < 10 ^ below →
    length (past_text n den) ≤ above + below + 3
unfolding past_text
past_few above below n den h k = by (nat_eq den 1)
  where
    top : length (all_digits n) ≤ suc above
    top = all_few above n h

    bottom : length (all_digits den) ≤ suc below
    bottom = all_few below den k

    by : (t : Bool) → length (cond t (all_digits n) (all_digits n ++ 47 ∷ all_digits den)) ≤ above + below + 3
    by true = let t = top in omega (arith, t)
    by false =
        let t = top in
        let b = bottom in
        let a = length-append (all_digits n) (47 ∷ all_digits den) in
        omega (arith, t, b, a)

-- the text of a number whose digits fit a line has at most 16,010 bytes
pub wide_few : (v : ℚ) → FitsLine v → length (wide_text v) ≤ 16010
unfolding wide_text
wide_few v h = by (is_within v) refl
  where
    narrow : is_within v ≡ true → IsNarrow v
    narrow e =
        let both = and_parts (nat_le (unsigned_abs v.num) number_limit) _ e in
        record { top = leb-true _ _ both.0; bottom = leb-true _ _ both.1 }

    signed : (t : Bool) → length (cond t (45 ∷ []) [] ++ past_text (unsigned_abs v.num) v.den) ≤ 16010
    signed true =
        let few = past_few h.0 h.1 (unsigned_abs v.num) v.den h.2 h.3 in
        let short = h.4 in
        omega (arith, few, short)
    signed false =
        let few = past_few h.0 h.1 (unsigned_abs v.num) v.den h.2 h.3 in
        let short = h.4 in
        omega (arith, few, short)

    by : (t : Bool) → is_within v ≡ t →
        length (cond t (number_text v)
        (cond (int_lt v.num (pos 0)) (45 ∷ []) [] ++ past_text (unsigned_abs v.num) v.den)) ≤ 16010
    by true e = let short = (narrow_fitting v (narrow e)).fits in omega (arith, short)
    by false e = signed (int_lt v.num (pos 0))
