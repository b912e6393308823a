-- The text of a number within 127 bits is a word.
--
-- `printed`: a text of digits is of printable bytes.
-- `has_some`: a text with a positive length has bytes.
-- `longer`: a word with more printable bytes behind it is a word.
-- `number_word`: the text of a fraction with numerator and denominator within 127 bits is a word.
use Rattle.std.proofs.Common.{◌≡◌, ℕ, ◌*◌, ◌/◌, ◌^◌, ◌<◌, ◌≤◌, ◌==◌, Bool, true, false, cond, Option}
use Rattle.std.proofs.Common.{Some, None, List, [], ◌∷◌, ◌++◌, length, pos, refl, ◌∙◌, arith}
use Rattle.std.specs.Prelude.{decimal, nat_le, int_lt, unsigned_abs}
use Rattle.std.specs.List.{list_all}
use Rattle.std.specs.Char.{is_ascii_digit}
use Rattle.std.proofs.lemmas.List.Folds.{list_all-append}
use Rattle.std.proofs.Math.Nat.{div-le_self}
use Rattle.std.proofs.lemmas.Bool.{and_parts}
use borrow.Author.Tests.{le-leb, leb-true}
use Rattle.spec_text.specs.Words.{has_bytes}
use Rattle.spec_exact.specs.Fraction.{ℚ}
use Rattle.spec_exact.specs.Narrow.{number_limit}
use Rattle.spec_model.specs.Kept.{is_printable}
use Rattle.spec_mps.specs.NumberWritten.{last_digits, pointed, quotient_text, placed}
use Rattle.spec_mps.specs.NumberWritten.{places, size_text, number_text, IsWord}
use Rattle.spec_mps.proofs.DigitLemmas.{digit_is, spelled_decimal, last_are_digits}

-- a decimal digit is a printed byte
printed_digit : (b : ℕ) → is_ascii_digit b ≡ true → is_printable b ≡ true
printed_digit b h =
    let p = digit_is b h in let low = p.low in let high = p.high in
    rw (le-leb 33 b (omega arith), le-leb b 126 (omega arith)) refl

pub printed : (ds : List ℕ) → list_all is_ascii_digit ds ≡ true → list_all is_printable ds ≡ true
printed [] h = refl
printed (d ∷ ds) h =
    let p = and_parts (is_ascii_digit d) (list_all is_ascii_digit ds) h in rw (printed_digit d p.0, printed ds p.1) refl

pub has_some : (ds : List ℕ) → 0 < length ds → has_bytes ds ≡ true
has_some [] h = absurd (omega arith)
has_some (d ∷ ds) h = refl

-- the digits of a number within the limit are a word
decimal_word : (n : ℕ) → n ≤ number_limit → IsWord (decimal n)
decimal_word n h =
    let s = spelled_decimal n h in
    record { some = has_some (decimal n) s.some; printable = printed (decimal n) s.digits }

-- more that is printed after a word
pub longer : (w more : List ℕ) → IsWord w → list_all is_printable more ≡ true → IsWord (w ++ more)
longer [] more h k = cc
longer (b ∷ w) more h k =
    record { some = refl; printable = list_all-append is_printable (b ∷ w) more ∙ rw (h.printable, k) refl }

-- the text of a quotient of two numbers within the limit is a word
quotient_word : (n den : ℕ) → n ≤ number_limit → den ≤ number_limit → IsWord (quotient_text n den)
unfolding quotient_text
quotient_word n den h k = longer (decimal n) (47 ∷ decimal den) (decimal_word n h) (decimal_word den k).printable

-- the text of a number within the limit, with places behind a point, is a word
pointed_word : (d n : ℕ) → n ≤ number_limit → IsWord (pointed d n)
unfolding pointed
pointed_word d n h =
    let a : n / 10 ^ d ≤ n = div-le_self n (10 ^ d) in
    longer (decimal (n / 10 ^ d)) (46 ∷ last_digits d n)
    (decimal_word (n / 10 ^ d) (omega arith)) (printed (last_digits d n) (last_are_digits d n))

-- the text of a fraction within the limit, with places or as a quotient, is a word
placed_word : (n den : ℕ) (o : Option ℕ) → n ≤ number_limit → den ≤ number_limit → IsWord (placed n den o)
unfolding placed
placed_word n den None h k = quotient_word n den h k
placed_word n den (Some d) h k = by (nat_le (n * (10 ^ d / den)) number_limit) refl
  where
    by : (t : Bool) → nat_le (n * (10 ^ d / den)) number_limit ≡ t →
        IsWord (cond t (pointed d (n * (10 ^ d / den))) (quotient_text n den))
    by true e = pointed_word d (n * (10 ^ d / den)) (leb-true (n * (10 ^ d / den)) number_limit e)
    by false e = quotient_word n den h k

-- the text of a fraction within the limit, without its sign, is a word
size_word : (n den : ℕ) → n ≤ number_limit → den ≤ number_limit → IsWord (size_text n den)
unfolding size_text
size_word n den h k = by (den == 1)
  where
    by : (t : Bool) → IsWord (cond t (decimal n) (placed n den (places den)))
    by true = decimal_word n h
    by false = placed_word n den (places den) h k

pub number_word : (q : ℚ) → unsigned_abs q.num ≤ number_limit → q.den ≤ number_limit → IsWord (number_text q)
unfolding number_text
number_word q h k = by (int_lt q.num (pos 0))
  where
    size : IsWord (size_text (unsigned_abs q.num) q.den)
    size = size_word (unsigned_abs q.num) q.den h k

    by : (t : Bool) → IsWord (cond t (45 ∷ []) [] ++ size_text (unsigned_abs q.num) q.den)
    by true = record { some = refl; printable = size.printable }
    by false = size
