-- The text of a number of any width is a word.
use Rattle.std.proofs.Common.{◌≡◌, ℕ, Bool, true, false, cond, [], ◌∷◌, ◌++◌, pos, int_lt}
use Rattle.std.proofs.Common.{unsigned_abs, nat_eq, refl, sym, subst}
use Rattle.std.proofs.lemmas.Bool.{and_parts}
use borrow.Author.Tests.{leb-true}
use Rattle.spec_exact.specs.Fraction.{ℚ}
use Rattle.spec_mps.specs.NumberWritten.{IsWord}
use Rattle.spec_mps.proofs.WrittenNumbers.{number_word, printed, has_some, longer}
use Rattle.spec_mps.specs.WideWritten.{all_digits, past_text, is_within, wide_text}
use Rattle.spec_mps.proofs.AllDigits.{spelled_all}
use Rattle.spec_mps.proofs.ReadBack.{text_is}

-- the digits of a number are a word
digits_word : (n : ℕ) → IsWord (all_digits n)
digits_word n =
    let s = spelled_all n in
    record { some = has_some (all_digits n) s.some; printable = printed (all_digits n) s.digits }

-- the text of a numerator and a denominator of any width is a word
past_word : (n den : ℕ) → IsWord (past_text n den)
unfolding past_text
past_word n den = by (nat_eq den 1)
  where
    by : (t : Bool) → IsWord (cond t (all_digits n) (all_digits n ++ 47 ∷ all_digits den))
    by true = digits_word n
    by false = longer (all_digits n) (47 ∷ all_digits den) (digits_word n) (digits_word den).printable

-- the text of a numerator and a denominator is a word, with a minus before it or without
signed_word : (negative : Bool) (n den : ℕ) → IsWord (cond negative (45 ∷ []) [] ++ past_text n den)
signed_word true n den = record { some = refl; printable = (past_word n den).printable }
signed_word false n den = past_word n den

-- the text of a number of any width is a word
pub wide_word : (q : ℚ) → IsWord (wide_text q)
wide_word q = by (is_within q) refl
  where
    by : (t : Bool) → is_within q ≡ t → IsWord (wide_text q)
    by true e =
        let p = and_parts _ _ e in
        subst IsWord (sym (text_is q true e)) (number_word q (leb-true _ _ p.0) (leb-true _ _ p.1))
    by false e = subst IsWord (sym (text_is q false e)) (signed_word (int_lt q.num (pos 0)) (unsigned_abs q.num) q.den)
