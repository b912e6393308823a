-- The text that a number of any width is written as is read as that number.
--
-- `text_is`: a number's text is its text of at most 127 bits where it fits 127 bits, and else a sign and whole digits.
-- `same_text`: a number within 127 bits has the same text in the wide format as in the narrow one.
-- `read_again`: a number whose text has at most 16,384 bytes is read again from the text it is written as.
use Rattle.std.proofs.Common.{◌≡◌, ℕ, zero, suc, ◌*◌, ◌^◌, ◌<◌, ◌≤◌, Bool, true, false, cond}
use Rattle.std.proofs.Common.{Some, List, [], ◌∷◌, ◌++◌, length, ℤ, pos, negsuc, ◌+ℤ◌, ◌-ℤ◌, unsigned_abs, int_lt}
use Rattle.std.proofs.Common.{refl, sym, ap, ◌∙◌, subst, arith, eqb, leb-true, le-leb}
use Rattle.std.specs.List.{list_all, before_first}
use Rattle.std.specs.Char.{is_ascii_digit}
use Rattle.std.proofs.lemmas.List.{append-nil}
use Rattle.std.proofs.lemmas.Bool.{and_parts, and_from, eqb-true, lt-ltb, le-ltb}
use borrow.Author.Differences.{ints}
use Rattle.spec_exact.specs.Fraction.{ℚ, over, whole}
use Rattle.spec_exact.specs.Narrow.{IsNarrow}
use Rattle.spec_exact.proofs.Fraction.{over-parts}
use Rattle.spec_mps.specs.NumberText.{Decimal, is_point, is_slash, is_mark, spelled, without_zeros, signed, behind}
use Rattle.spec_mps.specs.NumberText.{exponent_of, scaled, decimal_of, mantissa_of, quotient_of, unsigned_parts, parts_of, value_of, number_of}
use Rattle.spec_mps.specs.NumberWritten.{number_text}
use Rattle.spec_mps.proofs.SplitLemmas.{whole as whole_text, split}
use Rattle.spec_mps.proofs.DigitLemmas.{no_mark, no_point, no_slash, no_sign, no_minus, none_pass, are_some, cut}
use Rattle.spec_mps.proofs.RoundTrip.{over-one, read_written}
use Rattle.spec_mps.specs.WideText.{Is, is_near, wide_by, wide_of, most_zeros}
use Rattle.spec_mps.specs.WideWritten.{all_digits, past_text, is_within, wide_text}
use Rattle.spec_mps.proofs.AllDigits.{spelled_all}
use Rattle.spec_mps.proofs.Agree.{same_reading}

-- ---- digits that are a whole number

-- digits cut of their last zeros are read as the number with these zeros
cut_value : (negative : Bool) (s z n : ℕ) (e : ℤ) → s * 10 ^ z ≡ n → z ≤ most_zeros → e ≡ pos z →
    wide_by (Some (Decimal negative s e)) ≡ Is (over (signed negative n) 1)
unfolding wide_by is_near value_of
cut_value negative s z n (negsuc k) h w q = cc
cut_value negative zero z n (pos k) h w q =
    ap (λ m. Is (whole (signed negative m))) (zero_left (10 ^ k) (10 ^ z) ∙ h) ∙ ap Is (sym (over-one (signed negative n)))
  where
    zero_left : (a b : ℕ) → 0 * a ≡ 0 * b
    zero_left a b = omega arith
cut_value negative (suc s) z n (pos k) h w q =
    let same : k ≡ z = cc in
    rw (le-leb k most_zeros (omega (arith, same, w)))
    (ap (λ m. Is (whole (signed negative m))) (ap (λ m. suc s * 10 ^ m) same ∙ h)
    ∙ ap Is (sym (over-one (signed negative n))))

-- at most 16,384 digits that spell n are read as n with this sign
digits_value : (negative : Bool) (digits : List ℕ) (n : ℕ) → spelled digits ≡ n → length digits ≤ most_zeros →
    wide_by (Some (scaled negative digits [] (pos 0))) ≡ Is (over (signed negative n) 1)
unfolding scaled
digits_value negative digits n e w =
    let c = cut 0 digits in
    let l = c.len in
    let back : digits ++ [] ≡ digits = append-nil digits in
    ap (λ ds. wide_by (Some (Decimal negative (spelled (without_zeros ds)) (pos 0 +ℤ pos (length digits) -ℤ pos (length (without_zeros ds)))))) back
    ∙ cut_value negative (spelled (without_zeros digits)) c.zeros n _ (sym c.size ∙ e) (omega (arith, l, w)) (omega (arith, ints, l))

-- at most 16,384 digits alone that spell n are read at any width as n with this sign
read_plain : (negative : Bool) (digits : List ℕ) (n : ℕ) → list_all is_ascii_digit digits ≡ true → 0 < length digits →
    spelled digits ≡ n → length digits ≤ most_zeros →
    wide_by (unsigned_parts negative (before_first is_slash digits) (behind is_slash digits))
    ≡ Is (over (signed negative n) 1)
unfolding unsigned_parts mantissa_of decimal_of exponent_of
read_plain negative digits n h k e w =
    let a = whole_text is_slash digits (none_pass is_slash no_slash digits h) in
    let b = whole_text is_mark digits (none_pass is_mark no_mark digits h) in
    let c = whole_text is_point digits (none_pass is_point no_point digits h) in
    rw (
      a.before,
      a.behind,
      b.before,
      b.behind,
      c.before,
      c.after,
      are_some (digits ++ []) (ap (list_all is_ascii_digit) (append-nil digits) ∙ h)
          (subst (λ ds. 0 < length ds) (sym (append-nil digits)) k),
    )
    (digits_value negative digits n e w)

-- ---- a quotient

-- digits, a slash and digits that do not spell 0 are read at any width as their quotient
read_quotient : (negative : Bool) (top bottom : List ℕ) (n den : ℕ) → list_all is_ascii_digit top ≡ true →
    list_all is_ascii_digit bottom ≡ true → 0 < length top → 0 < length bottom → spelled top ≡ n →
    spelled bottom ≡ den → 0 < den →
    wide_by (unsigned_parts negative (before_first is_slash (top ++ 47 ∷ bottom)) (behind is_slash (top ++ 47 ∷ bottom)))
    ≡ Is (over (signed negative n) den)
unfolding unsigned_parts quotient_of wide_by is_near value_of
read_quotient negative top bottom n den h g k m e f p =
    let ss = split is_slash top 47 bottom (none_pass is_slash no_slash top h) refl in
    rw (ss.before, ss.behind, are_some top h k, are_some bottom g m, e, f, lt-ltb 0 den p) refl

-- ---- after a sign

-- the text with a minus before it where the flag is true, else as it is
abbrev signed_text : Bool → List ℕ → List ℕ
signed_text negative body = cond negative (45 ∷ []) [] ++ body

-- a sign in front of a digit is taken off in reading at any width
sign_off : (negative : Bool) (b : ℕ) (bs : List ℕ) → is_ascii_digit b ≡ true →
    wide_of (signed_text negative (b ∷ bs))
    ≡ wide_by (unsigned_parts negative (before_first is_slash (b ∷ bs)) (behind is_slash (b ∷ bs)))
unfolding wide_of parts_of
sign_off true b bs h = refl
sign_off false b bs h = rw (no_sign b h, no_minus b h) refl

-- a sign in front of digits and more is taken off in reading at any width
off : (negative : Bool) (digits rest : List ℕ) → list_all is_ascii_digit digits ≡ true → 0 < length digits →
    wide_of (signed_text negative (digits ++ rest))
    ≡ wide_by (unsigned_parts negative (before_first is_slash (digits ++ rest)) (behind is_slash (digits ++ rest)))
off negative [] rest h k = absurd (omega arith)
off negative (b ∷ digits) rest h k = sign_off negative b (digits ++ rest) (and_parts _ _ h).0

-- a sign in front of digits alone is taken off in reading at any width
off_all : (negative : Bool) (digits : List ℕ) → list_all is_ascii_digit digits ≡ true → 0 < length digits →
    wide_of (signed_text negative digits)
    ≡ wide_by (unsigned_parts negative (before_first is_slash digits) (behind is_slash digits))
off_all negative [] h k = absurd (omega arith)
off_all negative (b ∷ digits) h k = sign_off negative b digits (and_parts _ _ h).0

-- the signed text of n / den with all digits, of at most 16,384 bytes, is read at any width as that number
as_past : (negative : Bool) (n den : ℕ) → 0 < den → length (past_text n den) ≤ most_zeros →
    wide_of (signed_text negative (past_text n den)) ≡ Is (over (signed negative n) den)
unfolding past_text
as_past negative n den p w = by (eqb den 1) refl w
  where
    by : (t : Bool) → eqb den 1 ≡ t → length (cond t (all_digits n) (all_digits n ++ 47 ∷ all_digits den)) ≤ most_zeros →
        wide_of (signed_text negative (cond t (all_digits n) (all_digits n ++ 47 ∷ all_digits den)))
        ≡ Is (over (signed negative n) den)
    by true e w =
        let s = spelled_all n in
        off_all negative (all_digits n) s.digits s.some
        ∙ read_plain negative (all_digits n) n s.digits s.some s.spells w
        ∙ ap (λ m. Is (over (signed negative n) m)) (sym (eqb-true _ _ e))
    by false e w =
        let s = spelled_all n in
        let t = spelled_all den in
        off negative (all_digits n) (47 ∷ all_digits den) s.digits s.some
        ∙ read_quotient negative (all_digits n) (all_digits den) n den s.digits t.digits s.some t.some s.spells t.spells p

-- ---- within the width

-- a fraction of 127 bits is within the width by the test
within_is : (q : ℚ) → IsNarrow q → is_within q ≡ true
within_is q n = and_from _ _ (le-leb _ _ n.top) (le-leb _ _ n.bottom)

-- the text of a number: that within 127 bits where the flag is true, else a sign and all digits
abbrev by_width : ℚ → Bool → List ℕ
by_width q narrow = cond narrow (number_text q) (signed_text (int_lt q.num (pos 0)) (past_text (unsigned_abs q.num) q.den))

pub text_is : (q : ℚ) (narrow : Bool) → is_within q ≡ narrow → wide_text q ≡ by_width q narrow
unfolding wide_text
text_is q narrow e = ap (by_width q) e

pub same_text : (q : ℚ) → IsNarrow q → wide_text q ≡ number_text q
same_text q n = text_is q true (within_is q n)

-- the text of z / den with all digits, of at most 16,384 bytes, is read at any width as that number
signed_past : (z : ℤ) (den : ℕ) → 0 < den →
    length (signed_text (int_lt z (pos 0)) (past_text (unsigned_abs z) den)) ≤ most_zeros →
    wide_of (signed_text (int_lt z (pos 0)) (past_text (unsigned_abs z) den)) ≡ Is (over z den)
signed_past (pos n) den p w =
    let plus : int_lt (pos n) (pos 0) ≡ false = le-ltb n 0 (omega arith) in
    ap (λ t. wide_of (signed_text t (past_text n den))) plus
    ∙ as_past false n den p (subst (λ t. length (signed_text t (past_text n den)) ≤ most_zeros) plus w)
signed_past (negsuc n) den p w = as_past true (suc n) den p (omega (arith, w))

pub read_again : (q : ℚ) → length (wide_text q) ≤ most_zeros → wide_of (wide_text q) ≡ Is q
read_again q w = by (is_within q) refl
  where
    by : (t : Bool) → is_within q ≡ t → wide_of (wide_text q) ≡ Is q
    by true e =
        let p = and_parts _ _ e in
        let n : IsNarrow q = record { top = leb-true _ _ p.0; bottom = leb-true _ _ p.1 } in
        same_reading (wide_text q) q (ap number_of (text_is q true e) ∙ read_written q n.top n.bottom)
    by false e =
        ap wide_of (text_is q false e)
        ∙ signed_past q.num q.den q.positive (subst (λ text. length text ≤ most_zeros) (text_is q false e) w)
        ∙ ap Is (over-parts q)
