-- Texts without a line feed.
--
-- `tested_no_feed`: a text each of whose bytes is tested to be no line feed has none.
-- `both_no_feed`: two texts without a line feed have none one behind the other.
-- `either_no_feed`: where two texts have no line feed, the one of them that a test takes has none.
-- `decimal_no_feed`: a number in decimal digits has no line feed.
-- `wide_no_feed`: the text of a number of any width has no line feed.
use Rattle.std.proofs.Common.{◌≡◌, ◌≢◌, ℕ, zero, suc, ◌+◌, ◌/◌, ◌%◌, Bool, true, false, cond, not, nat_eq, List, [], ◌∷◌}
use Rattle.std.proofs.Common.{◌++◌, pos, unsigned_abs, int_lt, refl, arith, sym, ap, ◌∙◌, eq-eqb, leb-true}
use Rattle.std.specs.Prelude.{decimal, nat_lt}
use Rattle.std.specs.Fmt.{digit_glyph, digits_onto, digits}
use Rattle.std.specs.List.{list_all}
use Rattle.std.proofs.lemmas.Bool.{and_parts}
use Rattle.std.proofs.lemmas.List.Elements.{All-nil, All-cons, All-append}
use Rattle.spec_exact.specs.Fraction.{ℚ}
use Rattle.spec_exact.specs.Narrow.{IsNarrow}
use Rattle.spec_mps.specs.NumberWritten.{number_text}
use Rattle.spec_mps.specs.WideWritten.{all_digits, past_text, is_within, wide_text}
use Rattle.spec_truth.proofs.AnswerLines.{number_no_feed}
use Rattle.spec_text_truth.specs.TrueOutput.{HasNoFeed}

-- by a test of each byte
pub tested_no_feed : (text : List ℕ) → list_all (λ b. not (nat_eq b 10)) text ≡ true → HasNoFeed text
tested_no_feed [] h = All-nil (λ b. b ≢ 10)
tested_no_feed (b ∷ text) h =
    let p = and_parts (not (nat_eq b 10)) (list_all (λ b. not (nat_eq b 10)) text) h in
    All-cons (λ x. x ≢ 10) b text (λ e. by (ap not (eq-eqb b 10 e)) p.0) (tested_no_feed text p.1)
  where
    by : {t : Bool} → t ≡ false → t ≡ true → ⊥
    by e h = let z : false ≡ true = sym e ∙ h in cc

pub both_no_feed : (a b : List ℕ) → HasNoFeed a → HasNoFeed b → HasNoFeed (a ++ b)
both_no_feed a b h k = All-append (λ x. x ≢ 10) a b h k

-- ---- numbers

-- the glyph of a digit is no line feed
glyph_no_feed : (d : ℕ) → digit_glyph false d ≢ 10
glyph_no_feed d = by (nat_lt d 10)
  where
    by : (t : Bool) → cond t (48 + d) (87 + d) ≡ 10 → ⊥
    by true e = omega (arith, e)
    by false e = omega (arith, e)

pub either_no_feed : (t : Bool) (a b : List ℕ) → HasNoFeed a → HasNoFeed b → HasNoFeed (cond t a b)
either_no_feed true a b h k = h
either_no_feed false a b h k = k

-- where a text has no line feed, it has none with digits before it
onto_no_feed : (k n : ℕ) (acc : List ℕ) → HasNoFeed acc → HasNoFeed (digits_onto k 10 false n acc)
onto_no_feed zero n acc h = h
onto_no_feed (suc k) n acc h =
    let more : HasNoFeed (digit_glyph false (n % 10) ∷ acc) =
    All-cons (λ x. x ≢ 10) (digit_glyph false (n % 10)) acc (glyph_no_feed (n % 10)) h in
    either_no_feed (nat_eq (n / 10) 0) _ _ more (onto_no_feed k (n / 10) (digit_glyph false (n % 10) ∷ acc) more)

pub decimal_no_feed : (n : ℕ) → HasNoFeed (decimal n)
unfolding digits
decimal_no_feed n = onto_no_feed 64 n [] (All-nil (λ b. b ≢ 10))

-- ---- numbers of any width

-- the decimal digits of a number, however many, have no line feed
all_no_feed : (n : ℕ) → HasNoFeed (all_digits n)
unfolding all_digits
all_no_feed n = onto_no_feed (suc n) n [] (All-nil (λ b. b ≢ 10))

-- the text of a whole number or of a quotient of two, of any width, has no line feed
past_no_feed : (n den : ℕ) → HasNoFeed (past_text n den)
unfolding past_text
past_no_feed n den =
    either_no_feed (nat_eq den 1) (all_digits n) (all_digits n ++ 47 ∷ all_digits den) (all_no_feed n)
    (both_no_feed (all_digits n) (47 ∷ all_digits den) (all_no_feed n)
    (both_no_feed (47 ∷ []) (all_digits den) (tested_no_feed (47 ∷ []) refl) (all_no_feed den)))

pub wide_no_feed : (q : ℚ) → HasNoFeed (wide_text q)
unfolding wide_text
wide_no_feed q = by (is_within q) refl
  where
    by : (t : Bool) → is_within q ≡ t →
        HasNoFeed (cond t (number_text q)
        (cond (int_lt q.num (pos 0)) (45 ∷ []) [] ++ past_text (unsigned_abs q.num) q.den))
    by true e =
        let p = and_parts _ _ e in
        let narrow : IsNarrow q = record { top = leb-true _ _ p.0; bottom = leb-true _ _ p.1 } in
        number_no_feed q narrow
    by false e =
        both_no_feed (cond (int_lt q.num (pos 0)) (45 ∷ []) []) (past_text (unsigned_abs q.num) q.den)
        (either_no_feed (int_lt q.num (pos 0)) (45 ∷ []) [] (tested_no_feed (45 ∷ []) refl) (All-nil (λ b. b ≢ 10)))
        (past_no_feed (unsigned_abs q.num) q.den)
