-- The bound that a text is, by the size of its number.
--
-- `IsProper`: a number's parts are proper where they are no quotient by 0.
-- `infinite_word`: a text that is a word for infinity is an infinite bound of its sign.
-- `no_bound`: a text that is neither a number nor a word for infinity is no bound.
-- `infinite_number`: a proper number of size 10^20 or more is an infinite bound of its sign.
-- `finite_number`: a proper number of a smaller size is the bound that it is read as.
-- `finite_answer`: a number that is read as a fraction is a finite bound, by this fraction.
-- `fault_answer`: a number that is refused is refused as a bound, by the same fault.
-- `seen_proper`: the parts that the code holds are proper.
use Rattle.std.proofs.Common.{◌≡◌, ℕ, suc, ◌*◌, ◌^◌, ◌<◌, ◌≤◌, Bool, true, false, not, cond}
use Rattle.std.proofs.Common.{List, [], ◌∷◌, refl, sym, ap, ◌∙◌, arith, Some, None, leb}
use Rattle.std.proofs.Common.{leb-true, ℤ, pos, negsuc, neg_ℤ, ◌≤ℤ◌, ◌<ℤ◌, ◌*ℤ◌, subst, subst₂}
use Rattle.std.specs.Prelude.{Ok, Err}
use Rattle.std.proofs.lemmas.Bool.{leb-false}
use Rattle.std.proofs.Math.Nat.{one-le-pow, mul-pos}
use borrow.Author.Differences.{ints}
use Rattle.spec_exact.specs.Fraction.{ℚ, over, whole, neg_ℚ, ◌≤ℚ◌, ◌<ℚ◌}
use Rattle.spec_exact.proofs.Ring.{◌⊗◌, v0, v1, v2, v3}
use Rattle.spec_exact.proofs.WholeRing.{by_ring}
use Rattle.spec_exact.proofs.Fraction.{over_cross, over-parts}
use Rattle.spec_exact.proofs.Order.{≤ℚ-over, ≤ℤ-times, ≤ℤ_cancel, lt_test, not_lt_test, ≤ℤ_same}
use Rattle.spec_exact.proofs.Strict.{lt_from_not, ≤ℚ-<ℚ_trans}
use Rattle.spec_mps.specs.BoundText.{infinite, is_at_least, is_infinity, infinity, as_bound}
use Rattle.spec_mps.specs.BoundText.{bound_by_value, bound_by, bound_of, bound_answer}
use Rattle.spec_mps.specs.BoundText as bound
use Rattle.spec_mps.specs.declared.number.NumFault.{NumFault}
use Rattle.spec_mps.specs.declared.number.NumFault.TheVariants as fault
use Rattle.spec_mps.specs.declared.number.BoundValue.TheVariants as value
use Rattle.spec_mps.proofs.RoundTrip.{over-one}
use Rattle.spec_mps.specs.NumberText as number
use Rattle.spec_mps.specs.NumberText.{NumberReading, value_of, number_by, parts_of, is_negative}
use Rattle.spec_mps.specs.NumberText.{without_sign, answer, NumberParts, Decimal, Quotient}
use Rattle.spec_mps.specs.NumberText.{spelled_from, spelled, is_zero, without_zeros, signed, scaled}
use Rattle.lp_numtext.specs.Huge.{is_huge, sign_of}
use Rattle.lp_numtext.specs.Seen.{parts_seen}
use Rattle.lp_numtext.specs.declared.parts.Parts.{Parts}
use Rattle.lp_numtext.specs.declared.parts.Parts.TheVariants as parts

-- ---- the value against 10 ^ 20

-- where n / d is at most m / e, n times e is at most m times d
over_back : (n m : ℤ) (d e : ℕ) → 0 < d → 0 < e → over n d ≤ℚ over m e → (n *ℤ pos e) ≤ℤ (m *ℤ pos d)
over_back n m d e p q h = by (over n d) (over m e) (over_cross n d p) (over_cross m e q) h
  where
    by : (x y : ℚ) → n *ℤ pos x.den ≡ x.num *ℤ pos d → m *ℤ pos y.den ≡ y.num *ℤ pos e → x ≤ℚ y →
        (n *ℤ pos e) ≤ℤ (m *ℤ pos d)
    by x y a b h =
        ≤ℤ_cancel _ _ (x.den * y.den) (mul-pos x.positive y.positive)
        (≤ℤ_same _ _ _ _
        (by_ring (x.num ∷ pos y.den ∷ pos d ∷ pos e ∷ []) (v0 ⊗ v1 ⊗ (v2 ⊗ v3)) (v0 ⊗ v2 ⊗ (v1 ⊗ v3)) refl
        ∙ ap (λ z. z *ℤ pos (y.den * e)) (sym a)
        ∙ by_ring (n ∷ pos x.den ∷ pos y.den ∷ pos e ∷ []) (v0 ⊗ v1 ⊗ (v2 ⊗ v3)) (v0 ⊗ v3 ⊗ (v1 ⊗ v2)) refl)
        (by_ring (y.num ∷ pos x.den ∷ pos d ∷ pos e ∷ []) (v0 ⊗ v1 ⊗ (v2 ⊗ v3)) (v0 ⊗ v3 ⊗ (v1 ⊗ v2)) refl
        ∙ ap (λ z. z *ℤ pos (x.den * d)) (sym b)
        ∙ by_ring (m ∷ pos x.den ∷ pos y.den ∷ pos d ∷ []) (v0 ⊗ v2 ⊗ (v1 ⊗ v3)) (v0 ⊗ v3 ⊗ (v1 ⊗ v2)) refl)
        (≤ℤ-times _ _ (d * e) h.at_most))

-- where n times e is below m times d, n / d is below m / e
over_strict : (n m : ℤ) (d e : ℕ) → 0 < d → 0 < e → (n *ℤ pos e) <ℤ (m *ℤ pos d) → over n d <ℚ over m e
over_strict n m d e p q h = lt_from_not _ _ (λ k. clash _ _ h (over_back m n e d q p k))
  where
    clash : (a b : ℤ) → a <ℤ b → b ≤ℤ a → ⊥
    clash a b h k = omega (arith, ints)

-- ---- 10 ^ 20, and its negative, as quotients

-- the quotient of 10 ^ 20 by 1 is the number from which on bounds are infinite
top_limit : over (pos (10 ^ 20)) 1 ≡ infinite
top_limit = over-one (pos (10 ^ 20))

-- the quotient of the negative of 10 ^ 20 by 1 is the negative of the number for infinite bounds
low_limit : over (neg_ℤ (pos (10 ^ 20))) 1 ≡ neg_ℚ infinite
unfolding neg_ℚ whole
low_limit = over-parts (neg_ℚ infinite)

-- the negative of the number for infinite bounds is below that number
limits : neg_ℚ infinite <ℚ infinite
limits =
    subst₂ ◌<ℚ◌ low_limit top_limit
    (over_strict (neg_ℤ (pos (10 ^ 20))) (pos (10 ^ 20)) 1 1 (omega arith) (omega arith) (omega (arith, ints)))

-- where x is below y, x does not test as at least y
lt_from : (x y : ℚ) → x <ℚ y → is_at_least y x ≡ false
lt_from x y h = ap not (lt_test x y h)

-- where x is at least y, x tests as at least y
le_from : (x y : ℚ) → y ≤ℚ x → is_at_least y x ≡ true
le_from x y h = ap not (not_lt_test x y h)

-- a quotient whose size is at least 10 ^ 20 is the infinite bound of its sign
huge_value : (negative : Bool) (n d : ℕ) (r : NumberReading) → 0 < d → 10 ^ 20 * d ≤ n →
    bound_by_value (over (signed negative n) d) r ≡ infinity negative
unfolding bound_by_value
huge_value false n d r p h =
    let le : infinite ≤ℚ over (pos n) d =
    subst (λ x. x ≤ℚ over (pos n) d) top_limit
    (≤ℚ-over (pos (10 ^ 20)) (pos n) 1 d (omega arith) p (omega (arith, ints))) in
    rw (le_from (over (pos n) d) infinite le) refl
huge_value true n d r p h =
    let le : over (neg_ℤ (pos n)) d ≤ℚ neg_ℚ infinite =
    subst (λ x. over (neg_ℤ (pos n)) d ≤ℚ x) low_limit
    (≤ℚ-over (neg_ℤ (pos n)) (neg_ℤ (pos (10 ^ 20))) d 1 p (omega arith) (omega (arith, ints))) in
    let lt : over (neg_ℤ (pos n)) d <ℚ infinite = ≤ℚ-<ℚ_trans _ (neg_ℚ infinite) _ le limits in
    rw (lt_from (over (neg_ℤ (pos n)) d) infinite lt, le_from (neg_ℚ infinite) (over (neg_ℤ (pos n)) d) le) refl

-- a quotient whose size is below 10 ^ 20 is the bound that its reading gives
small_value : (negative : Bool) (n d : ℕ) (r : NumberReading) → 0 < d → n < 10 ^ 20 * d →
    bound_by_value (over (signed negative n) d) r ≡ as_bound r
unfolding bound_by_value
small_value negative n d r p h =
    let above : neg_ℚ infinite <ℚ over (signed negative n) d =
    subst (λ x. x <ℚ over (signed negative n) d) low_limit
    (over_strict (neg_ℤ (pos (10 ^ 20))) (signed negative n) 1 d (omega arith) p (up negative)) in
    let under : over (signed negative n) d <ℚ infinite =
    subst (λ x. over (signed negative n) d <ℚ x) top_limit
    (over_strict (signed negative n) (pos (10 ^ 20)) d 1 p (omega arith) (down negative)) in
    rw
    (lt_from (over (signed negative n) d) infinite under, lt_from (neg_ℚ infinite) (over (signed negative n) d) above)
    refl
  where
    up : (negative : Bool) → (neg_ℤ (pos (10 ^ 20)) *ℤ pos d) <ℤ (signed negative n *ℤ pos 1)
    up true = omega (arith, ints)
    up false = omega (arith, ints)

    down : (negative : Bool) → (signed negative n *ℤ pos 1) <ℤ (pos (10 ^ 20) *ℤ pos d)
    down true = omega (arith, ints)
    down false = omega (arith, ints)

-- a quotient is an infinite bound where its size tests as at least 10 ^ 20, and else its reading's bound
tested : (negative : Bool) (n d : ℕ) (r : NumberReading) → 0 < d →
    bound_by_value (over (signed negative n) d) r ≡ cond (leb (10 ^ 20 * d) n) (infinity negative) (as_bound r)
tested negative n d r p = by (leb (10 ^ 20 * d) n) refl
  where
    by : (t : Bool) → leb (10 ^ 20 * d) n ≡ t →
        bound_by_value (over (signed negative n) d) r ≡ cond t (infinity negative) (as_bound r)
    by true e = huge_value negative n d r p (leb-true _ _ e)
    by false e = small_value negative n d r p (leb-false _ _ e)

-- a quotient is not one by 0
pub IsProper : NumberParts → Type 0
IsProper (Decimal negative s e) = Unit {0}
IsProper (Quotient negative top bottom) = 0 < bottom

-- the value of proper parts is an infinite bound where they are huge, and else their reading's bound
by_size : (p : NumberParts) (r : NumberReading) → IsProper p →
    bound_by_value (value_of p) r ≡ cond (is_huge p) (infinity (sign_of p)) (as_bound r)
unfolding value_of is_huge IsProper
by_size (Decimal negative s (pos e)) r p =
    ap (λ x. bound_by_value x r) (sym (over-one (signed negative (s * 10 ^ e))))
    ∙ tested negative (s * 10 ^ e) 1 r (omega arith)
by_size (Decimal negative s (negsuc e)) r p = tested negative s (10 ^ suc e) r (one-le-pow (suc e) 10 (omega arith))
by_size (Quotient negative top bottom) r p = tested negative top bottom r p

-- ---- texts

pub infinite_word : (text : List ℕ) → None ≡ parts_of text → is_infinity (without_sign text) ≡ true →
    bound_of text ≡ infinity (is_negative text)
unfolding bound_of bound_by
infinite_word text e h = ap (bound_by text) (sym e) ∙ rw h refl

pub no_bound : (text : List ℕ) → None ≡ parts_of text → is_infinity (without_sign text) ≡ false →
    bound_of text ≡ bound.Shape
unfolding bound_of bound_by
no_bound text e h = ap (bound_by text) (sym e) ∙ rw h refl

pub infinite_number : (text : List ℕ) (p : NumberParts) → Some p ≡ parts_of text → IsProper p → is_huge p ≡ true →
    bound_of text ≡ infinity (sign_of p)
unfolding bound_of bound_by
infinite_number text p e i h = ap (bound_by text) (sym e) ∙ by_size p _ i ∙ rw h refl

pub finite_number : (text : List ℕ) (p : NumberParts) → Some p ≡ parts_of text → IsProper p → is_huge p ≡ false →
    bound_of text ≡ as_bound (number_by (Some p))
unfolding bound_of bound_by
finite_number text p e i h = ap (bound_by text) (sym e) ∙ by_size p _ i ∙ rw h refl

pub finite_answer : (r : NumberReading) (q : ℚ) → Ok q ≡ answer r → Ok (value.Finite q) ≡ bound_answer (as_bound r)
finite_answer (number.Is v) q e = let same : q ≡ v = cc in ap (λ x. Ok (value.Finite x)) same
finite_answer number.Shape q e = cc
finite_answer number.Wide q e = cc

pub fault_answer : (r : NumberReading) (f : NumFault) → Err f ≡ answer r → Err f ≡ bound_answer (as_bound r)
fault_answer (number.Is v) f e = cc
fault_answer number.Shape f e = let same : f ≡ fault.Shape = cc in ap Err same
fault_answer number.Wide f e = let same : f ≡ fault.Wide = cc in ap Err same

pub seen_proper : (p : Parts) → IsProper (parts_seen p)
unfolding IsProper scaled
seen_proper (parts.Decimal d) = tt
seen_proper (parts.Quotient q) = q.not_zero
