-- Numbers and their absolute values against a limit, and which texts are finite bounds.
--
-- `within_from_abs`: a number with an absolute value below a limit is strictly between the limit's negative and the
--   limit.
-- `abs_from_within`: a number strictly between a limit's negative and the limit has an absolute value below the limit.
-- `number_is_bound`: a text read as a number strictly between -10^20 and 10^20 is read as that finite bound.
-- `bound_is_within`: a text read as a finite bound stands for a number strictly between -10^20 and 10^20.
use Rattle.std.proofs.Common.{◌≡◌, Bool, true, false, cond, not, Option, Some, None, List}
use Rattle.std.proofs.Common.{ℕ, pos, refl, sym, ap, ◌∙◌, subst}
use Rattle.std.specs.Prelude.{int_lt}
use Rattle.spec_exact.specs.Fraction.{ℚ, 0ℚ, neg_ℚ, abs_ℚ, lt_ℚ, ◌≤ℚ◌, ◌<ℚ◌}
use Rattle.spec_exact.proofs.Order.{lt_if, lt_test, by_le, <ℚ-le, ≤ℚ_trans}
use Rattle.spec_exact.proofs.Strict.{≤ℚ-<ℚ_trans, <ℚ-≤ℚ_trans, neg_mono, neg_strict}
use Rattle.spec_exact.proofs.Ruleset.{neg-neg, neg-zero}
use Rattle.spec_exact.proofs.Magnitudes.{abs_above, abs_below}
use Rattle.spec_mps.specs.NumberText.{NumberParts, NumberReading, Is, Wide, parts_of, value_of}
use Rattle.spec_mps.specs.NumberText.{is_narrow, number_by, number_of, is_negative, without_sign}
use Rattle.spec_mps.specs.NumberText as number
use Rattle.spec_mps.specs.BoundText.{BoundReading, Finite, PlusInf, MinusInf, Shape, infinite}
use Rattle.spec_mps.specs.BoundText.{is_infinity, infinity, as_bound, bound_by_value, bound_by, bound_of}

-- ---- magnitudes

-- the number q is strictly between the negative of the limit and the limit
pub record IsWithin (limit q : ℚ) : Type 0 where
  pub above : neg_ℚ limit <ℚ q
  pub below : q <ℚ limit

-- the negative of a number that is at most 0 is at least 0
negative_turned : (q : ℚ) → q ≤ℚ 0ℚ → 0ℚ ≤ℚ neg_ℚ q
negative_turned q h = subst (λ x. x ≤ℚ neg_ℚ q) neg-zero (neg_mono q 0ℚ h)

-- the negative of a number that is at least 0 is at most 0
positive_turned : (q : ℚ) → 0ℚ ≤ℚ q → neg_ℚ q ≤ℚ 0ℚ
positive_turned q h = subst (λ x. neg_ℚ q ≤ℚ x) neg-zero (neg_mono 0ℚ q h)

pub within_from_abs : (limit q : ℚ) → abs_ℚ q <ℚ limit → IsWithin limit q
within_from_abs limit q h = by_le 0ℚ q positive negative
  where
    positive : 0ℚ ≤ℚ q → IsWithin limit q
    positive n =
        let l : q <ℚ limit = subst (λ x. x <ℚ limit) (abs_above q n) h in
        record {
          above =
              <ℚ-≤ℚ_trans (neg_ℚ limit) (neg_ℚ q) q (neg_strict _ _ l)
              (≤ℚ_trans (neg_ℚ q) 0ℚ q (positive_turned q n) n);
          below = l;
        }

    negative : q <ℚ 0ℚ → IsWithin limit q
    negative s =
        let l : neg_ℚ q <ℚ limit = subst (λ x. x <ℚ limit) (abs_below q s) h in
        let n : q ≤ℚ 0ℚ = <ℚ-le q 0ℚ s in
        record {
          above = subst (λ x. neg_ℚ limit <ℚ x) (neg-neg q) (neg_strict _ _ l);
          below = ≤ℚ-<ℚ_trans q (neg_ℚ q) limit (≤ℚ_trans q 0ℚ (neg_ℚ q) n (negative_turned q n)) l;
        }

pub abs_from_within : (limit q : ℚ) → IsWithin limit q → abs_ℚ q <ℚ limit
abs_from_within limit q w = by (int_lt q.num (pos 0))
  where
    by : (t : Bool) → cond t (neg_ℚ q) q <ℚ limit
    by true = subst (λ x. neg_ℚ q <ℚ x) (neg-neg limit) (neg_strict _ _ w.above)
    by false = w.below

-- ---- texts

-- where a text is read as a number, it has parts, and their value is that number
number_value : (o : Option NumberParts) (q : ℚ) → number_by o ≡ Is q →
    (p : NumberParts) × (o ≡ Some p) × (value_of p ≡ q)
unfolding number_by
number_value None q e = cc
number_value (Some p) q e = (p, refl, by (is_narrow p) e)
  where
    by : (t : Bool) → ◌≡◌ {A = NumberReading} (cond t (Is (value_of p)) Wide) (Is q) → value_of p ≡ q
    by true e = cc
    by false e = cc

-- a number of a size below the limit is a bound
pub number_is_bound : (text : List ℕ) (q : ℚ) → number_of text ≡ Is q → IsWithin infinite q → bound_of text ≡ Finite q
unfolding number_of bound_of bound_by bound_by_value
number_is_bound text q e w =
    let p = number_value (parts_of text) q e in
    let r : number_by (Some p.0) ≡ Is q = sym (ap number_by p.1) ∙ e in
    ap (bound_by text) p.1 ∙ rw (p.2, r, lt_test q infinite w.below, lt_test (neg_ℚ infinite) q w.above) refl

-- a finite bound is of a size below the limit
pub bound_is_within : (text : List ℕ) (q : ℚ) → bound_of text ≡ Finite q → IsWithin infinite q
unfolding bound_of bound_by bound_by_value
bound_is_within text q e = by (parts_of text) e
  where
    inner : (a b : NumberParts) → Some a ≡ Some b → a ≡ b
    inner a b e = cc

    by_word : (t n : Bool) → ◌≡◌ {A = BoundReading} (cond t (infinity n) Shape) (Finite q) → IsWithin infinite q
    by_word true true e = cc
    by_word true false e = cc
    by_word false n e = cc

    by_tests : (p : NumberParts) (s t : Bool) (r : NumberReading) → lt_ℚ (value_of p) infinite ≡ s →
        lt_ℚ (neg_ℚ infinite) (value_of p) ≡ t → number_by (Some p) ≡ r →
        ◌≡◌ {A = BoundReading} (cond (not s) PlusInf (cond (not t) MinusInf (as_bound r))) (Finite q) →
        IsWithin infinite q
    by_tests p false t r es et er e = cc
    by_tests p true false r es et er e = cc
    by_tests p true true number.Shape es et er e = cc
    by_tests p true true number.Wide es et er e = cc
    by_tests p true true (number.Is v) es et er e =
        let same : v ≡ q = cc in
        let n = number_value (Some p) v er in
        let is : value_of p ≡ q = ap value_of (inner p n.0 n.1) ∙ n.2 ∙ same in
        record {
          above = subst (λ x. neg_ℚ infinite <ℚ x) is (lt_if _ _ et);
          below = subst (λ x. x <ℚ infinite) is (lt_if _ _ es);
        }

    by : (o : Option NumberParts) → bound_by text o ≡ Finite q → IsWithin infinite q
    by None e = by_word (is_infinity (without_sign text)) (is_negative text) e
    by (Some p) e = by_tests p _ _ _ refl refl refl e
