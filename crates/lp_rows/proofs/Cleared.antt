-- A row less another one, as often as an entry says, from the numbers that each call gives.
--
-- `fraction-at`: inside the list, the fraction of column k on d is its whole number over d.
-- `whole-times`: where b * g is s, the number of magnitude s is the number of magnitude b, with that sign, times g.
-- `below_gives`: a number that was made of n, which is within the width, has the value n.
-- `over_neg`: the negative of t over a positive denominator is the negative of the fraction.
-- `cleared`: where each number k is a * old k - b * other k, over d * a, the new row is the old one less the other row
--   times the old row's fraction in column j. (a * g is the other's denominator, b * g the old number j.).
-- `cleared_positive`: where a * g and d are positive, d * a is positive.
-- `written`: a list that was lent whole and written back is the list that was written.
-- `cleared_written`: what `cleared` says, of rows that were lent whole and written back.
use Rattle.std.proofs.Common.{◌≡◌, ℕ, zero, suc, ◌*◌, ◌<◌, ℤ, pos, negsuc, neg_ℤ, ◌*ℤ◌, ◌-ℤ◌, List, [], ◌∷◌, ◌++◌}
use Rattle.std.proofs.Common.{length, Bool, true, false, refl, sym, ap, ap₂, ◌∙◌, subst, subst₂, arith, Some}
use Rattle.std.proofs.Common.{option_map}
use Rattle.std.proofs.Math.ListN.{take, drop}
use Rattle.std.proofs.Math.Nat.{mul-pos}
use Rattle.std.proofs.Math.Seq.{take-append_seam}
use Rattle.spec_exact.specs.Fraction.{over, neg_ℚ, ◌+ℚ◌, ◌-ℚ◌, ◌*ℚ◌}
use Rattle.spec_exact.proofs.Ring.{◌⊕◌, ◌⊗◌, minus, lit, v0, v1, v2, v3}
use Rattle.spec_exact.proofs.WholeRing.{by_ring}
use Rattle.spec_exact.proofs.Field.{by_ring_ℚ, over-*, whole_over}
use Rattle.spec_exact.proofs.Coprime.{positive_left, positive_right}
use Rattle.lp_natural.specs.Below.{below}
use Rattle.lp_natural.specs.Whole.{whole}
use Rattle.lp_natural.specs.declared.words.signed.Signed.{Signed}
use Rattle.lp_natural.proofs.EliminatedRows.{eliminated}
use Rattle.lp_rows.specs.Row.{at, fractions, fraction_at, AreNow}

pub fraction-at : {T : Type 0} (value : T → ℕ) (xs : List (Signed T)) (d k : ℕ) → k < length xs →
    fraction_at value xs d k ≡ over (at value xs k) d
unfolding fractions
fraction-at value [] d k h = absurd (omega arith)
fraction-at value (x ∷ xs) d zero h = refl
fraction-at value (x ∷ xs) d (suc k) h = fraction-at value xs d k (omega (arith, h))

pub whole-times : (negative : Bool) (b g s : ℕ) → b * g ≡ s → whole negative s ≡ whole negative b *ℤ pos g
whole-times false b g s e = ap pos (sym e)
whole-times true b g s e =
    ap (λ n. neg_ℤ (pos n)) (sym e)
    ∙ by_ring (pos b ∷ pos g ∷ []) (minus (v0 ⊗ v1)) (minus v0 ⊗ v1) refl

pub below_gives : {T : Type 0} (value : T → ℕ) (base n : ℕ) (x : T) → option_map value (Some x) ≡ below base n →
    value x ≡ n
below_gives value base n x e = grind (arith, e)

pub over_neg : (t : ℤ) (d : ℕ) → 0 < d → over (neg_ℤ t) d ≡ neg_ℚ (over t d)
over_neg t d q =
    ap₂ over (by_ring (t ∷ []) (minus v0) (lit (negsuc 0) ⊗ v0) refl) (one_times d)
    ∙ sym (over-* (negsuc 0) t 1 d (omega arith) q)
    ∙ ap (λ u. u *ℚ over t d) (sym (whole_over (negsuc 0)))
    ∙ by_ring_ℚ (over t d ∷ []) (lit (negsuc 0) ⊗ v0) (minus v0) refl
  where
    one_times : (d : ℕ) → d ≡ 1 * d
    one_times d = omega arith

-- with e = a * g and t = b * g, (a * n - b * p) / (d * a) is n / d - (t / d) * (p / e)
off : (n t p b : ℤ) (d e a g : ℕ) → 0 < d → 0 < e → a * g ≡ e → t ≡ b *ℤ pos g →
    over (pos a *ℤ n -ℤ b *ℤ p) (d * a) ≡ over n d -ℚ over t d *ℚ over p e
off n t p b d e a g q r f h =
    ap (λ z. over z (d * a))
    (by_ring (n ∷ p ∷ b ∷ pos a ∷ []) (v3 ⊗ v0 ⊕ minus (v2 ⊗ v1)) (v0 ⊗ v3 ⊕ minus v2 ⊗ v1) refl)
    ∙ sym (eliminated n t p b d a g q (positive_left a g e f r) (positive_right a g e f r) h)
    ∙ ap₂ (λ u v. over n d +ℚ u *ℚ over p v) (over_neg t d q) f
    ∙ by_ring_ℚ (over n d ∷ over t d ∷ over p e ∷ []) (v0 ⊕ minus v1 ⊗ v2) (v0 ⊕ minus (v1 ⊗ v2)) refl

-- all of a row: a and b are the other row's denominator and the entry over a divisor that they have in common
pub cleared : {T : Type 0} (value : T → ℕ) (old new other : List (Signed T)) (j d e m a b g size : ℕ)
    (negative : Bool) →
    length other ≡ length old → j < length old → 0 < d → 0 < e → a * g ≡ e → b * g ≡ size → m ≡ d * a →
    at value old j ≡ whole negative size →
    ((k : ℕ) → k < length old → at value new k ≡ pos a *ℤ at value old k -ℤ whole negative b *ℤ at value other k) →
    length new ≡ length old →
    AreNow value (λ k. fraction_at value old d k -ℚ fraction_at value old d j *ℚ fraction_at value other e k)
    (length old) new m
cleared value old new other j d e m a b g size negative same column p q f h i t each len =
    record {
      len = len;
      each = λ k l.
          fraction-at value new m k (omega (arith, l, len))
          ∙ ap₂ over (each k l) i
          ∙ off (at value old k) (at value old j) (at value other k) (whole negative b) d e a g p q f
          (t ∙ whole-times negative b g size h)
          ∙ ap₂ (λ u v. u -ℚ v) (sym (fraction-at value old d k l))
          (ap₂ (λ u v. u *ℚ v) (sym (fraction-at value old d j column))
          (sym (fraction-at value other e k (omega (arith, l, same)))));
    }

-- the new denominator, where a is a divisor of a positive number
pub cleared_positive : (d e m a g : ℕ) → 0 < d → 0 < e → a * g ≡ e → m ≡ d * a → 0 < m
cleared_positive d e m a g p q f i = subst (λ n. 0 < n) (sym i) (mul-pos p (positive_left a g e f q))

-- what a list is after a part of it, which was all, was written
pub written : {A : Type 0} (n : ℕ) (xs ys : List A) → length xs ≡ n → take n (xs ++ drop (length xs) ys) ≡ xs
written n xs ys e = ap (λ k. take k (xs ++ drop (length xs) ys)) (sym e) ∙ take-append_seam xs (drop (length xs) ys)

-- A row is cleared where `row` and `by` are what was lent of it and of the other row, and n is how many numbers the
-- first has room for.
pub cleared_written : {T : Type 0} (value : T → ℕ) (old new other row by : List (Signed T)) (j d e m a b g size n : ℕ)
    (negative : Bool) → length other ≡ length old → j < length old → 0 < d → 0 < e → a * g ≡ e → b * g ≡ size →
    m ≡ d * a → at value old j ≡ whole negative size → row ≡ old → by ≡ other → length row ≡ n →
    ((k : ℕ) → k < length row → at value new k ≡ pos a *ℤ at value row k -ℤ whole negative b *ℤ at value by k) →
    length new ≡ length row →
    AreNow value (λ k. fraction_at value old d k -ℚ fraction_at value old d j *ℚ fraction_at value other e k)
    (length old) (take n (new ++ drop (length new) old)) m
cleared_written value old new other row by j d e m a b g size n negative same column p q f h i t r s l each len =
    subst (λ xs. AreNow value
    (λ k. fraction_at value old d k -ℚ fraction_at value old d j *ℚ fraction_at value other e k)
    (length old) xs m) (sym (written n new old (len ∙ l)))
    (cleared value old new other j d e m a b g size negative same column p q f h i t
    (subst₂ (λ x y. (k : ℕ) → k < length x → at value new k ≡ pos a *ℤ at value x k -ℤ whole negative b *ℤ at value y k)
    r s each) (len ∙ ap length r))
