-- A row over one of its entries, and a row without a common divisor, from the numbers that each call gives.
--
-- `turned-whole`: where the sign of a number of magnitude n is changed just if `is_turned`, the number is negated just
--   then.
-- `by_inverse`: where z is the inverse of y, a product with z is one with the inverse of y.
-- `divided`: where each number is the old one, negated if the old number j is negative, and the denominator is the
--   magnitude of number j, the row is the old one divided by its entry in column j.
-- `without`: where each number times g is the old one, and the denominator e times g is the old one, the fractions are
--   as they were.
-- `narrow_fraction`: the fraction of both parts over a common divisor, if it is within 127 bits, is that of the
--   parts.
use Rattle.std.proofs.Common.{◌≡◌, ◌≢◌, ℕ, ◌*◌, ◌<◌, ℤ, pos, ◌*ℤ◌, List, [], ◌∷◌, ◌++◌, length, Bool, true, false}
use Rattle.std.proofs.Common.{not, refl, sym, ap, ap₂, ◌∙◌, subst, arith, unsigned_abs, Option}
use Rattle.std.specs.Prelude.{IfSome}
use Rattle.std.proofs.Math.ListN.{take, drop}
use mathlib.Core.Bool.{beq}
use Rattle.std.proofs.Math.Nat.{mul-pos}
use Rattle.spec_exact.specs.Fraction.{ℚ, 0ℚ, 1ℚ, whole as whole_ℚ, over, inverse, ◌*ℚ◌}
use Rattle.spec_exact.proofs.Ring.{◌⊗◌, minus, lit, v0, v1, v2, v3}
use Rattle.spec_exact.proofs.WholeRing.{by_ring}
use Rattle.spec_exact.proofs.Fraction.{over-same}
use Rattle.spec_exact.proofs.Field.{by_ring_ℚ, over-*, *ℚ_inverse, *ℚ_one, *ℚ_zero, *ℚ_comm, whole_over}
use Rattle.spec_exact.proofs.Coprime.{positive_left, positive_right}
use Rattle.lp_natural.specs.Whole.{whole}
use Rattle.lp_natural.specs.declared.words.signed.Signed.{Signed}
use Rattle.lp_natural.proofs.EliminatedRows.{without_divisor}
use Rattle.lp_rows.specs.Row.{at, fraction_at, turned_if, AreNow}
use Rattle.lp_rows.proofs.Cleared.{fraction-at, written, whole-times}

pub turned-whole : (negative is_turned : Bool) (n : ℕ) →
    whole (not (beq negative is_turned)) n ≡ turned_if is_turned (whole negative n)
turned-whole true true n = by_ring (pos n ∷ []) v0 (minus (minus v0)) refl
turned-whole true false n = refl
turned-whole false true n = refl
turned-whole false false n = refl

-- where a list was lent whole, and the written list has the fractions f over m, so has the list after it is written
-- back
now_written : {T : Type 0} (value : T → ℕ) (f : ℕ → ℚ) (old new row : List (Signed T)) (m size : ℕ) → row ≡ old →
    length row ≡ size → AreNow value f (length old) new m →
    AreNow value f (length old) (take size (new ++ drop (length new) old)) m
now_written value f old new row m size r l n =
    subst (λ xs. AreNow value f (length old) xs m) (sym (written size new old (n.len ∙ sym (ap length r) ∙ l))) n

-- ---- over an entry

-- the fraction 1 is not the fraction 0
one_is_not_zero : 1ℚ ≢ 0ℚ
unfolding whole_ℚ
one_is_not_zero e = absurd (omega (arith, ap (λ (q : ℚ). unsigned_abs q.num) e))

-- a number whose product with some other is 1 is not 0
not_zero : (y z : ℚ) → y *ℚ z ≡ 1ℚ → y ≢ 0ℚ
not_zero y z e h =
    one_is_not_zero (sym e ∙ ap (λ u. u *ℚ z) h ∙ *ℚ_comm 0ℚ z ∙ *ℚ_zero z)

-- the inverse is the only one
pub by_inverse : (x y z : ℚ) → y *ℚ z ≡ 1ℚ → x *ℚ z ≡ x *ℚ inverse y
by_inverse x y z e =
    sym (*ℚ_one (x *ℚ z))
    ∙ ap (λ u. x *ℚ z *ℚ u) (sym (*ℚ_inverse y (not_zero y z e)))
    ∙ by_ring_ℚ (x ∷ z ∷ y ∷ inverse y ∷ []) (v0 ⊗ v1 ⊗ (v2 ⊗ v3)) (v0 ⊗ v3 ⊗ (v2 ⊗ v1)) refl
    ∙ ap (λ u. x *ℚ inverse y *ℚ u) e
    ∙ *ℚ_one (x *ℚ inverse y)

-- s with the sign b, times d negated if b is set, is d * s
turned_square : (b : Bool) (d s : ℕ) → whole b s *ℤ turned_if b (pos d) *ℤ pos 1 ≡ pos 1 *ℤ pos (d * s)
turned_square true d s =
    by_ring (pos s ∷ pos d ∷ []) (minus v0 ⊗ minus v1 ⊗ lit (pos 1)) (lit (pos 1) ⊗ (v1 ⊗ v0)) refl
turned_square false d s = by_ring (pos s ∷ pos d ∷ []) (v0 ⊗ v1 ⊗ lit (pos 1)) (lit (pos 1) ⊗ (v1 ⊗ v0)) refl

-- (n, negated if b) * (d * s) is n * (d, negated if b) * s
turned_cross : (b : Bool) (n : ℤ) (d s : ℕ) → turned_if b n *ℤ pos (d * s) ≡ n *ℤ turned_if b (pos d) *ℤ pos s
turned_cross true n d s = by_ring (n ∷ pos d ∷ pos s ∷ []) (minus v0 ⊗ (v1 ⊗ v2)) (v0 ⊗ minus v1 ⊗ v2) refl
turned_cross false n d s = by_ring (n ∷ pos d ∷ pos s ∷ []) (v0 ⊗ (v1 ⊗ v2)) (v0 ⊗ v1 ⊗ v2) refl

-- where t has the sign b and the magnitude s, n / d over t / d is (n, negated if t is negative) / s
over_entry : (b : Bool) (n : ℤ) (d s : ℕ) → 0 < d → 0 < s →
    over (turned_if b n) s ≡ over n d *ℚ inverse (over (whole b s) d)
over_entry b n d s p q =
    over-same (turned_if b n) (n *ℤ turned_if b (pos d)) s (d * s) q (mul-pos p q) (turned_cross b n d s)
    ∙ sym (over-* n (turned_if b (pos d)) d s p q)
    ∙ by_inverse (over n d) (over (whole b s) d) (over (turned_if b (pos d)) s)
    (over-* (whole b s) (turned_if b (pos d)) d s p q
    ∙ over-same (whole b s *ℤ turned_if b (pos d)) (pos 1) (d * s) 1 (mul-pos p q) (omega arith) (turned_square b d s)
    ∙ sym (whole_over (pos 1)))

pub divided : {T : Type 0} (value : T → ℕ) (old new row : List (Signed T)) (j d size s : ℕ) (b : Bool) →
    j < length old → 0 < d → 0 < s → at value old j ≡ whole b s → row ≡ old → length row ≡ size →
    ((k : ℕ) → k < length row → at value new k ≡ turned_if b (at value row k)) → length new ≡ length row →
    AreNow value (λ k. fraction_at value old d k *ℚ inverse (fraction_at value old d j)) (length old)
    (take size (new ++ drop (length new) old)) s
divided value old new row j d size s b column p q t r l each len =
    now_written value _ old new row s size r l
    record {
      len = len ∙ ap length r;
      each = λ k h.
          fraction-at value new s k (omega (arith, h, len, ap length r))
          ∙ ap (λ z. over z s)
          (subst (λ x. (k : ℕ) → k < length x → at value new k ≡ turned_if b (at value x k)) r each k h)
          ∙ over_entry b (at value old k) d s p q
          ∙ ap₂ (λ u v. u *ℚ inverse v) (sym (fraction-at value old d k h))
          (ap (λ z. over z d) (sym t) ∙ sym (fraction-at value old d j column));
    }

-- ---- without a divisor
pub without : {T : Type 0} (value : T → ℕ) (old new row : List (Signed T)) (d e g size : ℕ) → 0 < d → e * g ≡ d →
    row ≡ old → length row ≡ size →
    ((k : ℕ) → k < length row → at value new k *ℤ pos g ≡ at value row k) → length new ≡ length row →
    AreNow value (fraction_at value old d) (length old) (take size (new ++ drop (length new) old)) e
without value old new row d e g size p f r l each len =
    now_written value _ old new row e size r l
    record {
      len = len ∙ ap length r;
      each = λ k h.
          fraction-at value new e k (omega (arith, h, len, ap length r))
          ∙ sym (without_divisor (at value old k) (at value new k) d e g (positive_left e g d f p)
          (positive_right e g d f p)
          (subst (λ x. (k : ℕ) → k < length x → at value new k *ℤ pos g ≡ at value x k) r each k h) f)
          ∙ sym (fraction-at value old d k h);
    }

-- the fraction of both parts without a divisor
pub narrow_fraction : (negative : Bool) (size d p q g : ℕ) (a b : ℤ) (r : Option ℚ) → 0 < d → p * g ≡ size → q * g ≡ d →
    a ≡ whole negative p → b ≡ pos q → ((n : ℕ) → 0 < n → b ≡ pos n → IfSome r (λ f. f ≡ over a n)) →
    IfSome r (λ f. f ≡ over (whole negative size) d)
narrow_fraction negative size d p q g a b r l e f h k each =
    subst (λ z. IfSome r (λ f. f ≡ z))
    (ap (λ z. over z q) h
    ∙ sym (without_divisor (whole negative size) (whole negative p) d q g (positive_left q g d f l)
    (positive_right q g d f l) (sym (whole-times negative p g size e)) f))
    (each q (positive_left q g d f l) k)
