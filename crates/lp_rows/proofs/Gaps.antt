-- The gap between a basic value and the bound toward which it moves, as a fraction.
--
-- `together`: on one denominator, the difference of two fractions is that of their numerators.
-- `wider`: a fraction is as it was where both its parts are multiplied by a number above 0.
-- `difference_is`: without a limit, the difference of two fractions is not refused, and exact.
-- `rises`: the gap of whole numbers up to the upper bound is the gap of the ratio test for a value that rises.
-- `falls`: the gap of whole numbers down to the lower bound is the gap of the ratio test for a value that falls.
-- `goes_up`: where the basic column rises, the gap to its upper bound, if within the width, is that by its direction.
-- `goes_down`: where the basic column falls, the gap to its lower bound, if within the width, is that by its
--   direction.
use Rattle.std.proofs.Common.{◌≡◌, ℕ, ◌*◌, ◌<◌, ℤ, pos, neg_ℤ, ◌*ℤ◌, ◌-ℤ◌, [], ◌∷◌, refl, sym, ap, ◌∙◌, Option, Some}
use Rattle.std.proofs.Common.{None, Result, Ok, Err, IfOk, Ordering, Less, Greater}
use Rattle.std.proofs.Math.Nat.{mul-pos}
use Rattle.spec_exact.specs.Fraction.{ℚ, over, ◌+ℚ◌, ◌-ℚ◌}
use Rattle.spec_exact.specs.Answer.{told}
use Rattle.spec_exact.specs.Run.{Run, ◌>>=◌, difference_run}
use Rattle.spec_exact.specs.declared.past.Op.TheVariants.{Sub}
use Rattle.spec_exact.proofs.Ring.{◌⊕◌, ◌⊗◌, minus, v0, v1, v2}
use Rattle.spec_exact.proofs.WholeRing.{by_ring}
use Rattle.spec_exact.proofs.Fraction.{over-same}
use Rattle.spec_exact.proofs.Field.{over-+}
use Rattle.spec_exact.proofs.Limit.{sub_unlimited}
use Rattle.spec_pivot.specs.declared.status.Status.{Status}
use Rattle.spec_pivot.specs.declared.status.Status.TheVariants.{AtUpper, AtLower}
use Rattle.spec_pivot.specs.declared.status.Way.TheVariants.{Up, Down}
use Rattle.spec_simplex.specs.Step.{rise_run, fall_run}
use Rattle.lp_natural.specs.Whole.{whole}
use Rattle.lp_natural.specs.declared.words.signed.Signed.{Signed}
use Rattle.lp_rows.specs.Ratio.{bound_of, gap_of, gap_by, IsGap}
use Rattle.lp_rows.specs.declared.ratio.Gap.{Gap}
use Rattle.lp_rows.specs.declared.overflow.Overflow.{Overflow}
use Rattle.lp_rows.proofs.Cleared.{over_neg}

-- on one denominator
pub together : (n m : ℤ) (k : ℕ) → 0 < k → over n k -ℚ over m k ≡ over (n -ℤ m) k
together n m k p =
    ap (λ z. over n k +ℚ z) (sym (over_neg m k p))
    ∙ over-+ n (neg_ℤ m) k k p p
    ∙ over-same _ _ (k * k) k (mul-pos p p) p
    (by_ring (n ∷ m ∷ pos k ∷ []) ((v0 ⊗ v2 ⊕ minus v1 ⊗ v2) ⊗ v2) ((v0 ⊕ minus v1) ⊗ (v2 ⊗ v2)) refl)

pub wider : (n : ℤ) (d e : ℕ) → 0 < d → 0 < e → over n d ≡ over (n *ℤ pos e) (d * e)
wider n d e p q =
    over-same n (n *ℤ pos e) d (d * e) p (mul-pos p q)
    (by_ring (n ∷ pos d ∷ pos e ∷ []) (v0 ⊗ (v1 ⊗ v2)) (v0 ⊗ v2 ⊗ v1) refl)

pub difference_is : (v w : ℚ) → ◌≡◌ {A = Run ℚ} (difference_run None v w) (Ok (v -ℚ w))
difference_is v w = ap (told Sub v w) (sub_unlimited v w)

pub rises : {T : Type 0} (value : T → ℕ) (d e : ℕ) (upper : Option (Signed T)) (v : Signed T) (g : Option (Gap T)) →
    0 < d → 0 < e → IsGap value Up upper v e AtUpper g →
    rise_run None (bound_of value d upper) (over (whole v.negative (value v.size)) (d * e)) ≡ Ok (gap_of value d e g)
rises value d e None v None p q h = refl
rises value d e None v (Some g) p q h = absurd h
rises value d e (Some b) v None p q h = absurd h
rises value d e (Some b) v (Some g) p q h =
    let n = whole b.negative (value b.size) in
    let m = whole v.negative (value v.size) in
    ap (λ (r : Run ℚ). r >>= λ gap. Ok (Some (gap, AtUpper)))
    (difference_is (over n d) (over m (d * e))
    ∙ ap (λ (z : ℚ). Ok z) (ap (λ z. z -ℚ over m (d * e)) (wider n d e p q)
    ∙ together (n *ℤ pos e) m (d * e) (mul-pos p q)
    ∙ ap (λ z. over z (d * e)) (sym h.0)))
    ∙ ap (λ (s : Status). Ok (Some (over (whole g.size.negative (value g.size.size)) (d * e), s))) (sym h.1)

pub falls : {T : Type 0} (value : T → ℕ) (d e : ℕ) (lower : Option (Signed T)) (v : Signed T) (g : Option (Gap T)) →
    0 < d → 0 < e → IsGap value Down lower v e AtLower g →
    fall_run None (bound_of value d lower) (over (whole v.negative (value v.size)) (d * e)) ≡ Ok (gap_of value d e g)
falls value d e None v None p q h = refl
falls value d e None v (Some g) p q h = absurd h
falls value d e (Some b) v None p q h = absurd h
falls value d e (Some b) v (Some g) p q h =
    let n = whole b.negative (value b.size) in
    let m = whole v.negative (value v.size) in
    ap (λ (r : Run ℚ). r >>= λ gap. Ok (Some (gap, AtLower)))
    (difference_is (over m (d * e)) (over n d)
    ∙ ap (λ (z : ℚ). Ok z) (ap (λ z. over m (d * e) -ℚ z) (wider n d e p q)
    ∙ together m (n *ℤ pos e) (d * e) (mul-pos p q)
    ∙ ap (λ z. over z (d * e)) (sym h.0)))
    ∙ ap (λ (s : Status). Ok (Some (over (whole g.size.negative (value g.size.size)) (d * e), s))) (sym h.1)

-- the gap of a column that rises, and of one that falls
pub goes_up : {T : Type 0} (value : T → ℕ) (goes : Ordering) (e : ℕ) (lower upper : Option (Signed T)) (v : Signed T)
    (r : Result (Option (Gap T)) Overflow) → goes ≡ Less → 0 < e → IfOk r (λ g. IsGap value Up upper v e AtUpper g) →
    IfOk r (λ g. (d : ℕ) → 0 < d → gap_by goes (bound_of value d lower) (bound_of value d upper)
    (over (whole v.negative (value v.size)) (d * e)) ≡ Ok (gap_of value d e g))
goes_up value goes e lower upper v (Err o) h q k = k
goes_up value goes e lower upper v (Ok g) h q k =
    λ d p.
    ap (λ (o : Ordering). gap_by o (bound_of value d lower) (bound_of value d upper)
    (over (whole v.negative (value v.size)) (d * e))) h
    ∙ rises value d e upper v g p q k

pub goes_down : {T : Type 0} (value : T → ℕ) (goes : Ordering) (e : ℕ) (lower upper : Option (Signed T)) (v : Signed T)
    (r : Result (Option (Gap T)) Overflow) → goes ≡ Greater → 0 < e → IfOk r (λ g. IsGap value Down lower v e AtLower g) →
    IfOk r (λ g. (d : ℕ) → 0 < d → gap_by goes (bound_of value d lower) (bound_of value d upper)
    (over (whole v.negative (value v.size)) (d * e)) ≡ Ok (gap_of value d e g))
goes_down value goes e lower upper v (Err o) h q k = k
goes_down value goes e lower upper v (Ok g) h q k =
    λ d p.
    ap (λ (o : Ordering). gap_by o (bound_of value d lower) (bound_of value d upper)
    (over (whole v.negative (value v.size)) (d * e))) h
    ∙ falls value d e lower v g p q k
