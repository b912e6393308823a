-- A ratio without a division, and the gap by the sign of an entry.
--
-- `ratio_is`: g / (d * e) over the magnitude s / e of an entry is g / (d * s).
-- `stops`: a position with the gap g / (d * e) is compared with the best one before it by the ratio g / (d * s).
-- `gap_run_is`: where o is the sign of n in the column's direction, the gap of the ratio test for the entry n / e is
--   the gap by o.
use Rattle.std.proofs.Common.{◌≡◌, ℕ, ◌*◌, ◌<◌, ℤ, pos, neg_ℤ, ◌*ℤ◌, [], ◌∷◌, refl, sym, ap, subst, ◌∙◌, arith, Bool}
use Rattle.std.proofs.Common.{true, false, Option, Some, None, Ok, cond, ap₂, int_cmp, Ordering, Less, Equal}
use Rattle.std.proofs.Common.{Greater}
use Rattle.spec_exact.specs.Answer.{told}
use Rattle.spec_exact.specs.Run.{Run, ◌>>=◌}
use Rattle.spec_exact.specs.declared.past.Op.TheVariants.{Div}
use Rattle.spec_exact.proofs.Limit.{div_unlimited}
use Rattle.spec_pivot.specs.declared.status.Status.{Status}
use Rattle.spec_pivot.specs.declared.status.Way.{Way}
use Rattle.spec_pivot.specs.declared.status.Way.TheVariants.{Up, Down}
use Rattle.spec_simplex.specs.declared.ends.Best.{Best}
use Rattle.spec_simplex.specs.Step.{with_gap, better_run, rise_run, fall_run, gap_run}
use Rattle.std.proofs.lemmas.Int.{ints}
use Rattle.std.proofs.Math.Nat.{mul-pos}
use Rattle.spec_exact.specs.Fraction.{ℚ, 0ℚ, over, neg_ℚ, inverse, abs_ℚ, lt_ℚ, ◌*ℚ◌, ◌≤ℚ◌}
use Rattle.spec_exact.proofs.Ring.{◌⊗◌, minus, lit, v0, v1, v2, v3}
use Rattle.spec_exact.proofs.WholeRing.{by_ring}
use Rattle.spec_exact.proofs.Fraction.{over-same}
use Rattle.spec_exact.proofs.Field.{by_ring_ℚ, over-*, whole_over}
use Rattle.spec_exact.proofs.Order.{≤ℚ-over}
use Rattle.spec_exact.proofs.Strict.{neg_mono}
use Rattle.spec_exact.proofs.Magnitudes.{abs_above, abs_at_most}
use Rattle.lp_natural.specs.Whole.{whole}
use Rattle.spec_exact.specs.Limit.{sign}
use Rattle.spec_exact.proofs.FractionSigns.{below_zero, above_zero}
use Rattle.std.specs.Ordering.{is_lt, is_gt}
use Rattle.lp_ratio.proofs.Fractions.{sign_over}
use Rattle.lp_rows.specs.Row.{toward}
use Rattle.lp_rows.specs.Ratio.{gap_by}
use Rattle.lp_rows.proofs.Cleared.{over_neg}
use Rattle.lp_rows.proofs.Divided.{by_inverse}

-- a natural number over a positive denominator is at least 0
not_below : (s e : ℕ) → 0 < e → 0ℚ ≤ℚ over (pos s) e
not_below s e p =
    subst (λ z. z ≤ℚ over (pos s) e) (sym (whole_over (pos 0)))
    (≤ℚ-over (pos 0) (pos s) 1 e (omega arith) p (omega (arith, ints)))

-- the magnitude of a number with a sign, over a positive denominator, is its magnitude over the denominator
abs_over : (b : Bool) (s e : ℕ) → 0 < e → abs_ℚ (over (whole b s) e) ≡ over (pos s) e
abs_over false s e p = abs_above (over (pos s) e) (not_below s e p)
abs_over true s e p =
    abs_at_most (over (neg_ℤ (pos s)) e)
    (subst (λ z. z ≤ℚ 0ℚ) (sym (over_neg (pos s) e p))
    (subst (λ z. neg_ℚ (over (pos s) e) ≤ℚ z) (by_ring_ℚ [] (minus (lit (pos 0))) (lit (pos 0)) refl)
    (neg_mono 0ℚ (over (pos s) e) (not_below s e p))))
    ∙ ap neg_ℚ (over_neg (pos s) e p)
    ∙ by_ring_ℚ (over (pos s) e ∷ []) (minus (minus v0)) v0 refl

-- g / (d e) over the magnitude of an entry t / e, of which the magnitude is s
pub ratio_is : (g : ℤ) (d e s : ℕ) (b : Bool) → 0 < d → 0 < e → 0 < s →
    over g (d * e) *ℚ inverse (abs_ℚ (over (whole b s) e)) ≡ over g (d * s)
ratio_is g d e s b p q r =
    ap (λ z. over g (d * e) *ℚ inverse z) (abs_over b s e q)
    ∙ sym (by_inverse (over g (d * e)) (over (pos s) e) (over (pos e) s)
    (over-* (pos s) (pos e) e s q r
    ∙ over-same (pos s *ℤ pos e) (pos 1) (e * s) 1 (mul-pos q r) (omega arith)
    (by_ring (pos s ∷ pos e ∷ []) (v0 ⊗ v1 ⊗ lit (pos 1)) (lit (pos 1) ⊗ (v1 ⊗ v0)) refl)
    ∙ sym (whole_over (pos 1))))
    ∙ over-* g (pos e) (d * e) s (mul-pos p q) r
    ∙ over-same (g *ℤ pos e) g (d * e * s) (d * s) (mul-pos (mul-pos p q) r) (mul-pos p r)
    (by_ring (g ∷ pos d ∷ pos e ∷ pos s ∷ []) (v0 ⊗ v2 ⊗ (v1 ⊗ v3)) (v0 ⊗ (v1 ⊗ v2 ⊗ v3)) refl)

-- what stops the column in a position
pub stops : (g : ℤ) (d e s : ℕ) (b : Bool) (i k : ℕ) (to : Status) (best : Option (Best ℚ)) → 0 < d → 0 < e → 0 < s →
    with_gap None i k (over (whole b s) e) best (Some (over g (d * e), to)) ≡
    better_run None (record { ratio = over g (d * s); col = k; place = Some i; to = to }) best
stops g d e s b i k to best p q r =
    ap (λ (a : Run ℚ). a >>= λ ratio. better_run None (record { ratio = ratio; col = k; place = Some i; to = to }) best)
    (ap (told Div (over g (d * e)) (abs_ℚ (over (whole b s) e)))
    (div_unlimited (over g (d * e)) (abs_ℚ (over (whole b s) e)) ∙ ap (λ (z : ℚ). Some z) (ratio_is g d e s b p q r)))

-- where o is the sign of the entry d, the gap by o is the one by comparing d with 0: that to the upper bound if d is
-- below 0, to the lower if above, and none if d is 0
gap_at : (d : ℚ) (o : Ordering) (lower upper : Option ℚ) (v : ℚ) → o ≡ sign d →
    cond (lt_ℚ d 0ℚ) (rise_run None upper v) (cond (lt_ℚ 0ℚ d) (fall_run None lower v) (Ok None)) ≡
    gap_by o lower upper v
gap_at d o lower upper v e =
    ap₂ (λ a b. cond a (rise_run None upper v) (cond b (fall_run None lower v) (Ok None)))
    (sym (below_zero d o e)) (sym (above_zero d o e))
    ∙ by o
  where
    by : (o : Ordering) →
        cond (is_lt o) (rise_run None upper v) (cond (is_gt o) (fall_run None lower v) (Ok None)) ≡
        gap_by o lower upper v
    by Less = refl
    by Equal = refl
    by Greater = refl

pub gap_run_is : (way : Way) (n : ℤ) (e : ℕ) (o : Ordering) (lower upper : Option ℚ) (v : ℚ) → 0 < e →
    o ≡ int_cmp (toward way n) (pos 0) → gap_run None way (over n e) lower upper v ≡ gap_by o lower upper v
gap_run_is Up n e o lower upper v p h = gap_at (over n e) o lower upper v (h ∙ sym (sign_over n e p))
gap_run_is Down n e o lower upper v p h =
    gap_at (neg_ℚ (over n e)) o lower upper v (h ∙ sym (sign_over (neg_ℤ n) e p) ∙ ap sign (over_neg n e p))
