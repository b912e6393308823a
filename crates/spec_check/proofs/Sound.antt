-- What a certificate shows is true.
--
-- `signed-sum_below`: the sum of signed costs times values is the signed sum of costs times values.
-- `optimal_holds`: a feasible point with multipliers that are complementary to it is optimal.
-- `asked_above`: where a multiplier above 0 has its limit, `asked` is the lower limit.
-- `asked_below`: where a multiplier below 0 has its limit, `asked` is the upper limit.
-- `tight_has`: where a value is at the limit that goes with a multiplier's sign, that limit is there.
-- `asked_weighs`: a multiplier times the limit that goes with its sign is the multiplier times any value at that limit.
-- `checks_hold`: what a certificate shows is true where the conditions hold.
use Rattle.std.proofs.Common.{◌≡◌, ℕ, zero, suc, List, Option, Some, IfSome, refl, sym, ap, ◌∙◌, subst, subst₂, Bool}
use Rattle.std.proofs.Common.{true, false, cond}
use Rattle.spec_exact.specs.Fraction.{ℚ, ◌+ℚ◌, ◌*ℚ◌, 0ℚ, ◌≤ℚ◌, ◌<ℚ◌, lt_ℚ}
use Rattle.spec_exact.specs.Sums.{sum_below}
use Rattle.spec_exact.proofs.Order.{≤ℚ_trans, lt_test, not_lt_test, +ℚ_mono, clash_ℚ, <ℚ-le, ≤ℚ_antisym, lt_if}
use Rattle.spec_exact.proofs.Order.{le_if_not}
use Rattle.spec_exact.proofs.Ruleset.{ring, neg-*ℚ, neg-zero, zero-*ℚ}
use Rattle.spec_exact.proofs.Strict.{neg_mono_back}
use Rattle.spec_model.specs.declared.parts.Sense.{Sense}
use Rattle.spec_model.specs.declared.parts.Sense.TheVariants.{Min, Max}
use Rattle.spec_model.specs.Model.{Model, Limits, bounds, cost, width, height, column}
use Rattle.spec_model.specs.Model.{limits, coefficient, part, activity, value_of}
use Rattle.spec_model.specs.Truth.{IsBetween, IsFeasible, IsBetter, IsOptimal, IsInfeasible}
use Rattle.spec_check.specs.declared.certificate.Certificate.{Certificate}
use Rattle.spec_check.specs.declared.certificate.Certificate.TheVariants.{Optimal, Infeasible, Clash, Unbounded}
use Rattle.spec_check.specs.Certificate.{shown, Holds}
use Rattle.spec_check.specs.Checks.{Checks, signed, ChecksOptimal, ChecksInfeasible, asked}
use Rattle.spec_check.specs.Checks.{or_zero, HasLimit, turned_limits, priced, ChecksClash, IsTight}
use Rattle.spec_check.proofs.Duality.{Between, Feasible, optimal, infeasible}
use Rattle.spec_check.proofs.Ray.{unbounded_holds}

-- what holds of the number that an option has, if any, holds of k where the option has k
at_some : (P : ℚ → Type 0) (o : Option ℚ) → IfSome o P → (k : ℚ) → o ≡ Some k → P k
at_some P o h k e = subst (λ o. IfSome o P) e h

-- a number between limits is at least the lower one and at most the upper one, where they are given
between : (l : Limits) (v : ℚ) → IsBetween l v → Between l.lower l.upper v
between l v b = record { low = at_some (λ k. k ≤ℚ v) l.lower b.lower; high = at_some (λ k. v ≤ℚ k) l.upper b.upper }

module _ (m : Model) where
  abbrev below_of : ℕ → Option ℚ
  below_of j = (bounds m j).lower

  abbrev above_of : ℕ → Option ℚ
  above_of j = (bounds m j).upper

  feasible_for : (z : List ℚ) → IsFeasible m z →
      Feasible (width m) (height m) (coefficient m) below_of above_of
      (λ i. (limits m i).lower) (λ i. (limits m i).upper) (part z)
  feasible_for z f = record {
    columns = λ j h. between (bounds m j) (part z j) (f.columns j h);
    rows = λ i h. between (limits m i) (activity m z i) (f.rows i h);
  }

-- ---- the signed cost of a point

-- a signed cost times a number is the signed product of the two
signed_product : (s : Sense) (c z : ℚ) → signed s c *ℚ z ≡ signed s (c *ℚ z)
signed_product Min c z = refl
signed_product Max c z = neg-*ℚ c z

-- for either sense, 0 with the sign of the sense is 0
signed_zero : (s : Sense) → signed s 0ℚ ≡ 0ℚ
signed_zero Min = refl
signed_zero Max = neg-zero

-- a signed sum of two numbers is the sum of the signed numbers
signed_sum : (s : Sense) (a b : ℚ) → signed s (a +ℚ b) ≡ signed s a +ℚ signed s b
signed_sum Min a b = refl
signed_sum Max a b = simp ring

pub signed-sum_below : (s : Sense) (n : ℕ) (c z : ℕ → ℚ) →
    sum_below n (λ j. signed s (c j) *ℚ z j) ≡ signed s (sum_below n (λ j. c j *ℚ z j))
signed-sum_below s zero c z = sym (signed_zero s)
signed-sum_below s (suc n) c z =
    subst₂ (λ a b. a +ℚ b ≡ signed s (sum_below n (λ j. c j *ℚ z j) +ℚ c n *ℚ z n))
    (sym (signed-sum_below s n c z)) (sym (signed_product s (c n) (z n))) (sym (signed_sum s _ _))

-- where v is at most w, both signed, w is no better than v, with the same offset on both
not_better : (s : Sense) (v w off : ℚ) → signed s v ≤ℚ signed s w → ¬ (IsBetter s (w +ℚ off) (v +ℚ off))
not_better Min v w off h b = clash_ℚ _ _ b (+ℚ_mono v w off h)
not_better Max v w off h b = clash_ℚ _ _ b (+ℚ_mono w v off (neg_mono_back w v h))

pub optimal_holds : (m : Model) (x y : List ℚ) → ChecksOptimal m x y → IsOptimal m (value_of m x)
optimal_holds m x y h = record {
  point = (x, h.feasible, refl);
  best = λ z f. not_better m.sense _ _ m.offset
      (subst₂ ◌≤ℚ◌ (signed-sum_below m.sense (width m) (cost m) (part x))
      (signed-sum_below m.sense (width m) (cost m) (part z))
      (optimal (width m) (height m) (coefficient m) (below_of m)
      (above_of m) (λ i. (limits m i).lower) (λ i. (limits m i).upper)
      (λ j. signed m.sense (column m j).cost) (part x) (part y) (part z)
      (λ j p. record { above = (h.columns j p).above; below = (h.columns j p).below })
      (λ i p. record { above = (h.rows i p).above; below = (h.rows i p).below })
      (feasible_for m z f)));
}

-- ---- no point is feasible

-- the limit that a multiplier asks for is there
pub asked_above : (l : Limits) (d : ℚ) → HasLimit l d → 0ℚ <ℚ d → l.lower ≡ Some (asked l d)
asked_above l d h p =
    let b = h.above p in
    b.1 ∙ ap Some (sym (rw (lt_test 0ℚ d p) (ap or_zero b.1)))

pub asked_below : (l : Limits) (d : ℚ) → HasLimit l d → d <ℚ 0ℚ → l.upper ≡ Some (asked l d)
asked_below l d h p =
    let b = h.below p in
    b.1 ∙ ap Some (sym (rw (not_lt_test 0ℚ d (<ℚ-le _ _ p), lt_test d 0ℚ p) (ap or_zero b.1)))

pub tight_has : (l : Limits) (d v : ℚ) → IsTight l d v → HasLimit l d
tight_has l d v t = record { above = λ h. (v, t.above h); below = λ h. (v, t.below h) }

pub asked_weighs : (l : Limits) (d v : ℚ) → IsTight l d v → d *ℚ asked l d ≡ d *ℚ v
asked_weighs l d v t = by (lt_ℚ 0ℚ d) (lt_ℚ d 0ℚ) refl refl
  where
    by : (a b : Bool) → lt_ℚ 0ℚ d ≡ a → lt_ℚ d 0ℚ ≡ b →
        d *ℚ cond a (or_zero l.lower) (cond b (or_zero l.upper) 0ℚ) ≡ d *ℚ v
    by true b p q = ap (λ o. d *ℚ or_zero o) (t.above (lt_if 0ℚ d p))
    by false true p q = ap (λ o. d *ℚ or_zero o) (t.below (lt_if d 0ℚ q))
    by false false p q =
        let e : d ≡ 0ℚ = ≤ℚ_antisym d 0ℚ (le_if_not 0ℚ d p) (le_if_not d 0ℚ q) in
        ap (λ z. z *ℚ 0ℚ) e ∙ zero-*ℚ 0ℚ ∙ sym (ap (λ z. z *ℚ v) e ∙ zero-*ℚ v)

-- where Farkas multipliers check, the model is infeasible
infeasible_holds : (m : Model) (y : List ℚ) → ChecksInfeasible m y → IsInfeasible m
infeasible_holds m y h z f =
    infeasible (width m) (height m) (coefficient m) (below_of m)
    (above_of m) (λ i. (limits m i).lower) (λ i. (limits m i).upper)
    (part y) (λ i. asked (limits m i) (part y i)) (λ j. asked (turned_limits (bounds m j)) (priced m y j)) (part z)
    (λ i k. record {
      above = asked_above (limits m i) (part y i) (h.rows i k);
      below = asked_below (limits m i) (part y i) (h.rows i k);
    })
    (λ j k. record {
      above = asked_above (turned_limits (bounds m j)) (priced m y j) (h.columns j k);
      below = asked_below (turned_limits (bounds m j)) (priced m y j) (h.columns j k);
    })
    h.less
    (feasible_for m z f)

-- where a column's bounds check to be a clash, the model is infeasible
clash_holds : (m : Model) (j : ℕ) → ChecksClash m j → IsInfeasible m
clash_holds m j h z f =
    let b : IsBetween (bounds m j) (part z j) = f.columns j h.inside in
    clash_ℚ h.high h.low h.crossed
    (≤ℚ_trans h.low (part z j) h.high (at_some (λ k. k ≤ℚ part z j) (bounds m j).lower b.lower h.low h.lower)
    (at_some (λ k. part z j ≤ℚ k) (bounds m j).upper b.upper h.high h.upper))

pub checks_hold : (m : Model) (cert : Certificate (List ℚ)) → Checks m cert → Holds m (shown m cert)
checks_hold m (Optimal x y) h = optimal_holds m x y h
checks_hold m (Infeasible y) h = infeasible_holds m y h
checks_hold m (Clash j) h = clash_holds m j h
checks_hold m (Unbounded x r) h = unbounded_holds m x r h
