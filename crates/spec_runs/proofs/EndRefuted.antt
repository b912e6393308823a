-- A row of the form's equations that shows that no values solve them within the bounds is a certificate of the model.
use Rattle.std.proofs.Common.{◌≡◌, ℕ, ◌+◌, ◌<◌, List, Option, Some, refl, sym, ap, ◌∙◌, subst, arith}
use Rattle.spec_exact.specs.Fraction.{ℚ, ◌+ℚ◌, ◌-ℚ◌, ◌*ℚ◌, neg_ℚ, 0ℚ, 1ℚ, ◌<ℚ◌}
use Rattle.spec_exact.specs.Sums.{sum_below}
use Rattle.spec_exact.proofs.Field.{+ℚ_zero, *ℚ_zero}
use Rattle.spec_exact.proofs.Ruleset.{ring, zero-+ℚ, zero-*ℚ, neg-neg}
use Rattle.spec_exact.proofs.Strict.{by_sign}
use Rattle.spec_exact.proofs.Sums.{sum_below_same, sum_below_none, neg-sum_below}
use Rattle.spec_model.specs.Model.{Model, width, height, coefficient, part}
use Rattle.spec_check.specs.Checks.{priced, IsTight, ChecksInfeasible}
use Rattle.spec_pivot.specs.Simplex.{Bounds}
use Rattle.spec_simplex.specs.Form.{formed}
use Rattle.spec_simplex.proofs.ColumnKinds.{sum_by_kind}
use Rattle.spec_simplex.proofs.FormOfModel.{Limited}
use Rattle.spec_runs.proofs.EndInfeasible.{checks_by_values}
use Rattle.spec_simplex.proofs.FormOfModel.{HasBounds}
use Rattle.spec_runs.proofs.EndTight.{limits_at, bounds_structural, bounds_logical, weight_at, column_at}
use Rattle.spec_pivot.specs.Dual.{Refutes}
use Rattle.spec_runs.specs.Based.{equations}

module _ (m : Model) (ls : List (Option ℚ × Option ℚ)) (h : Limited m ls) (b : Bounds) (bs : HasBounds (formed m ls) b)
    (fixed : (i : ℕ) → i < height m →
    (b.lower (width m + height m + i) ≡ Some 0ℚ) × (b.upper (width m + height m + i) ≡ Some 0ℚ))
    (a stops : ℕ → ℚ) (refutes : Refutes (height m) (width m + height m + height m) (equations (formed m ls)) b a stops)
    (y : List ℚ) (y_at : (i : ℕ) → i < height m → part y i ≡ a (width m + i)) where
  abbrev w : ℕ
  w = width m

  abbrev r : ℕ
  r = height m

  -- entry k of the row is 0 less the sum, over the rows, of minus a row's weight times its entry k
  less : (k : ℕ) → a k ≡ 0ℚ -ℚ sum_below r (λ i. neg_ℚ (refutes.weights i) *ℚ equations (formed m ls) i k)
  less k =
      refutes.combined k ∙ sym (neg-neg _)
      ∙ ap neg_ℚ (neg-sum_below r (λ i. refutes.weights i *ℚ equations (formed m ls) i k)
      ∙ sum_below_same r _ _ (λ i _. turn (refutes.weights i) (equations (formed m ls) i k)))
      ∙ sym (zero-+ℚ _)
    where
      turn : (w f : ℚ) → neg_ℚ (w *ℚ f) ≡ neg_ℚ w *ℚ f
      turn w f = simp ring

  multiplier : (i : ℕ) → i < r → part y i ≡ neg_ℚ (neg_ℚ (refutes.weights i))
  multiplier i p = y_at i p ∙ weight_at m ls h (λ _. 1ℚ) (λ _. 0ℚ) a (λ i. neg_ℚ (refutes.weights i)) less i p refl

  priced_at : (j : ℕ) → j < w → a j ≡ neg_ℚ (priced m y j)
  priced_at j p =
      column_at m ls h (λ _. 1ℚ) (λ _. 0ℚ) a (λ i. neg_ℚ (refutes.weights i)) less j p
      ∙ ap (λ c. 0ℚ -ℚ c) (sum_below_same r _ (λ i. part y i *ℚ coefficient m i j)
      (λ i q. ap (λ a. a *ℚ coefficient m i j) (sym (multiplier i q))))
      ∙ zero-+ℚ _

  tight_at : (k : ℕ) → k < w + r + r → IsTight (limits_at b k) (a k) (stops k)
  tight_at k l = record { above = refutes.above k l; below = refutes.below k l }

  A : ℚ
  A = sum_below w (λ j. a j *ℚ stops j)

  B : ℚ
  B = sum_below r (λ i. a (w + i) *ℚ stops (w + i))

  -- an artificial column's entry times the value at which it stops is 0
  no_part : (i : ℕ) → i < r → a (w + r + i) *ℚ stops (w + r + i) ≡ 0ℚ
  no_part i p =
      by_sign (a (w + r + i))
      (λ q. none (let z : Some 0ℚ ≡ Some (stops (w + r + i)) =
      sym (fixed i p).0 ∙ refutes.above (w + r + i) (omega (arith, p)) q in cc))
      (λ q. none (let z : Some 0ℚ ≡ Some (stops (w + r + i)) =
      sym (fixed i p).1 ∙ refutes.below (w + r + i) (omega (arith, p)) q in cc))
      (λ e. ap (λ d. d *ℚ stops (w + r + i)) e ∙ zero-*ℚ _)
    where
      none : 0ℚ ≡ stops (w + r + i) → a (w + r + i) *ℚ stops (w + r + i) ≡ 0ℚ
      none e = ap (λ v. a (w + r + i) *ℚ v) (sym e) ∙ *ℚ_zero _

  balance : sum_below (w + r + r) (λ k. a k *ℚ stops k) ≡ A +ℚ B
  unfolding A B
  balance =
      sum_by_kind w r (λ k. a k *ℚ stops k)
      ∙ ap (λ z. (sum_below w (λ j. a j *ℚ stops j) +ℚ sum_below r (λ i. a (w + i) *ℚ stops (w + i))) +ℚ z)
      (sum_below_none r _ no_part) ∙ +ℚ_zero _

  pub refuted_checks : ChecksInfeasible m y
  unfolding A B
  refuted_checks =
      checks_by_values m y a stops y_at priced_at
      (λ i p. bounds_logical m ls h (λ _. 1ℚ) b bs (λ x. IsTight x (a (w + i)) (stops (w + i))) i p
      (tight_at (w + i) (omega (arith, p))))
      (λ j p. bounds_structural m ls h (λ _. 1ℚ) b bs (λ x. IsTight x (a j) (stops j)) j p
      (tight_at j (omega (arith, p))))
      (subst (λ z. 0ℚ <ℚ z) balance refutes.positive)
