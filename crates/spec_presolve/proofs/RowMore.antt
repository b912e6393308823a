-- A model with one row more.
use Rattle.std.proofs.Common.{◌≡◌, ℕ, suc, ◌<◌, ◌≤◌, List, length}
use Rattle.std.proofs.Common.{sym, ap, ap₂, ◌∙◌, subst, subst₂, arith}
use Rattle.std.specs.List.{insert}
use Rattle.std.proofs.lemmas.List.Edits.{length-insert}
use Rattle.spec_exact.specs.Fraction.{ℚ, ◌+ℚ◌, ◌-ℚ◌, ◌*ℚ◌}
use Rattle.spec_exact.specs.Sums.{sum_below}
use Rattle.spec_exact.proofs.Ruleset.{ring}
use Rattle.spec_exact.proofs.Sums.{sum_below_same}
use Rattle.spec_model.specs.Model.{Model, width, height, bounds, limits, cost, coefficient, part}
use Rattle.spec_model.specs.Model.{activity, cost_of, value_of}
use Rattle.spec_model.specs.Truth.{IsBetween, IsFeasible}
use Rattle.spec_edit.specs.Meaning.{skipping}
use Rattle.spec_check.specs.Checks.{signed, priced, reduced, IsTight, HasLimit, Allows, asked, rows_ask}
use Rattle.spec_presolve.proofs.Skips.{by_skip, part_at, part_skipping, sum_skipping}

-- m has row i more than n, and may have other bounds
pub record HasRow (m n : Model) (i : ℕ) : Type 0 where
  pub inside : i ≤ height n
  pub height_is : height m ≡ suc (height n)
  pub width_is : width m ≡ width n
  pub sense_is : m.sense ≡ n.sense
  pub offset_is : m.offset ≡ n.offset
  pub limits_are : (a : ℕ) → limits m (skipping i a) ≡ limits n a
  pub coefficients_are : (a k : ℕ) → coefficient m (skipping i a) k ≡ coefficient n a k
  pub costs_are : (k : ℕ) → cost m k ≡ cost n k

module _ (m n : Model) (i : ℕ) (h : HasRow m n i) where
  pub length_more : (y : List ℚ) (v : ℚ) → length y ≡ height n → length (insert y i v) ≡ height m
  length_more y v e =
      let a = length-insert y i v (subst (λ l. i ≤ l) (sym e) h.inside) in
      let b = h.height_is in
      omega (arith, a, b, e)

  -- all rows are row i, or rows of n
  pub each_row : (P : ℕ → Type 0) → P i → ((a : ℕ) → a < height n → P (skipping i a)) → (a : ℕ) → a < height m → P a
  each_row P at others a l =
      by_skip P (height n) i at others h.inside a (let e = h.height_is in omega (arith, e, l))

  pub activity_other : (x : List ℚ) (a : ℕ) → activity m x (skipping i a) ≡ activity n x a
  activity_other x a =
      ap (λ w. sum_below w (λ k. coefficient m (skipping i a) k *ℚ part x k)) h.width_is
      ∙ sum_below_same (width n) (λ k. coefficient m (skipping i a) k *ℚ part x k) (λ k. coefficient n a k *ℚ part x k)
      (λ k _. ap (λ c. c *ℚ part x k) (h.coefficients_are a k))

  pub priced_more : (y : List ℚ) (v : ℚ) (k : ℕ) → length y ≡ height n →
      priced m (insert y i v) k ≡ priced n y k +ℚ v *ℚ coefficient m i k
  priced_more y v k e =
      let l : i ≤ length y = subst (λ l. i ≤ l) (sym e) h.inside in
      ap (λ r. sum_below r (λ a. part (insert y i v) a *ℚ coefficient m a k)) h.height_is
      ∙ sum_skipping (height n) i (λ a. part (insert y i v) a *ℚ coefficient m a k) h.inside
      ∙ ap₂ ◌+ℚ◌
      (sum_below_same (height n) (λ a. part (insert y i v) (skipping i a) *ℚ coefficient m (skipping i a) k)
      (λ a. part y a *ℚ coefficient n a k)
      (λ a _. ap₂ ◌*ℚ◌ (part_skipping y i a v l) (h.coefficients_are a k)))
      (ap (λ w. w *ℚ coefficient m i k) (part_at y i v l))

  less_both : (c s t : ℚ) → c -ℚ (s +ℚ t) ≡ (c -ℚ s) -ℚ t
  less_both c s t = simp ring

  pub reduced_more : (y : List ℚ) (v : ℚ) (k : ℕ) → length y ≡ height n →
      reduced m (insert y i v) k ≡ reduced n y k -ℚ v *ℚ coefficient m i k
  reduced_more y v k e =
      ap₂ ◌-ℚ◌ (ap₂ signed h.sense_is (h.costs_are k)) (priced_more y v k e)
      ∙ less_both (signed n.sense (cost n k)) (priced n y k) (v *ℚ coefficient m i k)

  pub feasible_more : (x : List ℚ) → IsFeasible n x →
      ((k : ℕ) → k < width n → IsBetween (bounds n k) (part x k) → IsBetween (bounds m k) (part x k)) →
      IsBetween (limits m i) (activity m x i) → IsFeasible m x
  feasible_more x f b r = record {
    one_each = f.one_each ∙ sym h.width_is;
    columns = λ k l. let p = subst (λ w. k < w) h.width_is l in b k p (f.columns k p);
    rows = each_row (λ a. IsBetween (limits m a) (activity m x a)) r
        (λ a l. subst₂ IsBetween (sym (h.limits_are a)) (sym (activity_other x a)) (f.rows a l));
  }

  pub tight_rows : (x y : List ℚ) (v : ℚ) → length y ≡ height n →
      ((a : ℕ) → a < height n → IsTight (limits n a) (part y a) (activity n x a)) →
      IsTight (limits m i) v (activity m x i) →
      (a : ℕ) → a < height m → IsTight (limits m a) (part (insert y i v) a) (activity m x a)
  tight_rows x y v e t r =
      let l : i ≤ length y = subst (λ l. i ≤ l) (sym e) h.inside in
      each_row (λ a. IsTight (limits m a) (part (insert y i v) a) (activity m x a))
      (subst (λ w. IsTight (limits m i) w (activity m x i)) (sym (part_at y i v l)) r)
      (λ a p. subst (λ w. IsTight (limits m (skipping i a)) w (activity m x (skipping i a))) (sym (part_skipping y i a v l))
      (subst₂ (λ b z. IsTight b (part y a) z) (sym (h.limits_are a)) (sym (activity_other x a)) (t a p)))

  pub has_limits : (y : List ℚ) (v : ℚ) → length y ≡ height n →
      ((a : ℕ) → a < height n → HasLimit (limits n a) (part y a)) → HasLimit (limits m i) v →
      (a : ℕ) → a < height m → HasLimit (limits m a) (part (insert y i v) a)
  has_limits y v e t r =
      let l : i ≤ length y = subst (λ l. i ≤ l) (sym e) h.inside in
      each_row (λ a. HasLimit (limits m a) (part (insert y i v) a))
      (subst (λ w. HasLimit (limits m i) w) (sym (part_at y i v l)) r)
      (λ a p. subst₂ HasLimit (sym (h.limits_are a)) (sym (part_skipping y i a v l)) (t a p))

  pub asks_more : (y : List ℚ) (v : ℚ) → length y ≡ height n →
      rows_ask m (insert y i v) ≡ rows_ask n y +ℚ v *ℚ asked (limits m i) v
  asks_more y v e =
      let l : i ≤ length y = subst (λ l. i ≤ l) (sym e) h.inside in
      ap (λ r. sum_below r (λ a. part (insert y i v) a *ℚ asked (limits m a) (part (insert y i v) a))) h.height_is
      ∙ sum_skipping (height n) i (λ a. part (insert y i v) a *ℚ asked (limits m a) (part (insert y i v) a)) h.inside
      ∙ ap₂ ◌+ℚ◌
      (sum_below_same (height n)
      (λ a. part (insert y i v) (skipping i a) *ℚ asked (limits m (skipping i a)) (part (insert y i v) (skipping i a)))
      (λ a. part y a *ℚ asked (limits n a) (part y a))
      (λ a _. ap₂ (λ w b. w *ℚ asked b w) (part_skipping y i a v l) (h.limits_are a)))
      (ap (λ w. w *ℚ asked (limits m i) w) (part_at y i v l))

  pub allows_rows : (r : List ℚ) → ((a : ℕ) → a < height n → Allows (limits n a) (activity n r a)) →
      Allows (limits m i) (activity m r i) → (a : ℕ) → a < height m → Allows (limits m a) (activity m r a)
  allows_rows r t at =
      each_row (λ a. Allows (limits m a) (activity m r a)) at
      (λ a p. subst₂ Allows (sym (h.limits_are a)) (sym (activity_other r a)) (t a p))

  pub cost_same : (x : List ℚ) → cost_of m x ≡ cost_of n x
  cost_same x =
      ap (λ w. sum_below w (λ k. cost m k *ℚ part x k)) h.width_is
      ∙ sum_below_same (width n) (λ k. cost m k *ℚ part x k) (λ k. cost n k *ℚ part x k)
      (λ k _. ap (λ c. c *ℚ part x k) (h.costs_are k))

  pub value_same : (x : List ℚ) → value_of m x ≡ value_of n x
  value_same x = ap₂ ◌+ℚ◌ (cost_same x) h.offset_is
