-- Columns with equal bounds; and costs at a point that solves the rows.
--
-- `fixed_or_not`: a column has two equal bounds, or it has not.
-- `costs_agree`: costs and reduced costs have one sum at a point that solves the rows.
use Rattle.std.proofs.Common.{◌≡◌, ℕ, ◌<◌, ◌⊎◌, Option, Some, None, refl, sym, ap, ◌∙◌, subst, inl, inr}
use Rattle.spec_exact.specs.Fraction.{ℚ, ◌-ℚ◌, ◌*ℚ◌, 0ℚ, ◌<ℚ◌}
use Rattle.spec_exact.specs.Sums.{sum_below}
use Rattle.spec_exact.proofs.Field.{*ℚ_zero, *ℚ_assoc}
use Rattle.spec_exact.proofs.Order.{≤ℚ_antisym, by_le}
use Rattle.spec_exact.proofs.Ruleset.{ring}
use Rattle.spec_exact.proofs.Strict.{<ℚ_irrefl}
use Rattle.spec_exact.proofs.Sums.{sum_below_none, sum_below_same, *ℚ-sum_below}
use Rattle.spec_exact.proofs.Sums.{sum_below-*ℚ, sum_below_swap, sum_below-sub}
use Rattle.spec_pivot.specs.Tableau.{Matrix}
use Rattle.spec_pivot.specs.Simplex.{Bounds, IsFixed}

-- whether both bounds are there and equal
pub fixed_or_not : (b : Bounds) (k : ℕ) → (IsFixed b k) ⊎ ¬ (IsFixed b k)
fixed_or_not b k = go (b.lower k) (b.upper k) refl refl
  where
    go : (l u : Option ℚ) → b.lower k ≡ l → b.upper k ≡ u → (IsFixed b k) ⊎ ¬ (IsFixed b k)
    go None u p q = inr (λ f. let e : None ≡ Some f.0 = sym p ∙ f.1 in cc)
    go (Some v) None p q = inr (λ f. let e : None ≡ Some f.0 = sym q ∙ f.2 in cc)
    go (Some v) (Some w) p q =
        by_le v w
        (λ h. by_le w v
        (λ g. inl (v, p, q ∙ ap Some (≤ℚ_antisym w v g h)))
        (λ g. inr (λ f. let e : Some v ≡ Some f.0 = sym p ∙ f.1 in let d : Some w ≡ Some f.0 = sym q ∙ f.2 in
        let z : v ≡ w = cc in <ℚ_irrefl w (subst (λ v. v <ℚ w) z g))))
        (λ g. inr (λ f. let e : Some v ≡ Some f.0 = sym p ∙ f.1 in let d : Some w ≡ Some f.0 = sym q ∙ f.2 in
        let z : v ≡ w = cc in <ℚ_irrefl w (subst (λ v. w <ℚ v) z g)))

-- costs and reduced costs have one sum at a point that solves the rows
pub costs_agree : (m n : ℕ) (f : Matrix) (c d z w : ℕ → ℚ) → ((k : ℕ) → d k ≡ c k -ℚ sum_below m (λ r. w r *ℚ f r k)) →
    ((r : ℕ) → r < m → sum_below n (λ k. f r k *ℚ z k) ≡ 0ℚ) →
    sum_below n (λ k. d k *ℚ z k) ≡ sum_below n (λ k. c k *ℚ z k)
costs_agree m n f c d z w e solved =
    sum_below_same n _ (λ k. c k *ℚ z k -ℚ sum_below m (λ r. w r *ℚ (f r k *ℚ z k))) (λ k _.
    ap (λ a. a *ℚ z k) (e k) ∙ open_ (c k) (sum_below m (λ r. w r *ℚ f r k)) (z k)
    ∙ ap (λ a. c k *ℚ z k -ℚ a) (sum_below-*ℚ m _ (z k) ∙ sum_below_same m _ _ (λ r _. *ℚ_assoc (w r) (f r k) (z k))))
    ∙ sum_below-sub n _ _
    ∙ ap (λ a. sum_below n (λ k. c k *ℚ z k) -ℚ a)
    (sym (sum_below_swap m n (λ r k. w r *ℚ (f r k *ℚ z k)))
    ∙ sum_below_none m _
    (λ r p. sym (*ℚ-sum_below (w r) n (λ k. f r k *ℚ z k)) ∙ ap (λ a. w r *ℚ a) (solved r p) ∙ *ℚ_zero (w r)))
    ∙ less_none _
  where
    open_ : (c s r : ℚ) → (c -ℚ s) *ℚ r ≡ c *ℚ r -ℚ s *ℚ r
    open_ c s r = simp ring

    less_none : (a : ℚ) → a -ℚ 0ℚ ≡ a
    less_none a = simp ring
