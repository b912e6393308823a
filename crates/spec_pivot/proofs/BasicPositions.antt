-- The position of a basic column, and a row at numbers that are 0 off the basic columns.
use Rattle.std.proofs.Common.{◌≡◌, ◌≢◌, ℕ, zero, suc, ◌<◌, ◌⊎◌, sym, ap, ◌∙◌, subst, arith, inl, inr, ⊎_elim}
use Rattle.spec_exact.specs.Fraction.{ℚ, ◌*ℚ◌, 0ℚ}
use Rattle.spec_exact.specs.Sums.{sum_below}
use Rattle.spec_exact.proofs.Field.{*ℚ_zero}
use Rattle.spec_exact.proofs.Sums.{sum_below_same}
use Rattle.spec_pivot.specs.Tableau.{Matrix, delta, IsUnit}
use Rattle.spec_pivot.proofs.Pivot.{by_eq, delta_same, delta_other, sum_below-delta}
use Rattle.spec_pivot.proofs.Unique.{apart}

-- a column stands at one of the m positions, or at none
pub at_position : (m : ℕ) (basic : ℕ → ℕ) (k : ℕ) →
    ((r : ℕ) × (r < m) × (basic r ≡ k)) ⊎ ((r : ℕ) → r < m → basic r ≢ k)
at_position zero basic k = inr (λ r h. absurd (let z : ⊥ = omega (arith, h) in z))
at_position (suc m) basic k =
    by_eq (basic m) k
    (λ e. inl (m, omega arith, e))
    (λ d. ⊎_elim
    (λ o. inl (o.0, omega (arith, o.1), o.2))
    (λ none. inr (λ r h. by_eq r m (λ z. subst (λ r. basic r ≢ k) (sym z) d) (λ z. none r (omega (arith, h, z)))))
    (at_position m basic k))

module _ (m n : ℕ) (t : Matrix) (basic : ℕ → ℕ) (units : IsUnit m t basic) (in_range : (i : ℕ) → i < m → basic i < n)
    (z : ℕ → ℚ) (off : (k : ℕ) → k < n → ((i : ℕ) → i < m → basic i ≢ k) → z k ≡ 0ℚ) where
  pub row_at : (r : ℕ) → r < m → sum_below n (λ k. t r k *ℚ z k) ≡ z (basic r)
  row_at r h = sum_below_same n _ (λ k. delta (basic r) k *ℚ z k) term ∙ sum_below-delta n (basic r) z (in_range r h)
    where
      term : (k : ℕ) → k < n → t r k *ℚ z k ≡ delta (basic r) k *ℚ z k
      term k p =
          ⊎_elim
          (λ w. by_eq r w.0
          (λ q. subst (λ k. t r k *ℚ z k ≡ delta (basic r) k *ℚ z k) (ap basic q ∙ w.2)
          (ap (λ a. a *ℚ z (basic r)) (units r r h h ∙ delta_same r ∙ sym (delta_same (basic r)))))
          (λ q. ap (λ a. a *ℚ z k) (ap (t r) (sym w.2) ∙ units w.0 r w.1 h ∙ delta_other w.0 r (λ y. q (sym y))
          ∙ sym (delta_other (basic r) k (λ y. q (apart m t basic units r w.0 h w.1 (y ∙ sym w.2)))))))
          (λ e. ap (λ a. t r k *ℚ a) (off k p e) ∙ *ℚ_zero _
          ∙ sym (ap (λ a. delta (basic r) k *ℚ a) (off k p e) ∙ *ℚ_zero _))
          (at_position m basic k)
