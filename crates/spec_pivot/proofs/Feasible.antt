-- The dual ratio test keeps the signs of the reduced costs, and a flip can mend one.
use Rattle.std.proofs.Common.{◌≡◌, ◌≢◌, ℕ, ◌<◌, sym, ap, ap₂, ◌∙◌, subst, subst₂}
use Rattle.spec_exact.specs.Fraction.{ℚ, ◌+ℚ◌, ◌-ℚ◌, ◌*ℚ◌, neg_ℚ, 0ℚ, 1ℚ, ◌≤ℚ◌, inverse}
use Rattle.spec_exact.proofs.Field.{*ℚ_one, *ℚ_inverse}
use Rattle.spec_exact.proofs.Ruleset.{ring, neg-zero}
use Rattle.spec_exact.proofs.Strict.{neg_mono}
use Rattle.spec_pivot.specs.declared.status.Status.{Status}
use Rattle.spec_pivot.specs.declared.status.Way.{Way}
use Rattle.spec_pivot.specs.declared.status.Way.TheVariants.{Up, Down}
use Rattle.spec_pivot.specs.Tableau.{Matrix}
use Rattle.spec_pivot.specs.Simplex.{Bounds, IsFixed, Table, sign, IsTableau, after_flip, Exchanges}
use Rattle.spec_pivot.proofs.AnyMove.{set_at, set_off, status_j, status_left, status_other}
use Rattle.spec_pivot.proofs.Pivot.{by_eq, delta_same}
use Rattle.spec_pivot.specs.Dual.{Suits, IsDualFeasible, bound_behind, Leaves}
use Rattle.spec_pivot.specs.Dual.{row_of, ratio, IsCheapest, shift, after_dual}
use Rattle.spec_pivot.proofs.EntrySigns.{ratio_is, ratio_least, by_ratio, suits_after}
use Rattle.spec_pivot.proofs.Step.{entry_nonzero, dual_exchanges}

module _ (m n : ℕ) (f : Matrix) (cost : ℕ → ℚ) (b : Bounds) (t : Table)
    (g : IsTableau m n f cost b t) (feasible : IsDualFeasible n b t)
    (way : Way) (p j : ℕ) (c : ℚ) (l : Leaves m b t way p c) (e : IsCheapest n b t way p j) where
  abbrev next : Table
  next = after_dual m t way p j c

  rate_least : 0ℚ ≤ℚ ratio t p j
  rate_least =
      ratio_least (t.reduced j) (t.entry p j) (entry_nonzero m n f cost b t g way p j c l e.in_range e.candidate)

  -- the reduced costs change by the ratio times the row
  reduced_is : (k : ℕ) → next.reduced k ≡ t.reduced k +ℚ ratio t p j *ℚ row_of t way p k
  reduced_is k =
      ap (λ d. t.reduced k -ℚ d *ℚ (t.entry p k *ℚ inverse (t.entry p j))) entering
      ∙ regroup (t.reduced k) (ratio t p j) (sign way) (t.entry p j) (t.entry p k) (inverse (t.entry p j))
      ∙ ap (λ a. t.reduced k +ℚ (ratio t p j *ℚ (sign way *ℚ t.entry p k)) *ℚ a)
      (*ℚ_inverse (t.entry p j) (entry_nonzero m n f cost b t g way p j c l e.in_range e.candidate))
      ∙ ap (λ a. t.reduced k +ℚ a) (*ℚ_one (ratio t p j *ℚ (sign way *ℚ t.entry p k)))
    where
      suits : Suits (t.status j) (t.reduced j)
      suits = feasible j e.in_range e.candidate.not_fixed

      entering : t.reduced j ≡ neg_ℚ (ratio t p j *ℚ row_of t way p j)
      entering =
          by_ratio (t.status j) (t.reduced j) (row_of t way p j) (ratio t p j) suits e.candidate.helps
          (ratio_is (t.status j) way (t.reduced j) (t.entry p j) suits e.candidate.helps)

      regroup : (d r s e x i : ℚ) → d -ℚ neg_ℚ (r *ℚ (s *ℚ e)) *ℚ (x *ℚ i) ≡ d +ℚ (r *ℚ (s *ℚ x)) *ℚ (e *ℚ i)
      regroup d r s e x i = simp ring

  -- the leaving column has no reduced cost before the step, and the ratio, with the sign of its way, after it
  left_is : next.reduced (t.basic p) ≡ ratio t p j *ℚ sign way
  left_is =
      reduced_is (t.basic p)
      ∙ ap₂ (λ d a. d +ℚ ratio t p j *ℚ (sign way *ℚ a))
      (g.costs.at_basic p l.position) (g.units p p l.position l.position ∙ delta_same p)
      ∙ close (ratio t p j) (sign way)
    where
      close : (r s : ℚ) → 0ℚ +ℚ r *ℚ (s *ℚ 1ℚ) ≡ r *ℚ s
      close r s = simp ring

  left_suits : (w : Way) (d : ℚ) → d ≡ ratio t p j *ℚ sign w → Suits (bound_behind w) d
  left_suits Up d h = subst (λ a. 0ℚ ≤ℚ a) (sym (h ∙ *ℚ_one (ratio t p j))) rate_least
  left_suits Down d h = subst₂ ◌≤ℚ◌ (minus (ratio t p j) ∙ sym h) neg-zero (neg_mono 0ℚ (ratio t p j) rate_least)
    where
      minus : (r : ℚ) → neg_ℚ r ≡ r *ℚ neg_ℚ 1ℚ
      minus r = simp ring

  exchanged : Exchanges m n b t Up j p (shift t p j c) (bound_behind way)
  exchanged = dual_exchanges m n f cost b t g way p j c l e.in_range e.candidate

  pub feasible_kept : IsDualFeasible n b next
  feasible_kept k h free =
      by_eq k j
      (λ z. subst (λ s. Suits s (next.reduced k))
      (sym (ap next.status z ∙ status_j m n f cost b t g Up j p (shift t p j c) (bound_behind way) exchanged)) tt)
      (λ k_other. by_eq k (t.basic p)
      (λ z. subst (λ s. Suits s (next.reduced k))
      (sym (ap next.status z ∙ status_left m n f cost b t g Up j p (shift t p j c) (bound_behind way) exchanged))
      (left_suits way (next.reduced k) (ap next.reduced z ∙ left_is)))
      (λ k_stays. subst₂ Suits
      (sym (status_other m n f cost b t g Up j p (shift t p j c) (bound_behind way) exchanged k k_other k_stays))
      (sym (reduced_is k))
      (suits_after (t.status k) (t.reduced k) (row_of t way p k)
      (ratio t p k) (ratio t p j) rate_least (feasible k h free)
      (λ a. (
        ratio_is (t.status k) way (t.reduced k) (t.entry p k) (feasible k h free) a,
        e.least k h (record { not_fixed = free; helps = a }),
      )))))

-- after a flip of column j the tableau is dual feasible, where the reduced cost of j suits its new status and those of
-- the other columns suited theirs
pub flip_suits : (m n : ℕ) (b : Bounds) (t : Table) (way : Way) (j : ℕ) (theta : ℚ) (to : Status) →
    Suits to (t.reduced j)
    → ((k : ℕ) → k < n → k ≢ j → ¬ (IsFixed b k) → Suits (t.status k) (t.reduced k)) →
    IsDualFeasible n b (after_flip m t way j theta to)
flip_suits m n b t way j theta to own others k h free =
    by_eq k j
    (λ z. subst₂ Suits (sym (ap (after_flip m t way j theta to).status z ∙ set_at t.status j to))
    (ap t.reduced (sym z)) own)
    (λ z. subst (λ s. Suits s (t.reduced k)) (sym (set_off t.status j to k z)) (others k h z free))
