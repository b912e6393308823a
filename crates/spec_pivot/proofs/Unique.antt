-- The basic columns fix the rows and the reduced costs of a tableau.
--
-- `weight`: a combination of rows with unit columns has its weights in the basic columns.
-- `apart`: positions with one basic column are one position.
-- `same_row`: two tableaus of one span with the same basic columns have the same row for each basic column.
-- `same_reduced_costs`: costs less combinations of the same rows, both 0 in the basic columns, are equal.
use Rattle.std.proofs.Common.{◌≡◌, ℕ, ◌<◌, sym, ap, ap₂, ◌∙◌, subst}
use Rattle.spec_exact.specs.Fraction.{ℚ, ◌+ℚ◌, ◌-ℚ◌, ◌*ℚ◌, 0ℚ}
use Rattle.spec_exact.specs.Sums.{sum_below}
use Rattle.spec_exact.proofs.Field.{+ℚ_neg, *ℚ_assoc, *ℚ_comm}
use Rattle.spec_exact.proofs.Ruleset.{ring, zero-*ℚ, zero-+ℚ}
use Rattle.spec_exact.proofs.Strict.{one-not-zero}
use Rattle.spec_exact.proofs.Sums.{sum_below_same, *ℚ-sum_below, sum_below_zero}
use Rattle.spec_exact.proofs.Sums.{sum_below_swap, sum_below-*ℚ, sum_below-sub}
use Rattle.spec_pivot.specs.Tableau.{Matrix, Spans, delta, IsUnit}
use Rattle.spec_pivot.proofs.Pivot.{by_eq, delta_same, delta_other, sum_below-delta}

-- the weights of a combination of unit rows stand in the basic columns
pub weight : (m : ℕ) (t : Matrix) (b : ℕ → ℕ) → IsUnit m t b → (w : ℕ → ℚ) (s : ℕ) → s < m →
    sum_below m (λ r. w r *ℚ t r (b s)) ≡ w s
weight m t b u w s h =
    sum_below_same m _ _ (λ r p. ap (λ x. w r *ℚ x) (u s r h p) ∙ *ℚ_comm (w r) (delta s r)) ∙ sum_below-delta m s w h

-- basic columns at two places differ
pub apart : (m : ℕ) (t : Matrix) (b : ℕ → ℕ) → IsUnit m t b → (r s : ℕ) → r < m → s < m → b r ≡ b s → r ≡ s
apart m t b u r s h k e =
    by_eq r s (λ o. o) (λ n. absurd (one-not-zero
    (sym (delta_same r) ∙ sym (u r r h h) ∙ ap (λ c. t r c) e ∙ u s r k h ∙ delta_other s r (λ o. n (sym o)))))

pub record SameColumns (m : ℕ) (b c : ℕ → ℕ) : Type 0 where
  pub position : (s : ℕ) → s < m → (i : ℕ) × (i < m) × (b s ≡ c i)

pub same_row : (m : ℕ) (t u : Matrix) (b c : ℕ → ℕ) → IsUnit m t b →
    IsUnit m u c → Spans m u t → SameColumns m b c → (r i : ℕ) → r < m → i < m
    → b r ≡ c i → (k : ℕ) → u i k ≡ t r k
same_row m t u b c ut uu sp same r i hr hi e k =
    sp.1 i k hi ∙ sum_below_same m _ _ (λ s hs. ap (λ x. x *ℚ t s k) (weights s hs))
    ∙ sum_below-delta m r (λ s. t s k) hr
  where
    weights : (s : ℕ) → s < m → sp.0 i s ≡ delta r s
    weights s hs =
        sym (weight m t b ut (sp.0 i) s hs) ∙ sym (sp.1 i (b s) hi)
        ∙ by_eq r s
        (λ o. subst (λ s. u i (b s) ≡ delta r s) o
        (ap (λ x. u i x) e ∙ uu i i hi hi ∙ delta_same i ∙ sym (delta_same r)))
        (λ o. let q = same.position s hs in
        ap (λ x. u i x) q.2 ∙ uu q.0 i q.1 hi
        ∙ delta_other q.0 i (λ z. o (apart m t b ut r s hr hs (e ∙ ap c (sym z) ∙ sym q.2)))
        ∙ sym (delta_other r s o))

-- the reduced costs are fixed too
pub same_reduced_costs : (m : ℕ) (f t : Matrix) (b : ℕ → ℕ) → IsUnit m t b → Spans m f t → (cost d e v w : ℕ → ℚ)
    → ((k : ℕ) → d k ≡ cost k -ℚ sum_below m (λ r. v r *ℚ f r k)) →
    ((k : ℕ) → e k ≡ cost k -ℚ sum_below m (λ r. w r *ℚ f r k))
    → ((i : ℕ) → i < m → d (b i) ≡ 0ℚ) → ((i : ℕ) → i < m → e (b i) ≡ 0ℚ) → (k : ℕ) → d k ≡ e k
same_reduced_costs m f t b u sp cost d e v w dk ek db eb k =
    apart_by (d k) (e k)
    (combo k ∙ sum_below_same m _ (λ _. 0ℚ) (λ s h. ap (λ a. a *ℚ t s k) (none s h) ∙ zero-*ℚ _) ∙ sum_below_zero m)
  where
    weight_of : ℕ → ℚ
    weight_of s = sum_below m (λ r. (w r -ℚ v r) *ℚ sp.0 r s)

    -- the difference is a combination of the tableau's rows
    combo : (k : ℕ) → d k -ℚ e k ≡ sum_below m (λ s. weight_of s *ℚ t s k)
    combo k =
        ap₂ (λ a c. a -ℚ c) (dk k) (ek k)
        ∙ cancel (cost k) (sum_below m (λ r. v r *ℚ f r k)) (sum_below m (λ r. w r *ℚ f r k))
        ∙ sym (sum_below-sub m (λ r. w r *ℚ f r k) (λ r. v r *ℚ f r k))
        ∙ sum_below_same m _ (λ r. sum_below m (λ s. (w r -ℚ v r) *ℚ sp.0 r s *ℚ t s k))
        (λ r h. sym (factor (w r) (v r) (f r k))
        ∙ ap (λ a. (w r -ℚ v r) *ℚ a) (sp.1 r k h) ∙ *ℚ-sum_below (w r -ℚ v r) m _
        ∙ sum_below_same m _ _ (λ s _. sym (*ℚ_assoc (w r -ℚ v r) (sp.0 r s) (t s k))))
        ∙ sum_below_swap m m (λ r s. (w r -ℚ v r) *ℚ sp.0 r s *ℚ t s k)
        ∙ sum_below_same m _ _ (λ s _. sym (sum_below-*ℚ m (λ r. (w r -ℚ v r) *ℚ sp.0 r s) (t s k)))
      where
        cancel : (c x y : ℚ) → (c -ℚ x) -ℚ (c -ℚ y) ≡ y -ℚ x
        cancel c x y = simp ring

        factor : (w v f : ℚ) → (w -ℚ v) *ℚ f ≡ w *ℚ f -ℚ v *ℚ f
        factor w v f = simp ring

    none : (s : ℕ) → s < m → weight_of s ≡ 0ℚ
    none s h =
        sym (weight m t b u weight_of s h) ∙ sym (combo (b s)) ∙ ap₂ (λ a c. a -ℚ c) (db s h) (eb s h) ∙ +ℚ_neg 0ℚ

    apart_by : (a c : ℚ) → a -ℚ c ≡ 0ℚ → a ≡ c
    apart_by a c e = sym (again a c) ∙ ap (λ x. x +ℚ c) e ∙ zero-+ℚ c
      where
        again : (a c : ℚ) → a -ℚ c +ℚ c ≡ a
        again a c = simp ring
