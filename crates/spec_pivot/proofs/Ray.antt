-- The ray of an entering column: how every column moves with it.
use Rattle.std.proofs.Common.{◌≡◌, ℕ, ◌<◌, refl, sym, ap, ap₂, ◌∙◌, subst}
use Rattle.spec_exact.specs.Fraction.{ℚ, ◌-ℚ◌, ◌*ℚ◌, neg_ℚ, 0ℚ, 1ℚ}
use Rattle.spec_exact.specs.Sums.{sum_below}
use Rattle.spec_exact.proofs.Field.{+ℚ_neg, *ℚ_assoc, *ℚ_comm, *ℚ_zero}
use Rattle.spec_exact.proofs.Ruleset.{ring, zero-*ℚ}
use Rattle.spec_exact.proofs.Sums.{sum_below-sub, sum_below_none, sum_below_same}
use Rattle.spec_exact.proofs.Sums.{*ℚ-sum_below, sum_below_swap, sum_below-*ℚ}
use Rattle.spec_pivot.specs.Tableau.{Matrix, Spans, delta, IsUnit}
use Rattle.spec_pivot.specs.declared.status.Way.{Way}
use Rattle.spec_pivot.specs.Simplex.{sign, Table, ray}
use Rattle.spec_pivot.proofs.Pivot.{by_eq, delta_same, delta_other, sum_below-delta}
use Rattle.spec_pivot.proofs.Unique.{apart}

-- the number delta i r is delta r i: 1 where i is r, and else 0
pub delta_sym : (i r : ℕ) → delta i r ≡ delta r i
delta_sym i r =
    by_eq i r (λ e. subst (λ r. delta i r ≡ delta r i) e refl)
    (λ n. delta_other i r n ∙ sym (delta_other r i (λ e. n (sym e))))

module _ (m : ℕ) (t : Table) (units : IsUnit m t.entry t.basic) (way : Way)
    (j : ℕ) (outside : (i : ℕ) → i < m → ¬ (t.basic i ≡ j)) where
  -- the entry in column j of the row in which column k is basic; 0 where it is not basic
  part : ℕ → ℚ
  part k = sum_below m (λ i. delta (t.basic i) k *ℚ t.entry i j)

  part_outside : (k : ℕ) → ((i : ℕ) → i < m → ¬ (t.basic i ≡ k)) → part k ≡ 0ℚ
  unfolding part
  part_outside k n =
      sum_below_none m _ (λ i h. ap (λ a. a *ℚ t.entry i j) (delta_other (t.basic i) k (n i h)) ∙ zero-*ℚ _)

  part_basic : (r : ℕ) → r < m → part (t.basic r) ≡ t.entry r j
  unfolding part
  part_basic r h =
      sum_below_same m _ (λ i. delta r i *ℚ t.entry i j) (λ i p. ap (λ a. a *ℚ t.entry i j)
      (by_eq r i
      (λ e. subst (λ i. delta (t.basic i) (t.basic r) ≡ delta r i) e (delta_same (t.basic r) ∙ sym (delta_same r)))
      (λ o. delta_other (t.basic i) (t.basic r) (λ e. o (sym (apart m t.entry t.basic units i r p h e)))
      ∙ sym (delta_other r i o))))
      ∙ sum_below-delta m r (λ i. t.entry i j) h

  pub ray_at : ray m t way j j ≡ sign way
  unfolding part
  ray_at = ap₂ (λ a c. sign way *ℚ (a -ℚ c)) (delta_same j) (part_outside j outside) ∙ one (sign way)
    where
      one : (a : ℚ) → a *ℚ (1ℚ -ℚ 0ℚ) ≡ a
      one a = simp ring

  pub ray_basic : (r : ℕ) → r < m → ray m t way j (t.basic r) ≡ neg_ℚ (sign way *ℚ t.entry r j)
  unfolding part
  ray_basic r h =
      ap₂ (λ a c. sign way *ℚ (a -ℚ c)) (delta_other j (t.basic r) (λ e. outside r h (sym e))) (part_basic r h)
      ∙ flip (sign way) (t.entry r j)
    where
      flip : (a b : ℚ) → a *ℚ (0ℚ -ℚ b) ≡ neg_ℚ (a *ℚ b)
      flip a b = simp ring

  pub ray_still : (k : ℕ) → ¬ (j ≡ k) → ((i : ℕ) → i < m → ¬ (t.basic i ≡ k)) → ray m t way j k ≡ 0ℚ
  unfolding part
  ray_still k o n = ap₂ (λ a c. sign way *ℚ (a -ℚ c)) (delta_other j k o) (part_outside k n) ∙ none (sign way)
    where
      none : (a : ℚ) → a *ℚ (0ℚ -ℚ 0ℚ) ≡ 0ℚ
      none a = simp ring

  -- the rows stay solved along the ray
  module _ (n : ℕ) (j_in : j < n) (in_range : (i : ℕ) → i < m → t.basic i < n) where
    rows_ray : (r : ℕ) → r < m → sum_below n (λ k. t.entry r k *ℚ ray m t way j k) ≡ 0ℚ
    rows_ray r h =
        sum_below_same n _ (λ k. sign way
        *ℚ (delta j k *ℚ t.entry r k -ℚ sum_below m (λ i. t.entry i j *ℚ (delta (t.basic i) k *ℚ t.entry r k))))
        (λ k _. turn (t.entry r k) (sign way) (delta j k) (part' k)
        ∙ ap (λ a. sign way *ℚ (delta j k *ℚ t.entry r k -ℚ a)) (sum_below-*ℚ m _ (t.entry r k)
        ∙ sum_below_same m _ _ (λ i _. order (delta (t.basic i) k) (t.entry i j) (t.entry r k))))
        ∙ sym (*ℚ-sum_below (sign way) n _)
        ∙ ap (λ a. sign way *ℚ a) (sum_below-sub n _ _
        ∙ ap₂ (λ a c. a -ℚ c) (sum_below-delta n j (λ k. t.entry r k) j_in) columns ∙ +ℚ_neg (t.entry r j))
        ∙ *ℚ_zero (sign way)
      where
        part' : ℕ → ℚ
        part' k = sum_below m (λ i. delta (t.basic i) k *ℚ t.entry i j)

        turn : (e s d p : ℚ) → e *ℚ (s *ℚ (d -ℚ p)) ≡ s *ℚ (d *ℚ e -ℚ p *ℚ e)
        turn e s d p = simp ring

        order : (d a e : ℚ) → d *ℚ a *ℚ e ≡ a *ℚ (d *ℚ e)
        order d a e = simp ring

        columns : sum_below n (λ k. sum_below m (λ i. t.entry i j *ℚ (delta (t.basic i) k *ℚ t.entry r k)))
            ≡ t.entry r j
        columns =
            sym (sum_below_swap m n (λ i k. t.entry i j *ℚ (delta (t.basic i) k *ℚ t.entry r k)))
            ∙ sum_below_same m _ (λ i. delta r i *ℚ t.entry i j)
            (λ i p.
            sym (*ℚ-sum_below (t.entry i j) n (λ k. delta (t.basic i) k *ℚ t.entry r k))
            ∙ ap (λ a. t.entry i j *ℚ a)
            (sum_below-delta n (t.basic i) (λ k. t.entry r k) (in_range i p) ∙ units i r p h)
            ∙ *ℚ_comm (t.entry i j) (delta i r) ∙ ap (λ a. a *ℚ t.entry i j) (delta_sym i r))
            ∙ sum_below-delta m r (λ i. t.entry i j) h

    pub form_ray : (f : Matrix) → Spans m f t.entry → (i : ℕ) → i < m → sum_below n (λ k. f i k *ℚ ray m t way j k) ≡ 0ℚ
    form_ray f sp i h =
        sum_below_same n _ (λ k. sum_below m (λ r. sp.0 i r *ℚ (t.entry r k *ℚ ray m t way j k)))
        (λ k _. ap (λ a. a *ℚ ray m t way j k) (sp.1 i k h) ∙ sum_below-*ℚ m _ (ray m t way j k)
        ∙ sum_below_same m _ _ (λ r _. *ℚ_assoc (sp.0 i r) (t.entry r k) (ray m t way j k)))
        ∙ sym (sum_below_swap m n (λ r k. sp.0 i r *ℚ (t.entry r k *ℚ ray m t way j k)))
        ∙ sum_below_none m _
        (λ r p. sym (*ℚ-sum_below (sp.0 i r) n (λ k. t.entry r k *ℚ ray m t way j k))
        ∙ ap (λ a. sp.0 i r *ℚ a) (rows_ray r p) ∙ *ℚ_zero (sp.0 i r))

    -- costs and reduced costs have one sum along the ray
    pub cost_ray : (f : Matrix) (cost d : ℕ → ℚ) → Spans m f t.entry →
        (w : ℕ → ℚ) → ((k : ℕ) → d k ≡ cost k -ℚ sum_below m (λ r. w r *ℚ f r k))
        → sum_below n (λ k. d k *ℚ ray m t way j k) ≡ sum_below n (λ k. cost k *ℚ ray m t way j k)
    cost_ray f cost d sp w e =
        sum_below_same n _
        (λ k. cost k *ℚ ray m t way j k -ℚ sum_below m (λ r. w r *ℚ (f r k *ℚ ray m t way j k))) (λ k _.
        ap (λ a. a *ℚ ray m t way j k) (e k) ∙ open_ (cost k) (sum_below m (λ r. w r *ℚ f r k)) (ray m t way j k)
        ∙ ap (λ a. cost k *ℚ ray m t way j k -ℚ a)
        (sum_below-*ℚ m _ (ray m t way j k) ∙ sum_below_same m _ _ (λ r _. *ℚ_assoc (w r) (f r k) (ray m t way j k))))
        ∙ sum_below-sub n _ _
        ∙ ap (λ a. sum_below n (λ k. cost k *ℚ ray m t way j k) -ℚ a)
        (sym (sum_below_swap m n (λ r k. w r *ℚ (f r k *ℚ ray m t way j k)))
        ∙ sum_below_none m _ (λ r p. sym (*ℚ-sum_below (w r) n (λ k. f r k *ℚ ray m t way j k))
        ∙ ap (λ a. w r *ℚ a) (form_ray f sp r p) ∙ *ℚ_zero (w r)))
        ∙ less_none _
      where
        open_ : (c s r : ℚ) → (c -ℚ s) *ℚ r ≡ c *ℚ r -ℚ s *ℚ r
        open_ c s r = simp ring

        less_none : (a : ℚ) → a -ℚ 0ℚ ≡ a
        less_none a = simp ring
