-- Where no column can bring the leaving one back to its bound, its row shows that no values solve the rows within the
-- bounds.
--
-- `fixed_lower`: a nonbasic value whose two bounds are equal is the lower bound.
-- `fixed_upper`: a nonbasic value whose two bounds are equal is the upper bound.
-- `at_or`: the values that are v at index q, and x elsewhere.
-- `at_own`: values that are v at index q, and x elsewhere, are v at q.
-- `at_other`: values that are v at index q, and x elsewhere, are x at any other index.
-- `term_least`: a coefficient times a value within bounds is least at the lower bound for a coefficient above 0, at the
--   upper for one below 0.
-- `refuted`: a combination of rows that makes more than 0 within the bounds leaves no solution.
use Rattle.std.proofs.Common.{◌≡◌, ◌≢◌, ℕ, ◌<◌, Option, Some, None, IfSome, cond, nat_eq}
use Rattle.std.proofs.Common.{refl, sym, ap, ap₂, ◌∙◌, subst, subst₂, eq-eqb, ne_eqb, ⊎_elim}
use Rattle.spec_exact.specs.Fraction.{ℚ, ◌+ℚ◌, ◌-ℚ◌, ◌*ℚ◌, neg_ℚ, 0ℚ, 1ℚ, ◌≤ℚ◌, ◌<ℚ◌}
use Rattle.spec_exact.specs.Sums.{sum_below}
use Rattle.spec_exact.proofs.Field.{*ℚ_assoc, *ℚ_zero, *ℚ_one}
use Rattle.spec_exact.proofs.Order.{≤ℚ_refl, *ℚ_mono, <ℚ-le, clash_ℚ}
use Rattle.spec_exact.proofs.Ruleset.{ring, zero-*ℚ, zero-+ℚ}
use Rattle.spec_exact.proofs.Magnitudes.{turned_down}
use Rattle.spec_exact.proofs.Strict.{<ℚ_irrefl, ≤ℚ-<ℚ_trans, by_sign, zero-lt-one, +ℚ_strict, *ℚ_mono_neg}
use Rattle.spec_exact.proofs.Sums.{sum_below_same, sum_below_mono, sum_below-+ℚ, sum_below-*ℚ}
use Rattle.spec_exact.proofs.Sums.{*ℚ-sum_below, sum_below_swap, sum_below_none}
use Rattle.spec_pivot.specs.declared.status.Status.{Status}
use Rattle.spec_pivot.specs.declared.status.Status.TheVariants.{Basic, AtLower, AtUpper, AtZero}
use Rattle.spec_pivot.specs.declared.status.Way.{Way}
use Rattle.spec_pivot.specs.declared.status.Way.TheVariants.{Up, Down}
use Rattle.spec_pivot.specs.Tableau.{Matrix, delta}
use Rattle.spec_pivot.specs.Simplex.{Bounds, IsFixed, Stands, Table, sign, IsTableau}
use Rattle.spec_pivot.proofs.Fixed.{fixed_or_not}
use Rattle.spec_pivot.proofs.Pivot.{by_eq, delta_same, delta_other, sum_below-delta}
use Rattle.spec_pivot.proofs.Values.{combined}
use Rattle.spec_pivot.specs.Dual.{Helps, IsPast, Leaves, row_of, IsCandidate, IsSolution, Refutes}

-- ---- a value that stands fixed is at both bounds
pub fixed_lower : (l u : Option ℚ) (s : Status) (v x : ℚ) → l ≡ Some x → u ≡ Some x → ¬ (s ≡ Basic) → Stands s l u v →
    l ≡ Some v
fixed_lower l u Basic v x p q n h = absurd (n refl)
fixed_lower l u AtLower v x p q n h = h
fixed_lower l u AtUpper v x p q n h = p ∙ sym q ∙ h
fixed_lower l u AtZero v x p q n h = let z : None ≡ Some x = sym h.0 ∙ p in cc

pub fixed_upper : (l u : Option ℚ) (s : Status) (v x : ℚ) → l ≡ Some x → u ≡ Some x → ¬ (s ≡ Basic) → Stands s l u v →
    u ≡ Some v
fixed_upper l u Basic v x p q n h = absurd (n refl)
fixed_upper l u AtLower v x p q n h = q ∙ sym p ∙ h
fixed_upper l u AtUpper v x p q n h = h
fixed_upper l u AtZero v x p q n h = let z : None ≡ Some x = sym h.0 ∙ p in cc

-- the value v at index q, and x elsewhere
pub at_or : ℕ → ℚ → (ℕ → ℚ) → ℕ → ℚ
at_or q v x k = cond (nat_eq k q) v (x k)

pub at_own : (q : ℕ) (v : ℚ) (x : ℕ → ℚ) → at_or q v x q ≡ v
unfolding at_or
at_own q v x = rw (eq-eqb q q refl) refl

pub at_other : (q : ℕ) (v : ℚ) (x : ℕ → ℚ) (k : ℕ) → k ≢ q → at_or q v x k ≡ x k
unfolding at_or
at_other q v x k n = rw (ne_eqb k q n) refl

module _ (m n : ℕ) (f : Matrix) (cost : ℕ → ℚ) (b : Bounds) (t : Table)
    (g : IsTableau m n f cost b t) (way : Way) (p : ℕ) (c : ℚ) (l : Leaves m b t way p c)
    (none : (k : ℕ) → k < n → ¬ (IsCandidate b t way p k)) where
  abbrev q : ℕ
  q = t.basic p

  abbrev row : ℕ → ℚ
  row = row_of t way p

  -- the bounds that the row asks for
  abbrev pub stops : ℕ → ℚ
  stops = at_or (t.basic p) c t.value

  own_entry : row (t.basic p) ≡ sign way
  own_entry = ap (λ a. sign way *ℚ a) (g.units p p l.position l.position ∙ delta_same p) ∙ *ℚ_one (sign way)

  -- the row is 0 in the other basic columns
  basic_entry : (k : ℕ) → k < n → k ≢ t.basic p → t.status k ≡ Basic → row k ≡ 0ℚ
  basic_entry k h o s =
      let w = g.placed k h s in
      ap (λ a. sign way *ℚ a) (ap (t.entry p) (sym w.2) ∙ g.units w.0 p w.1 l.position
      ∙ delta_other w.0 p (λ z. o (sym w.2 ∙ ap t.basic z))) ∙ *ℚ_zero (sign way)

  -- ---- the leaving column's own bound
  own_above : (w : Way) (lo up : Option ℚ) (v : ℚ) → IsPast w lo up v c → 0ℚ <ℚ sign w → lo ≡ Some c
  own_above Up lo up v h k = h.0
  own_above Down lo up v h k = absurd (<ℚ_irrefl 0ℚ (≤ℚ-<ℚ_trans 0ℚ 1ℚ 0ℚ (<ℚ-le 0ℚ 1ℚ zero-lt-one) (turned_down 1ℚ k)))

  own_below : (w : Way) (lo up : Option ℚ) (v : ℚ) → IsPast w lo up v c → sign w <ℚ 0ℚ → up ≡ Some c
  own_below Up lo up v h k = clash_ℚ 1ℚ 0ℚ k (<ℚ-le 0ℚ 1ℚ zero-lt-one)
  own_below Down lo up v h k = h.0

  -- ---- the other columns
  -- one in which the row is not 0 is fixed, or is at a bound at which it does not help
  by_place : {P : Type 0} (k : ℕ) → k < n → k ≢ t.basic p → ¬ (row k ≡ 0ℚ) →
      (¬ (t.status k ≡ Basic) → IsFixed b k → P) → (t.status k ≡ AtLower → ¬ (Helps AtLower (row k)) → P)
      → (t.status k ≡ AtUpper → ¬ (Helps AtUpper (row k)) → P) → P
  by_place {P} k h o nonzero if_fixed at_lower at_upper =
      ⊎_elim (if_fixed nonbasic) (λ free. go (t.status k) refl (idle free (t.status k))) (fixed_or_not b k)
    where
      nonbasic : ¬ (t.status k ≡ Basic)
      nonbasic s = nonzero (basic_entry k h o s)

      idle : ¬ (IsFixed b k) → (s : Status) → t.status k ≡ s → ¬ (Helps s (row k))
      idle free s e helps = none k h (record { not_fixed = free; helps = subst (λ s. Helps s (row k)) (sym e) helps })

      go : (s : Status) → t.status k ≡ s → (t.status k ≡ s → ¬ (Helps s (row k))) → P
      go Basic e useless = absurd (nonbasic e)
      go AtLower e useless = at_lower e (useless e)
      go AtUpper e useless = at_upper e (useless e)
      go AtZero e useless = absurd (useless e nonzero)

  other_above : (k : ℕ) → k < n → k ≢ t.basic p → 0ℚ <ℚ row k → b.lower k ≡ Some (t.value k)
  other_above k h o a =
      by_place k h o (λ z. <ℚ_irrefl 0ℚ (subst (λ x. 0ℚ <ℚ x) z a))
      (λ s x. fixed_lower (b.lower k) (b.upper k) (t.status k) (t.value k) x.0 x.1 x.2 s (g.stands k h))
      (λ e _. subst (λ s. Stands s (b.lower k) (b.upper k) (t.value k)) e (g.stands k h))
      (λ _ useless. absurd (useless a))

  other_below : (k : ℕ) → k < n → k ≢ t.basic p → row k <ℚ 0ℚ → b.upper k ≡ Some (t.value k)
  other_below k h o a =
      by_place k h o (λ z. <ℚ_irrefl 0ℚ (subst (λ x. x <ℚ 0ℚ) z a))
      (λ s x. fixed_upper (b.lower k) (b.upper k) (t.status k) (t.value k) x.0 x.1 x.2 s (g.stands k h))
      (λ _ useless. absurd (useless a))
      (λ e _. subst (λ s. Stands s (b.lower k) (b.upper k) (t.value k)) e (g.stands k h))

  -- ---- the sum: 0 at the tableau's values, and more at the bounds
  at_values : sum_below n (λ k. row k *ℚ t.value k) ≡ 0ℚ
  at_values =
      sum_below_same n _ (λ k. sign way *ℚ (t.entry p k *ℚ t.value k))
      (λ k _. *ℚ_assoc (sign way) (t.entry p k) (t.value k))
      ∙ sym (*ℚ-sum_below (sign way) n _)
      ∙ ap (λ a. sign way *ℚ a) (combined m n t.entry f g.forth t.value g.solves p l.position) ∙ *ℚ_zero (sign way)

  at_stops : sum_below n (λ k. row k *ℚ stops k) ≡ row (t.basic p) *ℚ (c -ℚ t.value (t.basic p))
  at_stops =
      sum_below_same n _ (λ k. row k *ℚ t.value k +ℚ delta (t.basic p) k *ℚ (row k *ℚ (c -ℚ t.value k))) (λ k _. term k)
      ∙ sum_below-+ℚ n (λ k. row k *ℚ t.value k) (λ k. delta (t.basic p) k *ℚ (row k *ℚ (c -ℚ t.value k)))
      ∙ ap₂ ◌+ℚ◌ at_values (sum_below-delta n (t.basic p) (λ k. row k *ℚ (c -ℚ t.value k)) (g.in_range p l.position))
      ∙ zero-+ℚ _
    where
      own : (a c x : ℚ) → a *ℚ c ≡ a *ℚ x +ℚ 1ℚ *ℚ (a *ℚ (c -ℚ x))
      own a c x = simp ring

      other : (a y x : ℚ) → a *ℚ x ≡ a *ℚ x +ℚ 0ℚ *ℚ y
      other a y x = simp ring

      term : (k : ℕ) → row k *ℚ stops k ≡ row k *ℚ t.value k +ℚ delta (t.basic p) k *ℚ (row k *ℚ (c -ℚ t.value k))
      term k =
          by_eq k (t.basic p)
          (λ z. subst (λ k. row k *ℚ stops k ≡ row k *ℚ t.value k +ℚ delta (t.basic p) k *ℚ (row k *ℚ (c -ℚ t.value k)))
          (sym z)
          (ap (λ a. row (t.basic p) *ℚ a) (at_own (t.basic p) c t.value) ∙ own (row (t.basic p)) c (t.value (t.basic p))
          ∙ ap (λ d. row (t.basic p) *ℚ t.value (t.basic p) +ℚ d *ℚ (row (t.basic p) *ℚ (c -ℚ t.value (t.basic p))))
          (sym (delta_same (t.basic p)))))
          (λ z. ap (λ a. row k *ℚ a) (at_other (t.basic p) c t.value k z)
          ∙ other (row k) (row k *ℚ (c -ℚ t.value k)) (t.value k)
          ∙ ap (λ d. row k *ℚ t.value k +ℚ d *ℚ (row k *ℚ (c -ℚ t.value k)))
          (sym (delta_other (t.basic p) k (λ y. z (sym y)))))

  gains : (w : Way) (lo up : Option ℚ) (v : ℚ) → IsPast w lo up v c → 0ℚ <ℚ (sign w *ℚ (c -ℚ v))
  gains Up lo up v h = subst₂ ◌<ℚ◌ (none_ v) (one_ c v) (+ℚ_strict v c (neg_ℚ v) h.1)
    where
      none_ : (v : ℚ) → v +ℚ neg_ℚ v ≡ 0ℚ
      none_ v = simp ring

      one_ : (c v : ℚ) → c +ℚ neg_ℚ v ≡ 1ℚ *ℚ (c -ℚ v)
      one_ c v = simp ring
  gains Down lo up v h = subst₂ ◌<ℚ◌ (none_ c) (one_ c v) (+ℚ_strict c v (neg_ℚ c) h.1)
    where
      none_ : (v : ℚ) → v +ℚ neg_ℚ v ≡ 0ℚ
      none_ v = simp ring

      one_ : (c v : ℚ) → v +ℚ neg_ℚ c ≡ neg_ℚ 1ℚ *ℚ (c -ℚ v)
      one_ c v = simp ring

  pub row_refutes : Refutes m n f b (row_of t way p) stops
  row_refutes = record {
    weights = λ r. sign way *ℚ g.forth.0 p r;
    combined = λ k.
        ap (λ a. sign way *ℚ a) (g.forth.1 p k l.position) ∙ *ℚ-sum_below (sign way) m _
        ∙ sum_below_same m _ _ (λ r _. sym (*ℚ_assoc (sign way) (g.forth.0 p r) (f r k)));
    above = λ k h a. by_eq k (t.basic p)
        (λ z. subst (λ k. b.lower k ≡ Some (stops k)) (sym z)
        (own_above way (b.lower (t.basic p)) (b.upper (t.basic p)) (t.value (t.basic p)) l.past
        (subst (λ x. 0ℚ <ℚ x) (ap row z ∙ own_entry) a) ∙ ap Some (sym (at_own (t.basic p) c t.value))))
        (λ z. other_above k h z a ∙ ap Some (sym (at_other (t.basic p) c t.value k z)));
    below = λ k h a. by_eq k (t.basic p)
        (λ z. subst (λ k. b.upper k ≡ Some (stops k)) (sym z)
        (own_below way (b.lower (t.basic p)) (b.upper (t.basic p)) (t.value (t.basic p)) l.past
        (subst (λ x. x <ℚ 0ℚ) (ap row z ∙ own_entry) a) ∙ ap Some (sym (at_own (t.basic p) c t.value))))
        (λ z. other_below k h z a ∙ ap Some (sym (at_other (t.basic p) c t.value k z)));
    positive = subst (λ x. 0ℚ <ℚ x) (sym (at_stops ∙ ap (λ a. a *ℚ (c -ℚ t.value (t.basic p))) own_entry))
        (gains way (b.lower (t.basic p)) (b.upper (t.basic p)) (t.value (t.basic p)) l.past);
  }

-- ---- what such a row shows

-- each term is least at the bound that its sign asks for
pub term_least : (l u : Option ℚ) (a w x : ℚ) → (0ℚ <ℚ a → l ≡ Some w) → (a <ℚ 0ℚ → u ≡ Some w) →
    IfSome l (λ k. k ≤ℚ x) → IfSome u (λ k. x ≤ℚ k) → (a *ℚ w) ≤ℚ (a *ℚ x)
term_least l u a w x up down low high =
    by_sign a
    (λ p. *ℚ_mono w x a (<ℚ-le 0ℚ a p) (subst (λ o. IfSome o (λ k. k ≤ℚ x)) (up p) low))
    (λ p. *ℚ_mono_neg x w a (<ℚ-le a 0ℚ p) (subst (λ o. IfSome o (λ k. x ≤ℚ k)) (down p) high))
    (λ e. subst₂ ◌≤ℚ◌ (sym (ap (λ a. a *ℚ w) e ∙ zero-*ℚ w)) (sym (ap (λ a. a *ℚ x) e ∙ zero-*ℚ x)) (≤ℚ_refl 0ℚ))

-- a combination of the rows makes 0 with values that solve them
solved_row : (m n : ℕ) (f : Matrix) (a w x : ℕ → ℚ) → ((k : ℕ) → a k ≡ sum_below m (λ r. w r *ℚ f r k)) →
    ((i : ℕ) → i < m → sum_below n (λ k. f i k *ℚ x k) ≡ 0ℚ)
    → sum_below n (λ k. a k *ℚ x k) ≡ 0ℚ
solved_row m n f a w x is solves =
    sum_below_same n _ (λ k. sum_below m (λ r. w r *ℚ (f r k *ℚ x k)))
    (λ k _. ap (λ a. a *ℚ x k) (is k) ∙ sum_below-*ℚ m _ (x k)
    ∙ sum_below_same m _ _ (λ r _. *ℚ_assoc (w r) (f r k) (x k)))
    ∙ sym (sum_below_swap m n (λ r k. w r *ℚ (f r k *ℚ x k)))
    ∙ sum_below_none m _
    (λ r p. sym (*ℚ-sum_below (w r) n (λ k. f r k *ℚ x k)) ∙ ap (λ a. w r *ℚ a) (solves r p) ∙ *ℚ_zero (w r))

pub refuted : (m n : ℕ) (f : Matrix) (b : Bounds) (a w : ℕ → ℚ) → Refutes m n f b a w → (x : ℕ → ℚ) →
    ¬ (IsSolution m n f b x)
refuted m n f b a w r x s =
    clash_ℚ 0ℚ (sum_below n (λ k. a k *ℚ w k)) r.positive
    (subst (λ z. sum_below n (λ k. a k *ℚ w k) ≤ℚ z) (solved_row m n f a r.weights x r.combined s.solves)
    (sum_below_mono n (λ k. a k *ℚ w k) (λ k. a k *ℚ x k)
    (λ k h. term_least (b.lower k) (b.upper k) (a k) (w k) (x k)
    (r.above k h) (r.below k h) (s.within k h).lower (s.within k h).upper)))
