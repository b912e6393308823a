-- Steps by the least index never come back to the same statuses.
use Rattle.std.proofs.Common.{◌≡◌, ℕ, zero, suc, ◌+◌, ◌-◌, ◌<◌, ◌≤◌, ◌≢◌, ◌⊎◌, refl}
use Rattle.std.proofs.Common.{sym, ap, ◌∙◌, subst, subst₂, arith, inl, inr, ⊎_elim}
use Rattle.std.proofs.lemmas.Bool.{cases_lt}
use Rattle.spec_exact.specs.Fraction.{ℚ, ◌+ℚ◌, ◌*ℚ◌, neg_ℚ, 0ℚ, 1ℚ, ◌≤ℚ◌, ◌<ℚ◌}
use Rattle.spec_exact.specs.Sums.{sum_below}
use Rattle.spec_exact.proofs.Field.{+ℚ_comm, *ℚ_zero}
use Rattle.spec_exact.proofs.Order.{≤ℚ_refl, ≤ℚ_trans, ≤ℚ_antisym, <ℚ-le, clash_ℚ, by_le}
use Rattle.spec_exact.proofs.Ruleset.{ring, zero-+ℚ, neg-zero}
use Rattle.spec_exact.proofs.Strict.{zero-lt-one, neg_strict, *ℚ_strict, +ℚ_strict, <ℚ-≤ℚ_trans, ≤ℚ-<ℚ_trans}
use Rattle.spec_exact.proofs.Sums.{sum_below_same}
use Rattle.spec_pivot.specs.Tableau.{Matrix}
use Rattle.spec_pivot.specs.declared.status.Status.TheVariants.{Basic}
use Rattle.spec_pivot.specs.declared.status.Way.{Way}
use Rattle.spec_pivot.specs.declared.status.Way.TheVariants.{Up, Down}
use Rattle.spec_pivot.specs.Simplex.{sign, Bounds, MayEnter, CanMove, Improves, Stands, Table}
use Rattle.spec_pivot.specs.Simplex.{ray, IsBlocked, IsTableau, moved, after_pivot, Pivots, StepKind}
use Rattle.spec_pivot.specs.Simplex.{Pivot, Flip, Label, StepOf, IsStep, IsRun, SameStatuses}
use Rattle.spec_pivot.proofs.Pivot.{by_eq}
use Rattle.spec_pivot.proofs.Ray.{ray_at, ray_still, cost_ray}
use Rattle.spec_pivot.proofs.SameEquations.{outside, j_outside, flip_kept, pivot_kept, status_j, status_left, status_other}
use Rattle.spec_pivot.proofs.Values.{by_basic, zero_at_basic, same_values, better, cost_along}
use Rattle.spec_pivot.proofs.Bland.{Goes, Leaving, Entering, no_pair}

-- a sum falls where a multiple of a number below 0, by one above 0, is added
plus_negative : (a s d : ℚ) → 0ℚ <ℚ s → d <ℚ 0ℚ → (a +ℚ s *ℚ d) <ℚ a
plus_negative a s d p h =
    subst₂ ◌<ℚ◌ (+ℚ_comm (s *ℚ d) a) (zero-+ℚ a)
    (+ℚ_strict (s *ℚ d) 0ℚ a (subst (λ x. (s *ℚ d) <ℚ x) (*ℚ_zero s) (*ℚ_strict d 0ℚ s p h)))

module _ (m n : ℕ) (f : Matrix) (cost : ℕ → ℚ) (b : Bounds) where
  cost_at : Table → ℚ
  cost_at t = sum_below n (λ k. cost k *ℚ t.value k)

  -- a step leaves a tableau
  pub step_kept : (l : Label) (t u : Table) → IsTableau m n f cost b t → IsStep m n b l t u → IsTableau m n f cost b u
  step_kept l t u g s = go l.kind s
    where
      go : (k : StepKind) → StepOf k m n b l t u → IsTableau m n f cost b u
      go Pivot s =
          subst (IsTableau m n f cost b) (sym s.1)
          (pivot_kept m n f cost b t g l.way l.column l.position l.theta l.to s.0)
      go Flip s =
          subst (IsTableau m n f cost b) (sym s.1)
          (flip_kept m n f cost b t g l.way l.column s.0.enters l.theta l.to s.0.to_nonbasic s.0.lands)

  -- from t to u leads a pivot by Bland's rule in which the entering column moves by 0
  record Still (l : Label) (t u : Table) : Type 0 where
    rule : Pivots m n b t l.way l.column l.position l.theta l.to
    result : u ≡ after_pivot m t l.way l.column l.position l.theta l.to
    none : l.theta ≡ 0ℚ

  -- a step from a tableau is a pivot in which the entering column moves by 0, or the cost falls
  still_or_less : (l : Label) (t u : Table) → IsTableau m n f cost b t → IsStep m n b l t u →
      Still l t u ⊎ (cost_at u <ℚ cost_at t)
  unfolding cost_at
  still_or_less l t u g s = go l.kind s
    where
      go : (k : StepKind) → StepOf k m n b l t u → Still l t u ⊎ (cost_at u <ℚ cost_at t)
      go Pivot s =
          by_le l.theta 0ℚ
          (λ h. inl (record { rule = s.0; result = s.1; none = ≤ℚ_antisym l.theta 0ℚ h s.0.forward }))
          (λ h. inr (subst (λ u. cost_at u <ℚ cost_at t) (sym s.1)
          (subst (λ a. a <ℚ cost_at t) (sym (cost_along m n f cost b t g l.way l.column s.0.enters l.theta))
          (plus_negative _ l.theta _ h (better m n f cost b t g l.way l.column s.0.enters)))))
      go Flip s =
          inr (subst (λ u. cost_at u <ℚ cost_at t) (sym s.1)
          (subst (λ a. a <ℚ cost_at t) (sym (cost_along m n f cost b t g l.way l.column s.0.enters l.theta))
          (plus_negative _ l.theta _ s.0.forward (better m n f cost b t g l.way l.column s.0.enters))))

  module _ (t : ℕ → Table) (l : ℕ → Label) (len : ℕ) (run : IsRun m n f cost b t l len) where
    pub good : (i : ℕ) → i ≤ len → IsTableau m n f cost b (t i)
    good zero h = run.first
    good (suc i) h = step_kept (l i) (t i) (t (suc i)) (good i (omega arith)) (run.steps i (omega arith))

    no_rise : (i : ℕ) → i < len → cost_at (t (suc i)) ≤ℚ cost_at (t i)
    unfolding cost_at
    no_rise i h =
        ⊎_elim
        (λ s. subst (λ u. cost_at u ≤ℚ cost_at (t i)) (sym s.result)
        (subst (λ a. a ≤ℚ cost_at (t i))
        (sym (cost_along m n f cost b (t i) (good i (omega arith)) (l i).way (l i).column s.rule.enters (l i).theta
        ∙ ap (λ a. cost_at (t i) +ℚ a *ℚ ((t i).reduced (l i).column *ℚ sign (l i).way)) s.none ∙ nothing _ _))
        (≤ℚ_refl _)))
        (λ s. <ℚ-le _ _ s)
        (still_or_less (l i) (t i) (t (suc i)) (good i (omega arith)) (run.steps i h))
      where
        nothing : (a d : ℚ) → a +ℚ 0ℚ *ℚ d ≡ a
        nothing a d = simp ring

    falls_along : (i d : ℕ) → i + d ≤ len → cost_at (t (i + d)) ≤ℚ cost_at (t i)
    falls_along i zero h =
        let e : i + zero ≡ i = omega arith in subst (λ j. cost_at (t j) ≤ℚ cost_at (t i)) (sym e) (≤ℚ_refl _)
    falls_along i (suc d) h =
        let e : i + suc d ≡ suc (i + d) = omega arith in
        subst (λ j. cost_at (t j) ≤ℚ cost_at (t i)) (sym e)
        (≤ℚ_trans _ _ _ (no_rise (i + d) (omega arith)) (falls_along i d (omega arith)))

    module _ (same : SameStatuses n (t 0) (t len)) where
      same_cost : cost_at (t 0) ≡ cost_at (t len)
      unfolding cost_at
      same_cost =
          sum_below_same n _ _
          (λ k h. ap (λ a. cost k *ℚ a)
          (same_values m n f cost b (t 0) run.first (t len) (good len (omega arith)) same k h))

      still : (i : ℕ) → i < len → Still (l i) (t i) (t (suc i))
      still i h =
          ⊎_elim (λ s. s)
          (λ s. absurd (clash_ℚ _ _ (≤ℚ-<ℚ_trans _ _ _ rest (<ℚ-≤ℚ_trans _ _ _ s first))
          (subst (λ a. cost_at (t 0) ≤ℚ a) same_cost (≤ℚ_refl _))))
          (still_or_less (l i) (t i) (t (suc i)) (good i (omega arith)) (run.steps i h))
        where
          first : cost_at (t i) ≤ℚ cost_at (t 0)
          first =
              let e : 0 + i ≡ i = omega arith in
              subst (λ j. cost_at (t j) ≤ℚ cost_at (t 0)) e (falls_along 0 i (omega arith))

          rest : cost_at (t len) ≤ℚ cost_at (t (suc i))
          rest =
              let e : suc i + (len - suc i) ≡ len = omega arith in
              subst (λ j. cost_at (t j) ≤ℚ cost_at (t (suc i))) e (falls_along (suc i) (len - suc i) (omega arith))

      same_value : (i : ℕ) → i ≤ len → (k : ℕ) → (t i).value k ≡ (t 0).value k
      same_value zero h k = refl
      same_value (suc i) h k =
          let s = still i (omega arith) in
          ap (λ (u : Table). u.value k) s.result
          ∙ ap (λ a. (t i).value k +ℚ a *ℚ ray m (t i) (l i).way (l i).column k) s.none
          ∙ nothing _ _ ∙ same_value i (omega arith) k
        where
          nothing : (a d : ℚ) → a +ℚ 0ℚ *ℚ d ≡ a
          nothing a d = simp ring

      col : ℕ → ℕ
      col i = (l i).column

      left : ℕ → ℕ
      left i = (t i).basic (l i).position

      -- the column that enters in a step is basic after it
      status_entered : (i : ℕ) → i < len → (t (suc i)).status (col i) ≡ Basic
      unfolding col
      status_entered i h =
          let s = still i h in
          ap (λ (u : Table). u.status (l i).column) s.result
          ∙ status_j m n f cost b (t i) (good i (omega arith))
          (l i).way (l i).column (l i).position (l i).theta (l i).to s.rule

      status_gone : (i : ℕ) → i < len → ¬ ((t (suc i)).status (left i) ≡ Basic)
      unfolding left
      status_gone i h e =
          let s = still i h in
          s.rule.to_nonbasic
          (sym (ap (λ (u : Table). u.status ((t i).basic (l i).position)) s.result
          ∙ status_left m n f cost b (t i) (good i (omega arith))
          (l i).way (l i).column (l i).position (l i).theta (l i).to s.rule) ∙ e)

      status_same : (i : ℕ) → i < len → (k : ℕ) → k ≢ col i → k ≢ left i → (t (suc i)).status k ≡ (t i).status k
      unfolding col left
      status_same i h k y z =
          let s = still i h in
          ap (λ (u : Table). u.status k) s.result
          ∙ status_other m n f cost b (t i) (good i (omega arith))
          (l i).way (l i).column (l i).position (l i).theta (l i).to s.rule k y z

      was_outside : (i : ℕ) → i < len → ¬ ((t i).status (col i) ≡ Basic)
      unfolding col
      was_outside i h e = let s = still i h in go (l i).way s.rule.enters.eligible.status e
        where
          go : (w : Way) → CanMove w ((t i).status (l i).column) → ¬ ((t i).status (l i).column ≡ Basic)
          go Up c e = subst (CanMove Up) e c
          go Down c e = subst (CanMove Down) e c

      -- a column that is basic before step i, and is not d steps later, leaves in some step of the run
      leaves : (k i d : ℕ) → i + d ≤ len → (t i).status k ≡ Basic → ¬ ((t (i + d)).status k ≡ Basic) →
          (a : ℕ) × (a < len) × (left a ≡ k)
      leaves k i zero h p q =
          absurd (q (let e : i + zero ≡ i = omega arith in subst (λ j. (t j).status k ≡ Basic) (sym e) p))
      leaves k i (suc d) h p q =
          let e : i + suc d ≡ suc (i + d) = omega arith in
          by_basic ((t (i + d)).status k)
          (λ s. by_eq k (left (i + d))
          (λ z. (i + d, omega arith, sym z))
          (λ z. absurd (q (subst (λ j. (t j).status k ≡ Basic) (sym e)
          (by_eq k (col (i + d))
          (λ y. subst (λ k. (t (suc (i + d))).status k ≡ Basic) (sym y) (status_entered (i + d) (omega arith)))
          (λ y. status_same (i + d) (omega arith) k y z ∙ s))))))
          (λ s. leaves k i d (omega arith) p s)

      enters : (k i d : ℕ) → i + d ≤ len → ¬ ((t i).status k ≡ Basic) → (t (i + d)).status k ≡ Basic →
          (a : ℕ) × (a < len) × (col a ≡ k)
      enters k i zero h p q = absurd (p (let e : i + zero ≡ i = omega arith in subst (λ j. (t j).status k ≡ Basic) e q))
      enters k i (suc d) h p q =
          let e : i + suc d ≡ suc (i + d) = omega arith in
          let after : (t (suc (i + d))).status k ≡ Basic = subst (λ j. (t j).status k ≡ Basic) e q in
          by_basic ((t (i + d)).status k)
          (λ s. enters k i d (omega arith) p s)
          (λ s. by_eq k (col (i + d))
          (λ z. (i + d, omega arith, sym z))
          (λ z. by_eq k (left (i + d))
          (λ y. absurd (status_gone (i + d) (omega arith) (subst (λ k. (t (suc (i + d))).status k ≡ Basic) y after)))
          (λ y. absurd (s (sym (status_same (i + d) (omega arith) k z y) ∙ after)))))

      -- a column that is basic at one place of a run that ends as it began, and not at another, leaves in some step
      leaves_to : (k i j : ℕ) → k < n → i ≤ len → j ≤ len → (t i).status k ≡ Basic → ¬ ((t j).status k ≡ Basic) →
          (a : ℕ) × (a < len) × (left a ≡ k)
      leaves_to k i j kn h g p q =
          ⊎_elim
          (λ lt. by_basic ((t len).status k)
          (λ s. let e : 0 + j ≡ j = omega arith in
          leaves k 0 j (omega arith) (same k kn ∙ s) (subst (λ a. ¬ ((t a).status k ≡ Basic)) (sym e) q))
          (λ s. let e : i + (len - i) ≡ len = omega arith in
          leaves k i (len - i) (omega arith) p (subst (λ a. ¬ ((t a).status k ≡ Basic)) (sym e) s)))
          (λ le. let e : i + (j - i) ≡ j = omega arith in
          leaves k i (j - i) (omega arith) p (subst (λ a. ¬ ((t a).status k ≡ Basic)) (sym e) q))
          (cases_lt j i)

      enters_to : (k i j : ℕ) → k < n → i ≤ len → j ≤ len → ¬ ((t i).status k ≡ Basic) → (t j).status k ≡ Basic →
          (a : ℕ) × (a < len) × (col a ≡ k)
      enters_to k i j kn h g p q =
          ⊎_elim
          (λ lt. by_basic ((t len).status k)
          (λ s. let e : i + (len - i) ≡ len = omega arith in
          enters k i (len - i) (omega arith) p (subst (λ a. (t a).status k ≡ Basic) (sym e) s))
          (λ s. let e : 0 + j ≡ j = omega arith in
          enters k 0 j (omega arith) (λ z. s (sym (same k kn) ∙ z)) (subst (λ a. (t a).status k ≡ Basic) (sym e) q)))
          (λ le. let e : i + (j - i) ≡ j = omega arith in
          enters k i (j - i) (omega arith) p (subst (λ a. (t a).status k ≡ Basic) (sym e) q))
          (cases_lt j i)

      -- one of the first c steps has the greatest entering column of them all
      greatest : (c : ℕ) → 0 < c → c ≤ len → (i : ℕ) × (i < c) × ((a : ℕ) → a < c → col a ≤ col i)
      greatest zero h g = absurd (let z : ⊥ = omega arith in z)
      greatest (suc zero) h g = (
        0,
        omega arith,
        λ a p. let e : a ≡ 0 = omega arith in
            subst (λ a. col a ≤ col 0) (sym e) (let z : col 0 ≤ col 0 = omega arith in z),
      )
      greatest (suc (suc c)) h g =
          let r = greatest (suc c) (omega arith) (omega arith) in
          ⊎_elim
          (λ lt. (
            suc c,
            omega arith,
            λ a p.
                by_eq a (suc c)
                (λ e. subst (λ a. col a ≤ col (suc c)) (sym e) (let z : col (suc c) ≤ col (suc c) = omega arith in z))
                (λ o. let q : col a ≤ col r.0 = r.2 a (omega arith) in omega arith),
          ))
          (λ le. (
            r.0,
            omega (arith, r.1),
            λ a p. by_eq a (suc c) (λ e. subst (λ a. col a ≤ col r.0) (sym e) le) (λ o. r.2 a (omega arith)),
          ))
          (cases_lt (col r.0) (col (suc c)))

      x : ℕ → ℚ
      x = (t 0).value

      entering_side : (i : ℕ) → i < len → Entering n b x (t i).reduced (t i).status (col i)
      unfolding col x
      entering_side i h =
          let s = still i h in let g = good i (omega arith) in
          record {
            g_in = s.rule.enters.in_range;
            zero_at_basic = zero_at_basic m n f cost b (t i) g;
            stands =
                λ k p. subst (λ v. Stands ((t i).status k) (b.lower k) (b.upper k) v)
                (same_value i (omega arith) k) (g.stands k p);
            may_enter = s.rule.enters.eligible.may_enter;
            can_move = λ w p. can_move (l i).way w s.rule.enters.eligible.status s.rule.enters.eligible.improves p;
            least = λ k w p q r z. s.rule.enters.least k w p (record { may_enter = q; status = r; improves = z });
          }
        where
          can_move : (v w : Way) → CanMove v ((t i).status (l i).column) → Improves v ((t i).reduced (l i).column) →
              Improves w ((t i).reduced (l i).column) → CanMove w ((t i).status (l i).column)
          can_move Up Up c z p = c
          can_move Up Down c z p = clash_ℚ _ _ z (<ℚ-le _ _ p)
          can_move Down Up c z p = clash_ℚ _ _ z (<ℚ-le _ _ p)
          can_move Down Down c z p = c

      ray_of : ℕ → ℕ → ℚ
      ray_of i = ray m (t i) (l i).way (l i).column

      leaving_side : (i : ℕ) → i < len → Leaving n b x (t i).reduced (t i).status (ray_of i) (col i) (left i)
      unfolding col x left ray_of
      leaving_side i h =
          let s = still i h in let g = good i (omega arith) in
          let at =
          ray_at m (t i) g.units
          (l i).way (l i).column (j_outside m n f cost b (t i) g (l i).way (l i).column s.rule.enters) in
          let here : (k : ℕ) → moved m (t i) (l i).way (l i).column (l i).theta k ≡ (t 0).value k =
          λ k. ap (λ a. (t i).value k +ℚ a *ℚ ray m (t i) (l i).way (l i).column k) s.none
          ∙ nothing _ _ ∙ same_value i (omega arith) k in
          record {
            j_in = s.rule.enters.in_range;
            zero_at_basic = zero_at_basic m n f cost b (t i) g;
            still = λ k p q z.
                ray_still m (t i) g.units
                (l i).way (l i).column (j_outside m n f cost b (t i) g (l i).way (l i).column s.rule.enters) k
                (λ e. z (sym e)) (outside m n f cost b (t i) g k q);
            stands =
                λ k p. subst (λ v. Stands ((t i).status k) (b.lower k) (b.upper k) v)
                (same_value i (omega arith) k) (g.stands k p);
            may_enter = s.rule.enters.eligible.may_enter;
            can_move = λ w p. can_move (l i).way w s.rule.enters.eligible.status (subst (Goes w) at p);
            better =
                subst (λ a. ((t i).reduced (l i).column *ℚ a) <ℚ 0ℚ) (sym at)
                (better m n f cost b (t i) g (l i).way (l i).column s.rule.enters);
            blocked =
                subst (λ v. IsBlocked b ((t i).basic (l i).position) v
                (ray m (t i) (l i).way (l i).column ((t i).basic (l i).position))) (here _) s.rule.blocked;
            least = λ k p q z.
                let w = g.placed k (omega (arith, g.in_range (l i).position s.rule.position)) q in
                s.rule.least w.0 w.1 (omega (arith, w.2))
                (subst (λ v. IsBlocked b ((t i).basic w.0) v (ray m (t i) (l i).way (l i).column ((t i).basic w.0)))
                (sym (here _))
                (subst (λ k. IsBlocked b k ((t 0).value k) (ray m (t i) (l i).way (l i).column k)) (sym w.2) z));
          }
        where
          nothing : (a d : ℚ) → a +ℚ 0ℚ *ℚ d ≡ a
          nothing a d = simp ring

          below : neg_ℚ 1ℚ <ℚ 0ℚ
          below = subst (λ a. neg_ℚ 1ℚ <ℚ a) neg-zero (neg_strict 0ℚ 1ℚ zero-lt-one)

          can_move : (v w : Way) → CanMove v ((t i).status (l i).column) → Goes w (sign v) →
              CanMove w ((t i).status (l i).column)
          can_move Up Up c p = c
          can_move Up Down c p = clash_ℚ _ _ p (<ℚ-le _ _ zero-lt-one)
          can_move Down Up c p = clash_ℚ _ _ p (<ℚ-le _ _ below)
          can_move Down Down c p = c

      one_sum : (i a : ℕ) → i < len → a < len →
          sum_below n (λ k. (t i).reduced k *ℚ ray_of i k) ≡ sum_below n (λ k. (t a).reduced k *ℚ ray_of i k)
      unfolding ray_of
      one_sum i a h p =
          let s = still i h in let g = good i (omega arith) in let q = good a (omega arith) in
          let out = j_outside m n f cost b (t i) g (l i).way (l i).column s.rule.enters in
          cost_ray m (t i) g.units (l i).way (l i).column out n s.rule.enters.in_range g.in_range f cost
          (t i).reduced g.back g.costs.weights g.costs.less
          ∙ sym (cost_ray m (t i) g.units (l i).way (l i).column out n s.rule.enters.in_range g.in_range f cost
          (t a).reduced g.back q.costs.weights q.costs.less)

      may_enter_at : (i : ℕ) → i < len → MayEnter b (col i)
      unfolding col
      may_enter_at i h = (still i h).rule.enters.eligible.may_enter

      col_in : (i : ℕ) → i < len → col i < n
      unfolding col
      col_in i h = (still i h).rule.enters.in_range

      contradiction : 0 < len → ⊥
      contradiction h =
          let r = greatest len h (omega arith) in
          let away =
          leaves_to (col r.0) (suc r.0) r.0 (col_in r.0 r.1) (omega (arith, r.1))
          (omega (arith, r.1)) (status_entered r.0 r.1) (was_outside r.0 r.1) in
          no_pair n b x (t away.0).reduced (t r.0).reduced (t away.0).status (t r.0).status (ray_of away.0)
          (col away.0) (col r.0)
          (subst (Leaving n b x (t away.0).reduced (t away.0).status (ray_of away.0) (col away.0)) away.2
          (leaving_side away.0 away.1))
          (entering_side r.0 r.1)
          (λ k p w z. by_entry k (col r.0)
          (⊎_elim
          (λ q. let a = enters_to k r.0 away.0 p (omega (arith, r.1)) (omega (arith, away.1)) z q in (a.0, a.1, a.2))
          (λ q. (away.0, away.1, sym q))
          w)
          r.2)
          (one_sum away.0 r.0 away.1 r.1)
        where
          by_entry : (k g : ℕ) → ((a : ℕ) × (a < len) × (col a ≡ k)) → ((a : ℕ) → a < len → col a ≤ g) →
              (k < g ⊎ k ≡ g) × MayEnter b k
          by_entry k g a most = (
            let q : col a.0 ≤ g = most a.0 a.1 in let z : k ≤ g = omega (arith, a.2) in
                ⊎_elim (λ lt. inl lt) (λ ge. inr (omega arith)) (cases_lt k g),
            subst (λ k. MayEnter b k) a.2 (may_enter_at a.0 a.1),
          )

-- a run of at least one step does not end with the statuses that it began with
pub no_cycle : (m n : ℕ) (f : Matrix) (cost : ℕ → ℚ) (b : Bounds) (t : ℕ → Table) (l : ℕ → Label) (len : ℕ) →
    IsRun m n f cost b t l len → 0 < len
    → ¬ (SameStatuses n (t 0) (t len))
no_cycle m n f cost b t l len run h same = contradiction m n f cost b t l len run same h
