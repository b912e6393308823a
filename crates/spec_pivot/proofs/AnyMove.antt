-- A pivot or a flip of a column that is not basic, by any rule, leaves a tableau of the same rows, costs and bounds.
--
-- `set_at`: after column k gets a status, column k has that status.
-- `set_off`: after column k gets a status, each other column has the status that it had.
use Rattle.std.proofs.Common.{◌≡◌, ℕ, ◌<◌, ◌≢◌, refl, sym, ap, ap₂, ◌∙◌, subst, eq-eqb, ne_eqb}
use Rattle.spec_exact.specs.Fraction.{ℚ, ◌+ℚ◌, ◌-ℚ◌, ◌*ℚ◌, 0ℚ, 1ℚ, inverse}
use Rattle.spec_exact.specs.Sums.{sum_below}
use Rattle.spec_exact.proofs.Field.{+ℚ_zero, *ℚ_zero, *ℚ_inverse}
use Rattle.spec_exact.proofs.Ruleset.{ring}
use Rattle.spec_exact.proofs.Sums.{sum_below_same, sum_below-+ℚ, *ℚ-sum_below}
use Rattle.spec_pivot.specs.Tableau.{Matrix}
use Rattle.spec_pivot.specs.declared.status.Status.{Status}
use Rattle.spec_pivot.specs.declared.status.Status.TheVariants.{Basic, AtLower, AtUpper, AtZero}
use Rattle.spec_pivot.specs.declared.status.Way.{Way}
use Rattle.spec_pivot.specs.Simplex.{Bounds, Stands, Table, ray, AgreesWith, IsTableau}
use Rattle.spec_pivot.specs.Simplex.{moved, status_set, after_pivot, after_flip, Exchanges}
use Rattle.spec_pivot.proofs.Pivot.{by_eq, delta_other, entered_at, entered_off}
use Rattle.spec_pivot.proofs.Pivot.{forth, back, units, Spans_trans, pivot_row_zero}
use Rattle.spec_pivot.proofs.Unique.{apart}
use Rattle.spec_pivot.proofs.Ray.{ray_still, form_ray}

pub set_at : (s : ℕ → Status) (k : ℕ) (v : Status) → status_set s k v k ≡ v
set_at s k v = rw (eq-eqb k k refl)

pub set_off : (s : ℕ → Status) (k : ℕ) (v : Status) (i : ℕ) → i ≢ k → status_set s k v i ≡ s i
set_off s k v i n = rw (ne_eqb i k n)

module _ (m n : ℕ) (f : Matrix) (cost : ℕ → ℚ) (b : Bounds) (t : Table) (g : IsTableau m n f cost b t) where
  -- a column that is not basic stands at no position
  pub outside : (k : ℕ) → ¬ (t.status k ≡ Basic) → (i : ℕ) → i < m → ¬ (t.basic i ≡ k)
  outside k o i h e = o (subst (λ k. t.status k ≡ Basic) e (g.marked i h))

  abbrev cost_of : (ℕ → ℚ) → ℚ
  cost_of x = sum_below n (λ k. cost k *ℚ x k)

  module _ (way : Way) (j : ℕ) (j_in : j < n) (nonbasic : ¬ (t.status j ≡ Basic)) where
    pub j_outside : (i : ℕ) → i < m → ¬ (t.basic i ≡ j)
    j_outside = outside j nonbasic

    -- the values that move solve the rows
    pub solves_moved : (theta : ℚ) (i : ℕ) → i < m → sum_below n (λ k. f i k *ℚ moved m t way j theta k) ≡ 0ℚ
    solves_moved theta i h =
        sum_below_same n _ (λ k. f i k *ℚ t.value k +ℚ theta *ℚ (f i k *ℚ ray m t way j k))
        (λ k _. spread (f i k) (t.value k) theta (ray m t way j k))
        ∙ sum_below-+ℚ n _ _
        ∙ ap₂ ◌+ℚ◌ (g.solves i h)
        (sym (*ℚ-sum_below theta n _)
        ∙ ap (λ a. theta *ℚ a) (form_ray m t g.units way j j_outside n j_in g.in_range f g.back i h) ∙ *ℚ_zero theta)
        ∙ +ℚ_zero 0ℚ
      where
        spread : (a v s r : ℚ) → a *ℚ (v +ℚ s *ℚ r) ≡ a *ℚ v +ℚ s *ℚ (a *ℚ r)
        spread a v s r = simp ring

    -- a move by theta adds theta times the cost along the ray to the cost
    pub cost_moved : (theta : ℚ) →
        cost_of (moved m t way j theta) ≡ cost_of t.value +ℚ theta *ℚ sum_below n (λ k. cost k *ℚ ray m t way j k)
    cost_moved theta =
        sum_below_same n _ (λ k. cost k *ℚ t.value k +ℚ theta *ℚ (cost k *ℚ ray m t way j k))
        (λ k _. spread (cost k) (t.value k) theta (ray m t way j k))
        ∙ sum_below-+ℚ n _ _ ∙ ap (λ a. cost_of t.value +ℚ a) (sym (*ℚ-sum_below theta n _))
      where
        spread : (a v s r : ℚ) → a *ℚ (v +ℚ s *ℚ r) ≡ a *ℚ v +ℚ s *ℚ (a *ℚ r)
        spread a v s r = simp ring

    -- a column that is not basic and does not enter stays
    pub stays : (theta : ℚ) (k : ℕ) → ¬ (t.status k ≡ Basic) → k ≢ j → moved m t way j theta k ≡ t.value k
    stays theta k o q =
        ap (λ a. t.value k +ℚ theta *ℚ a) (ray_still m t g.units way j j_outside k (λ e. q (sym e)) (outside k o))
        ∙ none (t.value k) theta
      where
        none : (v s : ℚ) → v +ℚ s *ℚ 0ℚ ≡ v
        none v s = simp ring

    -- where a column stood, it stands after a move of another
    standing : (theta : ℚ) (k : ℕ) → k < n → k ≢ j →
        Stands (t.status k) (b.lower k) (b.upper k) (moved m t way j theta k)
    standing theta k h z = go (t.status k) refl
      where
        go : (s : Status) → t.status k ≡ s → Stands (t.status k) (b.lower k) (b.upper k) (moved m t way j theta k)
        go Basic q = subst (λ s. Stands s (b.lower k) (b.upper k) (moved m t way j theta k)) (sym q) tt
        go AtLower q =
            subst (λ v. Stands (t.status k) (b.lower k) (b.upper k) v)
            (sym (stays theta k (λ w. let y : AtLower ≡ Basic = sym q ∙ w in cc) z)) (g.stands k h)
        go AtUpper q =
            subst (λ v. Stands (t.status k) (b.lower k) (b.upper k) v)
            (sym (stays theta k (λ w. let y : AtUpper ≡ Basic = sym q ∙ w in cc) z)) (g.stands k h)
        go AtZero q =
            subst (λ v. Stands (t.status k) (b.lower k) (b.upper k) v)
            (sym (stays theta k (λ w. let y : AtZero ≡ Basic = sym q ∙ w in cc) z)) (g.stands k h)

    pub flip_kept : (theta : ℚ) (to : Status) → ¬ (to ≡ Basic) →
        Stands to (b.lower j) (b.upper j) (moved m t way j theta j)
        → IsTableau m n f cost b (after_flip m t way j theta to)
    flip_kept theta to o st = record {
      in_range = g.in_range;
      forth = g.forth;
      back = g.back;
      units = g.units;
      costs = g.costs;
      marked = λ i h. set_off t.status j to (t.basic i) (λ q. j_outside i h q) ∙ g.marked i h;
      placed = λ k h q. by_eq k j
          (λ z. absurd (o (sym (subst (λ k. status_set t.status j to k ≡ to) (sym z) (set_at t.status j to)) ∙ q)))
          (λ z. g.placed k h (sym (set_off t.status j to k z) ∙ q));
      stands = λ k h. by_eq k j
          (λ z. subst (λ k. Stands (status_set t.status j to k) (b.lower k) (b.upper k) (moved m t way j theta k))
          (sym z)
          (subst (λ s. Stands s (b.lower j) (b.upper j) (moved m t way j theta j)) (sym (set_at t.status j to)) st))
          (λ z. subst (λ s. Stands s (b.lower k) (b.upper k) (moved m t way j theta k))
          (sym (set_off t.status j to k z)) (standing theta k h z));
      solves = solves_moved theta;
    }

  -- ---- a pivot
  module _ (way : Way) (j p : ℕ) (theta : ℚ) (to : Status) (v : Exchanges m n b t way j p theta to) where
    abbrev next : Table
    next = after_pivot m t way j p theta to

    factor : ℚ
    factor = t.reduced j *ℚ inverse (t.entry p j)

    costs_kept : AgreesWith m f next.basic cost next.reduced
    unfolding factor
    costs_kept = record {
      weights = λ r. g.costs.weights r +ℚ factor *ℚ g.forth.0 p r;
      less = λ k.
          ap₂ (λ a c. a -ℚ t.reduced j *ℚ (c *ℚ inverse (t.entry p j))) (g.costs.less k) (g.forth.1 p k v.position)
          ∙ regroup (cost k) (sum_below m (λ r. g.costs.weights r *ℚ f r k)) (t.reduced j)
          (sum_below m (λ r. g.forth.0 p r *ℚ f r k)) (inverse (t.entry p j))
          ∙ ap (λ a. cost k -ℚ a)
          (sym (sum_below_same m _ (λ r. g.costs.weights r *ℚ f r k +ℚ factor *ℚ (g.forth.0 p r *ℚ f r k))
          (λ r _. spread (g.costs.weights r) factor (g.forth.0 p r) (f r k))
          ∙ sum_below-+ℚ m _ _
          ∙ ap (λ a. sum_below m (λ r. g.costs.weights r *ℚ f r k) +ℚ a) (sym (*ℚ-sum_below factor m _))));
      at_basic = λ i h. by_eq i p
          (λ z. ap next.reduced (ap next.basic z ∙ entered_at t.basic p j)
          ∙ ap (λ a. t.reduced j -ℚ t.reduced j *ℚ a) (*ℚ_inverse (t.entry p j) v.entry) ∙ gone (t.reduced j))
          (λ z. ap next.reduced (entered_off t.basic p j i z)
          ∙ ap₂ (λ a c. a -ℚ t.reduced j *ℚ c) (g.costs.at_basic i h)
          (pivot_row_zero t.entry p j (t.basic i) (g.units i p h v.position ∙ delta_other i p z))
          ∙ nothing (t.reduced j));
    }
      where
        regroup : (c s d w q : ℚ) → (c -ℚ s) -ℚ d *ℚ (w *ℚ q) ≡ c -ℚ (s +ℚ d *ℚ q *ℚ w)
        regroup c s d w q = simp ring

        spread : (w c u f : ℚ) → (w +ℚ c *ℚ u) *ℚ f ≡ w *ℚ f +ℚ c *ℚ (u *ℚ f)
        spread w c u f = simp ring

        gone : (d : ℚ) → d -ℚ d *ℚ 1ℚ ≡ 0ℚ
        gone d = simp ring

        nothing : (d : ℚ) → 0ℚ -ℚ d *ℚ 0ℚ ≡ 0ℚ
        nothing d = simp ring

    -- after the pivot column j is basic
    pub status_j : next.status j ≡ Basic
    status_j = set_at (status_set t.status (t.basic p) to) j Basic

    pub status_left : next.status (t.basic p) ≡ to
    status_left =
        set_off (status_set t.status (t.basic p) to) j Basic (t.basic p)
        (λ e. j_outside way j v.in_range v.nonbasic p v.position e) ∙ set_at t.status (t.basic p) to

    pub status_other : (k : ℕ) → k ≢ j → k ≢ t.basic p → next.status k ≡ t.status k
    status_other k y z = set_off (status_set t.status (t.basic p) to) j Basic k y ∙ set_off t.status (t.basic p) to k z

    pub pivot_kept : IsTableau m n f cost b next
    pivot_kept = record {
      in_range = λ i h. by_eq i p
          (λ z. subst (λ k. k < n) (sym (ap next.basic z ∙ entered_at t.basic p j)) v.in_range)
          (λ z. subst (λ k. k < n) (sym (entered_off t.basic p j i z)) (g.in_range i h));
      forth = Spans_trans m _ _ _ (forth m t.entry p j v.position) g.forth;
      back = Spans_trans m _ _ _ g.back (back m t.entry p j v.position v.entry);
      units = units m t.entry t.basic p j v.position v.entry g.units;
      costs = costs_kept;
      marked = λ i h. by_eq i p
          (λ z. ap next.status (ap next.basic z ∙ entered_at t.basic p j) ∙ status_j)
          (λ z. ap next.status (entered_off t.basic p j i z)
          ∙ status_other (t.basic i) (j_outside way j v.in_range v.nonbasic i h)
          (λ e. z (apart m t.entry t.basic g.units i p h v.position e)) ∙ g.marked i h);
      placed = λ k h q. by_eq k j
          (λ z. (p, v.position, entered_at t.basic p j ∙ sym z))
          (λ y. by_eq k (t.basic p)
          (λ z. absurd (v.to_nonbasic (sym status_left ∙ subst (λ k. next.status k ≡ Basic) z q)))
          (λ z. let w = g.placed k h (sym (status_other k y z) ∙ q) in
          (w.0, w.1, entered_off t.basic p j w.0 (λ e. z (sym w.2 ∙ ap t.basic e)) ∙ w.2)));
      stands = λ k h. by_eq k j
          (λ z. subst (λ s. Stands s (b.lower k) (b.upper k) (next.value k)) (sym (ap next.status z ∙ status_j)) tt)
          (λ y. by_eq k (t.basic p)
          (λ z. subst (λ k. Stands (next.status k) (b.lower k) (b.upper k) (next.value k)) (sym z)
          (subst (λ s. Stands s (b.lower (t.basic p)) (b.upper (t.basic p)) (next.value (t.basic p)))
          (sym status_left) v.lands))
          (λ z. subst (λ s. Stands s (b.lower k) (b.upper k) (next.value k))
          (sym (status_other k y z)) (standing way j v.in_range v.nonbasic theta k h y)));
      solves = solves_moved way j v.in_range v.nonbasic theta;
    }
