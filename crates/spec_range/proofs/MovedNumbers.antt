-- What is left of a tableau when one cost moves, and when the value of one column that is not basic does.
use Rattle.std.proofs.Common.{◌≡◌, ◌≢◌, ℕ, ◌<◌, sym, ap, ap₂, ◌∙◌, subst, subst₂}
use Rattle.spec_exact.specs.Fraction.{ℚ, ◌+ℚ◌, ◌-ℚ◌, ◌*ℚ◌, 0ℚ, 1ℚ}
use Rattle.spec_exact.specs.Sums.{sum_below}
use Rattle.spec_exact.proofs.Field.{+ℚ_zero, *ℚ_zero}
use Rattle.spec_exact.proofs.Ruleset.{ring}
use Rattle.spec_exact.proofs.Sums.{sum_below_same, sum_below-+ℚ, *ℚ-sum_below}
use Rattle.spec_pivot.specs.declared.status.Status.TheVariants.{Basic}
use Rattle.spec_pivot.specs.declared.status.Way.TheVariants.{Up}
use Rattle.spec_pivot.specs.Tableau.{Matrix, delta}
use Rattle.spec_pivot.specs.Simplex.{Bounds, Table, IsTableau, Stands, ray}
use Rattle.spec_pivot.proofs.SameEquations.{outside}
use Rattle.spec_pivot.proofs.Pivot.{by_eq}
use Rattle.spec_pivot.proofs.Ray.{ray_at, ray_still, form_ray}
use Rattle.spec_pivot.proofs.Values.{by_basic}

-- the table with the reduced costs that it has when the cost of column j grows by d, where e is the tableau's row of j
-- if j is basic, else 0
abbrev pub repriced : Table → ℕ → ℚ → (ℕ → ℚ) → Table
repriced t j d e =
    record {
      entry = t.entry;
      basic = t.basic;
      value = t.value;
      reduced = λ k. t.reduced k +ℚ d *ℚ (delta j k -ℚ e k);
      status = t.status;
    }

-- the table with the values that it has when column s, which is not basic, rises by v and the basic columns follow
abbrev pub carried : ℕ → Table → ℕ → ℚ → Table
carried m t s v =
    record {
      entry = t.entry;
      basic = t.basic;
      value = λ k. t.value k +ℚ v *ℚ ray m t Up s k;
      reduced = t.reduced;
      status = t.status;
    }

module _ (m n : ℕ) (f : Matrix) (cost : ℕ → ℚ) (b : Bounds) (t : Table) (g : IsTableau m n f cost b t) where
  -- with the cost of column j grown by d, the table with its new reduced costs is a tableau of the new costs
  pub repriced_is : (j : ℕ) (d : ℚ) (e weights : ℕ → ℚ) (cost' : ℕ → ℚ) →
      ((k : ℕ) → e k ≡ sum_below m (λ r. weights r *ℚ f r k)) →
      ((i : ℕ) → i < m → e (t.basic i) ≡ delta j (t.basic i)) →
      ((k : ℕ) → cost k +ℚ d *ℚ delta j k ≡ cost' k) → IsTableau m n f cost' b (repriced t j d e)
  repriced_is j d e weights cost' combined at_basic costs = record {
    in_range = g.in_range;
    forth = g.forth;
    back = g.back;
    units = g.units;
    costs = record {
      weights = λ r. g.costs.weights r +ℚ d *ℚ weights r;
      less =
          λ k. ap₂ (λ x y. x +ℚ d *ℚ (delta j k -ℚ y)) (g.costs.less k) (combined k)
          ∙ gather (cost k) (sum_below m (λ r. g.costs.weights r *ℚ f r k)) d (delta j k)
          (sum_below m (λ r. weights r *ℚ f r k))
          ∙ ap₂ (λ x y. x -ℚ y) (costs k) (ap (λ a. sum_below m (λ r. g.costs.weights r *ℚ f r k) +ℚ a)
          (*ℚ-sum_below d m (λ r. weights r *ℚ f r k))
          ∙ sym (sum_below-+ℚ m (λ r. g.costs.weights r *ℚ f r k) (λ r. d *ℚ (weights r *ℚ f r k)))
          ∙ sum_below_same m _ _ (λ r _. one (g.costs.weights r) d (weights r) (f r k)));
      at_basic =
          λ i p. ap₂ (λ x y. x +ℚ d *ℚ (delta j (t.basic i) -ℚ y)) (g.costs.at_basic i p) (at_basic i p)
          ∙ none d (delta j (t.basic i));
    };
    marked = g.marked;
    placed = g.placed;
    stands = g.stands;
    solves = g.solves;
  }
    where
      gather : (c s d a e : ℚ) → (c -ℚ s) +ℚ d *ℚ (a -ℚ e) ≡ (c +ℚ d *ℚ a) -ℚ (s +ℚ d *ℚ e)
      gather c s d a e = simp ring

      one : (u d w a : ℚ) → u *ℚ a +ℚ d *ℚ (w *ℚ a) ≡ (u +ℚ d *ℚ w) *ℚ a
      one u d w a = simp ring

      none : (d a : ℚ) → 0ℚ +ℚ d *ℚ (a -ℚ a) ≡ 0ℚ
      none d a = simp ring

  -- a tableau is one of other bounds too, where each nonbasic column stands at them as its status says
  pub rebounded_is : (c : Bounds) →
      ((k : ℕ) → k < n → ¬ (t.status k ≡ Basic) → Stands (t.status k) (c.lower k) (c.upper k) (t.value k)) →
      IsTableau m n f cost c t
  rebounded_is c still = record {
    in_range = g.in_range;
    forth = g.forth;
    back = g.back;
    units = g.units;
    costs = g.costs;
    marked = g.marked;
    placed = g.placed;
    stands = λ k h. by_basic (t.status k)
        (λ e. subst (λ s. Stands s (c.lower k) (c.upper k) (t.value k)) (sym e) tt)
        (λ e. still k h e);
    solves = g.solves;
  }

  -- where a nonbasic column rises by v to where its moved bounds let it stand, the table with its new values is a
  -- tableau
  pub carried_is : (s : ℕ) (v : ℚ) (c : Bounds) → s < n → ¬ (t.status s ≡ Basic) →
      Stands (t.status s) (c.lower s) (c.upper s) (t.value s +ℚ v) →
      ((k : ℕ) → k < n → k ≢ s → (c.lower k ≡ b.lower k) × (c.upper k ≡ b.upper k)) →
      IsTableau m n f cost c (carried m t s v)
  carried_is s v c s_in free own others = record {
    in_range = g.in_range;
    forth = g.forth;
    back = g.back;
    units = g.units;
    costs = g.costs;
    marked = g.marked;
    placed = g.placed;
    stands = λ k h. by_basic (t.status k)
        (λ e. subst (λ x. Stands x (c.lower k) (c.upper k) (t.value k +ℚ v *ℚ ray m t Up s k)) (sym e) tt)
        (λ e. by_eq k s
        (λ z. subst (λ k. Stands (t.status k) (c.lower k) (c.upper k) (t.value k +ℚ v *ℚ ray m t Up s k)) (sym z)
        (subst (Stands (t.status s) (c.lower s) (c.upper s))
        (sym (ap (λ a. t.value s +ℚ v *ℚ a) (ray_at m t g.units Up s (outside m n f cost b t g s free))
        ∙ whole (t.value s) v)) own))
        (λ z. let o = others k h z in
        subst (λ x. Stands (t.status k) (c.lower k) (c.upper k) x)
        (sym (ap (λ a. t.value k +ℚ v *ℚ a)
        (ray_still m t g.units Up s (outside m n f cost b t g s free) k (λ y. z (sym y)) (outside m n f cost b t g k e))
        ∙ still (t.value k) v))
        (subst₂ (λ l u. Stands (t.status k) l u (t.value k)) (sym o.0) (sym o.1) (g.stands k h))));
    solves = λ i h. sum_below_same n _ (λ k. f i k *ℚ t.value k +ℚ v *ℚ (f i k *ℚ ray m t Up s k))
        (λ k _. apart (f i k) (t.value k) v (ray m t Up s k))
        ∙ sum_below-+ℚ n (λ k. f i k *ℚ t.value k) (λ k. v *ℚ (f i k *ℚ ray m t Up s k))
        ∙ ap₂ ◌+ℚ◌ (g.solves i h) (sym (*ℚ-sum_below v n (λ k. f i k *ℚ ray m t Up s k))
        ∙ ap (λ a. v *ℚ a) (form_ray m t g.units Up s (outside m n f cost b t g s free) n s_in g.in_range f g.back i h)
        ∙ *ℚ_zero v)
        ∙ +ℚ_zero 0ℚ;
  }
    where
      whole : (x v : ℚ) → x +ℚ v *ℚ 1ℚ ≡ x +ℚ v
      whole x v = simp ring

      still : (x v : ℚ) → x +ℚ v *ℚ 0ℚ ≡ x
      still x v = simp ring

      apart : (a x v r : ℚ) → a *ℚ (x +ℚ v *ℚ r) ≡ a *ℚ x +ℚ v *ℚ (a *ℚ r)
      apart a x v r = simp ring
