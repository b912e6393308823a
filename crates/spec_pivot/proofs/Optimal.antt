-- Where no value is outside its bounds and each reduced cost has the sign that suits its status, the values cost least.
--
-- `none_eligible`: in a tableau that is dual feasible no column is eligible for the primal method.
-- `if_some`: what holds of each value that an option may have holds of the option.
-- `within_where_basic`: where each basic value is within its bounds, each value is, if no bounds clash.
use Rattle.std.proofs.Common.{◌≡◌, ℕ, ◌<◌, Option, Some, None, IfSome, refl, sym, subst, subst₂, ⊎_elim}
use Rattle.spec_exact.specs.Fraction.{ℚ, ◌*ℚ◌, 0ℚ, ◌≤ℚ◌, ◌<ℚ◌}
use Rattle.spec_exact.specs.Sums.{sum_below}
use Rattle.spec_exact.proofs.Order.{≤ℚ_refl, clash_ℚ}
use Rattle.spec_exact.proofs.Strict.{<ℚ_irrefl}
use Rattle.spec_exact.proofs.Sums.{sum_below_mono}
use Rattle.spec_pivot.specs.declared.status.Status.{Status}
use Rattle.spec_pivot.specs.declared.status.Status.TheVariants.{Basic, AtLower, AtUpper, AtZero}
use Rattle.spec_pivot.specs.declared.status.Way.{Way}
use Rattle.spec_pivot.specs.declared.status.Way.TheVariants.{Up, Down}
use Rattle.spec_pivot.specs.Tableau.{Matrix}
use Rattle.spec_pivot.specs.Simplex.{Bounds, IsFixed, IsInside, IsWithin, Stands}
use Rattle.spec_pivot.specs.Simplex.{CanMove, Improves, IsEligible, Table, IsTableau}
use Rattle.spec_pivot.proofs.Fixed.{fixed_or_not, costs_agree}
use Rattle.spec_pivot.proofs.Values.{by_basic, zero_at_basic}
use Rattle.spec_pivot.specs.Dual.{Suits, IsDualFeasible, IsOrdered, IsSolution, IsComplementary}
use Rattle.spec_pivot.proofs.Refuted.{fixed_lower, fixed_upper, term_least}

-- ---- a column with the sign that belongs to its status is not eligible

-- a column whose reduced cost suits its status lowers the cost by no move that its status allows
not_improving : (way : Way) (s : Status) (d : ℚ) → Suits s d → CanMove way s → Improves way d → ⊥
not_improving Up Basic d f c i = c
not_improving Up AtLower d f c i = clash_ℚ d 0ℚ i f
not_improving Up AtUpper d f c i = c
not_improving Up AtZero d f c i = <ℚ_irrefl 0ℚ (subst (λ a. a <ℚ 0ℚ) f i)
not_improving Down Basic d f c i = c
not_improving Down AtLower d f c i = c
not_improving Down AtUpper d f c i = clash_ℚ 0ℚ d i f
not_improving Down AtZero d f c i = <ℚ_irrefl 0ℚ (subst (λ a. 0ℚ <ℚ a) f i)

pub none_eligible : (n : ℕ) (b : Bounds) (t : Table) → IsDualFeasible n b t → (way : Way) (k : ℕ) → k < n →
    ¬ (IsEligible b t way k)
none_eligible n b t feasible way k h e =
    not_improving way (t.status k) (t.reduced k) (feasible k h e.may_enter.1) e.status e.improves

-- ---- values that are not basic are within their bounds
pub if_some : (P : ℚ → Type 0) (x : Option ℚ) → ((a : ℚ) → x ≡ Some a → P a) → IfSome x P
if_some P None k = tt
if_some P (Some a) k = k a refl

-- a nonbasic value that stands where its status says is within its bounds, if these do not clash
stands_inside : (s : Status) (l u : Option ℚ) (v : ℚ) → ((a c : ℚ) → l ≡ Some a → u ≡ Some c → a ≤ℚ c) → ¬ (s ≡ Basic) →
    Stands s l u v → IsInside l u v
stands_inside Basic l u v o n h = absurd (n refl)
stands_inside AtLower l u v o n h = record {
  lower = subst (λ x. IfSome x (λ k. k ≤ℚ v)) (sym h) (≤ℚ_refl v);
  upper = if_some (λ k. v ≤ℚ k) u (λ c e. o v c h e);
}
stands_inside AtUpper l u v o n h = record {
  lower = if_some (λ k. k ≤ℚ v) l (λ a e. o a v e h);
  upper = subst (λ x. IfSome x (λ k. v ≤ℚ k)) (sym h) (≤ℚ_refl v);
}
stands_inside AtZero l u v o n h = record {
  lower = subst (λ x. IfSome x (λ k. k ≤ℚ v)) (sym h.0) tt;
  upper = subst (λ x. IfSome x (λ k. v ≤ℚ k)) (sym h.1) tt;
}

pub within_where_basic : (m n : ℕ) (f : Matrix) (cost : ℕ → ℚ) (b : Bounds) (t : Table) →
    IsTableau m n f cost b t → IsOrdered n b
    → ((k : ℕ) → k < n → t.status k ≡ Basic → IsInside (b.lower k) (b.upper k) (t.value k)) → IsWithin n b t
within_where_basic m n f cost b t g ordered inside k h =
    by_basic (t.status k)
    (inside k h)
    (λ s. stands_inside (t.status k) (b.lower k) (b.upper k) (t.value k) (λ l u. ordered k l u h) s (g.stands k h))

-- ---- complementary slackness
module _ (m n : ℕ) (f : Matrix) (cost : ℕ → ℚ) (b : Bounds) (t : Table)
    (g : IsTableau m n f cost b t) (feasible : IsDualFeasible n b t) where
  pub complementary : (k : ℕ) → k < n → IsComplementary b t k
  complementary k h = record {
    above = λ a. ⊎_elim
        (λ fixed. fixed_lower (b.lower k) (b.upper k) (t.status k)
        (t.value k) fixed.0 fixed.1 fixed.2 (not_basic_above a) (g.stands k h))
        (λ free. above (t.status k) refl free a)
        (fixed_or_not b k);
    below = λ a. ⊎_elim
        (λ fixed. fixed_upper (b.lower k) (b.upper k) (t.status k)
        (t.value k) fixed.0 fixed.1 fixed.2 (not_basic_below a) (g.stands k h))
        (λ free. below (t.status k) refl free a)
        (fixed_or_not b k);
  }
    where
      not_basic_above : 0ℚ <ℚ t.reduced k → ¬ (t.status k ≡ Basic)
      not_basic_above a s = <ℚ_irrefl 0ℚ (subst (λ x. 0ℚ <ℚ x) (zero_at_basic m n f cost b t g k h s) a)

      not_basic_below : t.reduced k <ℚ 0ℚ → ¬ (t.status k ≡ Basic)
      not_basic_below a s = <ℚ_irrefl 0ℚ (subst (λ x. x <ℚ 0ℚ) (zero_at_basic m n f cost b t g k h s) a)

      suits : (s : Status) → t.status k ≡ s → ¬ (IsFixed b k) → Suits s (t.reduced k)
      suits s e free = subst (λ s. Suits s (t.reduced k)) e (feasible k h free)

      above : (s : Status) → t.status k ≡ s → ¬ (IsFixed b k) → 0ℚ <ℚ t.reduced k → b.lower k ≡ Some (t.value k)
      above Basic e free a = absurd (not_basic_above a e)
      above AtLower e free a = subst (λ s. Stands s (b.lower k) (b.upper k) (t.value k)) e (g.stands k h)
      above AtUpper e free a = clash_ℚ 0ℚ (t.reduced k) a (suits AtUpper e free)
      above AtZero e free a = absurd (<ℚ_irrefl 0ℚ (subst (λ x. 0ℚ <ℚ x) (suits AtZero e free) a))

      below : (s : Status) → t.status k ≡ s → ¬ (IsFixed b k) → t.reduced k <ℚ 0ℚ → b.upper k ≡ Some (t.value k)
      below Basic e free a = absurd (not_basic_below a e)
      below AtUpper e free a = subst (λ s. Stands s (b.lower k) (b.upper k) (t.value k)) e (g.stands k h)
      below AtLower e free a = clash_ℚ (t.reduced k) 0ℚ a (suits AtLower e free)
      below AtZero e free a = absurd (<ℚ_irrefl 0ℚ (subst (λ x. x <ℚ 0ℚ) (suits AtZero e free) a))

  -- so no values that solve the rows within the bounds cost less
  pub least_cost : (x : ℕ → ℚ) → IsSolution m n f b x →
      sum_below n (λ k. cost k *ℚ t.value k) ≤ℚ sum_below n (λ k. cost k *ℚ x k)
  least_cost x s =
      subst₂ ◌≤ℚ◌
      (costs_agree m n f cost t.reduced t.value g.costs.weights g.costs.less g.solves)
      (costs_agree m n f cost t.reduced x g.costs.weights g.costs.less s.solves)
      (sum_below_mono n (λ k. t.reduced k *ℚ t.value k) (λ k. t.reduced k *ℚ x k)
      (λ k h. term_least (b.lower k) (b.upper k) (t.reduced k) (t.value k) (x k)
      (complementary k h).above (complementary k h).below (s.within k h).lower (s.within k h).upper))
