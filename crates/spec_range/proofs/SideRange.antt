-- The range of a right side has exactly the numbers of the span, and says the optimal values in it.
use Rattle.std.proofs.Common.{◌≡◌, ◌≢◌, ◌↔◌, ℕ, ◌+◌, ◌<◌, List, Option, Some, None, Ok, Bool, true, false}
use Rattle.std.proofs.Common.{cond, ◌||◌, is_some, refl, sym, ap, ap₂, ◌∙◌, subst, subst₂, arith}
use Rattle.spec_exact.specs.Fraction.{ℚ, ◌+ℚ◌, ◌-ℚ◌, ◌*ℚ◌, neg_ℚ, 0ℚ}
use Rattle.spec_exact.specs.Sums.{sum_below}
use Rattle.spec_exact.specs.Run.{◌>>=◌, refused_as}
use Rattle.spec_exact.proofs.Field.{*ℚ_one, *ℚ_zero, +ℚ_zero}
use Rattle.spec_exact.proofs.Ruleset.{ring, zero-*ℚ, one-*ℚ, neg-neg, neg-zero}
use Rattle.spec_exact.proofs.Sums.{sum_below_same, sum_below_none, sum_below-+ℚ, *ℚ-sum_below, neg-sum_below}
use Rattle.spec_model.specs.declared.parts.Sense.{Sense}
use Rattle.spec_model.specs.declared.parts.Sense.TheVariants.{Min, Max}
use Rattle.spec_model.specs.Model.{Model, width, height, row, cost}
use Rattle.spec_model.specs.Truth.{IsOptimal}
use Rattle.spec_edit.specs.Changes.{with_rhs}
use Rattle.spec_check.specs.Checks.{ChecksOptimal}
use Rattle.spec_pivot.specs.declared.status.Status.{Status}
use Rattle.spec_pivot.specs.declared.status.Status.TheVariants.{Basic, AtLower, AtUpper, AtZero}
use Rattle.spec_pivot.specs.declared.status.Way.TheVariants.{Up}
use Rattle.spec_pivot.specs.Tableau.{delta}
use Rattle.spec_pivot.specs.Simplex.{IsFixed, IsInside, Stands, ray}
use Rattle.spec_pivot.proofs.SameEquations.{outside}
use Rattle.spec_pivot.proofs.Pivot.{by_eq, delta_same, delta_other, sum_below-delta}
use Rattle.spec_pivot.proofs.Ray.{ray_at, ray_basic, ray_still, cost_ray}
use Rattle.spec_pivot.proofs.Values.{by_basic, zero_at_basic}
use Rattle.spec_simplex.specs.declared.ends.StartStop.TheVariants as stop
use Rattle.spec_simplex.specs.Form.{Form, form_of, formed, least_cost}
use Rattle.spec_simplex.specs.Start.{cost_at}
use Rattle.spec_simplex.specs.Tableau.{Tableau, entry_at, basic_at, value_at, reduced_at, status_at}
use Rattle.spec_simplex.specs.Tableau.{lower_at, upper_at, is_basic}
use Rattle.spec_simplex.specs.Eliminate.{IsBasisOf, start_from}
use Rattle.spec_simplex.specs.Dual.{place_of}
use Rattle.spec_simplex.proofs.Statuses.{basic_if}
use Rattle.spec_simplex.specs.Tables.{table_of}
use Rattle.spec_simplex.proofs.ColumnKinds.{sum_by_kind}
use Rattle.spec_simplex.proofs.FormOfModel.{Limited, least_structural, cost_other}
use Rattle.spec_simplex.proofs.RunParts.{then_ok, refused_ok}
use Rattle.spec_simplex.proofs.Orders.{given}
use Rattle.spec_runs.specs.Cold.{point, multipliers}
use Rattle.spec_runs.specs.Based.{equations}
use Rattle.spec_runs.proofs.DualRatioTest.{place_is}
use Rattle.spec_runs.proofs.Counts.{basic_test}
use Rattle.spec_pivot.specs.Dual.{Suits}
use Rattle.spec_range.specs.declared.range.Ends.{Ends}
use Rattle.spec_range.specs.declared.range.Range.{Range}
use Rattle.spec_range.specs.Span.{Keeps, IsIn, IsRange}
use Rattle.spec_range.specs.Rule.{no_ends, still_ends, nonbasic_ends, side_ends, side_run, side_range}
use Rattle.spec_range.proofs.RangedTableau.{form_bounds}
use Rattle.spec_range.proofs.Checked.{IsGood, parts}
use Rattle.spec_range.proofs.Compared.{IsMoved, good_keeps, good_optimal, keeps_good}
use Rattle.spec_range.proofs.CostRange.{kept, good, columns_are, low, high, v_is}
use Rattle.spec_range.proofs.MovedNumbers.{carried}
use Rattle.spec_range.proofs.SideEnds.{still_ok, nonbasic_ok}
use Rattle.spec_range.proofs.Sides.{shifted, g, bounds_with, low_there, high_there, low_elsewhere, high_elsewhere}
use Rattle.spec_range.proofs.Sides.{still_moved, carried_moved, fixed_still}

-- ---- the sense of a sum

-- a sum of signed costs times values is the signed sum of the costs times the values
sense_sum : (s : Sense) (n : ℕ) (c z : ℕ → ℚ) →
    sum_below n (λ k. least_cost s (c k) *ℚ z k) ≡ least_cost s (sum_below n (λ k. c k *ℚ z k))
sense_sum Min n c z = refl
sense_sum Max n c z = sum_below_same n _ _ (λ k _. turn (c k) (z k)) ∙ sym (neg-sum_below n (λ k. c k *ℚ z k))
  where
    turn : (a x : ℚ) → neg_ℚ a *ℚ x ≡ neg_ℚ (a *ℚ x)
    turn a x = simp ring

-- a number signed twice by the sense is the number
sense_twice : (s : Sense) (a : ℚ) → least_cost s (least_cost s a) ≡ a
sense_twice Min a = refl
sense_twice Max a = neg-neg a

-- 0 with the sign of the sense is 0
sense_zero : (s : Sense) → least_cost s 0ℚ ≡ 0ℚ
sense_zero Min = refl
sense_zero Max = neg-zero

-- where neither bound tests as given, both are absent
two_none : (l u : Option ℚ) → is_some l || is_some u ≡ false → (l ≡ None) × (u ≡ None)
two_none None None e = (refl, refl)
two_none None (Some u) e = let z : true ≡ false = e in cc
two_none (Some l) u e = let z : true ≡ false = e in cc

-- a column that is not basic and has a bound is at one, and goes along with it
goes_along : (s : Status) (l u : Option ℚ) (v d : ℚ) → ¬ (s ≡ Basic) → is_some l || is_some u ≡ true →
    Stands s l u v → Stands s (shifted d l) (shifted d u) (v +ℚ d)
goes_along Basic l u v d free e s = absurd (free refl)
goes_along AtLower l u v d free e s = ap (shifted d) s
goes_along AtUpper l u v d free e s = ap (shifted d) s
goes_along AtZero l u v d free e s =
    let z : false ≡ true = ap₂ (λ l u. is_some l || is_some u) (sym s.0) (sym s.1) ∙ e in cc

-- a column that is not basic and has no bound stands at 0 and stays there as bounds move
stays : (s : Status) (l u : Option ℚ) (v d : ℚ) → ¬ (s ≡ Basic) → l ≡ None → u ≡ None → Stands s l u v →
    (s ≡ AtZero) × Stands s (shifted d l) (shifted d u) (v +ℚ 0ℚ)
stays Basic l u v d free p q s = absurd (free refl)
stays AtLower l u v d free p q s = let z : None ≡ Some v = sym p ∙ s in cc
stays AtUpper l u v d free p q s = let z : None ≡ Some v = sym q ∙ s in cc
stays AtZero l u v d free p q s = (refl, (ap (shifted d) p, ap (shifted d) q, +ℚ_zero v ∙ s.2))

module _ (m : Model) (ls : List (Option ℚ × Option ℚ)) (h : Limited m ls) (basis : List Status)
    (fits : IsBasisOf (formed m ls) basis) (t : Tableau) (ok : start_from None (formed m ls) basis ≡ Ok t)
    (checks : ChecksOptimal m (point t) (multipliers t)) (i : ℕ) (i_in : i < height m) (v : ℚ)
    (optimal : IsOptimal m v) where
  -- the count of the model's columns
  abbrev w : ℕ
  w = width m

  -- the count of the model's rows
  abbrev r : ℕ
  r = height m

  -- the count of the form's columns, with the logical and artificial ones
  abbrev n : ℕ
  n = w + r + r

  -- the number of row i's logical column
  abbrev s : ℕ
  s = w + i

  -- the right side of row i as it is
  abbrev c : ℚ
  c = (row m i).rhs

  -- row i's logical is a column of the form
  s_in : s < n
  s_in = omega (arith, i_in)

  -- the reduced cost of row i's logical, with the sign of the sense
  abbrev slope : ℚ
  slope = least_cost m.sense (reduced_at t s)

  -- the tableau of the basis is good for the bounds of the form
  kept_good : IsGood (width m + height m + height m) (form_bounds (formed m ls)) (table_of t)
  kept_good = good None m ls h basis fits t ok checks

  -- with each right side of row i each reduced cost of the tableau suits its column's status, unless the column is
  -- fixed
  suits_still : (x : ℚ) (k : ℕ) → k < n → ¬ (IsFixed (bounds_with m ls h basis fits t ok i i_in x) k) →
      Suits (status_at t k) (reduced_at t k)
  suits_still x k k_in f = kept_good.suits k k_in (λ z. f (fixed_still m ls h basis fits t ok i i_in x k z))

  -- ---- the logical is basic
  module _ (basic : status_at t s ≡ Basic) where
    -- where the logical is basic, the slope is 0
    zero_slope : slope ≡ 0ℚ
    zero_slope =
        ap (least_cost m.sense)
        (zero_at_basic r n _ _ _ (table_of t) (g m ls h basis fits t ok i i_in) s s_in basic)
        ∙ sense_zero m.sense

    -- where the logical is basic, the ends for it with the slope are the range of the right side
    still_range : (limit : Option ℕ) (e : Ends ℚ) →
        still_ends limit c (value_at t s) (lower_at t s) (upper_at t s) ≡ Ok e →
        IsRange (with_rhs m i) basis (row m i).rhs v (record { ends = e; slope = slope })
    still_range limit e q = record {
      inside = λ x k. (meant x).1
          ((keeps_good m (with_rhs m i x) ls basis fits h t ok _ _ _ (moved x) k).inside s s_in basic);
      whole = λ x k. good_keeps m (with_rhs m i x) ls basis fits h t ok _ _ _ (moved x) (good_in x k);
      value = λ x k. subst (IsOptimal (with_rhs m i x)) (value_is x)
          (good_optimal m (with_rhs m i x) ls basis fits h t ok _ _ _ (moved x) (good_in x k));
    }
      where
        moved : (x : ℚ) → IsMoved m (with_rhs m i x) ls basis fits h t ok (cost_at (formed m ls).cost)
            (bounds_with m ls h basis fits t ok i i_in x) (table_of t)
        moved = still_moved m ls h basis fits t ok i i_in basic

        low_is : (x : ℚ) → shifted (x -ℚ c) (lower_at t s) ≡ (bounds_with m ls h basis fits t ok i i_in x).lower s
        low_is x =
            ap (shifted (x -ℚ c)) (low None m ls h basis fits t ok s)
            ∙ sym (low_there m ls h basis fits t ok i i_in x)

        high_is : (x : ℚ) → shifted (x -ℚ c) (upper_at t s) ≡ (bounds_with m ls h basis fits t ok i i_in x).upper s
        high_is x =
            ap (shifted (x -ℚ c)) (high None m ls h basis fits t ok s)
            ∙ sym (high_there m ls h basis fits t ok i i_in x)

        meant : (x : ℚ) → IsIn e x ↔ IsInside ((bounds_with m ls h basis fits t ok i i_in x).lower s)
            ((bounds_with m ls h basis fits t ok i i_in x).upper s) (value_at t s)
        meant x =
            subst₂ (λ l u. IsIn e x ↔ IsInside l u (value_at t s)) (low_is x) (high_is x)
            (still_ok limit c (value_at t s) (lower_at t s) (upper_at t s) e q x)

        good_in : (x : ℚ) → IsIn e x → IsGood n (bounds_with m ls h basis fits t ok i i_in x) (table_of t)
        good_in x k = record {
          inside = λ j j_in b. by_eq j s
              (λ z. subst (λ j. IsInside ((bounds_with m ls h basis fits t ok i i_in x).lower j)
              ((bounds_with m ls h basis fits t ok i i_in x).upper j) (value_at t j)) (sym z) ((meant x).0 k))
              (λ z. subst₂ (λ l u. IsInside l u (value_at t j))
              (sym (low_elsewhere m ls h basis fits t ok i i_in x j z))
              (sym (high_elsewhere m ls h basis fits t ok i i_in x j z)) (kept_good.inside j j_in b));
          suits = suits_still x;
        }

        value_is : (x : ℚ) → sum_below w (λ k. cost m k *ℚ value_at t k) +ℚ m.offset ≡ v +ℚ (x -ℚ c) *ℚ slope
        value_is x =
            sym (v_is None m ls h basis fits t ok checks v optimal)
            ∙ sym (ap (λ a. v +ℚ (x -ℚ c) *ℚ a) zero_slope ∙ none v (x -ℚ c))
          where
            none : (v d : ℚ) → v +ℚ d *ℚ 0ℚ ≡ v
            none v d = simp ring

  -- ---- the logical is not basic
  module _ (free : ¬ (status_at t s ≡ Basic)) where
    -- by how much column k moves as the logical rises by 1
    abbrev move : ℕ → ℚ
    move k = ray r (table_of t) Up s k

    -- a nonbasic logical is basic at no position
    off : (k : ℕ) → k < r → ¬ (basic_at t k ≡ s)
    off = outside r n _ _ _ (table_of t) (g m ls h basis fits t ok i i_in) s free

    -- a basic column moves by the negative of its entry in the logical's column
    moves : (k : ℕ) → k < n → status_at t k ≡ Basic → move k ≡ neg_ℚ (entry_at t (place_of t k) s)
    moves k k_in b =
        let p = parts None m ls h basis fits t ok in
        let rows : t.rows ≡ r = p.rows in
        let a = (g m ls h basis fits t ok i i_in).placed k k_in b in
        let q = place_is t k t.rows a.0 (omega (arith, a.1, rows)) a.2 in
        ap move (sym q.1)
        ∙ ray_basic r (table_of t) (g m ls h basis fits t ok i i_in).units Up s off (place_of t k)
        (omega (arith, q.0, rows))
        ∙ ap neg_ℚ (one-*ℚ (entry_at t (place_of t k) s))

    -- the reduced costs times the moves sum to the logical's reduced cost
    reduced_sum : sum_below n (λ k. reduced_at t k *ℚ move k) ≡ reduced_at t s
    reduced_sum =
        sum_below_same n _ (λ k. delta s k *ℚ (reduced_at t k *ℚ move k)) term
        ∙ sum_below-delta n s (λ k. reduced_at t k *ℚ move k) s_in
        ∙ ap (λ a. reduced_at t s *ℚ a)
        (ray_at r (table_of t) (g m ls h basis fits t ok i i_in).units Up s off)
        ∙ *ℚ_one (reduced_at t s)
      where
        none : (k : ℕ) → k < n → s ≢ k → reduced_at t k *ℚ move k ≡ 0ℚ
        none k k_in z =
            by_basic (status_at t k)
            (λ b. ap (λ a. a *ℚ move k)
            (zero_at_basic r n _ _ _ (table_of t) (g m ls h basis fits t ok i i_in) k k_in b) ∙ zero-*ℚ (move k))
            (λ b. ap (λ a. reduced_at t k *ℚ a)
            (ray_still r (table_of t) (g m ls h basis fits t ok i i_in).units Up s off k z
            (outside r n _ _ _ (table_of t) (g m ls h basis fits t ok i i_in) k b)) ∙ *ℚ_zero (reduced_at t k))

        term : (k : ℕ) → k < n → reduced_at t k *ℚ move k ≡ delta s k *ℚ (reduced_at t k *ℚ move k)
        term k k_in =
            by_eq s k
            (λ z. subst (λ k. reduced_at t k *ℚ move k ≡ delta s k *ℚ (reduced_at t k *ℚ move k)) z
            (sym (ap (λ a. a *ℚ (reduced_at t s *ℚ move s)) (delta_same s) ∙ one-*ℚ _)))
            (λ z. none k k_in z ∙ sym (ap (λ a. a *ℚ (reduced_at t k *ℚ move k)) (delta_other s k z) ∙ zero-*ℚ _))

    -- the form's costs times the moves sum to the model's costs times the moves, with the sign of the sense
    cost_sum : sum_below n (λ k. cost_at (formed m ls).cost k *ℚ move k)
        ≡ least_cost m.sense (sum_below w (λ k. cost m k *ℚ move k))
    cost_sum =
        sum_by_kind w r (λ k. cost_at (formed m ls).cost k *ℚ move k)
        ∙ ap₂ ◌+ℚ◌
        (ap₂ ◌+ℚ◌
        (sum_below_same w _ (λ k. least_cost m.sense (cost m k) *ℚ move k)
        (λ k q. ap (λ a. a *ℚ move k) (least_structural m ls h k q))
        ∙ sense_sum m.sense w (cost m) move)
        (sum_below_none r _ (λ k q. ap (λ a. a *ℚ move (w + k)) (cost_other m ls h k) ∙ zero-*ℚ _)))
        (sum_below_none r _ (λ k q. ap (λ a. a *ℚ move (w + r + k))
        (let z : w + r + k ≡ w + (r + k) = omega arith in
        ap (cost_at (formed m ls).cost) z ∙ cost_other m ls h (r + k)) ∙ zero-*ℚ _))
        ∙ close (least_cost m.sense (sum_below w (λ k. cost m k *ℚ move k)))
      where
        close : (a : ℚ) → (a +ℚ 0ℚ) +ℚ 0ℚ ≡ a
        close a = simp ring

    -- the model's costs times the moves sum to the slope
    slope_is : sum_below w (λ k. cost m k *ℚ move k) ≡ slope
    slope_is =
        sym (sense_twice m.sense (sum_below w (λ k. cost m k *ℚ move k)))
        ∙ ap (least_cost m.sense) (sym cost_sum
        ∙ sym (cost_ray r (table_of t) (g m ls h basis fits t ok i i_in).units Up s off n s_in
        (g m ls h basis fits t ok i i_in).in_range (equations (formed m ls)) (cost_at (formed m ls).cost)
        (reduced_at t) (g m ls h basis fits t ok i i_in).back (g m ls h basis fits t ok i i_in).costs.weights
        (g m ls h basis fits t ok i i_in).costs.less)
        ∙ reduced_sum)

    -- with the values moved by d times the moves, the objective is the optimal value plus d times the slope
    carried_value : (d : ℚ) → sum_below w (λ k. cost m k *ℚ (value_at t k +ℚ d *ℚ move k)) +ℚ m.offset
        ≡ v +ℚ d *ℚ slope
    carried_value d =
        ap (λ a. a +ℚ m.offset)
        (sum_below_same w _ (λ k. cost m k *ℚ value_at t k +ℚ d *ℚ (cost m k *ℚ move k))
        (λ k _. apart (cost m k) (value_at t k) d (move k))
        ∙ sum_below-+ℚ w (λ k. cost m k *ℚ value_at t k) (λ k. d *ℚ (cost m k *ℚ move k))
        ∙ ap (λ a. sum_below w (λ k. cost m k *ℚ value_at t k) +ℚ a)
        (sym (*ℚ-sum_below d w (λ k. cost m k *ℚ move k)) ∙ ap (λ a. d *ℚ a) slope_is))
        ∙ swap (sum_below w (λ k. cost m k *ℚ value_at t k)) (d *ℚ slope) m.offset
        ∙ ap (λ a. a +ℚ d *ℚ slope) (sym (v_is None m ls h basis fits t ok checks v optimal))
      where
        apart : (a x d r : ℚ) → a *ℚ (x +ℚ d *ℚ r) ≡ a *ℚ x +ℚ d *ℚ (a *ℚ r)
        apart a x d r = simp ring

        swap : (a c o : ℚ) → (a +ℚ c) +ℚ o ≡ (a +ℚ o) +ℚ c
        swap a c o = simp ring

    -- by how far the values move
    module _ (far : ℚ → ℚ) (stands : (x : ℚ) → Stands (status_at t s)
        (shifted (x -ℚ c) ((form_bounds (formed m ls)).lower s))
        (shifted (x -ℚ c) ((form_bounds (formed m ls)).upper s)) (value_at t s +ℚ far x))
        (value : (x : ℚ) → far x *ℚ slope ≡ (x -ℚ c) *ℚ slope) (ends : Ends ℚ)
        (meant : (x : ℚ) → IsIn ends x ↔ ((k : ℕ) → k < n → status_at t k ≡ Basic →
        IsInside (lower_at t k) (upper_at t k) (value_at t k +ℚ far x *ℚ move k))) where
      moved : (x : ℚ) → IsMoved m (with_rhs m i x) ls basis fits h t ok (cost_at (formed m ls).cost)
          (bounds_with m ls h basis fits t ok i i_in x) (carried r (table_of t) s (far x))
      moved x = carried_moved m ls h basis fits t ok i i_in free x (far x) (stands x)

      not_s : (k : ℕ) → status_at t k ≡ Basic → k ≢ s
      not_s k b z = free (ap (status_at t) (sym z) ∙ b)

      low_is : (x : ℚ) (k : ℕ) → k ≢ s → lower_at t k ≡ (bounds_with m ls h basis fits t ok i i_in x).lower k
      low_is x k z =
          low None m ls h basis fits t ok k ∙ sym (low_elsewhere m ls h basis fits t ok i i_in x k z)

      high_is : (x : ℚ) (k : ℕ) → k ≢ s → upper_at t k ≡ (bounds_with m ls h basis fits t ok i i_in x).upper k
      high_is x k z =
          high None m ls h basis fits t ok k ∙ sym (high_elsewhere m ls h basis fits t ok i i_in x k z)

      good_in : (x : ℚ) → IsIn ends x →
          IsGood n (bounds_with m ls h basis fits t ok i i_in x) (carried r (table_of t) s (far x))
      good_in x q = record {
        inside = λ k k_in b. subst₂ (λ l u. IsInside l u (value_at t k +ℚ far x *ℚ move k))
            (low_is x k (not_s k b)) (high_is x k (not_s k b)) ((meant x).0 q k k_in b);
        suits = suits_still x;
      }

      carried_range : IsRange (with_rhs m i) basis (row m i).rhs v (record { ends = ends; slope = slope })
      carried_range = record {
        inside = λ x q. (meant x).1 (λ k k_in b. subst₂ (λ l u. IsInside l u (value_at t k +ℚ far x *ℚ move k))
            (sym (low_is x k (not_s k b))) (sym (high_is x k (not_s k b)))
            ((keeps_good m (with_rhs m i x) ls basis fits h t ok _ _ _ (moved x) q).inside k k_in b));
        whole = λ x q. good_keeps m (with_rhs m i x) ls basis fits h t ok _ _ _ (moved x) (good_in x q);
        value = λ x q. subst (IsOptimal (with_rhs m i x))
            (carried_value (far x) ∙ ap (λ a. v +ℚ a) (value x))
            (good_optimal m (with_rhs m i x) ls basis fits h t ok _ _ _ (moved x) (good_in x q));
      }

    -- where the logical is nonbasic and has a bound, the ends for it with the slope are the range of the right side
    along : is_some (lower_at t s) || is_some (upper_at t s) ≡ true → (limit : Option ℕ) (e : Ends ℚ) →
        nonbasic_ends limit c t s ≡ Ok e →
        IsRange (with_rhs m i) basis (row m i).rhs v (record { ends = e; slope = slope })
    along there limit e q =
        carried_range (λ x. x -ℚ c)
        (λ x. goes_along (status_at t s) ((form_bounds (formed m ls)).lower s) ((form_bounds (formed m ls)).upper s)
        (value_at t s) (x -ℚ c) free
        (ap₂ (λ l u. is_some l || is_some u) (sym (low None m ls h basis fits t ok s))
        (sym (high None m ls h basis fits t ok s)) ∙ there)
        ((g m ls h basis fits t ok i i_in).stands s s_in))
        (λ x. refl) e
        (nonbasic_ok limit c t s n (columns_are None m ls h basis fits t ok) move moves
        (λ k k_in b. subst₂ (λ l u. IsInside l u (value_at t k)) (sym (low None m ls h basis fits t ok k))
        (sym (high None m ls h basis fits t ok k)) (kept_good.inside k k_in b)) e q)

    -- where the logical is nonbasic and has no bound, all numbers with the slope are the range of the right side
    alone : is_some (lower_at t s) || is_some (upper_at t s) ≡ false →
        IsRange (with_rhs m i) basis (row m i).rhs v (record { ends = no_ends; slope = slope })
    alone none =
        let o = two_none (lower_at t s) (upper_at t s) none in
        let l : (form_bounds (formed m ls)).lower s ≡ None = sym (low None m ls h basis fits t ok s) ∙ o.0 in
        let u : (form_bounds (formed m ls)).upper s ≡ None = sym (high None m ls h basis fits t ok s) ∙ o.1 in
        let at = λ (d : ℚ). stays (status_at t s) ((form_bounds (formed m ls)).lower s)
        ((form_bounds (formed m ls)).upper s) (value_at t s) d free l u
        ((g m ls h basis fits t ok i i_in).stands s s_in) in
        let zero : reduced_at t s ≡ 0ℚ =
        subst (λ st. Suits st (reduced_at t s)) (at 0ℚ).0
        (kept_good.suits s s_in (λ f. (let z : None ≡ Some f.0 = sym l ∙ f.1 in cc))) in
        let flat : slope ≡ 0ℚ = ap (least_cost m.sense) zero ∙ sense_zero m.sense in
        carried_range (λ x. 0ℚ) (λ x. (at (x -ℚ c)).1)
        (λ x. zero-*ℚ slope ∙ sym (ap (λ a. (x -ℚ c) *ℚ a) flat ∙ *ℚ_zero (x -ℚ c))) no_ends
        (λ x. (
          λ _ k k_in b. subst₂ (λ l u. IsInside l u (value_at t k +ℚ 0ℚ *ℚ move k))
              (sym (low None m ls h basis fits t ok k)) (sym (high None m ls h basis fits t ok k))
              (subst (IsInside ((form_bounds (formed m ls)).lower k) ((form_bounds (formed m ls)).upper k))
              (still (value_at t k) (move k)) (kept_good.inside k k_in b)),
          λ _. record { lower = tt; upper = tt },
        ))
      where
        still : (x r : ℚ) → x ≡ x +ℚ 0ℚ *ℚ r
        still x r = simp ring

  -- what the run over the tableau finds is the range of the right side of row i
  run_ok : (limit : Option ℕ) (rg : Range ℚ) → side_run limit m t i ≡ Ok rg →
      IsRange (with_rhs m i) basis (row m i).rhs v rg
  unfolding side_run
  run_ok limit rg q =
      let cols : t.cols ≡ w = (parts None m ls h basis fits t ok).cols in
      let z : t.cols + i ≡ s = ap (λ n. n + i) cols in
      let q' : (side_ends limit c t s >>= λ e. Ok (record { ends = e; slope = least_cost m.sense (reduced_at t s) }))
      ≡ Ok rg = subst (λ k. (side_ends limit c t k >>=
      λ e. Ok (record { ends = e; slope = least_cost m.sense (reduced_at t k) })) ≡ Ok rg) z q in
      let o = then_ok (side_ends limit c t s) (λ e. Ok (record { ends = e; slope = slope })) rg q' in
      given (IsRange (with_rhs m i) basis (row m i).rhs v) (record { ends = o.0; slope = slope }) rg o.2
      (by (is_basic (status_at t s)) (is_some (lower_at t s) || is_some (upper_at t s)) refl refl o.0 o.1)
    where
      by : (x y : Bool) → is_basic (status_at t s) ≡ x → is_some (lower_at t s) || is_some (upper_at t s) ≡ y →
          (e : Ends ℚ) → cond x (still_ends limit c (value_at t s) (lower_at t s) (upper_at t s))
          (cond y (nonbasic_ends limit c t s) (Ok no_ends)) ≡ Ok e →
          IsRange (with_rhs m i) basis (row m i).rhs v (record { ends = e; slope = slope })
      by true y a d e h = still_range (basic_if (status_at t s) a) limit e h
      by false true a d e h =
          along (λ z. (let y : false ≡ true = sym a ∙ basic_test (status_at t s) z in cc)) d limit e h
      by false false a d e h =
          given (λ e. IsRange (with_rhs m i) basis (row m i).rhs v (record { ends = e; slope = slope })) no_ends e h
          (alone (λ z. (let y : false ≡ true = sym a ∙ basic_test (status_at t s) z in cc)) d)

-- where a basis keeps a model with an optimal value, the range found for row i's right side is its range
pub side_range_is : (limit : Option ℕ) (m : Model) (f : Form) (basis : List Status) (i : ℕ) (r : Range ℚ) (v : ℚ) →
    form_of limit m ≡ Ok f → i < height m → Keeps m basis → IsOptimal m v → side_range limit m f basis i ≡ Ok r →
    IsRange (with_rhs m i) basis (row m i).rhs v r
unfolding side_range
side_range_is limit m f basis i r v formed_ i_in k optimal h =
    let a = then_ok (start_from limit f basis) (λ t. refused_as stop.Past (side_run limit m t i)) r h in
    let s = kept limit m basis f a.0 formed_ k a.1 in
    run_ok m s.limits s.limited basis s.fits a.0 s.started s.checks i i_in v optimal limit r
    (refused_ok stop.Past (side_run limit m a.0 i) r a.2)
