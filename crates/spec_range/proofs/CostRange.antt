-- The range of a cost has exactly the numbers of the span, and says the optimal values in it.
--
-- `kept`: where a basis keeps a model and its tableau is made, the tableau's point and multipliers show the optimum.
-- `cost_range_is`: where the range of a cost is found, from a basis that keeps the model, it is the range by
--   definition.
use Rattle.std.proofs.Common.{◌≡◌, ◌↔◌, ℕ, ◌+◌, ◌<◌, List, get_or, Option, None, Ok, Bool, true, false, cond}
use Rattle.std.proofs.Common.{refl, sym, ap, ◌∙◌, subst, arith}
use Rattle.spec_exact.specs.Fraction.{ℚ, ◌+ℚ◌, ◌-ℚ◌, ◌*ℚ◌, 0ℚ, 1ℚ}
use Rattle.spec_exact.specs.Sums.{sum_below}
use Rattle.spec_exact.specs.Run.{refused_as}
use Rattle.spec_exact.proofs.Results.{ok_same}
use Rattle.spec_exact.proofs.Ruleset.{ring}
use Rattle.spec_exact.proofs.Sums.{sum_below_same, sum_below-+ℚ, *ℚ-sum_below}
use Rattle.spec_model.specs.Model.{Model, width, height, cost, value_of}
use Rattle.spec_model.specs.Truth.{IsOptimal}
use Rattle.spec_model.proofs.Exclusion.{one_optimum}
use Rattle.spec_edit.specs.Changes.{with_cost}
use Rattle.spec_check.specs.Checks.{ChecksOptimal}
use Rattle.spec_check.proofs.Sound.{optimal_holds}
use Rattle.spec_pivot.specs.declared.status.Status.{Status}
use Rattle.spec_pivot.specs.declared.status.Status.TheVariants.{Basic}
use Rattle.spec_pivot.specs.Tableau.{delta}
use Rattle.spec_pivot.specs.Simplex.{IsFixed}
use Rattle.spec_pivot.proofs.Pivot.{by_eq, delta_same, delta_other, sum_below-delta}
use Rattle.spec_simplex.specs.declared.ends.StartStop.TheVariants as stop
use Rattle.spec_simplex.specs.Form.{Form, form_of, formed, least_cost}
use Rattle.spec_simplex.specs.Tableau.{Tableau, all_columns, entry_at, value_at, reduced_at, status_at}
use Rattle.spec_simplex.specs.Tableau.{lower_at, upper_at, is_basic}
use Rattle.spec_simplex.specs.Eliminate.{IsBasisOf, start_from}
use Rattle.spec_simplex.specs.Dual.{place_of}
use Rattle.spec_simplex.proofs.Statuses.{basic_if}
use Rattle.spec_simplex.specs.Tables.{table_of}
use Rattle.spec_simplex.proofs.FormOfModel.{Limited, form_is}
use Rattle.spec_simplex.proofs.RunParts.{then_ok, refused_ok}
use Rattle.spec_simplex.proofs.Orders.{given}
use Rattle.spec_simplex.proofs.LimitStart.{form_without}
use Rattle.spec_runs.specs.Cold.{point, multipliers}
use Rattle.spec_runs.proofs.DualRatioTest.{place_is}
use Rattle.spec_runs.proofs.Counts.{basic_test}
use Rattle.spec_pivot.specs.Dual.{Suits}
use Rattle.spec_range.specs.declared.range.Ends.{Ends}
use Rattle.spec_range.specs.declared.range.Range.{Range}
use Rattle.spec_range.specs.Span.{Keeps, IsIn, IsRange}
use Rattle.spec_range.specs.Rule.{basic_ends, own_ends, cost_ends, cost_run, cost_range}
use Rattle.spec_range.proofs.RangedTableau.{form_bounds}
use Rattle.spec_range.proofs.Checked.{IsGood, parts, tableau, x_at, checks_good}
use Rattle.spec_range.proofs.Compared.{IsMoved, good_keeps, good_optimal, keeps_good}
use Rattle.spec_range.proofs.Costs.{other_width, cost_there, cost_elsewhere, growth, costs_with}
use Rattle.spec_range.proofs.Costs.{IsRowOf, basic_row, no_row, is_moved}
use Rattle.spec_range.proofs.CostEnds.{basic_ok, own_ok}
use Rattle.spec_range.proofs.Exists.{start_unlimited}
use Rattle.spec_range.proofs.MovedNumbers.{repriced}

-- what is known of the tableau of a basis that keeps the model
pub record IsKept (limit : Option ℕ) (m : Model) (basis : List Status) (f : Form) (t : Tableau) : Type 0 where
  pub limits : List (Option ℚ × Option ℚ)
  pub limited : Limited m limits
  pub form : formed m limits ≡ f
  pub fits : IsBasisOf (formed m limits) basis
  pub started : start_from None (formed m limits) basis ≡ Ok t
  pub checks : ChecksOptimal m (point t) (multipliers t)

pub kept : (limit : Option ℕ) (m : Model) (basis : List Status) (f : Form) (t : Tableau) → form_of limit m ≡ Ok f →
    Keeps m basis → start_from limit f basis ≡ Ok t → IsKept limit m basis f t
kept limit m basis f t formed_ k ok =
    let o = form_is limit m f formed_ in
    let same : k.form ≡ f = ok_same k.form f (sym k.formed ∙ form_without limit m f formed_) in
    let back : k.form ≡ formed m o.0 = same ∙ sym o.2 in
    let here : start_from None (formed m o.0) basis ≡ Ok t =
    ap (λ f. start_from None f basis) o.2 ∙ start_unlimited limit f basis t ok in
    let one : k.tableau ≡ t =
    ok_same k.tableau t (sym k.started ∙ ap (λ f. start_from None f basis) back ∙ here) in
    record {
      limits = o.0;
      limited = o.1;
      form = o.2;
      fits = subst (λ f. IsBasisOf f basis) back k.fits;
      started = here;
      checks = subst (λ t. ChecksOptimal m (point t) (multipliers t)) one k.checks;
    }

module _ (limit : Option ℕ) (m : Model) (ls : List (Option ℚ × Option ℚ)) (h : Limited m ls) (basis : List Status)
    (fits : IsBasisOf (formed m ls) basis) (t : Tableau) (ok : start_from limit (formed m ls) basis ≡ Ok t) where
  -- the tableau has as many columns as the form, with the logical and artificial ones
  pub columns_are : all_columns t ≡ width m + height m + height m
  columns_are =
      let p = parts limit m ls h basis fits t ok in
      let r : t.rows ≡ height m = p.rows in let c : t.cols ≡ width m = p.cols in omega (arith, r, c)

  -- the tableau's lower bound of column k is that of the form
  pub low : (k : ℕ) → lower_at t k ≡ (form_bounds (formed m ls)).lower k
  low k = ap (λ l. get_or l k None) (parts limit m ls h basis fits t ok).lower

  -- the tableau's upper bound of column k is that of the form
  pub high : (k : ℕ) → upper_at t k ≡ (form_bounds (formed m ls)).upper k
  high k = ap (λ l. get_or l k None) (parts limit m ls h basis fits t ok).upper

  module _ (checks : ChecksOptimal m (point t) (multipliers t)) where
    -- the tableau of a basis that keeps the model is good for the bounds of its form
    pub good : IsGood (width m + height m + height m) (form_bounds (formed m ls)) (table_of t)
    good = (checks_good limit m ls h basis fits t ok).0 checks

    -- the optimal value is the sum of the costs times the tableau's values, plus the offset
    pub v_is : (v : ℚ) → IsOptimal m v →
        v ≡ sum_below (width m) (λ k. cost m k *ℚ value_at t k) +ℚ m.offset
    v_is v optimal =
        one_optimum m v (value_of m (point t)) optimal (optimal_holds m (point t) (multipliers t) checks)
        ∙ ap (λ a. a +ℚ m.offset)
        (sum_below_same (width m) _ _ (λ k p. ap (λ a. cost m k *ℚ a) (x_at limit m ls h basis fits t ok k p)))

module _ (limit : Option ℕ) (m : Model) (ls : List (Option ℚ × Option ℚ)) (h : Limited m ls) (basis : List Status)
    (fits : IsBasisOf (formed m ls) basis) (t : Tableau) (ok : start_from None (formed m ls) basis ≡ Ok t)
    (checks : ChecksOptimal m (point t) (multipliers t)) (j : ℕ) (j_in : j < width m) (v : ℚ)
    (optimal : IsOptimal m v) where
  -- the count of the form's columns, with the logical and artificial ones
  abbrev n : ℕ
  n = width m + height m + height m

  -- the tableau of the basis is good for the bounds of the form
  kept_good : IsGood (width m + height m + height m) (form_bounds (formed m ls)) (table_of t)
  kept_good = good None m ls h basis fits t ok checks

  -- with the cost x of column j the tableau's values give the optimal value, plus what x is above the old cost times
  -- column j's value
  value_is : (x : ℚ) → sum_below (width (with_cost m j x)) (λ k. cost (with_cost m j x) k *ℚ value_at t k) +ℚ m.offset
      ≡ v +ℚ (x -ℚ cost m j) *ℚ value_at t j
  value_is x =
      ap (λ w. sum_below w (λ k. cost (with_cost m j x) k *ℚ value_at t k) +ℚ m.offset) (other_width m j j_in x)
      ∙ ap (λ a. a +ℚ m.offset)
      (sum_below_same (width m) _
      (λ k. cost m k *ℚ value_at t k +ℚ (x -ℚ cost m j) *ℚ (delta j k *ℚ value_at t k)) (λ k _. term k)
      ∙ sum_below-+ℚ (width m) (λ k. cost m k *ℚ value_at t k)
      (λ k. (x -ℚ cost m j) *ℚ (delta j k *ℚ value_at t k))
      ∙ ap (λ a. sum_below (width m) (λ k. cost m k *ℚ value_at t k) +ℚ a)
      (sym (*ℚ-sum_below (x -ℚ cost m j) (width m) (λ k. delta j k *ℚ value_at t k))
      ∙ ap (λ a. (x -ℚ cost m j) *ℚ a) (sum_below-delta (width m) j (value_at t) j_in)))
      ∙ swap (sum_below (width m) (λ k. cost m k *ℚ value_at t k)) ((x -ℚ cost m j) *ℚ value_at t j) m.offset
      ∙ ap (λ a. a +ℚ (x -ℚ cost m j) *ℚ value_at t j) (sym (v_is None m ls h basis fits t ok checks v optimal))
    where
      there : (c x d : ℚ) → x *ℚ d ≡ c *ℚ d +ℚ (x -ℚ c) *ℚ (1ℚ *ℚ d)
      there c x d = simp ring

      elsewhere : (c e d : ℚ) → c *ℚ d ≡ c *ℚ d +ℚ e *ℚ (0ℚ *ℚ d)
      elsewhere c e d = simp ring

      swap : (a c o : ℚ) → (a +ℚ c) +ℚ o ≡ (a +ℚ o) +ℚ c
      swap a c o = simp ring

      term : (k : ℕ) → cost (with_cost m j x) k *ℚ value_at t k
          ≡ cost m k *ℚ value_at t k +ℚ (x -ℚ cost m j) *ℚ (delta j k *ℚ value_at t k)
      term k =
          by_eq k j
          (λ z. subst (λ k. cost (with_cost m j x) k *ℚ value_at t k
          ≡ cost m k *ℚ value_at t k +ℚ (x -ℚ cost m j) *ℚ (delta j k *ℚ value_at t k)) (sym z)
          (ap (λ a. a *ℚ value_at t j) (cost_there m j j_in x) ∙ there (cost m j) x (value_at t j)
          ∙ ap (λ d. cost m j *ℚ value_at t j +ℚ (x -ℚ cost m j) *ℚ (d *ℚ value_at t j)) (sym (delta_same j))))
          (λ z. ap (λ a. a *ℚ value_at t k) (cost_elsewhere m j j_in x k z)
          ∙ elsewhere (cost m k) (x -ℚ cost m j) (value_at t k)
          ∙ ap (λ d. cost m k *ℚ value_at t k +ℚ (x -ℚ cost m j) *ℚ (d *ℚ value_at t k))
          (sym (delta_other j k (λ y. z (sym y)))))

  -- by the row of column j
  module _ (e : ℕ → ℚ) (row : IsRowOf m ls h basis fits t ok j j_in e) (ends : Ends ℚ)
      (meant : (x : ℚ) → IsIn ends x ↔ ((k : ℕ) → k < n → ¬ (IsFixed (form_bounds (formed m ls)) k) →
      Suits (status_at t k)
      (reduced_at t k +ℚ (least_cost m.sense x -ℚ least_cost m.sense (cost m j)) *ℚ (delta j k -ℚ e k)))) where
    -- the table with the reduced costs for the cost x is that of the model with this cost of column j
    moved : (x : ℚ) → IsMoved m (with_cost m j x) ls basis fits h t ok (costs_with m ls h basis fits t ok j j_in x)
        (form_bounds (formed m ls)) (repriced (table_of t) j (growth m j x) e)
    moved = is_moved m ls h basis fits t ok j j_in e row

    -- with a cost within the ends, the table with its reduced costs is good
    good_in : (x : ℚ) → IsIn ends x →
        IsGood n (form_bounds (formed m ls)) (repriced (table_of t) j (growth m j x) e)
    good_in x i = record { inside = kept_good.inside; suits = (meant x).0 i }

    -- these ends, with column j's value as the slope, are the range of its cost
    range_is : IsRange (with_cost m j) basis (cost m j) v (record { ends = ends; slope = value_at t j })
    range_is = record {
      inside = λ x k. (meant x).1 (keeps_good m (with_cost m j x) ls basis fits h t ok _ _ _ (moved x) k).suits;
      whole = λ x i. good_keeps m (with_cost m j x) ls basis fits h t ok _ _ _ (moved x) (good_in x i);
      value = λ x i. subst (IsOptimal (with_cost m j x)) (value_is x)
          (good_optimal m (with_cost m j x) ls basis fits h t ok _ _ _ (moved x) (good_in x i));
    }

  -- what the run over the tableau finds is the range of the cost of column j
  run_ok : (r : Range ℚ) → cost_run limit m t j ≡ Ok r → IsRange (with_cost m j) basis (cost m j) v r
  unfolding cost_run
  run_ok r q =
      let o = then_ok (cost_ends limit m.sense (cost m j) t j) (λ e. Ok (record { ends = e; slope = value_at t j })) r q in
      given (IsRange (with_cost m j) basis (cost m j) v) (record { ends = o.0; slope = value_at t j }) r o.2
      (by (is_basic (status_at t j)) refl o.0 o.1)
    where
      j_all : j < n
      j_all = omega (arith, j_in)

      by : (c : Bool) → is_basic (status_at t j) ≡ c → (ends : Ends ℚ) →
          cond c (basic_ends limit m.sense (cost m j) t (place_of t j)) (own_ends limit m.sense (cost m j) t j) ≡ Ok ends
          → IsRange (with_cost m j) basis (cost m j) v (record { ends = ends; slope = value_at t j })
      by true c ends e =
          let basic : status_at t j ≡ Basic = basic_if (status_at t j) c in
          let p = parts None m ls h basis fits t ok in
          let w = (tableau None m ls h basis fits t ok).placed j j_all basic in
          let r : t.rows ≡ height m = p.rows in
          let q = place_is t j t.rows w.0 (omega (arith, w.1, r)) w.2 in
          range_is (entry_at t (place_of t j))
          (basic_row m ls h basis fits t ok j j_in (place_of t j) (omega (arith, q.0, r)) q.1) ends
          (basic_ok limit m.sense (cost m j) t n (columns_are None m ls h basis fits t ok)
          (form_bounds (formed m ls)) (low None m ls h basis fits t ok) (high None m ls h basis fits t ok) kept_good j j_all basic
          (place_of t j) ends e)
      by false c ends e =
          let free : ¬ (status_at t j ≡ Basic) =
          λ z. (let y : false ≡ true = sym c ∙ basic_test (status_at t j) z in cc) in
          range_is (λ _. 0ℚ) (no_row m ls h basis fits t ok j j_in free) ends
          (own_ok limit m.sense (cost m j) t n (columns_are None m ls h basis fits t ok)
          (form_bounds (formed m ls)) (low None m ls h basis fits t ok) (high None m ls h basis fits t ok) kept_good j j_all free ends e)

pub cost_range_is : (limit : Option ℕ) (m : Model) (f : Form) (basis : List Status) (j : ℕ) (r : Range ℚ) (v : ℚ) →
    form_of limit m ≡ Ok f → j < width m → Keeps m basis → IsOptimal m v → cost_range limit m f basis j ≡ Ok r →
    IsRange (with_cost m j) basis (cost m j) v r
unfolding cost_range
cost_range_is limit m f basis j r v formed_ j_in k optimal h =
    let a = then_ok (start_from limit f basis) (λ t. refused_as stop.Past (cost_run limit m t j)) r h in
    let s = kept limit m basis f a.0 formed_ k a.1 in
    run_ok limit m s.limits s.limited basis s.fits a.0 s.started s.checks j j_in v optimal r
    (refused_ok stop.Past (cost_run limit m a.0 j) r a.2)
