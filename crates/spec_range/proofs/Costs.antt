-- A model with another cost of one column, and where the basis keeps it.
use Rattle.std.proofs.Common.{◌≡◌, ◌≢◌, ℕ, ◌+◌, ◌-◌, ◌<◌, ◌≤◌, List, []}
use Rattle.std.proofs.Common.{Option, None, Ok}
use Rattle.std.proofs.Common.{refl, sym, ap, ap₂, ◌∙◌, subst₂, arith}
use Rattle.std.proofs.Math.Seq.{map-set_same}
use Rattle.std.proofs.lemmas.List.{length-set, get_or-set_same, get_or-set_other}
use Rattle.spec_exact.specs.Fraction.{ℚ, ◌+ℚ◌, ◌-ℚ◌, ◌*ℚ◌, 0ℚ, 1ℚ}
use Rattle.spec_exact.specs.Sums.{sum_below}
use Rattle.spec_exact.proofs.Ruleset.{ring, zero-*ℚ}
use Rattle.spec_exact.proofs.Sums.{sum_below_none}
use Rattle.spec_model.specs.Model.{Model, ExactColumn, no_column, width, height, column, bounds, cost}
use Rattle.spec_edit.specs.Changes.{with_cost}
use Rattle.spec_pivot.specs.declared.status.Status.{Status}
use Rattle.spec_pivot.specs.declared.status.Status.TheVariants.{Basic}
use Rattle.spec_pivot.specs.Tableau.{delta}
use Rattle.spec_pivot.specs.Simplex.{Bounds, Table, IsTableau}
use Rattle.spec_pivot.proofs.SameEquations.{outside}
use Rattle.spec_pivot.proofs.Pivot.{by_eq, delta_same, delta_other}
use Rattle.spec_pivot.proofs.Unique.{apart}
use Rattle.spec_simplex.specs.Form.{least_cost, formed}
use Rattle.spec_simplex.specs.Start.{cost_at}
use Rattle.spec_simplex.specs.Tableau.{Tableau, entry_at, basic_at, status_at}
use Rattle.spec_simplex.specs.Eliminate.{CanStand, IsBasisOf, basis_at, start_from}
use Rattle.spec_simplex.specs.Tables.{table_of}
use Rattle.spec_simplex.proofs.FormOfModel.{Limited, formed_proper, least_structural, cost_other}
use Rattle.spec_simplex.proofs.ListIndices.{by_lt}
use Rattle.spec_runs.specs.Based.{equations}
use Rattle.spec_range.proofs.Bounds.{structural_low, structural_high, logical_low, logical_high}
use Rattle.spec_range.proofs.Bounds.{artificial_low, artificial_high, bounds_by, fits_other}
use Rattle.spec_range.proofs.Checked.{tableau}
use Rattle.spec_range.proofs.Compared.{SameBounds, IsMoved}
use Rattle.spec_range.proofs.Exists.{skeleton}
use Rattle.spec_range.proofs.MovedNumbers.{repriced, repriced_is}
use Rattle.spec_range.proofs.RangedTableau.{form_bounds, bounded}

-- ---- the other model
module _ (m : Model) (j : ℕ) (j_in : j < width m) (v : ℚ) where
  -- the model in which column j has the cost v
  abbrev other : Model
  other = with_cost m j v

  -- the model with another cost of column j has as many columns as the model
  pub other_width : width (with_cost m j v) ≡ width m
  other_width = length-set m.columns j (record (column m j) { cost = v })

  -- what a column has but for its cost stays
  column_same : {A : Type 0} (p : ExactColumn → A) → p (record (column m j) { cost = v }) ≡ p (column m j) → (k : ℕ) →
      p (column other k) ≡ p (column m k)
  column_same p e k =
      by_eq k j
      (λ z. ap (λ k. p (column other k)) z
      ∙ ap p (get_or-set_same m.columns j (record (column m j) { cost = v }) no_column j_in) ∙ e
      ∙ ap (λ k. p (column m k)) (sym z))
      (λ z. ap p (get_or-set_other m.columns j k (record (column m j) { cost = v }) no_column z))

  -- column k has the same lower bound in the model with another cost of column j
  pub lower_same : (k : ℕ) → (bounds (with_cost m j v) k).lower ≡ (bounds m k).lower
  lower_same = column_same (λ c. c.lower) refl

  -- column k has the same upper bound in the model with another cost of column j
  pub upper_same : (k : ℕ) → (bounds (with_cost m j v) k).upper ≡ (bounds m k).upper
  upper_same = column_same (λ c. c.upper) refl

  -- in the model with the cost v of column j this column has the cost v
  pub cost_there : cost (with_cost m j v) j ≡ v
  cost_there =
      ap (λ (c : ExactColumn). c.cost)
      (get_or-set_same m.columns j (record (column m j) { cost = v }) no_column j_in)

  -- each other column than j has its old cost in the model with another cost of column j
  pub cost_elsewhere : (k : ℕ) → k ≢ j → cost (with_cost m j v) k ≡ cost m k
  cost_elsewhere k z =
      ap (λ (c : ExactColumn). c.cost)
      (get_or-set_other m.columns j k (record (column m j) { cost = v }) no_column z)

  -- the forms of the model and of that with another cost of column j differ in bounds and costs alone
  pub skeleton_same : (ls l : List (Option ℚ × Option ℚ)) →
      skeleton (formed m ls) ≡ skeleton (formed (with_cost m j v) l)
  skeleton_same ls l =
      ap₂ (λ (n : ℕ) (es : List (List (ℕ × ℚ))). record {
        rows = height m;
        cols = n;
        entries = es;
        lower = [];
        upper = [];
        cost = [];
      })
      (sym other_width)
      (sym (map-set_same (λ (c : ExactColumn). c.entries) m.columns j (record (column m j) { cost = v }) no_column refl))

-- by how much the form's cost of column j grows where the model's goes to v: v less the old cost, negated where the
-- sense is Max
abbrev pub growth : Model → ℕ → ℚ → ℚ
growth m j v = least_cost m.sense v -ℚ least_cost m.sense (cost m j)

module _ (m : Model) (ls : List (Option ℚ × Option ℚ)) (h : Limited m ls) (basis : List Status)
    (fits : IsBasisOf (formed m ls) basis) (t : Tableau) (ok : start_from None (formed m ls) basis ≡ Ok t)
    (j : ℕ) (j_in : j < width m) where
  -- the count of the model's columns
  abbrev w : ℕ
  w = width m

  -- the count of the model's rows
  abbrev r : ℕ
  r = height m

  -- the count of the form's columns, with the logical and artificial ones
  abbrev n : ℕ
  n = w + r + r

  -- the bounds of the model's form
  abbrev b : Bounds
  b = form_bounds (formed m ls)

  -- the basis's tableau is one of the form's equations, costs and bounds
  g : IsTableau r n (equations (formed m ls)) (cost_at (formed m ls).cost) b (table_of t)
  g = tableau None m ls h basis fits t ok

  -- the form's costs with the cost v of column j in place of the old one
  abbrev pub costs_with : ℚ → ℕ → ℚ
  costs_with v k = cost_at (formed m ls).cost k +ℚ growth m j v *ℚ delta j k

  -- the costs of the form of the model with the cost v of column j are the form's with v in place of the old one
  costs_are : (v : ℚ) (l : List (Option ℚ × Option ℚ)) → Limited (with_cost m j v) l → (k : ℕ) →
      cost_at (formed (with_cost m j v) l).cost k ≡ costs_with v k
  costs_are v l hl k = by_lt k w structural others
    where
      structural : k < w → cost_at (formed (with_cost m j v) l).cost k ≡ costs_with v k
      structural q =
          least_structural (with_cost m j v) l hl k (omega (arith, q, other_width m j j_in v))
          ∙ by_eq k j
          (λ z. ap (λ k. least_cost m.sense (cost (with_cost m j v) k)) z
          ∙ ap (least_cost m.sense) (cost_there m j j_in v)
          ∙ again (least_cost m.sense v) (least_cost m.sense (cost m j))
          ∙ ap₂ (λ a d. a +ℚ growth m j v *ℚ d) (sym (least_structural m ls h j j_in)) (sym (delta_same j))
          ∙ ap (costs_with v) (sym z))
          (λ z. ap (least_cost m.sense) (cost_elsewhere m j j_in v k z)
          ∙ sym (least_structural m ls h k q)
          ∙ still (cost_at (formed m ls).cost k) (growth m j v)
          ∙ ap (λ d. cost_at (formed m ls).cost k +ℚ growth m j v *ℚ d) (sym (delta_other j k (λ y. z (sym y)))))
        where
          again : (a c : ℚ) → a ≡ c +ℚ (a -ℚ c) *ℚ 1ℚ
          again a c = simp ring

          still : (c d : ℚ) → c ≡ c +ℚ d *ℚ 0ℚ
          still c d = simp ring

      others : w ≤ k → cost_at (formed (with_cost m j v) l).cost k ≡ costs_with v k
      others q =
          let i : ℕ = k - w in
          let e : width (with_cost m j v) + i ≡ k = omega (arith, q, other_width m j j_in v) in
          let z : w + i ≡ k = omega (arith, q) in
          ap (cost_at (formed (with_cost m j v) l).cost) (sym e) ∙ cost_other (with_cost m j v) l hl i
          ∙ none (growth m j v)
          ∙ ap₂ (λ a d. a +ℚ growth m j v *ℚ d) (sym (cost_other m ls h i) ∙ ap (cost_at (formed m ls).cost) z)
          (sym (delta_other j k (λ y. let x : ⊥ = omega (arith, q, j_in, y) in x)))
        where
          none : (d : ℚ) → 0ℚ ≡ 0ℚ +ℚ d *ℚ 0ℚ
          none d = simp ring

  -- the form of the model with another cost has the same bounds
  bounds_are : (v : ℚ) (l : List (Option ℚ × Option ℚ)) → Limited (with_cost m j v) l →
      SameBounds n (form_bounds (formed (with_cost m j v) l)) b
  bounds_are v l hl =
      bounds_by (with_cost m j v) l hl w r (other_width m j j_in v) refl b
      (λ k q. (
        lower_same m j j_in v k ∙ sym (structural_low m ls h k q),
        upper_same m j j_in v k ∙ sym (structural_high m ls h k q),
      ))
      (λ i q. (sym (logical_low m ls h i q), sym (logical_high m ls h i q)))
      (λ i q. (artificial_low m ls h i q, artificial_high m ls h i q))

  -- the basis fits the form of the model with another cost
  fits_still : (v : ℚ) (l : List (Option ℚ × Option ℚ)) → Limited (with_cost m j v) l →
      IsBasisOf (formed (with_cost m j v) l) basis
  fits_still v l hl =
      fits_other (formed m ls) (formed (with_cost m j v) l) basis (sym (other_width m j j_in v)) refl
      (λ k q c. let x = bounded (formed m ls) (formed_proper m ls h) in
      let y = bounded (formed (with_cost m j v) l) (formed_proper (with_cost m j v) l hl) in
      let q' : k < width (with_cost m j v) + r = omega (arith, q, other_width m j j_in v) in
      let s = bounds_are v l hl in
      subst₂ (CanStand (basis_at basis k))
      (sym (x.lower k q) ∙ sym (s.lower k (omega (arith, q))) ∙ y.lower k q')
      (sym (x.upper k q) ∙ sym (s.upper k (omega (arith, q))) ∙ y.upper k q') c)
      fits

  -- e is the row of column j where it is basic, and 0 where it is not
  pub record IsRowOf (e : ℕ → ℚ) : Type 0 where
    pub weights : ℕ → ℚ
    pub combined : (k : ℕ) → e k ≡ sum_below (height m) (λ i. weights i *ℚ equations (formed m ls) i k)
    pub at_basic : (i : ℕ) → i < height m → e (basic_at t i) ≡ delta j (basic_at t i)

  -- where column j is basic at position p, the tableau's row p is the row of column j
  pub basic_row : (p : ℕ) → p < height m → basic_at t p ≡ j → IsRowOf (entry_at t p)
  basic_row p p_in e = record {
    weights = g.forth.0 p;
    combined = λ k. g.forth.1 p k p_in;
    at_basic = λ i i_in. g.units i p i_in p_in
        ∙ by_eq i p
        (λ z. ap (λ i. delta i p) z ∙ delta_same p ∙ sym (delta_same j)
        ∙ ap (delta j) (sym e ∙ ap (basic_at t) (sym z)))
        (λ z. delta_other i p z ∙ sym (delta_other j (basic_at t i)
        (λ y. z (sym (apart r (entry_at t) (basic_at t) g.units p i p_in i_in (e ∙ y))))));
  }

  -- where column j is not basic, zeros are the row of column j
  pub no_row : ¬ (status_at t j ≡ Basic) → IsRowOf (λ k. 0ℚ)
  no_row free = record {
    weights = λ i. 0ℚ;
    combined = λ k. sym (sum_below_none r _ (λ i p. zero-*ℚ _));
    at_basic = λ i i_in. sym (delta_other j (basic_at t i)
        (λ y. outside r n _ _ b (table_of t) g j free i i_in (sym y)));
  }

  module _ (e : ℕ → ℚ) (row : IsRowOf e) where
    -- the tableau's table with the reduced costs that the cost v of column j gives
    abbrev moved : ℚ → Table
    moved v = repriced (table_of t) j (growth m j v) e

    -- the table with the reduced costs that the cost v gives is that of the model with this cost of column j
    pub is_moved : (v : ℚ) → IsMoved m (with_cost m j v) ls basis fits h t ok (costs_with v)
        (form_bounds (formed m ls)) (repriced (table_of t) j (growth m j v) e)
    is_moved v = record {
      skeleton = skeleton_same m j j_in v ls;
      ordered = λ k l u k_in p q.
          h.ordered k l u (omega (arith, k_in, other_width m j j_in v)) (sym (lower_same m j j_in v k) ∙ p)
          (sym (upper_same m j j_in v k) ∙ q);
      costs = costs_are v;
      bounds = bounds_are v;
      still_fits = fits_still v;
      status = λ k. refl;
      tableau =
          repriced_is r n (equations (formed m ls)) (cost_at (formed m ls).cost) b (table_of t) g j (growth m j v) e
          row.weights (costs_with v) row.combined row.at_basic (λ k. refl);
    }
