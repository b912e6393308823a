-- The rows that hold the parts of a tableau show it.
use Rattle.std.proofs.Common.{◌≡◌, ◌≢◌, ℕ, ◌+◌, ◌<◌, List, length, map, get_or, Option, Some, None, Bool, false}
use Rattle.std.proofs.Common.{refl, sym, ap, ap₂, subst, subst₂, ◌∙◌, arith}
use Rattle.std.specs.Prelude.{All}
use Rattle.std.proofs.lemmas.List.{length-map}
use Rattle.std.proofs.Math.ListN.{get_or-map}
use Rattle.spec_exact.specs.Fraction.{ℚ, 0ℚ}
use Rattle.spec_exact.specs.Run.{made}
use Rattle.spec_exact.proofs.RunsInOrder.{length-made, get_or-made}
use Rattle.spec_pivot.specs.declared.status.Status.{Status}
use Rattle.spec_pivot.specs.declared.status.Status.TheVariants.{Basic, AtLower, AtUpper, AtZero}
use Rattle.spec_pivot.specs.Simplex.{Stands}
use Rattle.spec_simplex.specs.Tableau.{Tableau, IsTableauShape, form_columns, all_columns, status_at, value_at}
use Rattle.spec_simplex.specs.Tableau.{lower_at, upper_at, reduced_at, is_fixed, or_zero, stand}
use Rattle.spec_simplex.proofs.ListIndices.{by_lt}
use Rattle.spec_simplex.proofs.PhaseTwo.{stands_zero}
use Rattle.lp_natural.specs.declared.words.signed.Signed.{Signed}
use Rattle.lp_rows.specs.Ratio.{bound_of}
use Rattle.lp_rows.specs.declared.tableau.tableau.RowTableau.{RowTableau}
use Rattle.lp_rows.specs.Shows.{IsRow, IsWhole, IsReached, Shows, width, all_width}
use Rattle.lp_rows.specs.Held.{HoldsParts}
use Rattle.lp_rows.proofs.GrowingRows.{made_of}

-- ---- where columns stand that are not basic

-- the value of a column that is not basic, and stands where its status says, is the bound its status names
stands_so : (s : Status) (l u : Option ℚ) (v : ℚ) → s ≢ Basic → Stands s l u v → v ≡ stand s l u
stands_so Basic l u v n h = absurd (n refl)
stands_so AtLower l u v n h = sym (ap or_zero h)
stands_so AtUpper l u v n h = sym (ap or_zero h)
stands_so AtZero l u v n h = h.2

-- a column with the bounds 0 and 0 is at 0, whatever its status
stand_none : (s : Status) → stand s (Some 0ℚ) (Some 0ℚ) ≡ 0ℚ
stand_none Basic = refl
stand_none AtLower = refl
stand_none AtUpper = refl
stand_none AtZero = refl

-- in a tableau that a run reaches, each nonbasic column has the value of the bound its status names
reached_stands : (t : Tableau) → IsReached t → (k : ℕ) → k < all_columns t → status_at t k ≢ Basic →
    value_at t k ≡ stand (status_at t k) (lower_at t k) (upper_at t k)
reached_stands t r k l n =
    let b = r.bounds in
    let is = r.tableau in
    by_lt k (form_columns t)
    (λ h. stands_so (status_at t k) (lower_at t k) (upper_at t k) (value_at t k) n
    (subst₂ (λ x y. Stands (status_at t k) x y (value_at t k)) (sym (is.bounds.lower k l)) (sym (is.bounds.upper k h))
    (is.tableau.stands k l)))
    (λ h. stands_zero (status_at t k) (b.lower k) (b.upper k) (value_at t k) (is.bounds.zero k h l)
    (is.bounds.top k h l) n
    (is.tableau.stands k l)
    ∙ sym (ap₂ (λ x y. stand (status_at t k) x y) (is.bounds.lower k l ∙ is.bounds.zero k h l) (is.bounds.fixed k h l n)
    ∙ stand_none (status_at t k)))

-- ---- the parts
module _ {T : Type 0} (value : T → ℕ) (t : Tableau) (r : RowTableau T) (shape : IsTableauShape t)
    (h : HoldsParts value t r) where
  same_width : width r ≡ form_columns t
  same_width = ap₂ (λ a b. a + b) h.cols h.rows.len

  same_all : all_width r ≡ all_columns t
  same_all = ap₂ (λ a b. a + b) same_width h.rows.len

  basics : r.basic.items ≡ t.basic
  basics = h.basic ∙ made_of t.rows t.basic 0 shape.all_basic

  statuses : r.status.items ≡ t.status
  statuses = h.status ∙ made_of (all_columns t) t.status Basic shape.all_statuses

  bound_length : (xs : List (Option (Signed T))) (f : ℕ → Option ℚ) →
      map (bound_of value (value r.denominator)) xs ≡ made (all_columns t) f → length xs ≡ all_width r
  bound_length xs f e =
      sym (length-map xs (bound_of value (value r.denominator))) ∙ ap (λ (ys : List (Option ℚ)). length ys) e
      ∙ length-made (all_columns t) f ∙ sym same_all

  -- rows that hold the parts of a tableau are a whole tableau of rows: each list has its length, and each denominator
  -- is above 0
  pub held_whole : IsWhole value r
  held_whole = record {
    few_rows = omega (arith, h.rows.len, shape.few_rows);
    few_columns = omega (arith, h.cols, shape.few_columns);
    each_row = subst (λ n. All (IsRow value n) r.rows.items) (sym same_width) h.rows.each;
    costs = subst (λ n. IsRow value n r.costs)
        (length-made (form_columns t) (reduced_at t) ∙ sym same_width) h.costs.is_row;
    all_basic = ap (λ (ks : List ℕ). length ks) basics ∙ shape.all_basic ∙ sym h.rows.len;
    in_range = subst₂ (λ n (ks : List ℕ). All (λ k. k < n) ks) (sym same_all) (sym basics) shape.in_range;
    all_statuses = ap (λ (ss : List Status). length ss) statuses ∙ shape.all_statuses ∙ sym same_all;
    all_lower = bound_length r.lower.items (lower_at t) h.lower;
    all_upper = bound_length r.upper.items (upper_at t) h.upper;
    all_fixed = ap (λ (bs : List Bool). length bs) h.fixed
        ∙ length-made (form_columns t) (λ k. is_fixed (lower_at t k) (upper_at t k)) ∙ sym same_width;
    positive = h.positive;
  }

  bound_at : (xs : List (Option (Signed T))) (f : ℕ → Option ℚ) (k : ℕ) →
      map (bound_of value (value r.denominator)) xs ≡ made (all_columns t) f → k < all_columns t →
      f k ≡ bound_of value (value r.denominator) (get_or xs k None)
  bound_at xs f k e l =
      sym (get_or-made (all_columns t) f k None l) ∙ sym (ap (λ ys. get_or ys k None) e)
      ∙ get_or-map (bound_of value (value r.denominator)) xs k None

  -- rows that hold the parts of a tableau that a run reaches show this tableau
  pub held_shown : IsReached t → Shows value r t
  held_shown reached = record {
    rows = h.rows.len;
    cols = h.cols;
    basic = basics;
    status = statuses;
    entries = λ i k p q. sym (h.rows.entries i k p q);
    values = λ i p. sym (h.rows.values i p);
    reduced = λ k l.
        sym (h.costs.entries k (omega (arith, l, length-made (form_columns t) (reduced_at t)))
        ∙ get_or-made (form_columns t) (reduced_at t) k 0ℚ l);
    lower = λ k l. bound_at r.lower.items (lower_at t) k h.lower l;
    upper = λ k l. bound_at r.upper.items (upper_at t) k h.upper l;
    fixed = λ k l.
        sym (ap (λ bs. get_or bs k false) h.fixed
        ∙ get_or-made (form_columns t) (λ k. is_fixed (lower_at t k) (upper_at t k)) k false l);
    stands = reached_stands t reached;
  }

-- end of Held
