-- The tableau of a basis whose basic values are within their bounds is primal feasible, and reached.
--
-- `from_bound`: where v is equal to b * e or greater, by their comparison, v / (d * e) is at least the lower bound b /
--   d.
-- `up_to_bound`: where v is less than b * e or equal, by their comparison, v / (d * e) is at most the upper bound b /
--   d.
-- `inside_read`: where the value that a row holds is within the bounds that are read, the position's basic column of
--   the tableau is within its bounds.
use Rattle.std.proofs.Common.{◌≡◌, ℕ, ◌+◌, ◌*◌, ◌<◌, ◌⊎◌, ⊎_elim, List, get_or, ℤ, pos, ◌*ℤ◌, int_cmp, Option, Some, None, IfSome, Ok, Err}
use Rattle.std.proofs.Common.{Ordering, refl, sym, ap, ap₂, subst, subst₂, ◌∙◌, arith}
use Rattle.std.specs.declared.cmp.Ordering.TheVariants.{Less, Equal, Greater}
use Rattle.std.proofs.lemmas.List.{get_or_default}
use Rattle.std.proofs.Math.Nat.{mul-one}
use Rattle.spec_exact.specs.Fraction.{ℚ, 0ℚ, over, ◌≤ℚ◌}
use Rattle.spec_exact.specs.Limit.{order}
use Rattle.spec_exact.specs.Run.{Run, ◌>>=◌}
use Rattle.spec_exact.proofs.Compare.{order_equal, order_greater, order_less}
use Rattle.spec_exact.proofs.Order.{≤ℚ_refl, <ℚ-le, clash_ℚ}
use Rattle.spec_pivot.specs.declared.status.Status.TheVariants.{Basic}
use Rattle.spec_pivot.specs.Simplex.{IsInside}
use Rattle.spec_simplex.specs.declared.ends.Leaving.{Leaving}
use Rattle.spec_simplex.specs.declared.ends.Fit.TheVariants as fit
use Rattle.spec_simplex.specs.Fit.{leaving_run, fit_by, fit_run}
use Rattle.spec_simplex.specs.Form.{Form}
use Rattle.spec_simplex.specs.Start.{cost_at}
use Rattle.spec_simplex.specs.Tableau.{Tableau, all_columns, form_columns, basic_at, value_at, status_at, lower_at, upper_at}
use Rattle.spec_simplex.specs.Begins.{IsProper}
use Rattle.spec_simplex.specs.Tables.{bounds_of, IsTableauOf, IsWithinBounds}
use Rattle.spec_simplex.proofs.ListIndices.{by_lt}
use Rattle.spec_pivot.specs.declared.status.Way.{Way}
use Rattle.spec_pivot.specs.declared.status.Way.TheVariants.{Up, Down}
use Rattle.spec_pivot.specs.Dual.{IsOrdered, IsPast}
use Rattle.spec_runs.specs.Based.{equations, BeginsFrom}
use Rattle.spec_runs.proofs.Fits.{IsLeaving, leaving_is}
use Rattle.spec_runs.proofs.Feasibility.{primal_fit}
use Rattle.spec_runs.proofs.LimitSteps.{fit_agrees}
use Rattle.lp_natural.specs.Whole.{whole}
use Rattle.lp_natural.specs.declared.words.signed.Signed.{Signed}
use Rattle.lp_rows.specs.declared.fractions.Row.{Row}
use Rattle.lp_rows.specs.Ratio.{bound_of}
use Rattle.lp_rows.proofs.Crosswise.{ratios}
use Rattle.lp_rows.specs.declared.tableau.tableau.RowTableau.{RowTableau}
use Rattle.lp_rows.specs.Shows.{IsRow, IsWhole, IsReached, Shows, height, width, all_width, row_at}
use Rattle.lp_rows.proofs.Asks.{row-at, row-is}
use Rattle.lp_rows.proofs.Read.{read_at}
use Rattle.lp_rows.proofs.SameCounts.{basic_read}

-- ---- a value beside a bound

-- where d and e are above 0, v / (d * e) is to b / d as v is to b * e
stands_to : (v b : ℤ) (d e one : ℕ) (o : Ordering) → 0 < d → 0 < e → one ≡ 1 →
    o ≡ int_cmp (v *ℤ pos one) (b *ℤ pos e) → o ≡ order (over v (d * e)) (over b d)
stands_to v b d e one o p q u h =
    h ∙ ap (λ n. int_cmp (v *ℤ pos n) (b *ℤ pos e)) u
    ∙ sym (ratios v b d e 1 p q (omega arith)) ∙ ap (λ n. order (over v (d * e)) (over b n)) (mul-one d)

-- what the order says of a bound that is there
pub from_bound : {T : Type 0} (value : T → ℕ) (lower : Option (Signed T)) (b : Signed T) (v : ℤ) (d e one : ℕ)
    (o : Ordering) → lower ≡ Some b → 0 < d → 0 < e → one ≡ 1 →
    o ≡ int_cmp (v *ℤ pos one) (whole b.negative (value b.size) *ℤ pos e) → (o ≡ Equal) ⊎ (o ≡ Greater) →
    IfSome (bound_of value d lower) (λ c. c ≤ℚ over v (d * e))
from_bound value lower b v d e one o is p q u h n =
    let x = over v (d * e) in
    let y = over (whole b.negative (value b.size)) d in
    let s = stands_to v (whole b.negative (value b.size)) d e one o p q u h in
    subst (λ o. IfSome (bound_of value d o) (λ c. c ≤ℚ x)) (sym is)
    (⊎_elim
    (λ z. subst (λ x. y ≤ℚ x) (sym ((order_equal x y).0 (sym s ∙ z))) (≤ℚ_refl y))
    (λ z. <ℚ-le y x ((order_greater x y).0 (sym s ∙ z)))
    n)

pub up_to_bound : {T : Type 0} (value : T → ℕ) (upper : Option (Signed T)) (b : Signed T) (v : ℤ) (d e one : ℕ)
    (o : Ordering) → upper ≡ Some b → 0 < d → 0 < e → one ≡ 1 →
    o ≡ int_cmp (v *ℤ pos one) (whole b.negative (value b.size) *ℤ pos e) → (o ≡ Less) ⊎ (o ≡ Equal) →
    IfSome (bound_of value d upper) (λ c. over v (d * e) ≤ℚ c)
up_to_bound value upper b v d e one o is p q u h n =
    let x = over v (d * e) in
    let y = over (whole b.negative (value b.size)) d in
    let s = stands_to v (whole b.negative (value b.size)) d e one o p q u h in
    subst (λ o. IfSome (bound_of value d o) (λ c. x ≤ℚ c)) (sym is)
    (⊎_elim
    (λ z. <ℚ-le x y ((order_less x y).0 (sym s ∙ z)))
    (λ z. subst (λ y. x ≤ℚ y) ((order_equal x y).0 (sym s ∙ z)) (≤ℚ_refl x))
    n)

-- ---- the value of a position's basic column, as it is read
pub inside_read : {T : Type 0} (value : T → ℕ) (r : RowTableau T) (t : Tableau) (i n k : ℕ) (row : Row T)
    (low low' high high' : Option (Signed T)) (v : Signed T) → IsWhole value r → i < height r → Shows value r t →
    row ≡ get_or r.rows.items i row → k ≡ get_or r.basic.items i k → n ≡ width r → v ≡ get_or row.numbers.items n v →
    low ≡ get_or r.lower.items k low' → high ≡ get_or r.upper.items k high' →
    ((d : ℕ) → 0 < d → IsInside (bound_of value d low) (bound_of value d high)
    (over (whole v.negative (value v.size)) (d * value row.denominator))) →
    IsInside (lower_at t (basic_at t i)) (upper_at t (basic_at t i)) (value_at t (basic_at t i))
inside_read value r t i n k row low low' high high' v w h s row_is k_is n_is v_is low_is high_is inside =
    let d = value r.denominator in
    let columns : width r ≡ form_columns t = ap₂ (λ a b. a + b) s.cols s.rows in
    let here : k ≡ basic_at t i = basic_read value r r w i k k h k_is ∙ ap (λ (ks : List ℕ). get_or ks i 0) s.basic in
    let k_in : k < all_width r =
    (let q = w.in_range i 0 (omega (arith, h, w.all_basic)) in omega (arith, q, basic_read value r r w i k k h k_is)) in
    let k_all : k < all_columns t = omega (arith, k_in, columns, s.rows) in
    let row_of : IsRow value (width r) row = row-is value r i row w h row_is in
    let low_at : bound_of value d low ≡ lower_at t k =
    ap (bound_of value d) (low_is ∙ get_or_default r.lower.items k low' None (omega (arith, k_in, w.all_lower)))
    ∙ sym (s.lower k k_all) in
    let high_at : bound_of value d high ≡ upper_at t k =
    ap (bound_of value d) (high_is ∙ get_or_default r.upper.items k high' None (omega (arith, k_in, w.all_upper)))
    ∙ sym (s.upper k k_all) in
    let here_at : over (whole v.negative (value v.size)) (d * value row.denominator) ≡ value_at t (basic_at t i) =
    read_at value row.numbers.items (d * value row.denominator) (d * value row.denominator) n v
    (omega (arith, n_is, row_of.numbers)) v_is refl
    ∙ sym (row-at value d r.rows.items i n row h row_is)
    ∙ ap (row_at value d r.rows.items i) (n_is ∙ columns)
    ∙ sym (s.values i (omega (arith, h, s.rows))) in
    subst (λ j. IsInside (lower_at t j) (upper_at t j) (value_at t (basic_at t i))) here
    (subst (IsInside (lower_at t k) (upper_at t k)) here_at
    (subst₂ (λ l u. IsInside l u (over (whole v.negative (value v.size)) (d * value row.denominator))) low_at high_at
    (inside d w.positive)))

-- ---- no basic column leaves

-- a value that is within its bounds is not past either of them
not_past : (way : Way) (l u : Option ℚ) (v c : ℚ) → IsInside l u v → IsPast way l u v c → ⊥
not_past Up l u v c i p = clash_ℚ v c p.1 (subst (λ l. IfSome l (λ c. c ≤ℚ v)) p.0 i.lower)
not_past Down l u v c i p = clash_ℚ c v p.1 (subst (λ u. IfSome u (λ c. v ≤ℚ c)) p.0 i.upper)

module _ (t : Tableau) (inside : (k : ℕ) → k < all_columns t → status_at t k ≡ Basic →
    IsInside (lower_at t k) (upper_at t k) (value_at t k)) where
  stays : (o : Run (Option Leaving)) → leaving_run None t ≡ o → fit_run None t ≡ Ok fit.Primal
  unfolding fit_run
  stays (Err p) h =
      absurd ((fit_agrees None t).exact p (ap (λ o. o >>= λ x. Ok (fit_by t x)) h))
  stays (Ok None) h = ap (λ o. o >>= λ x. Ok (fit_by t x)) h
  stays (Ok (Some x)) h =
      let l : IsLeaving t (all_columns t) x = leaving_is None t (Some x) h in
      absurd (not_past x.direction (lower_at t x.col) (upper_at t x.col) (value_at t x.col) l.bound
      (inside x.col l.inside l.basic) l.past)

  -- where each basic column's value is within its bounds, the fit without a limit is `Primal`
  pub fit_is_primal : fit_run None t ≡ Ok fit.Primal
  fit_is_primal = stays (leaving_run None t) refl

-- ---- the tableau of a basis
module _ (f : Form) (t : Tableau) (b : BeginsFrom f t) where
  -- where the basic value of each position is within its bounds, the fit of the tableau without a limit is `Primal`
  pub basis_fits : ((i : ℕ) → i < t.rows → IsInside (lower_at t (basic_at t i)) (upper_at t (basic_at t i))
      (value_at t (basic_at t i))) → fit_run None t ≡ Ok fit.Primal
  basis_fits inside =
      fit_is_primal t
      (λ k h e.
      let w = b.based.tableau.tableau.placed k (omega (arith, h, b.based.tableau.rows, b.based.tableau.cols)) e in
      subst (λ k. IsInside (lower_at t k) (upper_at t k) (value_at t k)) w.2
      (inside w.0 (omega (arith, w.1, b.based.tableau.rows))))

  ordered : IsProper f → IsOrdered (f.cols + f.rows + f.rows) (bounds_of t)
  ordered proper k l u h p q =
      by_lt k (f.cols + f.rows)
      (λ z. proper.ordered k l u z (sym (b.lower k z) ∙ p) (sym (b.upper k z) ∙ q))
      (λ z.
      let x : Some 0ℚ ≡ Some l =
      sym (b.based.tableau.bounds.zero k (omega (arith, z, b.based.tableau.rows, b.based.tableau.cols))
      (omega (arith, h, b.based.tableau.rows, b.based.tableau.cols))) ∙ p in
      let y : Some 0ℚ ≡ Some u = sym (b.based.top k z h) ∙ q in
      let x' : 0ℚ ≡ l = cc in
      let y' : 0ℚ ≡ u = cc in
      subst₂ ◌≤ℚ◌ x' y' (≤ℚ_refl 0ℚ))

  -- the tableau of a basis of a proper form, with the fit `Primal`, is one that a run reaches
  pub basis_reached : IsProper f → fit_run None t ≡ Ok fit.Primal → IsReached t
  basis_reached proper h =
      let g =
      primal_fit None f.rows f.cols (equations f) (cost_at f.cost) (bounds_of t) t b.based (ordered proper) h in
      record {
        equations = equations f;
        cost = cost_at f.cost;
        bounds = bounds_of t;
        tableau =
            subst₂ (λ m n. IsTableauOf m n (equations f) (cost_at f.cost) (bounds_of t) t)
            (sym g.0.rows) (sym g.0.cols) g.0;
        within = subst₂ (λ m n. IsWithinBounds m n (bounds_of t) t) (sym g.0.rows) (sym g.0.cols) g.1;
      }
