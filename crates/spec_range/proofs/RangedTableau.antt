-- The tableau of a basis, with the bounds and the statuses that the form and the basis say.
--
-- `status_before`: below the artificial columns, the full list of statuses has the statuses of the basis.
-- `status_after`: each artificial column is at its lower bound in the full list of statuses.
use Rattle.std.proofs.Common.{◌≡◌, ℕ, ◌+◌, ◌-◌, ◌<◌, ◌≤◌, List, ◌++◌, length, get_or, replicate}
use Rattle.std.proofs.Common.{Option, Some, None, Ok, nat_le, refl, sym, ap, ap₂, ◌∙◌, subst, subst₂, arith}
use Rattle.std.proofs.lemmas.Bool.{lt-leb}
use Rattle.std.proofs.lemmas.List.{get_or_append_left, get_or-append-add, get_or-replicate}
use Rattle.spec_exact.specs.Fraction.{ℚ, 0ℚ, ◌≤ℚ◌}
use Rattle.spec_exact.proofs.Order.{≤ℚ_refl}
use Rattle.spec_pivot.specs.declared.status.Status.{Status}
use Rattle.spec_pivot.specs.declared.status.Status.TheVariants.{Basic, AtLower}
use Rattle.spec_pivot.specs.Simplex.{Bounds, IsTableau}
use Rattle.spec_simplex.specs.declared.ends.StartStop.TheVariants as stop
use Rattle.spec_simplex.specs.Form.{Form, form_lower, form_upper}
use Rattle.spec_simplex.specs.Start.{cost_at, priced_run, with_reduced}
use Rattle.spec_simplex.specs.Tableau.{Tableau}
use Rattle.spec_simplex.specs.Eliminate.{IsBasisOf, basis_at, basis_status, basis_lower, basis_upper, with_basis}
use Rattle.spec_simplex.specs.Eliminate.{eliminate_run, valued_run, with_values, filled_run, start_from}
use Rattle.spec_simplex.specs.Tables.{table_of, bounds_of}
use Rattle.spec_simplex.specs.Begins.{IsProper}
use Rattle.spec_simplex.proofs.FormOfModel.{HasBounds}
use Rattle.spec_simplex.proofs.ListIndices.{by_lt}
use Rattle.spec_simplex.proofs.RunParts.{then_ok, refused_ok}
use Rattle.spec_pivot.specs.Dual.{IsOrdered}
use Rattle.spec_runs.specs.Based.{equations, BeginsFrom}
use Rattle.spec_runs.proofs.BasisTableau.{start_begins_from}

-- the tableau has the form's shape and bounds, and the basis's statuses
pub record IsOf (f : Form) (basis : List Status) (t : Tableau) : Type 0 where
  pub rows : t.rows ≡ f.rows
  pub cols : t.cols ≡ f.cols
  pub status : t.status ≡ basis_status f basis
  pub lower : t.lower ≡ basis_lower f
  pub upper : t.upper ≡ basis_upper f

-- a tableau that the start from a basis gives has the form's shape and bounds and the basis's statuses
start_is_of : (limit : Option ℕ) (f : Form) (basis : List Status) (t : Tableau) → start_from limit f basis ≡ Ok t →
    IsOf f basis t
unfolding start_from
start_is_of limit f basis t h =
    let a = then_ok (eliminate_run limit f basis) _ t h in
    let h' = refused_ok stop.Past (filled_run limit f (with_basis f basis a.0)) t a.2 in
    let c = then_ok (valued_run limit (with_basis f basis a.0)) _ t h' in
    let d = then_ok (priced_run limit (with_basis f basis a.0) f.cost) _ t c.2 in
    let z : with_reduced (with_values (with_basis f basis a.0) c.0) d.0 ≡ t = cc in
    subst (IsOf f basis) z (record { rows = refl; cols = refl; status = refl; lower = refl; upper = refl })

-- the bounds of columns by lists of lower and upper ones; columns from n on, the artificial ones, are barred
abbrev pub bounds_in : List (Option ℚ) → List (Option ℚ) → ℕ → Bounds
bounds_in lower upper n =
    record { lower = λ k. get_or lower k None; upper = λ k. get_or upper k None; barred = λ k. nat_le n k }

-- the bounds of a form's columns, with those of its artificial columns, both 0
abbrev pub form_bounds : Form → Bounds
form_bounds f = bounds_in (basis_lower f) (basis_upper f) (f.cols + f.rows)

-- where a tableau is of a form and a basis, its bounds are those of the form
bounds_are : (f : Form) (basis : List Status) (t : Tableau) → IsOf f basis t → bounds_of t ≡ form_bounds f
bounds_are f basis t s =
    ap₂ (λ l u. bounds_in l u (t.cols + t.rows)) s.lower s.upper
    ∙ ap₂ (λ c r. bounds_in (basis_lower f) (basis_upper f) (c + r)) s.cols s.rows

-- the tableau is one of the form's equations, costs and bounds
abbrev pub IsFor : Form → Tableau → Type 0
IsFor f t =
    IsTableau f.rows (f.cols + f.rows + f.rows) (equations f) (cost_at f.cost) (form_bounds f) (table_of t)

module _ (limit : Option ℕ) (f : Form) (proper : IsProper f) (basis : List Status) (fits : IsBasisOf f basis)
    (few : length f.cost ≤ f.cols + f.rows + f.rows) (t : Tableau) (ok : start_from limit f basis ≡ Ok t) where
  -- the tableau of a basis begins from the form
  pub begun : BeginsFrom f t
  begun = start_begins_from limit f basis t proper fits few ok

  -- the tableau of a basis has the form's shape and bounds, and the basis's statuses
  pub of : IsOf f basis t
  of = start_is_of limit f basis t ok

  -- the tableau of a basis is one of the form's equations, costs and bounds
  pub is_for : IsFor f t
  is_for =
      subst (λ b. IsTableau f.rows (f.cols + f.rows + f.rows) (equations f) (cost_at f.cost) b (table_of t))
      (bounds_are f basis t of) begun.based.tableau.tableau

-- ---- the lists of a basis
module _ (f : Form) (proper : IsProper f) where
  -- below the artificial columns the lower bounds are those of the form
  lower_before : (k : ℕ) → k < f.cols + f.rows → get_or (basis_lower f) k None ≡ form_lower f k
  lower_before k h = get_or_append_left f.lower (replicate f.rows (Some 0ℚ)) None k (omega (arith, h, proper.all_lower))

  -- below the artificial columns the upper bounds are those of the form
  upper_before : (k : ℕ) → k < f.cols + f.rows → get_or (basis_upper f) k None ≡ form_upper f k
  upper_before k h = get_or_append_left f.upper (replicate f.rows (Some 0ℚ)) None k (omega (arith, h, proper.all_upper))

  -- behind the bounds of a form's columns each artificial has the bound 0
  bound_after : (bounds : List (Option ℚ)) → length bounds ≡ f.cols + f.rows → (r : ℕ) → r < f.rows →
      get_or (bounds ++ replicate f.rows (Some 0ℚ)) (f.cols + f.rows + r) None ≡ Some 0ℚ
  bound_after bounds all r h =
      ap (λ k. get_or (bounds ++ replicate f.rows (Some 0ℚ)) (k + r) None) (sym all)
      ∙ get_or-append-add bounds (replicate f.rows (Some 0ℚ)) r None
      ∙ get_or-replicate f.rows r (Some 0ℚ) None h

  -- the bounds of a form are those of its columns, with both bounds 0 for each artificial
  pub bounded : HasBounds f (form_bounds f)
  bounded =
      record { lower = lower_before; upper = upper_before; entering = λ k l. lt-leb (f.cols + f.rows) k l }

  -- each artificial column of a form has 0 as its lower and its upper bound
  pub fixed_after : (i : ℕ) → i < f.rows →
      ((form_bounds f).lower (f.cols + f.rows + i) ≡ Some 0ℚ) × ((form_bounds f).upper (f.cols + f.rows + i) ≡ Some 0ℚ)
  fixed_after i h = (bound_after f.lower proper.all_lower i h, bound_after f.upper proper.all_upper i h)

  -- what holds of the artificial of each row holds of each column behind the logical ones
  pub by_artificial : (P : ℕ → Type 0) (k : ℕ) → f.cols + f.rows ≤ k → k < f.cols + f.rows + f.rows →
      ((r : ℕ) → r < f.rows → P (f.cols + f.rows + r)) → P k
  by_artificial P k h l g =
      let z : f.cols + f.rows + (k - (f.cols + f.rows)) ≡ k = omega (arith, h) in
      subst P z (g (k - (f.cols + f.rows)) (omega (arith, h, l)))

  -- no lower bound of a form is above the upper bound of its column
  pub ordered : IsOrdered (f.cols + f.rows + f.rows) (form_bounds f)
  ordered k l u k_in p q =
      by_lt k (f.cols + f.rows)
      (λ z. proper.ordered k l u z (sym (lower_before k z) ∙ p) (sym (upper_before k z) ∙ q))
      (λ z. by_artificial
      (λ k. (form_bounds f).lower k ≡ Some l → (form_bounds f).upper k ≡ Some u → l ≤ℚ u) k z k_in
      (λ i i_in p q. let o = fixed_after i i_in in
      let x : Some 0ℚ ≡ Some l = sym o.0 ∙ p in
      let y : Some 0ℚ ≡ Some u = sym o.1 ∙ q in
      let x' : 0ℚ ≡ l = cc in let y' : 0ℚ ≡ u = cc in subst₂ ◌≤ℚ◌ x' y' (≤ℚ_refl 0ℚ)) p q)

pub status_before : (f : Form) (basis : List Status) → IsBasisOf f basis → (k : ℕ) → k < f.cols + f.rows →
    get_or (basis_status f basis) k Basic ≡ basis_at basis k
status_before f basis fits k h =
    get_or_append_left basis (replicate f.rows AtLower) Basic k (omega (arith, h, fits.all))

pub status_after : (f : Form) (basis : List Status) → IsBasisOf f basis → (r : ℕ) → r < f.rows →
    get_or (basis_status f basis) (f.cols + f.rows + r) Basic ≡ AtLower
status_after f basis fits r h =
    ap (λ k. get_or (basis ++ replicate f.rows AtLower) (k + r) Basic) (sym fits.all)
    ∙ get_or-append-add basis (replicate f.rows AtLower) r Basic
    ∙ get_or-replicate f.rows r AtLower Basic h
