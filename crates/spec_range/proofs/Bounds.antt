-- The bounds of a model's form, by its columns, its rows and its artificial columns; and the bases that fit them.
--
-- `bounds_by`: where the columns, rows and artificial columns of a model have some bounds, so does the model's form.
-- `fits_other`: a basis fits another form of the same size whose bounds let each column keep its status.
use Rattle.std.proofs.Common.{◌≡◌, ℕ, ◌+◌, ◌<◌, List, Option, Some, sym, ap, ap₂, ◌∙◌, arith}
use Rattle.spec_exact.specs.Fraction.{ℚ, 0ℚ}
use Rattle.spec_model.specs.Model.{Model, width, height, bounds, limits}
use Rattle.spec_pivot.specs.declared.status.Status.{Status}
use Rattle.spec_pivot.specs.Simplex.{Bounds}
use Rattle.spec_simplex.specs.Form.{Form, form_lower, form_upper, formed}
use Rattle.spec_simplex.specs.Eliminate.{CanStand, IsBasisOf, basics_below, basis_at}
use Rattle.spec_simplex.proofs.ColumnKinds.{by_kind}
use Rattle.spec_simplex.proofs.FormOfModel.{Limited, formed_proper}
use Rattle.spec_simplex.proofs.FormOfModel.{lower_structural, upper_structural, lower_logical, upper_logical}
use Rattle.spec_range.proofs.RangedTableau.{form_bounds, bounded, fixed_after}
use Rattle.spec_range.proofs.Compared.{SameBounds}

module _ (m : Model) (ls : List (Option ℚ × Option ℚ)) (h : Limited m ls) where
  -- the form's lower bound of column j is that of the model's column j
  pub structural_low : (j : ℕ) → j < width m → (form_bounds (formed m ls)).lower j ≡ (bounds m j).lower
  structural_low j l = (bounded (formed m ls) (formed_proper m ls h)).lower j (omega (arith, l)) ∙ lower_structural m ls h j l

  -- the form's upper bound of column j is that of the model's column j
  pub structural_high : (j : ℕ) → j < width m → (form_bounds (formed m ls)).upper j ≡ (bounds m j).upper
  structural_high j l = (bounded (formed m ls) (formed_proper m ls h)).upper j (omega (arith, l)) ∙ upper_structural m ls h j l

  -- the form's lower bound of row i's logical column is the row's lower limit
  pub logical_low : (i : ℕ) → i < height m → (form_bounds (formed m ls)).lower (width m + i) ≡ (limits m i).lower
  logical_low i l =
      (bounded (formed m ls) (formed_proper m ls h)).lower (width m + i) (omega (arith, l)) ∙ lower_logical m ls h i l

  -- the form's upper bound of row i's logical column is the row's upper limit
  pub logical_high : (i : ℕ) → i < height m → (form_bounds (formed m ls)).upper (width m + i) ≡ (limits m i).upper
  logical_high i l =
      (bounded (formed m ls) (formed_proper m ls h)).upper (width m + i) (omega (arith, l)) ∙ upper_logical m ls h i l

  -- the form's lower bound of row i's artificial column is 0
  pub artificial_low : (i : ℕ) → i < height m →
      (form_bounds (formed m ls)).lower (width m + height m + i) ≡ Some 0ℚ
  artificial_low i l = (fixed_after (formed m ls) (formed_proper m ls h) i l).0

  -- the form's upper bound of row i's artificial column is 0
  pub artificial_high : (i : ℕ) → i < height m →
      (form_bounds (formed m ls)).upper (width m + height m + i) ≡ Some 0ℚ
  artificial_high i l = (fixed_after (formed m ls) (formed_proper m ls h) i l).1

-- the bounds of the form of a model with w columns and r rows are these
pub bounds_by : (m : Model) (ls : List (Option ℚ × Option ℚ)) → Limited m ls → (w r : ℕ) → width m ≡ w → height m ≡ r →
    (b : Bounds) →
    ((j : ℕ) → j < w → ((bounds m j).lower ≡ b.lower j) × ((bounds m j).upper ≡ b.upper j)) →
    ((i : ℕ) → i < r → ((limits m i).lower ≡ b.lower (w + i)) × ((limits m i).upper ≡ b.upper (w + i))) →
    ((i : ℕ) → i < r → (b.lower (w + r + i) ≡ Some 0ℚ) × (b.upper (w + r + i) ≡ Some 0ℚ)) →
    SameBounds (w + r + r) (form_bounds (formed m ls)) b
bounds_by m ls h w r we re b structural logical artificial =
    record { lower = λ k l. (both k l).0; upper = λ k l. (both k l).1 }
  where
    c : Bounds
    c = form_bounds (formed m ls)

    Both : ℕ → Type 0
    Both k = ((form_bounds (formed m ls)).lower k ≡ b.lower k) × ((form_bounds (formed m ls)).upper k ≡ b.upper k)

    both : (k : ℕ) → k < w + r + r →
        ((form_bounds (formed m ls)).lower k ≡ b.lower k) × ((form_bounds (formed m ls)).upper k ≡ b.upper k)
    both k l =
        by_kind w r k
        (λ q. let o = structural k q in
        (structural_low m ls h k (omega (arith, q, we)) ∙ o.0, structural_high m ls h k (omega (arith, q, we)) ∙ o.1))
        (λ i q e. let o = logical i q in
        let z : width m + i ≡ k = omega (arith, e, we) in (
          ap (form_bounds (formed m ls)).lower (sym z) ∙ logical_low m ls h i (omega (arith, q, re)) ∙ o.0
              ∙ ap b.lower (sym e),
          ap (form_bounds (formed m ls)).upper (sym z) ∙ logical_high m ls h i (omega (arith, q, re)) ∙ o.1
              ∙ ap b.upper (sym e),
        ))
        (λ i e. let q : i < r = omega (arith, l, e) in let o = artificial i q in
        let z : width m + height m + i ≡ k = omega (arith, e, we, re) in (
          ap (form_bounds (formed m ls)).lower (sym z) ∙ artificial_low m ls h i (omega (arith, q, re)) ∙ sym o.0
              ∙ ap b.lower (sym e),
          ap (form_bounds (formed m ls)).upper (sym z) ∙ artificial_high m ls h i (omega (arith, q, re)) ∙ sym o.1
              ∙ ap b.upper (sym e),
        ))

-- a basis fits another form of the same size where each column can stand there as it does here
pub fits_other : (f g : Form) (basis : List Status) → f.cols ≡ g.cols → f.rows ≡ g.rows →
    ((k : ℕ) → k < f.cols + f.rows → CanStand (basis_at basis k) (form_lower f k) (form_upper f k) →
    CanStand (basis_at basis k) (form_lower g k) (form_upper g k)) → IsBasisOf f basis → IsBasisOf g basis
fits_other f g basis c r can fits = record {
  all = fits.all ∙ ap₂ ◌+◌ c r;
  stand = λ k l. can k (omega (arith, l, c, r)) (fits.stand k (omega (arith, l, c, r)));
  count = ap (basics_below basis) (sym (ap₂ ◌+◌ c r)) ∙ fits.count ∙ r;
}
