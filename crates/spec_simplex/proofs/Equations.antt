-- The equations of a form, column by column.
use Rattle.std.proofs.Common.{◌≡◌, ℕ, ◌+◌, ◌-◌, ◌<◌, ◌≤◌, ap, ◌∙◌, arith}
use Rattle.spec_exact.specs.Fraction.{ℚ, 0ℚ, ◌*ℚ◌, neg_ℚ}
use Rattle.spec_exact.proofs.Field.{*ℚ_zero}
use Rattle.spec_pivot.specs.Tableau.{delta}
use Rattle.spec_pivot.proofs.Pivot.{delta_other}
use Rattle.spec_simplex.specs.Form.{Form, form_entry}
use Rattle.spec_simplex.specs.Begins.{form_rows}
use Rattle.spec_simplex.proofs.ColumnKinds.{structural_at, logical_at, artificial_at}

module _ (f : Form) (signs : ℕ → ℚ) where
  -- in the equations, the entry of structural column k in row i is the negative of the form's
  pub row_structural : (i k : ℕ) → k < f.cols → form_rows f signs i k ≡ neg_ℚ (form_entry f i k)
  row_structural i k =
      structural_at f (neg_ℚ (form_entry f i k)) (λ r. delta i r) (λ r. signs i *ℚ delta i r) k

  -- in the equations, the entry of the logical column of row r in row i is 1 if i is r, and else 0
  pub row_logical : (i r : ℕ) → r < f.rows → form_rows f signs i (f.cols + r) ≡ delta i r
  row_logical i r =
      logical_at f (neg_ℚ (form_entry f i (f.cols + r))) (λ r. delta i r)
      (λ r. signs i *ℚ delta i r) r

  -- in the equations, the entry of the artificial column of row r in row i is the sign of row i if i is r, and else 0
  pub row_artificial : (i r : ℕ) →
      form_rows f signs i (f.cols + f.rows + r) ≡ signs i *ℚ delta i r
  row_artificial i r =
      artificial_at f (neg_ℚ (form_entry f i (f.cols + f.rows + r)))
      (λ r. delta i r) (λ r. signs i *ℚ delta i r) r

  -- in the equations, the entry of a column past the artificial ones is 0
  pub row_past : (i k : ℕ) → i < f.rows → f.cols + f.rows + f.rows ≤ k → form_rows f signs i k ≡ 0ℚ
  row_past i k h l =
      let e : k ≡ f.cols + f.rows + (k - (f.cols + f.rows)) = omega (arith, l) in
      ap (form_rows f signs i) e ∙ row_artificial i (k - (f.cols + f.rows))
      ∙ ap (λ a. signs i *ℚ a)
      (delta_other i (k - (f.cols + f.rows)) (λ z. let y : ⊥ = omega (arith, h, l, z) in y)) ∙ *ℚ_zero _
