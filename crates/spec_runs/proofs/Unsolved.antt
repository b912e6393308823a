-- Elimination begins with the form's equations, in which each artificial has the sign of its logical.
use Rattle.std.proofs.Common.{◌≡◌, ℕ, ◌+◌, ◌<◌, [], length, get_or, sym, ap, ◌∙◌, subst}
use Rattle.spec_exact.specs.Fraction.{ℚ, 0ℚ, 1ℚ, neg_ℚ}
use Rattle.spec_exact.proofs.Ruleset.{one-*ℚ}
use Rattle.spec_pivot.specs.Tableau.{Spans, delta}
use Rattle.spec_pivot.proofs.Pivot.{sum_below-delta}
use Rattle.spec_simplex.specs.declared.ends.RowStart.TheVariants.{Within}
use Rattle.spec_simplex.specs.Form.{Form, form_entry}
use Rattle.spec_simplex.specs.Start.{one_at, start_entry}
use Rattle.spec_simplex.specs.Tableau.{at_place}
use Rattle.spec_exact.proofs.RunsInOrder.{length-made}
use Rattle.spec_simplex.proofs.RunParts.{get_or-made}
use Rattle.spec_simplex.proofs.ListIndices.{by_lt, past_row}
use Rattle.spec_simplex.proofs.ColumnKinds.{structural_at, logical_at, artificial_at, by_kind}
use Rattle.spec_simplex.proofs.Equations.{row_structural, row_logical, row_artificial, row_past}
use Rattle.spec_runs.specs.Based.{equations}
use Rattle.spec_simplex.specs.Eliminate.{equation, unsolved}

module _ (f : Form) where
  abbrev one : ℕ → ℕ → ℚ
  one i r = one_at i r 1ℚ

  -- the entry of a row that starts within its limits is the equation's
  equation_is : (i k : ℕ) → start_entry f (Within 0ℚ) i k ≡ equations f i k
  equation_is i k =
      by_kind f.cols f.rows k
      (λ h. structural_at f (neg_ℚ (form_entry f i k)) (one i) (one i) k h ∙ sym (row_structural f (λ _. 1ℚ) i k h))
      (λ r h e. subst (λ k. start_entry f (Within 0ℚ) i k ≡ equations f i k) (sym e)
      (logical_at f (neg_ℚ (form_entry f i (f.cols + r))) (one i) (one i) r h ∙ sym (row_logical f (λ _. 1ℚ) i r h)))
      (λ r e. subst (λ k. start_entry f (Within 0ℚ) i k ≡ equations f i k) (sym e)
      (artificial_at f (neg_ℚ (form_entry f i (f.cols + f.rows + r))) (one i) (one i) r
      ∙ sym (row_artificial f (λ _. 1ℚ) i r ∙ one-*ℚ (delta i r))))

  -- each row of the unsolved equations has an entry of each structural, logical and artificial column
  pub unsolved_length : (i : ℕ) → i < f.rows → length (get_or (unsolved f).rows i []) ≡ f.cols + f.rows + f.rows
  unsolved_length i h =
      ap length (get_or-made f.rows (equation f) [] i h)
      ∙ length-made (f.cols + f.rows + f.rows) (start_entry f (Within 0ℚ) i)

  -- each entry of the unsolved equations is the equation's
  unsolved_entry : (i k : ℕ) → i < f.rows → at_place (unsolved f).rows i k ≡ equations f i k
  unsolved_entry i k h =
      by_lt k (f.cols + f.rows + f.rows)
      (λ l. ap (λ row. get_or row k 0ℚ) (get_or-made f.rows (equation f) [] i h)
      ∙ get_or-made (f.cols + f.rows + f.rows) (start_entry f (Within 0ℚ) i) 0ℚ k l ∙ equation_is i k)
      (λ l. past_row (unsolved f).rows i k (f.cols + f.rows + f.rows) (unsolved_length i h) l
      ∙ sym (row_past f (λ _. 1ℚ) i k h l))

  pub unsolved_forth : Spans f.rows (at_place (unsolved f).rows) (equations f)
  unsolved_forth = (delta, λ i k h. unsolved_entry i k h ∙ sym (sum_below-delta f.rows i (λ r. equations f r k) h))

  pub unsolved_back : Spans f.rows (equations f) (at_place (unsolved f).rows)
  unsolved_back = (
    delta,
    λ i k h. sym (unsolved_entry i k h) ∙ sym (sum_below-delta f.rows i (λ r. at_place (unsolved f).rows r k) h),
  )
