-- The tableau of a basis, and those made of it, with the form's counts of rows and columns or with their own.
--
-- `own_counts`: a tableau that is based on m rows and n columns is based on its own counts of them.
-- `given_counts`: where one tableau is based on m rows and n columns, another one based on its counts is based on m and
--   n.
use Rattle.std.proofs.Common.{◌≡◌, ℕ, ◌<◌, true, false, sym, ◌∙◌, subst₂}
use Rattle.spec_exact.specs.Fraction.{ℚ, 0ℚ}
use Rattle.spec_pivot.specs.Tableau.{Matrix}
use Rattle.spec_pivot.specs.Simplex.{Bounds, IsFixed}
use Rattle.spec_pivot.proofs.Values.{by_basic}
use Rattle.spec_simplex.specs.Tableau.{Tableau, form_columns, all_columns, status_at, lower_at, upper_at, is_fixed}
use Rattle.spec_simplex.proofs.Enters.{fixed_means, fixed_test}
use Rattle.spec_simplex.proofs.ListIndices.{by_lt}
use Rattle.spec_runs.specs.Based.{IsBased}

-- with the counts of the tableau itself
pub own_counts : (m n : ℕ) (f : Matrix) (cost : ℕ → ℚ) (b : Bounds) (t : Tableau) → IsBased m n f cost b t →
    IsBased t.rows t.cols f cost b t
own_counts m n f cost b t s = subst₂ (λ m n. IsBased m n f cost b t) (sym s.tableau.rows) (sym s.tableau.cols) s

pub given_counts : (m n : ℕ) (f : Matrix) (cost : ℕ → ℚ) (b : Bounds) (t u : Tableau) → IsBased m n f cost b t →
    IsBased t.rows t.cols f cost b u → IsBased m n f cost b u
given_counts m n f cost b t u s = subst₂ (λ m n. IsBased m n f cost b u) s.tableau.rows s.tableau.cols

module _ (f : Matrix) (cost : ℕ → ℚ) (b : Bounds) (t : Tableau) (s : IsBased t.rows t.cols f cost b t) where
  pub lower_same : (k : ℕ) → k < all_columns t → lower_at t k ≡ b.lower k
  lower_same k h = s.tableau.bounds.lower k h

  pub upper_same : (k : ℕ) → k < all_columns t → upper_at t k ≡ b.upper k
  upper_same k h =
      by_lt k (form_columns t)
      (λ l. s.tableau.bounds.upper k l)
      (λ l. by_basic (status_at t k)
      (λ e. s.tableau.bounds.basic k h e)
      (λ e. s.tableau.bounds.fixed k l h e ∙ sym (s.top k l h)))

  -- a column whose two bounds in the tableau are equal is one that the bounds fix
  pub fixed_is : (k : ℕ) → k < all_columns t → is_fixed (lower_at t k) (upper_at t k) ≡ true → IsFixed b k
  fixed_is k h e =
      let v = fixed_means (lower_at t k) (upper_at t k) e in
      (v.0, sym (lower_same k h) ∙ v.1, sym (upper_same k h) ∙ v.2)

  -- a column that the bounds fix has two equal bounds in the tableau
  pub fixed_found : (k : ℕ) → k < all_columns t → IsFixed b k → is_fixed (lower_at t k) (upper_at t k) ≡ true
  fixed_found k h v = fixed_test (lower_at t k) (upper_at t k) v.0 (lower_same k h ∙ v.1) (upper_same k h ∙ v.2)

  -- a column whose two bounds in the tableau do not test as equal is none that the bounds fix
  pub not_fixed_is : (k : ℕ) → k < all_columns t → is_fixed (lower_at t k) (upper_at t k) ≡ false → ¬ (IsFixed b k)
  not_fixed_is k h e v = let z : false ≡ true = sym e ∙ fixed_found k h v in cc

  -- a column that the bounds do not fix is structural or logical, since artificial columns are fixed
  pub free_before : (k : ℕ) → k < all_columns t → ¬ (IsFixed b k) → k < form_columns t
  free_before k h free = by_lt k (form_columns t) (λ l. l) (λ l. absurd (free
      (0ℚ, s.tableau.bounds.zero k l h, s.top k l h)))

  -- a column that the bounds do not fix is not barred
  pub free_open : (k : ℕ) → k < all_columns t → ¬ (IsFixed b k) → b.barred k ≡ false
  free_open k h free = s.tableau.bounds.entering k (free_before k h free)
