-- Structural, logical and artificial columns, and sums over all of them.
--
-- `by_kind`: what follows for a structural, for a logical and for an artificial column holds.
-- `sum_by_kind`: a sum over all columns is the sum over structural, logical and artificial columns.
use Rattle.std.proofs.Common.{◌≡◌, ℕ, zero, suc, ◌+◌, ◌-◌, ◌<◌, refl, sym, ap, ◌∙◌, arith, lt-ltb, le-ltb}
use Rattle.spec_exact.specs.Fraction.{ℚ, ◌+ℚ◌}
use Rattle.spec_exact.specs.Sums.{sum_below}
use Rattle.spec_exact.proofs.Field.{+ℚ_zero, +ℚ_assoc}
use Rattle.spec_simplex.specs.Form.{Form}
use Rattle.spec_simplex.specs.Start.{by_column}
use Rattle.spec_simplex.proofs.ListIndices.{by_lt}

module _ {A : Type 0} (f : Form) (s : A) (l a : ℕ → A) where
  -- of a structural column `by_column` gives the first of its three things
  pub structural_at : (k : ℕ) → k < f.cols → by_column f k s l a ≡ s
  structural_at k h = rw (lt-ltb k f.cols h) refl

  -- of row i's logical column `by_column` gives the second of its three things, for i
  pub logical_at : (i : ℕ) → i < f.rows → by_column f (f.cols + i) s l a ≡ l i
  logical_at i h =
      rw (le-ltb (f.cols + i) f.cols (omega arith), lt-ltb (f.cols + i) (f.cols + f.rows) (omega (arith, h)))
      (let e : f.cols + i - f.cols ≡ i = omega arith in ap l e)

  -- of row i's artificial column `by_column` gives the third of its three things, for i
  pub artificial_at : (i : ℕ) → by_column f (f.cols + f.rows + i) s l a ≡ a i
  artificial_at i =
      rw
      (le-ltb (f.cols + f.rows + i) f.cols (omega arith), le-ltb (f.cols + f.rows + i) (f.cols + f.rows) (omega arith))
      (let e : f.cols + f.rows + i - (f.cols + f.rows) ≡ i = omega arith in ap a e)

-- each column is of one kind
pub by_kind : {P : Type 0} (n m k : ℕ) → (k < n → P) → ((i : ℕ) → i < m → k ≡ n + i → P) →
    ((i : ℕ) → k ≡ n + m + i → P) → P
by_kind n m k f g h =
    by_lt k n f
    (λ a. by_lt k (n + m) (λ b. g (k - n) (omega (arith, a, b)) (omega (arith, a, b)))
    (λ b. h (k - (n + m)) (omega (arith, a, b))))

-- a sum of a + b terms is that of the first a and that of the other b
sum_below_split : (a b : ℕ) (f : ℕ → ℚ) → sum_below (a + b) f ≡ sum_below a f +ℚ sum_below b (λ i. f (a + i))
sum_below_split a zero f = (let e : a + 0 ≡ a = omega arith in ap (λ k. sum_below k f) e) ∙ sym (+ℚ_zero _)
sum_below_split a (suc b) f =
    (let e : a + suc b ≡ suc (a + b) = omega arith in ap (λ k. sum_below k f) e)
    ∙ ap (λ s. s +ℚ f (a + b)) (sum_below_split a b f) ∙ +ℚ_assoc _ _ _

-- a sum over the structural, the logical and the artificial columns
pub sum_by_kind : (n m : ℕ) (f : ℕ → ℚ) →
    sum_below (n + m + m) f ≡ (sum_below n f +ℚ sum_below m (λ i. f (n + i))) +ℚ sum_below m (λ i. f (n + m + i))
sum_by_kind n m f =
    sum_below_split (n + m) m f ∙ ap (λ a. a +ℚ sum_below m (λ i. f (n + m + i))) (sum_below_split n m f)
