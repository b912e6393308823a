-- Reduced costs are costs less a combination of the rows, and 0 in the basic columns.
use Rattle.std.proofs.Common.{◌≡◌, ℕ, ◌<◌, ◌≤◌, List, length, get_or, Option, Ok, sym, ap, ap₂, ◌∙◌, arith}
use Rattle.std.proofs.lemmas.List.{get_or_past}
use Rattle.spec_exact.specs.Fraction.{ℚ, 0ℚ, ◌+ℚ◌, ◌-ℚ◌, ◌*ℚ◌}
use Rattle.spec_exact.specs.Sums.{sum_below}
use Rattle.spec_exact.proofs.Field.{*ℚ_comm, *ℚ_zero, +ℚ_neg}
use Rattle.spec_exact.proofs.Ruleset.{ring}
use Rattle.spec_exact.proofs.Sums.{sum_below_same, sum_below_none, exchange}
use Rattle.spec_pivot.specs.Tableau.{Matrix, Spans, IsUnit}
use Rattle.spec_pivot.specs.Simplex.{AgreesWith}
use Rattle.spec_pivot.proofs.Unique.{weight}
use Rattle.spec_exact.specs.Run.{less_product}
use Rattle.spec_simplex.specs.Start.{cost_at, reduced_run, priced_run}
use Rattle.spec_simplex.specs.Tableau.{Tableau, all_columns, basic_at, entry_at}
use Rattle.spec_simplex.proofs.RunParts.{less_ok, steps_ok, IsListOf, list_ok}
use Rattle.spec_simplex.proofs.ListIndices.{by_lt}

module _ (limit : Option ℕ) (t : Tableau) (costs reduced : List ℚ) (ok : priced_run limit t costs ≡ Ok reduced) where
  -- the run gives the reduced cost of each column, in order
  list : IsListOf (all_columns t) (reduced_run limit t costs) 0ℚ reduced
  unfolding priced_run
  list = list_ok (all_columns t) (reduced_run limit t costs) 0ℚ reduced ok

  -- there are as many reduced costs as t has columns
  pub priced_length : length reduced ≡ all_columns t
  priced_length = list.all

  -- the reduced cost of a column is its cost less the sum, over the rows, of the basic column's cost times the row's
  -- entry
  less_rows : (k : ℕ) → k < all_columns t →
      get_or reduced k 0ℚ ≡ cost_at costs k -ℚ sum_below t.rows (λ i. cost_at costs (basic_at t i) *ℚ entry_at t i k)
  less_rows k h =
      steps_ok (λ i d. d ≡ cost_at costs k -ℚ sum_below i (λ i. cost_at costs (basic_at t i) *ℚ entry_at t i k)) t.rows
      (λ i d. less_product limit (cost_at costs (basic_at t i)) (entry_at t i k) d)
      (cost_at costs k) (get_or reduced k 0ℚ) (list.each k h)
      (sym (whole (cost_at costs k)))
      (λ i d e l was is. less_ok limit (cost_at costs (basic_at t i)) (entry_at t i k) d e is
      ∙ ap (λ d. d -ℚ cost_at costs (basic_at t i) *ℚ entry_at t i k) was
      ∙ more (cost_at costs k) (sum_below i (λ i. cost_at costs (basic_at t i) *ℚ entry_at t i k))
      (cost_at costs (basic_at t i) *ℚ entry_at t i k))
    where
      whole : (a : ℚ) → a -ℚ 0ℚ ≡ a
      whole a = simp ring

      more : (c s p : ℚ) → (c -ℚ s) -ℚ p ≡ c -ℚ (s +ℚ p)
      more c s p = simp ring

  module _ (few : length costs ≤ all_columns t)
      (past : (i k : ℕ) → i < t.rows → all_columns t ≤ k → entry_at t i k ≡ 0ℚ) where
    -- the reduced costs that the run gives are the costs less the sum, over the rows, of the basic column's cost times
    -- the row's entry
    less_all : (k : ℕ) →
        get_or reduced k 0ℚ ≡ cost_at costs k -ℚ sum_below t.rows (λ i. cost_at costs (basic_at t i) *ℚ entry_at t i k)
    less_all k =
        by_lt k (all_columns t) (less_rows k)
        (λ h. get_or_past reduced k 0ℚ (omega (arith, priced_length, h))
        ∙ sym (ap₂ (λ c s. c -ℚ s) (get_or_past costs k 0ℚ (omega (arith, few, h)))
        (sum_below_none t.rows _ (λ i l. ap (λ a. cost_at costs (basic_at t i) *ℚ a) (past i k l h) ∙ *ℚ_zero _))
        ∙ +ℚ_neg 0ℚ))

    -- the reduced costs that the run gives are the costs less a combination of the rows, and 0 in the basic columns
    pub priced_agrees : (f : Matrix) → Spans t.rows (entry_at t) f →
        IsUnit t.rows (entry_at t) (basic_at t) → ((i : ℕ) → i < t.rows → basic_at t i < all_columns t)
        → AgreesWith t.rows f (basic_at t) (cost_at costs) (λ k. get_or reduced k 0ℚ)
    priced_agrees f sp units in_range = record {
      weights = λ r. sum_below t.rows (λ i. cost_at costs (basic_at t i) *ℚ sp.0 i r);
      less = λ k. less_all k ∙ ap (λ s. cost_at costs k -ℚ s)
          (sum_below_same t.rows _ _ (λ i l. ap (λ a. cost_at costs (basic_at t i) *ℚ a) (sp.1 i k l))
          ∙ exchange t.rows t.rows (λ i. cost_at costs (basic_at t i)) (λ r. f r k) sp.0
          ∙ sum_below_same t.rows _ _ (λ r _. *ℚ_comm (f r k) _));
      at_basic =
          λ i h. less_all (basic_at t i) ∙ ap (λ s. cost_at costs (basic_at t i) -ℚ s)
          (weight t.rows (entry_at t) (basic_at t) units (λ i. cost_at costs (basic_at t i)) i h) ∙ +ℚ_neg _;
    }
