-- Where the conditions of a ray hold, the run without a limit says yes.
use Rattle.std.proofs.Common.{◌≡◌, ℕ, List, Option, Some, None, Ok, IfSome, true, not, refl, ap}
use Rattle.spec_exact.specs.Fraction.{ℚ, 0ℚ, ◌≤ℚ◌, ◌<ℚ◌, lt_ℚ}
use Rattle.spec_exact.proofs.Order.{lt_test, not_lt_test}
use Rattle.spec_model.specs.Model.{Model, width, height, bounds, limits, row, cost, activity, part, cost_of}
use Rattle.spec_check.specs.declared.certificate.Known.TheVariants as known
use Rattle.spec_check.specs.Checks.{signed, Allows, ChecksUnbounded}
use Rattle.spec_check.specs.Run.{need, each, lower_run, upper_run, columns_run, activity_run, rows_run, cost_run}
use Rattle.spec_check.specs.Run.{not_below, not_above, column_allows_run, row_allows_run, better_run, unbounded_run}
use Rattle.spec_check.proofs.StepsComplete.{then_ok, need_true, each_all, sum_all, lower_all}
use Rattle.spec_check.proofs.StepsComplete.{upper_all, columns_all, activity_all, rows_all}

-- where a ray is at least 0 if a lower limit is given, the test that it does not fall below succeeds
below_test : (o : Option ℚ) (r : ℚ) → IfSome o (λ _. 0ℚ ≤ℚ r) → not_below o r ≡ true
below_test None r h = refl
below_test (Some k) r h = ap not (not_lt_test r 0ℚ h)

-- where a ray is at most 0 if an upper limit is given, the test that it does not rise above succeeds
above_test : (o : Option ℚ) (r : ℚ) → IfSome o (λ _. r ≤ℚ 0ℚ) → not_above o r ≡ true
above_test None r h = refl
above_test (Some k) r h = ap not (not_lt_test 0ℚ r h)

-- where column j's bounds allow the ray, the run accepts the column
column_allows_all : (m : Model) (r : List ℚ) (j : ℕ) → Allows (bounds m j) (part r j) → column_allows_run m r j ≡ Ok tt
column_allows_all m r j a =
    then_ok (need 3 (not_below (bounds m j).lower (part r j))) tt
    (λ _. need 3 (not_above (bounds m j).upper (part r j))) tt
    (need_true 3 _ (below_test (bounds m j).lower (part r j) a.lower))
    (need_true 3 _ (above_test (bounds m j).upper (part r j) a.upper))

-- where row i's limits allow the ray's activity, the run without a limit accepts the row
row_allows_all : (m : Model) (r : List ℚ) (i : ℕ) → Allows (limits m i) (activity m r i) →
    row_allows_run None m r i ≡ Ok tt
row_allows_all m r i a =
    then_ok (activity_run None m r i) (activity m r i) _ tt (activity_all m r i)
    (then_ok (lower_run None (row m i)) (limits m i).lower _ tt (lower_all (row m i))
    (then_ok (need 4 (not_below (limits m i).lower (activity m r i))) tt _ tt
    (need_true 4 _ (below_test (limits m i).lower (activity m r i) a.lower))
    (then_ok (upper_run None (row m i))
    (limits m i).upper (λ u. need 4 (not_above u (activity m r i))) tt (upper_all (row m i))
    (need_true 4 _ (above_test (limits m i).upper (activity m r i) a.upper)))))

-- where a ray's signed cost is below 0, the run without a limit finds the ray better
better_all : (m : Model) (r : List ℚ) → signed m.sense (cost_of m r) <ℚ 0ℚ → better_run None m r ≡ Ok tt
better_all m r h =
    then_ok (cost_run None m r) (cost_of m r) (λ s. need 5 (lt_ℚ (signed m.sense s) 0ℚ)) tt
    (sum_all (width m) (cost m) (λ j. part r j))
    (need_true 5 _ (lt_test (signed m.sense (cost_of m r)) 0ℚ h))

-- where the conditions of a ray hold, the run without a limit says that the model is unbounded
pub unbounded_all : (m : Model) (x r : List ℚ) → ChecksUnbounded m x r → unbounded_run None m x r ≡ Ok known.Unbounded
unbounded_all m x r h =
    then_ok (columns_run None m x) tt _ known.Unbounded (columns_all m x h.feasible)
    (then_ok (rows_run None m x) tt _ known.Unbounded (rows_all m x h.feasible)
    (then_ok (each (width m) (column_allows_run m r)) tt _ known.Unbounded
    (each_all (width m) (column_allows_run m r) (λ j p. column_allows_all m r j (h.columns j p)))
    (then_ok (each (height m) (row_allows_run None m r)) tt _ known.Unbounded
    (each_all (height m) (row_allows_run None m r) (λ i p. row_allows_all m r i (h.rows i p)))
    (then_ok (better_run None m r) tt (λ _. Ok known.Unbounded) known.Unbounded (better_all m r h.better) refl))))
