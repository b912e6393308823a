-- Where the conditions of an optimal point hold, the run without a limit says yes.
use Rattle.std.proofs.Common.{◌≡◌, ℕ, List, Option, Some, None, Ok, Bool, true, false, cond, refl, sym, ap, ◌∙◌}
use Rattle.std.specs.Prelude.{⊤}
use Rattle.spec_exact.specs.Fraction.{ℚ, 0ℚ, ◌+ℚ◌, ◌*ℚ◌, neg_ℚ, lt_ℚ}
use Rattle.spec_exact.specs.Limit.{add}
use Rattle.spec_exact.specs.declared.past.Op.TheVariants.{Add}
use Rattle.spec_exact.proofs.Order.{lt_if}
use Rattle.spec_exact.proofs.Sums.{neg-sum_below}
use Rattle.spec_exact.specs.Run.{◌>>=◌}
use Rattle.spec_model.specs.Model.{Model, width, height, bounds, limits, row, cost}
use Rattle.spec_model.specs.Model.{coefficient, activity, part, cost_of, value_of}
use Rattle.spec_check.specs.declared.certificate.Known.TheVariants as known
use Rattle.spec_check.specs.Checks.{signed, reduced, IsTight, ChecksOptimal}
use Rattle.spec_check.specs.Run.{Run, step, need, each, less_product, lower_run, upper_run}
use Rattle.spec_check.specs.Run.{stands_at, is_tight, columns_run, activity_run, rows_run, reduced_run}
use Rattle.spec_check.specs.Run.{column_tight_run, row_tight_run, cost_run, value_run, optimal_run}
use Rattle.spec_check.proofs.StepsComplete.{then_ok, need_true, each_all, from_all, added, less_all, sum_all, lower_all}
use Rattle.spec_check.proofs.StepsComplete.{upper_all, stands_test, tight_test, columns_all, activity_all, rows_all}

-- ---- complementary multipliers

-- without a limit the run of a column's reduced cost gives the reduced cost
reduced_all : (m : Model) (y : List ℚ) (j : ℕ) → reduced_run None m y j ≡ Ok (reduced m y j)
reduced_all m y j =
    from_all (signed m.sense (cost m j)) (height m)
    (λ i d. less_product None (part y i) (coefficient m i j) d) (λ i. neg_ℚ (part y i *ℚ coefficient m i j))
    (λ i u p. less_all (part y i) (coefficient m i j) u)
    ∙ ap (λ s. Ok (signed m.sense (cost m j) +ℚ s))
    (sym (neg-sum_below (height m) (λ i. part y i *ℚ coefficient m i j)))

-- where column j is at the bound that goes with its reduced cost's sign, the run accepts the column
column_tight_all : (m : Model) (x y : List ℚ) (j : ℕ) → IsTight (bounds m j) (reduced m y j) (part x j) →
    column_tight_run None m x y j ≡ Ok tt
column_tight_all m x y j t =
    then_ok (reduced_run None m y j) (reduced m y j)
    (λ d. need 3 (is_tight (bounds m j) d (part x j))) tt (reduced_all m y j)
    (need_true 3 _ (tight_test (bounds m j) (reduced m y j) (part x j) t))

-- where a run gives the activity of row i as a limit, the test that the row stands there succeeds
stands_all : (m : Model) (x : List ℚ) (i : ℕ) (run : Run (Option ℚ)) (o : Option ℚ) →
    run ≡ Ok o → o ≡ Some (activity m x i)
    → (activity_run None m x i >>= λ v. run >>= λ l. need 4 (stands_at l v)) ≡ Ok tt
stands_all m x i run o e s =
    then_ok (activity_run None m x i) (activity m x i) _ tt (activity_all m x i)
    (then_ok run o (λ l. need 4 (stands_at l (activity m x i))) tt e (need_true 4 _ (stands_test o (activity m x i) s)))

-- where the activity of row i is at the limit that goes with its multiplier's sign, the run accepts the row
row_tight_all : (m : Model) (x y : List ℚ) (i : ℕ) → IsTight (limits m i) (part y i) (activity m x i) →
    row_tight_run None m x y i ≡ Ok tt
row_tight_all m x y i t = by (lt_ℚ 0ℚ d) (lt_ℚ d 0ℚ) refl refl
  where
    d : ℚ
    d = part y i

    low : Run ⊤
    low = activity_run None m x i >>= λ v. lower_run None (row m i) >>= λ l. need 4 (stands_at l v)

    high : Run ⊤
    high = activity_run None m x i >>= λ v. upper_run None (row m i) >>= λ u. need 4 (stands_at u v)

    by : (a b : Bool) → lt_ℚ 0ℚ d ≡ a → lt_ℚ d 0ℚ ≡ b → cond a low (cond b high (Ok tt)) ≡ Ok tt
    by true b p q =
        stands_all m x i (lower_run None (row m i)) (limits m i).lower (lower_all (row m i)) (t.above (lt_if 0ℚ d p))
    by false true p q =
        stands_all m x i (upper_run None (row m i)) (limits m i).upper (upper_all (row m i)) (t.below (lt_if d 0ℚ q))
    by false false p q = refl

-- ---- the value

-- without a limit the run of a point's value gives the value
value_all : (m : Model) (x : List ℚ) → value_run None m x ≡ Ok (value_of m x)
value_all m x =
    then_ok (cost_run None m x) (cost_of m x) (λ s. step Add s m.offset (add None s m.offset))
    (value_of m x) (sum_all (width m) (cost m) (λ j. part x j))
    (added (cost_of m x) m.offset)

-- where the conditions of an optimal point hold, the run without a limit says that its value is optimal
pub optimal_all : (m : Model) (x y : List ℚ) → ChecksOptimal m x y →
    optimal_run None m x y ≡ Ok (known.Optimal (value_of m x))
optimal_all m x y h =
    let v = known.Optimal (value_of m x) in
    then_ok (columns_run None m x) tt _ v (columns_all m x h.feasible)
    (then_ok (rows_run None m x) tt _ v (rows_all m x h.feasible)
    (then_ok (each (width m) (column_tight_run None m x y)) tt _ v
    (each_all (width m) (column_tight_run None m x y) (λ j p. column_tight_all m x y j (h.columns j p)))
    (then_ok (each (height m) (row_tight_run None m x y)) tt _ v
    (each_all (height m) (row_tight_run None m x y) (λ i p. row_tight_all m x y i (h.rows i p)))
    (then_ok (value_run None m x) (value_of m x) (λ v. Ok (known.Optimal v)) v (value_all m x) refl))))
