-- Where the run says yes to an optimal point, the conditions hold.
use Rattle.std.proofs.Common.{◌≡◌, ℕ, List, length, Option, Some, Ok, Bool}
use Rattle.std.proofs.Common.{true, false, cond, refl, sym, ap, ◌∙◌, subst}
use Rattle.std.specs.Prelude.{⊤}
use Rattle.spec_exact.specs.Fraction.{ℚ, 0ℚ, ◌+ℚ◌, ◌*ℚ◌, neg_ℚ, lt_ℚ}
use Rattle.spec_exact.specs.Limit.{add}
use Rattle.spec_exact.specs.declared.past.Op.TheVariants.{Add}
use Rattle.spec_exact.proofs.Order.{clash_ℚ, <ℚ-le, lt_if, le_if_not}
use Rattle.spec_exact.proofs.Sums.{neg-sum_below}
use Rattle.spec_exact.specs.Run.{◌>>=◌}
use Rattle.spec_exact.proofs.Results.{ok_same}
use Rattle.spec_model.specs.Model.{Model, width, height, bounds, limits, row}
use Rattle.spec_model.specs.Model.{cost, coefficient, activity, part, value_of}
use Rattle.spec_check.specs.declared.certificate.Known.{Known}
use Rattle.spec_check.specs.declared.certificate.Known.TheVariants as known
use Rattle.spec_check.specs.Checks.{signed, reduced, IsTight, ChecksOptimal}
use Rattle.spec_check.specs.Run.{Run, step, need, each, less_product, lower_run, upper_run}
use Rattle.spec_check.specs.Run.{stands_at, is_tight, columns_run, activity_run, rows_run, reduced_run}
use Rattle.spec_check.specs.Run.{column_tight_run, row_tight_run, cost_run, value_run, optimal_run}
use Rattle.spec_check.proofs.StepsSound.{after_ok, need_ok, each_ok, sum_ok, less_ok, products_ok, added}
use Rattle.spec_check.proofs.StepsSound.{lower_ok, upper_ok, stands_from, tight_from, activity_ok, feasible_ok}

-- ---- complementary multipliers

-- where the run of a column's reduced cost gives a number, it is the reduced cost
reduced_ok : (limit : Option ℕ) (m : Model) (y : List ℚ) (j : ℕ) (d : ℚ) → reduced_run limit m y j ≡ Ok d →
    d ≡ reduced m y j
reduced_ok limit m y j d e =
    sum_ok (signed m.sense (cost m j)) (height m)
    (λ i d. less_product limit (part y i) (coefficient m i j) d) (λ i. neg_ℚ (part y i *ℚ coefficient m i j))
    (λ k u w p h. less_ok limit (part y k) (coefficient m k j) u w h) d e
    ∙ ap (λ s. signed m.sense (cost m j) +ℚ s) (sym (neg-sum_below (height m) (λ i. part y i *ℚ coefficient m i j)))

-- where the run accepts column j, the column is at the bound that goes with its reduced cost's sign
column_tight_ok : (limit : Option ℕ) (m : Model) (x y : List ℚ) (j : ℕ) → column_tight_run limit m x y j ≡ Ok tt →
    IsTight (bounds m j) (reduced m y j) (part x j)
column_tight_ok limit m x y j e =
    let a = after_ok (reduced_run limit m y j) (λ d. need 3 (is_tight (bounds m j) d (part x j))) tt e in
    subst (λ d. IsTight (bounds m j) d (part x j)) (reduced_ok limit m y j a.0 a.1)
    (tight_from (bounds m j) a.0 (part x j) (need_ok 3 _ tt a.2))

-- where the test that row i stands at a limit succeeds, the limit is the row's activity
stands_ok : (limit : Option ℕ) (m : Model) (x : List ℚ) (i : ℕ) (run : Run (Option ℚ)) (o : Option ℚ) →
    ((l : Option ℚ) → run ≡ Ok l → l ≡ o)
    → (activity_run limit m x i >>= λ v. run >>= λ l. need 4 (stands_at l v)) ≡ Ok tt → o ≡ Some (activity m x i)
stands_ok limit m x i run o g e =
    let a = after_ok (activity_run limit m x i) _ tt e in
    let b = after_ok run (λ l. need 4 (stands_at l a.0)) tt a.2 in
    sym (g b.0 b.1) ∙ stands_from b.0 a.0 (need_ok 4 _ tt b.2) ∙ ap Some (activity_ok limit m x i a.0 a.1)

-- where the run accepts row i, the row's activity is at the limit that goes with its multiplier's sign
row_tight_ok : (limit : Option ℕ) (m : Model) (x y : List ℚ) (i : ℕ) → row_tight_run limit m x y i ≡ Ok tt →
    IsTight (limits m i) (part y i) (activity m x i)
row_tight_ok limit m x y i e = by (lt_ℚ 0ℚ d) (lt_ℚ d 0ℚ) refl refl e
  where
    d : ℚ
    d = part y i

    low : Run ⊤
    low = activity_run limit m x i >>= λ v. lower_run limit (row m i) >>= λ l. need 4 (stands_at l v)

    high : Run ⊤
    high = activity_run limit m x i >>= λ v. upper_run limit (row m i) >>= λ u. need 4 (stands_at u v)

    by : (a b : Bool) → lt_ℚ 0ℚ d ≡ a → lt_ℚ d 0ℚ ≡ b → cond a low (cond b high (Ok tt)) ≡ Ok tt →
        IsTight (limits m i) d (activity m x i)
    by true b p q h = record {
      above = λ _. stands_ok limit m x i (lower_run limit (row m i)) (limits m i).lower (lower_ok limit (row m i)) h;
      below = λ k. absurd (clash_ℚ 0ℚ d (lt_if 0ℚ d p) (<ℚ-le d 0ℚ k));
    }
    by false true p q h = record {
      above = λ k. absurd (clash_ℚ 0ℚ d k (le_if_not 0ℚ d p));
      below = λ _. stands_ok limit m x i (upper_run limit (row m i)) (limits m i).upper (upper_ok limit (row m i)) h;
    }
    by false false p q h =
        record {
          above = λ k. absurd (clash_ℚ 0ℚ d k (le_if_not 0ℚ d p));
          below = λ k. absurd (clash_ℚ d 0ℚ k (le_if_not d 0ℚ q));
        }

-- ---- the value

-- where the run of a point's value gives a number, it is the point's value
value_ok : (limit : Option ℕ) (m : Model) (x : List ℚ) (v : ℚ) → value_run limit m x ≡ Ok v → v ≡ value_of m x
value_ok limit m x v e =
    let a = after_ok (cost_run limit m x) (λ s. step Add s m.offset (add limit s m.offset)) v e in
    added limit a.0 m.offset v a.2
    ∙ ap (λ z. z +ℚ m.offset) (products_ok limit (width m) (cost m) (λ j. part x j) a.0 a.1)

-- where the run accepts an optimal point, its conditions hold and the value that is said is the point's
pub optimal_ok : (limit : Option ℕ) (m : Model) (x y : List ℚ) (said : Known ℚ) → length x ≡ width m →
    optimal_run limit m x y ≡ Ok said → ChecksOptimal m x y × (said ≡ known.Optimal (value_of m x))
optimal_ok limit m x y said n e =
    let a = after_ok (columns_run limit m x) _ said e in
    let b = after_ok (rows_run limit m x) _ said a.2 in
    let c = after_ok (each (width m) (column_tight_run limit m x y)) _ said b.2 in
    let d = after_ok (each (height m) (row_tight_run limit m x y)) _ said c.2 in
    let v = after_ok (value_run limit m x) (λ v. Ok (known.Optimal v)) said d.2 in (
      record {
        feasible = feasible_ok limit m x a.0 b.0 n a.1 b.1;
        columns = λ j p. column_tight_ok limit m x y j (each_ok (width m) (column_tight_run limit m x y) c.0 c.1 j p);
        rows = λ i p. row_tight_ok limit m x y i (each_ok (height m) (row_tight_run limit m x y) d.0 d.1 i p);
      },
      sym (ok_same (known.Optimal v.0) said v.2) ∙ ap known.Optimal (value_ok limit m x v.0 v.1),
    )
