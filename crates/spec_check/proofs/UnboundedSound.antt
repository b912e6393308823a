-- Where the run says yes to a ray, the conditions hold.
use Rattle.std.proofs.Common.{◌≡◌, ℕ, List, length, Option, Some, None, Ok}
use Rattle.std.proofs.Common.{IfSome, true, sym, subst}
use Rattle.std.specs.Prelude.{⊤}
use Rattle.std.proofs.lemmas.Bool.{not-true}
use Rattle.spec_exact.specs.Fraction.{ℚ, 0ℚ, ◌≤ℚ◌, ◌<ℚ◌, lt_ℚ}
use Rattle.spec_exact.proofs.Order.{lt_if, le_if_not}
use Rattle.spec_exact.proofs.Results.{ok_same}
use Rattle.spec_model.specs.Model.{Model, width, height, bounds, limits, row, cost, activity, part, cost_of}
use Rattle.spec_check.specs.declared.certificate.Known.{Known}
use Rattle.spec_check.specs.declared.certificate.Known.TheVariants as known
use Rattle.spec_check.specs.Checks.{signed, Allows, ChecksUnbounded}
use Rattle.spec_check.specs.Run.{need, each, lower_run, upper_run, columns_run, activity_run, rows_run, cost_run}
use Rattle.spec_check.specs.Run.{not_below, not_above, column_allows_run, row_allows_run, better_run, unbounded_run}
use Rattle.spec_check.proofs.StepsSound.{after_ok, need_ok, each_ok, products_ok}
use Rattle.spec_check.proofs.StepsSound.{lower_ok, upper_ok, activity_ok, feasible_ok}

-- where the test that a ray does not fall below succeeds, it is at least 0 if a lower limit is given
below_from : (o : Option ℚ) (r : ℚ) → not_below o r ≡ true → IfSome o (λ _. 0ℚ ≤ℚ r)
below_from None r e = tt
below_from (Some k) r e = le_if_not r 0ℚ (not-true _ e)

-- where the test that a ray does not rise above succeeds, it is at most 0 if an upper limit is given
above_from : (o : Option ℚ) (r : ℚ) → not_above o r ≡ true → IfSome o (λ _. r ≤ℚ 0ℚ)
above_from None r e = tt
above_from (Some k) r e = le_if_not 0ℚ r (not-true _ e)

-- where the run accepts column j, the column's bounds allow the ray
column_allows_ok : (m : Model) (r : List ℚ) (j : ℕ) → column_allows_run m r j ≡ Ok tt → Allows (bounds m j) (part r j)
column_allows_ok m r j e =
    let a =
    after_ok (need 3 (not_below (bounds m j).lower (part r j)))
    (λ _. need 3 (not_above (bounds m j).upper (part r j))) tt e in
    record {
      lower = below_from (bounds m j).lower (part r j) (need_ok 3 _ a.0 a.1);
      upper = above_from (bounds m j).upper (part r j) (need_ok 3 _ tt a.2);
    }

-- where the run accepts row i, the row's limits allow the ray's activity
row_allows_ok : (limit : Option ℕ) (m : Model) (r : List ℚ) (i : ℕ) → row_allows_run limit m r i ≡ Ok tt →
    Allows (limits m i) (activity m r i)
row_allows_ok limit m r i e =
    let a = after_ok (activity_run limit m r i) _ tt e in
    let b = after_ok (lower_run limit (row m i)) _ tt a.2 in
    let c = after_ok (need 4 (not_below b.0 a.0)) _ tt b.2 in
    let d = after_ok (upper_run limit (row m i)) (λ u. need 4 (not_above u a.0)) tt c.2 in
    subst (Allows (limits m i)) (activity_ok limit m r i a.0 a.1)
    (record {
      lower =
          subst (λ l. IfSome l (λ _. 0ℚ ≤ℚ a.0)) (lower_ok limit (row m i) b.0 b.1)
          (below_from b.0 a.0 (need_ok 4 _ c.0 c.1));
      upper =
          subst (λ u. IfSome u (λ _. a.0 ≤ℚ 0ℚ)) (upper_ok limit (row m i) d.0 d.1)
          (above_from d.0 a.0 (need_ok 4 _ tt d.2));
    })

-- where the run finds a ray better, the ray's signed cost is below 0
better_ok : (limit : Option ℕ) (m : Model) (r : List ℚ) (t : ⊤) → better_run limit m r ≡ Ok t →
    signed m.sense (cost_of m r) <ℚ 0ℚ
better_ok limit m r t e =
    let a = after_ok (cost_run limit m r) (λ s. need 5 (lt_ℚ (signed m.sense s) 0ℚ)) t e in
    subst (λ z. signed m.sense z <ℚ 0ℚ) (products_ok limit (width m) (cost m) (λ j. part r j) a.0 a.1)
    (lt_if (signed m.sense a.0) 0ℚ (need_ok 5 _ t a.2))

-- where the run accepts a ray, its conditions hold and the run says that the model is unbounded
pub unbounded_ok : (limit : Option ℕ) (m : Model) (x r : List ℚ) (said : Known ℚ) → length x ≡ width m →
    unbounded_run limit m x r ≡ Ok said → ChecksUnbounded m x r × (said ≡ known.Unbounded)
unbounded_ok limit m x r said n e =
    let a = after_ok (columns_run limit m x) _ said e in
    let b = after_ok (rows_run limit m x) _ said a.2 in
    let c = after_ok (each (width m) (column_allows_run m r)) _ said b.2 in
    let d = after_ok (each (height m) (row_allows_run limit m r)) _ said c.2 in
    let v = after_ok (better_run limit m r) (λ _. Ok known.Unbounded) said d.2 in (
      record {
        feasible = feasible_ok limit m x a.0 b.0 n a.1 b.1;
        columns = λ j p. column_allows_ok m r j (each_ok (width m) (column_allows_run m r) c.0 c.1 j p);
        rows = λ i p. row_allows_ok limit m r i (each_ok (height m) (row_allows_run limit m r) d.0 d.1 i p);
        better = better_ok limit m r v.0 v.1;
      },
      sym (ok_same known.Unbounded said v.2),
    )
