-- The steps of a run without a limit succeed: sums, limits, comparisons, and conditions 1 and 2.
--
-- `then_ok`: where a step succeeds and what follows it succeeds, both together succeed.
-- `comes`: an operation that gives a result succeeds with that result.
-- `need_true`: a condition whose test holds succeeds.
-- `each_all`: conditions that all succeed, succeed one after the other.
-- `from_all`: steps that each add their term give the start and the sum of the terms.
-- `added`: an addition without a limit succeeds with the sum.
-- `taken`: a subtraction without a limit succeeds with the difference.
-- `multiplied`: a multiplication without a limit succeeds with the product.
-- `plus_all`: adding a product without a limit succeeds with s + v w.
-- `less_all`: subtracting a product without a limit succeeds with s - v w.
-- `sum_all`: a sum of products without a limit succeeds with that sum.
-- `lower_all`: the lower limit of a row comes out exact without a limit of numbers.
-- `upper_all`: the upper limit of a row comes out exact without a limit of numbers.
-- `ordered`: a comparison without a limit succeeds with the order.
-- `stands_test`: the test that a limit is v passes where it is v.
-- `tight_test`: where a value is at the limit that goes with a multiplier's sign, `is_tight` is true.
-- `columns_all`: condition 1, on the columns' bounds, succeeds at a feasible point without a limit.
-- `activity_all`: the activity of a row comes out exact without a limit.
-- `rows_all`: condition 2, on the rows' limits, succeeds at a feasible point without a limit.
use Rattle.std.proofs.Common.{◌≡◌, ℕ, zero, suc, ◌<◌, List, Option, Some, None, Ok, IfSome, Bool, true}
use Rattle.std.proofs.Common.{false, not, cond, Ordering, Less, Equal, Greater, refl, sym, ap, ◌∙◌, arith}
use Rattle.std.specs.Prelude.{⊤}
use Rattle.std.specs.Ordering.{is_lt, is_gt}
use Rattle.spec_exact.specs.Fraction.{ℚ, 0ℚ, ◌+ℚ◌, ◌-ℚ◌, ◌*ℚ◌, ◌≤ℚ◌, lt_ℚ, abs_ℚ}
use Rattle.spec_exact.specs.Sums.{sum_below}
use Rattle.spec_exact.specs.Limit.{add, sub, mul, compare, order}
use Rattle.spec_exact.specs.declared.past.Op.{Op}
use Rattle.spec_exact.specs.declared.past.Op.TheVariants.{Add, Sub, Mul, Cmp}
use Rattle.spec_exact.proofs.Field.{+ℚ_zero, +ℚ_assoc}
use Rattle.spec_exact.proofs.Ruleset.{zero-+ℚ}
use Rattle.spec_exact.proofs.Order.{clash_ℚ, lt_if}
use Rattle.spec_exact.proofs.Limit.{add_unlimited, sub_unlimited, mul_unlimited}
use Rattle.spec_exact.proofs.Compare.{compare_unlimited, order_less, order_greater}
use Rattle.spec_exact.proofs.Same.{eq_test}
use Rattle.spec_exact.specs.Run.{◌>>=◌, refused_as, steps}
use Rattle.spec_model.specs.Model.{Model, ExactRow, Limits, lower_of, upper_of, limits_of, width}
use Rattle.spec_model.specs.Model.{height, bounds, limits, row, coefficient, activity, part}
use Rattle.spec_model.specs.Truth.{IsBetween, IsFeasible}
use Rattle.spec_model.proofs.LimitsAtLimit.{limit_all}
use Rattle.spec_check.specs.declared.certificate.CheckStop.TheVariants as stop
use Rattle.spec_check.specs.Checks.{IsTight}
use Rattle.spec_check.specs.Run.{Run, step, need, each, plus_product, less_product}
use Rattle.spec_check.specs.Run.{sum_run, lower_run, upper_run}
use Rattle.spec_check.specs.Run.{at_least, at_most, stands_at, is_tight}
use Rattle.spec_check.specs.Run.{column_within_run, columns_run, activity_run, row_within_run, rows_run}
use Rattle.spec_check.proofs.StoppedRuns.{plus_is, less_is}

pub then_ok : {A B : Type 0} (o : Run A) (a : A) (next : A → Run B) (b : B) → o ≡ Ok a → next a ≡ Ok b →
    (o >>= next) ≡ Ok b
then_ok o a next b e f = ap (λ z. z >>= next) e ∙ f

pub comes : {A : Type 0} (op : Op) (v w : ℚ) (o : Option A) (x : A) → o ≡ Some x → step op v w o ≡ Ok x
comes op v w o x e = ap (λ z. step op v w z) e

pub need_true : (n : ℕ) (t : Bool) → t ≡ true → need n t ≡ Ok tt
need_true n true e = refl
need_true n false e = cc

pub each_all : (n : ℕ) (f : ℕ → Run ⊤) → ((i : ℕ) → i < n → f i ≡ Ok tt) → each n f ≡ Ok tt
each_all zero f h = refl
each_all (suc n) f h =
    then_ok (each n f) tt (λ _. f n) tt (each_all n f (λ i p. h i (omega (arith, p)))) (h n (omega arith))

pub from_all : (s : ℚ) (n : ℕ) (f : ℕ → ℚ → Run ℚ) (t : ℕ → ℚ) → ((k : ℕ) (u : ℚ) → k < n → f k u ≡ Ok (u +ℚ t k)) →
    steps n f s ≡ Ok (s +ℚ sum_below n t)
from_all s zero f t h = ap Ok (sym (+ℚ_zero s))
from_all s (suc n) f t h =
    then_ok (steps n f s) (s +ℚ sum_below n t) (λ u. f n u)
    (s +ℚ sum_below (suc n) t) (from_all s n f t (λ k u p. h k u (omega (arith, p))))
    (h n (s +ℚ sum_below n t) (omega arith) ∙ ap Ok (+ℚ_assoc s (sum_below n t) (t n)))

pub added : (v w : ℚ) → step Add v w (add None v w) ≡ Ok (v +ℚ w)
added v w = comes Add v w (add None v w) (v +ℚ w) (add_unlimited v w)

pub taken : (v w : ℚ) → step Sub v w (sub None v w) ≡ Ok (v -ℚ w)
taken v w = comes Sub v w (sub None v w) (v -ℚ w) (sub_unlimited v w)

pub multiplied : (v w : ℚ) → step Mul v w (mul None v w) ≡ Ok (v *ℚ w)
multiplied v w = comes Mul v w (mul None v w) (v *ℚ w) (mul_unlimited v w)

pub plus_all : (v w s : ℚ) → plus_product None v w s ≡ Ok (s +ℚ v *ℚ w)
plus_all v w s =
    plus_is None v w s
    ∙ then_ok (step Mul v w (mul None v w)) (v *ℚ w) (λ p. step Add s p (add None s p))
    (s +ℚ v *ℚ w) (multiplied v w) (added s (v *ℚ w))

pub less_all : (v w s : ℚ) → less_product None v w s ≡ Ok (s -ℚ v *ℚ w)
less_all v w s =
    less_is None v w s
    ∙ then_ok (step Mul v w (mul None v w)) (v *ℚ w) (λ p. step Sub s p (sub None s p))
    (s -ℚ v *ℚ w) (multiplied v w) (taken s (v *ℚ w))

pub sum_all : (n : ℕ) (f g : ℕ → ℚ) → sum_run None n f g ≡ Ok (sum_below n (λ k. f k *ℚ g k))
sum_all n f g =
    from_all 0ℚ n (λ k s. plus_product None (f k) (g k) s) (λ k. f k *ℚ g k) (λ k u p. plus_all (f k) (g k) u)
    ∙ ap Ok (zero-+ℚ _)

-- ---- a row's limits
pub lower_all : (r : ExactRow) → lower_run None r ≡ Ok (limits_of r).lower
lower_all r = ap (refused_as stop.Past) (limit_all (lower_of r))

pub upper_all : (r : ExactRow) → upper_run None r ≡ Ok (limits_of r).upper
upper_all r = ap (refused_as stop.Past) (limit_all (upper_of r))

-- ---- comparisons
pub ordered : (v k : ℚ) → step Cmp v k (compare None v k) ≡ Ok (order v k)
ordered v k = comes Cmp v k (compare None v k) (order v k) (compare_unlimited v k)

-- where v is at least k, the order of v and k is not less
not_less_test : (o : Ordering) (v k : ℚ) → order v k ≡ o → k ≤ℚ v → not (is_lt o) ≡ true
not_less_test Less v k e h = clash_ℚ v k ((order_less v k).0 e) h
not_less_test Equal v k e h = refl
not_less_test Greater v k e h = refl

-- where v is at most k, the order of v and k is not greater
not_greater_test : (o : Ordering) (v k : ℚ) → order v k ≡ o → v ≤ℚ k → not (is_gt o) ≡ true
not_greater_test Less v k e h = refl
not_greater_test Equal v k e h = refl
not_greater_test Greater v k e h = clash_ℚ k v ((order_greater v k).0 e) h

-- where v is at least the lower limit, or there is none, the run without a limit on numbers goes on
least_all : (n : ℕ) (o : Option ℚ) (v : ℚ) → IfSome o (λ k. k ≤ℚ v) → at_least n None o v ≡ Ok tt
least_all n None v h = refl
least_all n (Some k) v h =
    then_ok (step Cmp v k (compare None v k)) (order v k) (λ o. need n (not (is_lt o))) tt
    (ordered v k) (need_true n _ (not_less_test (order v k) v k refl h))

-- where v is at most the upper limit, or there is none, the run without a limit on numbers goes on
most_all : (n : ℕ) (o : Option ℚ) (v : ℚ) → IfSome o (λ k. v ≤ℚ k) → at_most n None o v ≡ Ok tt
most_all n None v h = refl
most_all n (Some k) v h =
    then_ok (step Cmp v k (compare None v k)) (order v k) (λ o. need n (not (is_gt o))) tt
    (ordered v k) (need_true n _ (not_greater_test (order v k) v k refl h))

pub stands_test : (o : Option ℚ) (v : ℚ) → o ≡ Some v → stands_at o v ≡ true
stands_test o v e = ap (λ z. stands_at z v) e ∙ eq_test v v refl

pub tight_test : (l : Limits) (d v : ℚ) → IsTight l d v → is_tight l d v ≡ true
tight_test l d v t = by (lt_ℚ 0ℚ d) (lt_ℚ d 0ℚ) refl refl
  where
    by : (a b : Bool) → lt_ℚ 0ℚ d ≡ a → lt_ℚ d 0ℚ ≡ b →
        cond a (stands_at l.lower v) (cond b (stands_at l.upper v) true) ≡ true
    by true b p q = stands_test l.lower v (t.above (lt_if 0ℚ d p))
    by false true p q = stands_test l.upper v (t.below (lt_if d 0ℚ q))
    by false false p q = refl

-- ---- a feasible point

-- where a point's value in column j is within the column's bounds, the run accepts the column
column_within_all : (m : Model) (x : List ℚ) (j : ℕ) → IsBetween (bounds m j) (part x j) →
    column_within_run None m x j ≡ Ok tt
column_within_all m x j b =
    then_ok (at_least 1 None (bounds m j).lower (part x j)) tt (λ _. at_most 1 None (bounds m j).upper (part x j)) tt
    (least_all 1 (bounds m j).lower (part x j) b.lower) (most_all 1 (bounds m j).upper (part x j) b.upper)

pub columns_all : (m : Model) (x : List ℚ) → IsFeasible m x → columns_run None m x ≡ Ok tt
columns_all m x f = each_all (width m) (column_within_run None m x) (λ j p. column_within_all m x j (f.columns j p))

pub activity_all : (m : Model) (z : List ℚ) (i : ℕ) → activity_run None m z i ≡ Ok (activity m z i)
activity_all m z i = sum_all (width m) (λ j. coefficient m i j) (λ j. part z j)

-- where row i's activity is within the row's limits, the run without a limit accepts the row
row_within_all : (m : Model) (x : List ℚ) (i : ℕ) → IsBetween (limits m i) (activity m x i) →
    row_within_run None m x i ≡ Ok tt
row_within_all m x i b =
    then_ok (activity_run None m x i) (activity m x i) _ tt (activity_all m x i)
    (then_ok (lower_run None (row m i)) (limits m i).lower _ tt (lower_all (row m i))
    (then_ok (at_least 2 None (limits m i).lower (activity m x i)) tt _ tt
    (least_all 2 (limits m i).lower (activity m x i) b.lower)
    (then_ok (upper_run None (row m i))
    (limits m i).upper (λ u. at_most 2 None u (activity m x i)) tt (upper_all (row m i))
    (most_all 2 (limits m i).upper (activity m x i) b.upper))))

pub rows_all : (m : Model) (x : List ℚ) → IsFeasible m x → rows_run None m x ≡ Ok tt
rows_all m x f = each_all (height m) (row_within_run None m x) (λ i p. row_within_all m x i (f.rows i p))
