-- What the steps of a run that accepts a certificate show: sums, limits, comparisons, and a feasible point.
--
-- `after_ok`: where two steps succeed together, the first one succeeds, and the second one does with its result.
-- `step_ok`: an operation that succeeds gave its result.
-- `need_ok`: the test of a condition that succeeds holds.
-- `last`: a number below n + 1 is below n or equal to n.
-- `each_ok`: where conditions succeed one after the other, each of them does.
-- `sum_ok`: steps that each add their term give, where they succeed, the start and the sum of the terms.
-- `some_ok_at`: where n steps succeed, each of them succeeds from some number to some number.
-- `plus_ok`: adding a product gives, where it succeeds, s + v w.
-- `less_ok`: subtracting a product gives, where it succeeds, s - v w.
-- `products_ok`: a sum of products gives, where it succeeds, that sum.
-- `added`: an addition gives, where it succeeds, the sum.
-- `lower_ok`: the lower limit of a row that comes out is the exact one.
-- `upper_ok`: where the upper limit of a row is not refused for its size, it is the exact one.
-- `least_from`: where v does not compare as less than k, k is at most v.
-- `most_from`: where v does not compare as greater than k, v is at most k.
-- `less_from`: where v compares as less than k, v is below k.
-- `greater_from`: where v compares as greater than k, k is below v.
-- `compared`: a comparison gives, where it succeeds, the order of its operands.
-- `at_least_ok`: where the condition of a lower limit succeeds, the limit is at most the value, or absent.
-- `at_most_ok`: where the condition of an upper limit succeeds, the value is at most the limit, or it is absent.
-- `stands_from`: where the test that a limit is v passes, it is v.
-- `tight_from`: where `is_tight` is true, the value is at the limit that goes with the multiplier's sign.
-- `activity_ok`: the activity of a row that comes out is the exact one.
-- `feasible_ok`: a point that conditions 1 and 2 accept, with a value for each column, is feasible.
use Rattle.std.proofs.Common.{◌≡◌, ℕ, zero, suc, ◌<◌, List, length, Option, Some, None}
use Rattle.std.proofs.Common.{Ok, Err, IfSome, Bool, true, false, not, cond, Ordering, Less}
use Rattle.std.proofs.Common.{Equal, Greater, refl, sym, ap, ◌∙◌, subst, arith, ⊎_elim}
use Rattle.std.specs.Prelude.{⊤}
use Rattle.std.proofs.lemmas.Bool.{cases_lt}
use Rattle.std.specs.Ordering.{is_lt, is_gt}
use Rattle.spec_exact.specs.Fraction.{ℚ, 0ℚ, ◌+ℚ◌, ◌-ℚ◌, ◌*ℚ◌, ◌≤ℚ◌, ◌<ℚ◌, lt_ℚ, abs_ℚ}
use Rattle.spec_exact.specs.Sums.{sum_below}
use Rattle.spec_exact.specs.Limit.{add, sub, mul, compare, order}
use Rattle.spec_exact.specs.declared.past.Op.{Op}
use Rattle.spec_exact.specs.declared.past.Op.TheVariants.{Add, Sub, Mul, Cmp}
use Rattle.spec_exact.proofs.Field.{+ℚ_zero, +ℚ_assoc}
use Rattle.spec_exact.proofs.Ruleset.{zero-+ℚ}
use Rattle.spec_exact.proofs.Order.{≤ℚ_refl, <ℚ-le, lt_test, not_lt_test}
use Rattle.spec_exact.proofs.Limit.{add_gives, sub_gives, mul_gives}
use Rattle.spec_exact.proofs.Compare.{compare_gives, order_less, order_equal, order_greater}
use Rattle.spec_exact.proofs.Same.{eq_if}
use Rattle.spec_exact.proofs.Results.{ok_same, err_not_ok}
use Rattle.spec_exact.specs.Run.{◌>>=◌, refused_as, steps}
use Rattle.spec_exact.specs.Run as exact
use Rattle.spec_model.specs.Model.{Model, ExactRow, Limits, lower_of, upper_of, limits_of, width}
use Rattle.spec_model.specs.Model.{height, bounds, limits, row, coefficient, activity, part}
use Rattle.spec_model.specs.Model as model
use Rattle.spec_model.specs.Truth.{IsBetween, IsFeasible}
use Rattle.spec_model.proofs.LimitsAtLimit.{limit_ok}
use Rattle.spec_check.specs.declared.certificate.CheckStop.TheVariants as stop
use Rattle.spec_check.specs.Checks.{IsTight}
use Rattle.spec_check.specs.Run.{Run, step, need, each, plus_product, less_product}
use Rattle.spec_check.specs.Run.{sum_run, lower_run, upper_run}
use Rattle.spec_check.specs.Run.{at_least, at_most, stands_at, is_tight}
use Rattle.spec_check.specs.Run.{column_within_run, columns_run, activity_run, row_within_run, rows_run}
use Rattle.spec_check.proofs.StoppedRuns.{plus_is, less_is}

-- ---- what a yes came from
pub after_ok : {A B : Type 0} (o : Run A) (next : A → Run B) (b : B) → (o >>= next) ≡ Ok b →
    (a : A) × (o ≡ Ok a) × (next a ≡ Ok b)
after_ok (Ok a) next b e = (a, refl, e)
after_ok (Err s) next b e = cc

pub step_ok : {A : Type 0} (op : Op) (v w : ℚ) (o : Option A) (x : A) → step op v w o ≡ Ok x → o ≡ Some x
step_ok op v w (Some y) x e = cc
step_ok op v w None x e = cc

pub need_ok : (n : ℕ) (t : Bool) (u : ⊤) → need n t ≡ Ok u → t ≡ true
need_ok n true u e = refl
need_ok n false u e = cc

-- below n + 1 is below n or n itself
pub last : {P : Type 0} (i n : ℕ) → i < suc n → (i < n → P) → (i ≡ n → P) → P
last i n h f g = ⊎_elim f (λ k. g (omega (arith, h, k))) (cases_lt i n)

pub each_ok : (n : ℕ) (f : ℕ → Run ⊤) (u : ⊤) → each n f ≡ Ok u → (i : ℕ) → i < n → f i ≡ Ok tt
each_ok zero f u e i h = absurd (let k : ⊥ = omega (arith, h) in k)
each_ok (suc n) f u e i h =
    let a = after_ok (each n f) (λ _. f n) u e in
    last i n h (λ k. each_ok n f a.0 a.1 i k) (λ k. subst (λ j. f j ≡ Ok tt) (sym k) a.2)

-- each one adds its term
pub sum_ok : (s : ℚ) (n : ℕ) (f : ℕ → ℚ → Run ℚ) (t : ℕ → ℚ) →
    ((k : ℕ) (u v : ℚ) → k < n → f k u ≡ Ok v → v ≡ u +ℚ t k) → (v : ℚ) → steps n f s ≡ Ok v →
    v ≡ s +ℚ sum_below n t
sum_ok s zero f t h v e = sym (ok_same s v e) ∙ sym (+ℚ_zero s)
sum_ok s (suc n) f t h v e =
    let a = after_ok (steps n f s) (λ u. f n u) v e in
    h n a.0 v (omega arith) a.2 ∙ ap (λ u. u +ℚ t n) (sum_ok s n f t (λ k u w p. h k u w (omega (arith, p))) a.0 a.1)
    ∙ +ℚ_assoc s (sum_below n t) (t n)

-- each one was reached
pub some_ok_at : (s : ℚ) (n : ℕ) (f : ℕ → ℚ → Run ℚ) (v : ℚ) → steps n f s ≡ Ok v → (k : ℕ) → k < n →
    (u : ℚ) × (w : ℚ) × (f k u ≡ Ok w)
some_ok_at s zero f v e k h = absurd (let z : ⊥ = omega (arith, h) in z)
some_ok_at s (suc n) f v e k h =
    let a = after_ok (steps n f s) (λ u. f n u) v e in
    last k n h (λ p. some_ok_at s n f a.0 a.1 k p) (λ p. (a.0, v, subst (λ j. f j a.0 ≡ Ok v) (sym p) a.2))

pub plus_ok : (limit : Option ℕ) (v w s u : ℚ) → plus_product limit v w s ≡ Ok u → u ≡ s +ℚ v *ℚ w
plus_ok limit v w s u e =
    let a =
    after_ok (step Mul v w (mul limit v w)) (λ p. step Add s p (add limit s p)) u (sym (plus_is limit v w s) ∙ e) in
    add_gives limit s a.0 u (step_ok Add s a.0 (add limit s a.0) u a.2)
    ∙ ap (λ p. s +ℚ p) (mul_gives limit v w a.0 (step_ok Mul v w (mul limit v w) a.0 a.1))

pub less_ok : (limit : Option ℕ) (v w s u : ℚ) → less_product limit v w s ≡ Ok u → u ≡ s -ℚ v *ℚ w
less_ok limit v w s u e =
    let a =
    after_ok (step Mul v w (mul limit v w)) (λ p. step Sub s p (sub limit s p)) u (sym (less_is limit v w s) ∙ e) in
    sub_gives limit s a.0 u (step_ok Sub s a.0 (sub limit s a.0) u a.2)
    ∙ ap (λ p. s -ℚ p) (mul_gives limit v w a.0 (step_ok Mul v w (mul limit v w) a.0 a.1))

pub products_ok : (limit : Option ℕ) (n : ℕ) (f g : ℕ → ℚ) (v : ℚ) → sum_run limit n f g ≡ Ok v →
    v ≡ sum_below n (λ k. f k *ℚ g k)
products_ok limit n f g v e =
    sum_ok 0ℚ n (λ k s. plus_product limit (f k) (g k) s) (λ k. f k *ℚ g k)
    (λ k u w p h. plus_ok limit (f k) (g k) u w h) v e ∙ zero-+ℚ _

-- ---- a row's limits
pub added : (limit : Option ℕ) (v w x : ℚ) → step Add v w (add limit v w) ≡ Ok x → x ≡ v +ℚ w
added limit v w x e = add_gives limit v w x (step_ok Add v w (add limit v w) x e)

-- a run that gives a result when its refusal is told as another kind of stop gives that result itself
refused_ok : {A : Type 0} (o : exact.Run A) (a : A) → refused_as stop.Past o ≡ Ok a → o ≡ Ok a
refused_ok (Ok b) a h = ap Ok (ok_same b a h)
refused_ok (Err p) a h = err_not_ok (stop.Past p) a h

pub lower_ok : (limit : Option ℕ) (r : ExactRow) (l : Option ℚ) → lower_run limit r ≡ Ok l → l ≡ (limits_of r).lower
lower_ok limit r l e = limit_ok limit (lower_of r) l (refused_ok (model.lower_run limit r) l e)

pub upper_ok : (limit : Option ℕ) (r : ExactRow) (l : Option ℚ) → upper_run limit r ≡ Ok l → l ≡ (limits_of r).upper
upper_ok limit r l e = limit_ok limit (upper_of r) l (refused_ok (model.upper_run limit r) l e)

-- ---- comparisons
pub least_from : (o : Ordering) (v k : ℚ) → o ≡ order v k → not (is_lt o) ≡ true → k ≤ℚ v
least_from Less v k e t = cc
least_from Equal v k e t = subst (λ z. k ≤ℚ z) (sym ((order_equal v k).0 (sym e))) (≤ℚ_refl k)
least_from Greater v k e t = <ℚ-le k v ((order_greater v k).0 (sym e))

pub most_from : (o : Ordering) (v k : ℚ) → o ≡ order v k → not (is_gt o) ≡ true → v ≤ℚ k
most_from Less v k e t = <ℚ-le v k ((order_less v k).0 (sym e))
most_from Equal v k e t = subst (λ z. v ≤ℚ z) ((order_equal v k).0 (sym e)) (≤ℚ_refl v)
most_from Greater v k e t = cc

pub less_from : (o : Ordering) (v k : ℚ) → o ≡ order v k → is_lt o ≡ true → v <ℚ k
less_from Less v k e t = (order_less v k).0 (sym e)
less_from Equal v k e t = cc
less_from Greater v k e t = cc

pub greater_from : (o : Ordering) (v k : ℚ) → o ≡ order v k → is_gt o ≡ true → k <ℚ v
greater_from Less v k e t = cc
greater_from Equal v k e t = cc
greater_from Greater v k e t = (order_greater v k).0 (sym e)

pub compared : (limit : Option ℕ) (v k : ℚ) (o : Ordering) → step Cmp v k (compare limit v k) ≡ Ok o → o ≡ order v k
compared limit v k o e = compare_gives limit v k o (step_ok Cmp v k (compare limit v k) o e)

pub at_least_ok : (n : ℕ) (limit : Option ℕ) (o : Option ℚ) (v : ℚ) (u : ⊤) → at_least n limit o v ≡ Ok u →
    IfSome o (λ k. k ≤ℚ v)
at_least_ok n limit None v u e = tt
at_least_ok n limit (Some k) v u e =
    let a = after_ok (step Cmp v k (compare limit v k)) (λ o. need n (not (is_lt o))) u e in
    least_from a.0 v k (compared limit v k a.0 a.1) (need_ok n (not (is_lt a.0)) u a.2)

pub at_most_ok : (n : ℕ) (limit : Option ℕ) (o : Option ℚ) (v : ℚ) (u : ⊤) → at_most n limit o v ≡ Ok u →
    IfSome o (λ k. v ≤ℚ k)
at_most_ok n limit None v u e = tt
at_most_ok n limit (Some k) v u e =
    let a = after_ok (step Cmp v k (compare limit v k)) (λ o. need n (not (is_gt o))) u e in
    most_from a.0 v k (compared limit v k a.0 a.1) (need_ok n (not (is_gt a.0)) u a.2)

pub stands_from : (o : Option ℚ) (v : ℚ) → stands_at o v ≡ true → o ≡ Some v
stands_from None v e = cc
stands_from (Some k) v e = ap Some (eq_if k v e)

pub tight_from : (l : Limits) (d v : ℚ) → is_tight l d v ≡ true → IsTight l d v
tight_from l d v e = record {
  above = λ p. stands_from l.lower v (sym (rw (lt_test 0ℚ d p) refl) ∙ e);
  below = λ p. stands_from l.upper v (sym (rw (not_lt_test 0ℚ d (<ℚ-le d 0ℚ p), lt_test d 0ℚ p) refl) ∙ e);
}

-- ---- a feasible point

-- where the run accepts column j, the point's value there is within the column's bounds
column_within_ok : (limit : Option ℕ) (m : Model) (x : List ℚ) (j : ℕ) → column_within_run limit m x j ≡ Ok tt →
    IsBetween (bounds m j) (part x j)
column_within_ok limit m x j e =
    let a =
    after_ok (at_least 1 limit (bounds m j).lower (part x j))
    (λ _. at_most 1 limit (bounds m j).upper (part x j)) tt e in
    record {
      lower = at_least_ok 1 limit (bounds m j).lower (part x j) a.0 a.1;
      upper = at_most_ok 1 limit (bounds m j).upper (part x j) tt a.2;
    }

pub activity_ok : (limit : Option ℕ) (m : Model) (z : List ℚ) (i : ℕ) (v : ℚ) → activity_run limit m z i ≡ Ok v →
    v ≡ activity m z i
activity_ok limit m z i v e = products_ok limit (width m) (λ j. coefficient m i j) (λ j. part z j) v e

-- where the run accepts row i, the row's activity is within its limits
row_within_ok : (limit : Option ℕ) (m : Model) (x : List ℚ) (i : ℕ) → row_within_run limit m x i ≡ Ok tt →
    IsBetween (limits m i) (activity m x i)
row_within_ok limit m x i e =
    let a = after_ok (activity_run limit m x i) _ tt e in
    let b = after_ok (lower_run limit (row m i)) _ tt a.2 in
    let c = after_ok (at_least 2 limit b.0 a.0) _ tt b.2 in
    let d = after_ok (upper_run limit (row m i)) (λ u. at_most 2 limit u a.0) tt c.2 in
    subst (λ v. IsBetween (limits m i) v) (activity_ok limit m x i a.0 a.1)
    (record {
      lower =
          subst (λ l. IfSome l (λ k. k ≤ℚ a.0)) (lower_ok limit (row m i) b.0 b.1)
          (at_least_ok 2 limit b.0 a.0 c.0 c.1);
      upper =
          subst (λ u. IfSome u (λ k. a.0 ≤ℚ k)) (upper_ok limit (row m i) d.0 d.1) (at_most_ok 2 limit d.0 a.0 tt d.2);
    })

pub feasible_ok : (limit : Option ℕ) (m : Model) (x : List ℚ) (a b : ⊤) → length x ≡ width m →
    columns_run limit m x ≡ Ok a → rows_run limit m x ≡ Ok b → IsFeasible m x
feasible_ok limit m x a b n e f = record {
  one_each = n;
  columns = λ j p. column_within_ok limit m x j (each_ok (width m) (column_within_run limit m x) a e j p);
  rows = λ i p. row_within_ok limit m x i (each_ok (height m) (row_within_run limit m x) b f i p);
}
