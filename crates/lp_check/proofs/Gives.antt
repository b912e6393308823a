-- The checker's conditions at numbers of any width: what each test of the code says of a run without a limit.
--
-- `taken_is`: the run without a limit that takes a row's limit ends with that limit.
-- `least_is`: `at_least` fails where comparing the number with the limit gives less, and passes where it gives equal or
--   greater.
-- `most_is`: `at_most` fails where comparing the number with the limit gives greater, and passes where it gives equal
--   or less.
-- `stands_is`: a number stands at a limit exactly where the comparison of the two says equal.
-- `plus_gives`: adding the product of v and w to s ends with s + v w.
-- `value_is`: adding f to the end of a run that ends with s ends with s + f.
-- `passes`: a condition whose test is true passes.
-- `fails`: condition n whose test is false ends with the refusal n.
-- `no_first`: where a column of the point is outside its bounds, the check of an optimum ends with refusal 1.
-- `no_second`: where the columns are within, but a row is outside its limits, the check of an optimum ends with refusal
--   2.
-- `no_third`: where the point is feasible, but a reduced cost does not suit its column, the check of an optimum ends
--   with refusal 3.
-- `no_fourth`: where conditions 1 to 3 hold, but a multiplier does not suit its row, the check of an optimum ends with
--   refusal 4.
-- `all_pass`: where all four conditions hold, the check of an optimum ends with the point's value.
-- `missing`: where the answer is none, the run ends with refusal n.
-- `there`: where the answer is a number, the run ends with it.
-- `no_rows`: where a row lacks the limit that its multiplier needs, the check of Farkas multipliers ends with refusal
--   1.
-- `no_columns`: where the rows have their limits, but a column lacks the bound that it needs, the check of Farkas
--   multipliers ends with refusal 2.
-- `compared`: where both sums are given, the check of Farkas multipliers is the test that the columns give less than
--   the rows ask for.
-- `clashed`: the check of a clash at column j is the test that its bounds cross.
-- `crossed_bounds`: a test that the bounds of the code's column j cross tests those that the definition reads at j.
-- `crossed_is`: bounds that are both present cross exactly where the comparison says that the lower one is greater.
-- `by_test`: a test in the check of infeasibility may be replaced by an equal one.
-- `better_above`: testing that v is above 0 is testing that its negative is below 0.
-- `ray_first`: where a column of the point is outside its bounds, the check of a ray ends with refusal 1.
-- `ray_second`: where the columns are within, but a row is outside its limits, the check of a ray ends with refusal 2.
-- `ray_third`: where the point is feasible, but a column does not allow the ray, the check of the ray ends with refusal
--   3.
-- `ray_fourth`: where conditions 1 to 3 hold, but a row does not allow the ray, the check of the ray ends with refusal
--   4.
-- `ray_fifth`: where conditions 1 to 4 hold, but the objective does not improve along the ray, its check ends with
--   refusal 5.
-- `ray_all`: where all five conditions hold, the check of a ray ends with the verdict unbounded.
-- `within_are`: testing given sums of the rows is testing the activities at the point.
-- `tight_are`: testing given sums of the rows against the multipliers is testing the activities against them.
-- `columns_are`: testing given reduced costs is testing those of the multipliers.
-- `allows_are`: testing given sums of the rows over a ray is testing the activities of the ray.
-- `better_is`: the condition that the objective improves is the test of the ray's cost, signed for the sense.
-- `worth_is`: the value of a point is its cost and the offset together.
use Rattle.std.proofs.Common.{◌≡◌, ℕ, zero, suc, ◌<◌, List, Option, Some, None, Result, Ok, Err, IfOk, Bool, true, false, not, cond}
use Rattle.std.proofs.Common.{refl, sym, ap, ap₂, ◌∙◌, pos}
use Rattle.std.specs.Prelude.{⊤, ok_or, int_lt, neg_ℤ, ℤ}
use Rattle.std.proofs.Common.{arith}
use Rattle.std.proofs.lemmas.Int.{ints}
use Rattle.spec_exact.proofs.FractionSigns.{negative_test, positive_test}
use Rattle.spec_check.specs.Run.{rows_ask_run, columns_give_run, crossed_run, column_allows_run, row_allows_run, better_run}
use Rattle.spec_model.specs.Model.{bounds}
use Rattle.std.specs.Ordering.{is_lt, is_gt, is_eq}
use Rattle.std.specs.declared.cmp.Ordering.{Ordering}
use Rattle.std.specs.declared.cmp.Ordering.TheVariants.{Less, Equal, Greater}
use Rattle.spec_exact.specs.Fraction.{ℚ, 0ℚ, ◌+ℚ◌, ◌*ℚ◌, neg_ℚ, lt_ℚ, eq_ℚ}
use Rattle.spec_exact.specs.Limit.{add, order}
use Rattle.spec_exact.specs.declared.past.Op.TheVariants.{Add}
use Rattle.spec_exact.specs.Run.{◌>>=◌, refused_as}
use Rattle.spec_exact.proofs.Compare.{order_equal}
use Rattle.spec_exact.proofs.Same.{eq_if, eq_test}
use Rattle.spec_model.specs.declared.parts.RowLimit.{RowLimit}
use Rattle.spec_model.specs.Model.{Model, ExactColumn, width, height, column, row, cost, cost_of, part, limit_of, limit_run}
use Rattle.spec_model.proofs.LimitsAtLimit.{limit_all}
use Rattle.spec_check.specs.declared.certificate.Certificate.TheVariants.{Optimal, Infeasible, Unbounded, Clash}
use Rattle.spec_check.specs.declared.certificate.CheckStop.TheVariants as stop
use Rattle.spec_check.specs.declared.certificate.Known.TheVariants as known
use Rattle.spec_check.specs.Checks.{signed, reduced}
use Rattle.spec_check.specs.Run.{Run, step, need, each, plus_product, lower_run, upper_run, is_tight, cost_run}
use Rattle.spec_check.specs.Run.{at_least, at_most, stands_at, columns_run, rows_run}
use Rattle.spec_check.specs.Run.{column_tight_run, row_tight_run, value_run, check_run}
use Rattle.spec_check.proofs.StepsComplete.{added, ordered, plus_all, sum_all, activity_all}
use Rattle.lp_check.specs.Sums.{AreSums}
use Rattle.lp_check.specs.Sums as given
use Rattle.lp_check.proofs.Scaled.{reduced_all}

-- ---- limits
pub taken_is : {E : Type 0} (o p : RowLimit ℚ) (r : Result (Option ℚ) E) → o ≡ p → IfOk r (λ l. l ≡ limit_of o) →
    IfOk r (λ l. refused_as stop.Past (limit_run None p) ≡ Ok l)
taken_is o p (Ok l) e h = ap (refused_as stop.Past) (limit_all p) ∙ ap Ok (sym (h ∙ ap limit_of e))
taken_is o p (Err why) e h = tt

-- ---- tests
pub least_is : (l : Option ℚ) (k v : ℚ) (o : Ordering) (t : Bool) → l ≡ Some k → o ≡ order v k → t ≡ is_lt o →
    (n : ℕ) → at_least n None l v ≡ need n (not t)
least_is l k v o t e f g n =
    ap (λ z. at_least n None z v) e ∙ ap (λ z. z >>= λ o. need n (not (is_lt o))) (ordered v k)
    ∙ ap (λ z. need n (not z)) (sym (g ∙ ap is_lt f))

pub most_is : (l : Option ℚ) (k v : ℚ) (o : Ordering) (t : Bool) → l ≡ Some k → o ≡ order v k → t ≡ is_gt o →
    (n : ℕ) → at_most n None l v ≡ need n (not t)
most_is l k v o t e f g n =
    ap (λ z. at_most n None z v) e ∙ ap (λ z. z >>= λ o. need n (not (is_gt o))) (ordered v k)
    ∙ ap (λ z. need n (not z)) (sym (g ∙ ap is_gt f))

-- two numbers whose order is not equal do not test as equal
differs : (k v : ℚ) → (order k v ≡ Equal → ⊥) → false ≡ eq_ℚ k v
differs k v h = by (eq_ℚ k v) refl
  where
    by : (t : Bool) → eq_ℚ k v ≡ t → false ≡ t
    by true e = absurd (h ((order_equal k v).1 (eq_if k v e)))
    by false e = refl

-- the order of two numbers is equal exactly where they test as equal
equal_order : (k v : ℚ) → is_eq (order k v) ≡ eq_ℚ k v
equal_order k v = by (order k v) refl
  where
    by : (o : Ordering) → order k v ≡ o → is_eq o ≡ eq_ℚ k v
    by Less e = differs k v (λ f. let g : Less ≡ Equal = sym e ∙ f in cc)
    by Equal e = sym (eq_test k v ((order_equal k v).0 e))
    by Greater e = differs k v (λ f. let g : Greater ≡ Equal = sym e ∙ f in cc)

pub stands_is : (l : Option ℚ) (k v : ℚ) (o : Ordering) (t : Bool) → l ≡ Some k → o ≡ order k v → t ≡ is_eq o →
    t ≡ stands_at l v
stands_is l k v o t e f g = g ∙ ap is_eq f ∙ equal_order k v ∙ ap (λ z. stands_at z v) (sym e)

-- ---- products
pub plus_gives : (v w s p r : ℚ) → p ≡ v *ℚ w → r ≡ s +ℚ p → plus_product None v w s ≡ Ok r
plus_gives v w s p r e f = plus_all v w s ∙ ap Ok (sym (f ∙ ap (λ z. s +ℚ z) e))

-- ---- the value
pub value_is : (o : Run ℚ) (s f g r : ℚ) → o ≡ Ok s → g ≡ f → r ≡ s +ℚ g →
    (o >>= λ s. step Add s f (add None s f)) ≡ Ok r
value_is o s f g r e h i =
    ap (λ z. z >>= λ s. step Add s f (add None s f)) e ∙ added s f ∙ ap Ok (sym (i ∙ ap (λ z. s +ℚ z) h))

-- ---- all conditions in order
pub passes : (n : ℕ) (b : Bool) (o : Run ⊤) → o ≡ need n b → b ≡ true → o ≡ Ok tt
passes n b o e f = e ∙ ap (need n) f

pub fails : (n : ℕ) (b : Bool) (o : Run ⊤) → o ≡ need n b → b ≡ false → o ≡ Err (stop.No n)
fails n b o e f = e ∙ ap (need n) f

pub no_first : (m : Model) (x y : List ℚ) → columns_run None m x ≡ Err (stop.No 1) →
    check_run None m (Optimal x y) ≡ Err (stop.No 1)
unfolding check_run
no_first m x y a = rw a refl

pub no_second : (m : Model) (x y : List ℚ) → columns_run None m x ≡ Ok tt → rows_run None m x ≡ Err (stop.No 2) →
    check_run None m (Optimal x y) ≡ Err (stop.No 2)
unfolding check_run
no_second m x y a b = rw (a, b) refl

pub no_third : (m : Model) (x y : List ℚ) → columns_run None m x ≡ Ok tt → rows_run None m x ≡ Ok tt →
    each (width m) (column_tight_run None m x y) ≡ Err (stop.No 3) →
    check_run None m (Optimal x y) ≡ Err (stop.No 3)
unfolding check_run
no_third m x y a b c = rw (a, b, c) refl

pub no_fourth : (m : Model) (x y : List ℚ) → columns_run None m x ≡ Ok tt → rows_run None m x ≡ Ok tt →
    each (width m) (column_tight_run None m x y) ≡ Ok tt →
    each (height m) (row_tight_run None m x y) ≡ Err (stop.No 4) →
    check_run None m (Optimal x y) ≡ Err (stop.No 4)
unfolding check_run
no_fourth m x y a b c d = rw (a, b, c, d) refl

pub all_pass : (m : Model) (x y : List ℚ) (v : ℚ) → columns_run None m x ≡ Ok tt → rows_run None m x ≡ Ok tt →
    each (width m) (column_tight_run None m x y) ≡ Ok tt →
    each (height m) (row_tight_run None m x y) ≡ Ok tt → value_run None m x ≡ Ok v →
    check_run None m (Optimal x y) ≡ Ok (known.Optimal v)
unfolding check_run
all_pass m x y v a b c d e = rw (a, b, c, d, e) refl

-- ---- sums of what rows ask for and columns give
pub missing : (n : ℕ) (o : Option ℚ) (r : Run ℚ) → r ≡ ok_or o (stop.No n) → o ≡ None → r ≡ Err (stop.No n)
missing n o r e f = e ∙ ap (λ z. ok_or z (stop.No n)) f

pub there : (n : ℕ) (o : Option ℚ) (r : Run ℚ) (v : ℚ) → r ≡ ok_or o (stop.No n) → o ≡ Some v → r ≡ Ok v
there n o r v e f = e ∙ ap (λ z. ok_or z (stop.No n)) f

pub no_rows : (m : Model) (y : List ℚ) → rows_ask_run None m y ≡ Err (stop.No 1) →
    check_run None m (Infeasible y) ≡ Err (stop.No 1)
unfolding check_run
no_rows m y a = rw a refl

pub no_columns : (m : Model) (y : List ℚ) (a : ℚ) → rows_ask_run None m y ≡ Ok a →
    columns_give_run None m y ≡ Err (stop.No 2) → check_run None m (Infeasible y) ≡ Err (stop.No 2)
unfolding check_run
no_columns m y a e f = rw (e, f) refl

pub compared : (m : Model) (y : List ℚ) (a g : ℚ) (o : Ordering) (t : Bool) → rows_ask_run None m y ≡ Ok a →
    columns_give_run None m y ≡ Ok g → o ≡ order g a → t ≡ is_lt o →
    check_run None m (Infeasible y) ≡ (need 3 t >>= λ _. Ok known.Infeasible)
unfolding check_run
compared m y a g o t e f h i =
    rw (e, f) (ap (λ z. z >>= λ o. need 3 (is_lt o) >>= λ _. Ok known.Infeasible) (ordered g a)
    ∙ ap (λ z. need 3 z >>= λ _. Ok known.Infeasible) (sym (i ∙ ap is_lt h)))

pub clashed : (m : Model) (j : ℕ) (t : Bool) → crossed_run None (bounds m j).lower (bounds m j).upper ≡ need 1 t →
    check_run None m (Clash j) ≡ (need 1 t >>= λ _. Ok known.Infeasible)
unfolding check_run
clashed m j t e = ap (λ z. z >>= λ _. Ok known.Infeasible) e

pub crossed_bounds : (m : Model) (j : ℕ) (l u : Option ℚ) (c : ExactColumn) (t : Bool) → l ≡ c.lower → u ≡ c.upper →
    c ≡ column m j → crossed_run None l u ≡ need 1 t →
    crossed_run None (bounds m j).lower (bounds m j).upper ≡ need 1 t
crossed_bounds m j l u c t e f g h =
    sym (ap₂ (crossed_run None) (e ∙ ap (λ (k : ExactColumn). k.lower) g) (f ∙ ap (λ (k : ExactColumn). k.upper) g)) ∙ h

pub crossed_is : (l u : Option ℚ) (a b : ℚ) (o : Ordering) (t : Bool) → l ≡ Some a → u ≡ Some b → o ≡ order a b →
    t ≡ is_gt o → crossed_run None l u ≡ need 1 t
crossed_is l u a b o t e f g h =
    ap₂ (crossed_run None) e f ∙ ap (λ z. z >>= λ o. need 1 (is_gt o)) (ordered a b)
    ∙ ap (need 1) (sym (h ∙ ap is_gt g))

pub by_test : (n : ℕ) (t b : Bool) (r : Run (known.the_data ℚ)) → r ≡ (need n t >>= λ _. Ok known.Infeasible) → t ≡ b →
    r ≡ (need n b >>= λ _. Ok known.Infeasible)
by_test n t b r e f = e ∙ ap (λ z. need n z >>= λ _. Ok known.Infeasible) f

-- ---- rays

-- a whole number is above 0 exactly where its negative is below 0
turned_sign : (z : ℤ) → int_lt (pos 0) z ≡ int_lt (neg_ℤ z) (pos 0)
turned_sign z = grind (arith, ints)

pub better_above : (v : ℚ) (t : Bool) → t ≡ lt_ℚ 0ℚ v → t ≡ lt_ℚ (neg_ℚ v) 0ℚ
unfolding neg_ℚ
better_above v t e = e ∙ sym (positive_test v) ∙ turned_sign v.num ∙ negative_test (neg_ℚ v)

pub ray_first : (m : Model) (x r : List ℚ) → columns_run None m x ≡ Err (stop.No 1) →
    check_run None m (Unbounded x r) ≡ Err (stop.No 1)
unfolding check_run
ray_first m x r a = rw a refl

pub ray_second : (m : Model) (x r : List ℚ) → columns_run None m x ≡ Ok tt → rows_run None m x ≡ Err (stop.No 2) →
    check_run None m (Unbounded x r) ≡ Err (stop.No 2)
unfolding check_run
ray_second m x r a b = rw (a, b) refl

pub ray_third : (m : Model) (x r : List ℚ) → columns_run None m x ≡ Ok tt → rows_run None m x ≡ Ok tt → each (width m) (column_allows_run m r) ≡ Err (stop.No 3) →
    check_run None m (Unbounded x r) ≡ Err (stop.No 3)
unfolding check_run
ray_third m x r a b c = rw (a, b, c) refl

pub ray_fourth : (m : Model) (x r : List ℚ) → columns_run None m x ≡ Ok tt → rows_run None m x ≡ Ok tt → each (width m) (column_allows_run m r) ≡ Ok tt → each (height m) (row_allows_run None m r) ≡ Err (stop.No 4) →
    check_run None m (Unbounded x r) ≡ Err (stop.No 4)
unfolding check_run
ray_fourth m x r a b c d = rw (a, b, c, d) refl

pub ray_fifth : (m : Model) (x r : List ℚ) → columns_run None m x ≡ Ok tt → rows_run None m x ≡ Ok tt → each (width m) (column_allows_run m r) ≡ Ok tt → each (height m) (row_allows_run None m r) ≡ Ok tt → better_run None m r ≡ Err (stop.No 5) →
    check_run None m (Unbounded x r) ≡ Err (stop.No 5)
unfolding check_run
ray_fifth m x r a b c d e = rw (a, b, c, d, e) refl

pub ray_all : (m : Model) (x r : List ℚ) → columns_run None m x ≡ Ok tt → rows_run None m x ≡ Ok tt → each (width m) (column_allows_run m r) ≡ Ok tt → each (height m) (row_allows_run None m r) ≡ Ok tt → better_run None m r ≡ Ok tt →
    check_run None m (Unbounded x r) ≡ Ok known.Unbounded
unfolding check_run
ray_all m x r a b c d e = rw (a, b, c, d, e) refl

-- ---- conditions where the rows' sums and the reduced costs are given

-- tests that are the same at each index below n end in the same way
each_same : (n : ℕ) (f g : ℕ → Run ⊤) → ((i : ℕ) → i < n → f i ≡ g i) → each n f ≡ each n g
each_same zero f g h = refl
each_same (suc n) f g h =
    ap₂ (λ o r. o >>= λ _. r) (each_same n f g (λ i l. h i (omega (arith, l)))) (h n (omega arith))

pub within_are : (m : Model) (x sums : List ℚ) → AreSums m x sums →
    each (height m) (λ i. given.row_within m i (part sums i)) ≡ rows_run None m x
within_are m x sums h =
    each_same (height m) _ _ (λ i l. ap (given.row_within m i) (h.1 i l)
    ∙ sym (ap (λ o. o >>= λ v. given.row_within m i v) (activity_all m x i)))

pub tight_are : (m : Model) (x y sums : List ℚ) → AreSums m x sums →
    each (height m) (λ i. given.row_tight m y i (part sums i)) ≡ each (height m) (row_tight_run None m x y)
tight_are m x y sums h =
    each_same (height m) _ _ (λ i l. ap (given.row_tight m y i) (h.1 i l)
    ∙ sym (ap (λ o. cond (lt_ℚ 0ℚ (part y i)) (o >>= λ v. lower_run None (row m i) >>= λ l. need 4 (stands_at l v))
    (cond (lt_ℚ (part y i) 0ℚ) (o >>= λ v. upper_run None (row m i) >>= λ u. need 4 (stands_at u v)) (Ok tt)))
    (activity_all m x i)))

pub columns_are : (m : Model) (x y ds : List ℚ) → ((j : ℕ) → j < width m → part ds j ≡ reduced m y j) →
    each (width m) (λ j. given.column_tight m x j (part ds j)) ≡ each (width m) (column_tight_run None m x y)
columns_are m x y ds h =
    each_same (width m) _ _ (λ j l. ap (given.column_tight m x j) (h j l)
    ∙ sym (ap (λ o. o >>= λ d. need 3 (is_tight (bounds m j) d (part x j))) (reduced_all m y j)))

pub allows_are : (m : Model) (r sums : List ℚ) → AreSums m r sums →
    each (height m) (λ i. given.row_allows m i (part sums i)) ≡ each (height m) (row_allows_run None m r)
allows_are m r sums h =
    each_same (height m) _ _ (λ i l. ap (given.row_allows m i) (h.1 i l)
    ∙ sym (ap (λ o. o >>= λ v. given.row_allows m i v) (activity_all m r i)))

-- without a limit the run of a point's cost gives the cost
cost_all : (m : Model) (z : List ℚ) → cost_run None m z ≡ Ok (cost_of m z)
cost_all m z = sum_all (width m) (cost m) (λ j. part z j)

pub better_is : (m : Model) (r : List ℚ) (c : ℚ) (b : Bool) → c ≡ cost_of m r → b ≡ lt_ℚ (signed m.sense c) 0ℚ →
    better_run None m r ≡ need 5 b
better_is m r c b e f =
    ap (λ o. o >>= λ s. need 5 (lt_ℚ (signed m.sense s) 0ℚ)) (cost_all m r ∙ ap Ok (sym e)) ∙ ap (need 5) (sym f)

pub worth_is : (m : Model) (x : List ℚ) (c v : ℚ) → c ≡ cost_of m x → v ≡ c +ℚ m.offset → value_run None m x ≡ Ok v
worth_is m x c v e f = value_is (cost_run None m x) c m.offset m.offset v (cost_all m x ∙ ap Ok (sym e)) refl f
