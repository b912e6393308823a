-- Sums and tests of numbers that were all multiplied by one whole number t above 0.
--
-- `undone`: numbers whose t-fold multiples are equal are equal.
-- `less_times`: multiplying two numbers by t keeps which of them is less.
-- `sums_are`: dividing the rows' sums of the t-fold numbers by t gives the rows' sums of the numbers.
-- `divided_are`: where a result, taken t times, is the rows' sums of some numbers, each sum taken t times is the row's
--   activity there.
-- `cost_is`: dividing the cost of the t-fold point by t gives the cost of the point.
-- `reduced_is`: where t d is the t-fold cost less the price at the t-fold multipliers, d is column j's reduced cost.
-- `reduced_all`: the run without a limit of column j's reduced cost ends with that reduced cost.
-- `priced_is`: the run without a limit of column j's price at the multipliers ends with that price.
-- `says_times`: a verdict on the t-fold Farkas multipliers is true of the multipliers themselves.
use Rattle.std.proofs.Common.{◌≡◌, ℕ, zero, suc, ◌<◌, List, [], ◌∷◌, length, map, Ok, Err, None, Option, Some, Bool, true, false, cond}
use Rattle.std.proofs.Common.{refl, sym, ap, ap₂, ◌∙◌, subst, arith, pos}
use Rattle.std.proofs.lemmas.Int.{ints}
use Rattle.std.specs.Prelude.{Result, IfOk}
use Rattle.std.specs.Ordering.{is_lt}
use Rattle.std.specs.declared.cmp.Ordering.{Ordering}
use Rattle.std.specs.declared.cmp.Ordering.TheVariants.{Less, Equal, Greater}
use Rattle.spec_exact.specs.Fraction.{ℚ, 0ℚ, whole, ◌+ℚ◌, ◌-ℚ◌, ◌*ℚ◌, ◌≤ℚ◌, ◌<ℚ◌, neg_ℚ, lt_ℚ}
use Rattle.spec_exact.specs.Sums.{sum_below}
use Rattle.spec_exact.specs.Limit.{compare, order}
use Rattle.spec_exact.proofs.Compare.{order_less, order_equal, order_greater}
use Rattle.spec_exact.specs.declared.past.Op.TheVariants.{Cmp}
use Rattle.spec_exact.specs.Run.{◌>>=◌, steps}
use Rattle.spec_exact.proofs.Ring.{◌⊕◌, ◌⊖◌, ◌⊗◌, v0, v1, v2, v3}
use Rattle.spec_exact.proofs.Field.{by_ring_ℚ, *ℚ_zero, *ℚ_assoc}
use Rattle.spec_exact.proofs.Ruleset.{*ℚ_left_comm}
use Rattle.spec_exact.proofs.Order.{≤ℚ_refl, ≤ℚ_antisym, lt_if, le_if_not, lt_test, not_lt_test, *ℚ_mono, <ℚ-le}
use Rattle.spec_exact.proofs.Strict.{*ℚ_mono_back, *ℚ_strict}
use Rattle.spec_exact.proofs.Sums.{sum_below_same, *ℚ-sum_below, neg-sum_below}
use Rattle.spec_model.specs.Model.{Model, height, width, row, bounds, coefficient, cost, part, activity, cost_of}
use Rattle.spec_check.specs.declared.certificate.Certificate.TheVariants.{Infeasible}
use Rattle.spec_check.specs.declared.certificate.Known.TheVariants as known
use Rattle.spec_check.specs.Checks.{signed, priced, reduced, turned_limits}
use Rattle.spec_check.specs.Run.{Run, step, need, weighed_at, weighed, row_asks_run, rows_ask_run}
use Rattle.spec_check.specs.Run.{column_gives_run, columns_give_run, infeasible_run, check_run, reduced_run, priced_run}
use Rattle.spec_check.specs.Run.{less_product, lower_run, upper_run}
use Rattle.spec_check.proofs.StepsComplete.{from_all, less_all, plus_all, sum_all, lower_all, upper_all, ordered}
use Rattle.lp_ratio.specs.Multiple.{multiple}
use Rattle.lp_check.specs.Sums.{AreSums}
use Rattle.lp_check.specs.Said.{Says}
use Rattle.lp_check.specs.declared.wide.certificate.Verdict.{Verdict}
use Rattle.lp_check.specs.declared.wide.certificate.Verdict.TheVariants.{Yes, No}

-- ---- one number

-- a whole number t above 0 is above 0 as a fraction
above_zero : (t : ℕ) → 0 < t → 0ℚ <ℚ whole (pos t)
unfolding whole
above_zero t h = record { below = omega (arith, ints, h) }

pub undone : (t : ℕ) (a b : ℚ) → 0 < t → multiple t a ≡ multiple t b → a ≡ b
undone t a b h e =
    ≤ℚ_antisym a b
    (*ℚ_mono_back a b (whole (pos t)) (above_zero t h) (subst (λ z. multiple t a ≤ℚ z) e (≤ℚ_refl (multiple t a))))
    (*ℚ_mono_back b a (whole (pos t)) (above_zero t h) (subst (λ z. z ≤ℚ multiple t a) e (≤ℚ_refl (multiple t a))))

pub less_times : (t : ℕ) (a b : ℚ) → 0 < t → lt_ℚ (multiple t a) (multiple t b) ≡ lt_ℚ a b
less_times t a b h = by (lt_ℚ a b) refl
  where
    by : (o : Bool) → lt_ℚ a b ≡ o → lt_ℚ (multiple t a) (multiple t b) ≡ o
    by true e = lt_test _ _ (*ℚ_strict a b (whole (pos t)) (above_zero t h) (lt_if a b e))
    by false e =
        not_lt_test _ _ (*ℚ_mono b a (whole (pos t)) (<ℚ-le 0ℚ (whole (pos t)) (above_zero t h)) (le_if_not a b e))

-- 0 taken t times is 0
none_times : (t : ℕ) → multiple t 0ℚ ≡ 0ℚ
none_times t = *ℚ_zero (whole (pos t))

-- a number taken t times is above 0 exactly where the number is
above_times : (t : ℕ) (a : ℚ) → 0 < t → lt_ℚ 0ℚ (multiple t a) ≡ lt_ℚ 0ℚ a
above_times t a h = ap (λ z. lt_ℚ z (multiple t a)) (sym (none_times t)) ∙ less_times t 0ℚ a h

-- a number taken t times is below 0 exactly where the number is
below_times : (t : ℕ) (a : ℚ) → 0 < t → lt_ℚ (multiple t a) 0ℚ ≡ lt_ℚ a 0ℚ
below_times t a h = ap (λ z. lt_ℚ (multiple t a) z) (sym (none_times t)) ∙ less_times t a 0ℚ h

-- ---- lists and sums

-- part j of a list whose numbers are taken t times is part j of the list, taken t times
part_map : (t : ℕ) (z : List ℚ) (j : ℕ) → part (map (multiple t) z) j ≡ multiple t (part z j)
part_map t [] zero = sym (none_times t)
part_map t [] (suc j) = sym (none_times t)
part_map t (v ∷ z) zero = refl
part_map t (v ∷ z) (suc j) = part_map t z j

-- a weighted sum of numbers taken t times is their weighted sum, taken t times
times_weighed : (t n : ℕ) (f : ℕ → ℚ) (z : List ℚ) →
    sum_below n (λ j. f j *ℚ part (map (multiple t) z) j) ≡ multiple t (sum_below n (λ j. f j *ℚ part z j))
times_weighed t n f z =
    sum_below_same n _ (λ j. multiple t (f j *ℚ part z j))
    (λ j _. ap (λ a. f j *ℚ a) (part_map t z j) ∙ *ℚ_left_comm (f j) (whole (pos t)) (part z j))
    ∙ sym (*ℚ-sum_below (whole (pos t)) n (λ j. f j *ℚ part z j))

-- the cost of a point taken t times is the point's cost, taken t times
cost_times : (m : Model) (z : List ℚ) (t : ℕ) → cost_of m (map (multiple t) z) ≡ multiple t (cost_of m z)
cost_times m z t = times_weighed t (width m) (cost m) z

-- multipliers taken t times have as their part in column j the multipliers' part, taken t times
priced_times : (m : Model) (y : List ℚ) (j t : ℕ) → priced m (map (multiple t) y) j ≡ multiple t (priced m y j)
priced_times m y j t =
    sum_below_same (height m) _ (λ i. multiple t (part y i *ℚ coefficient m i j))
    (λ i _. ap (λ a. a *ℚ coefficient m i j) (part_map t y i) ∙ *ℚ_assoc (whole (pos t)) (part y i) (coefficient m i j))
    ∙ sym (*ℚ-sum_below (whole (pos t)) (height m) (λ i. part y i *ℚ coefficient m i j))

-- the sums of numbers that were taken so many times, divided again
pub sums_are : (m : Model) (z numbers sums : List ℚ) (t : ℕ) → 0 < t → numbers ≡ map (multiple t) z →
    length sums ≡ height m → ((i : ℕ) → i < height m → multiple t (part sums i) ≡ activity m numbers i) →
    AreSums m z sums
sums_are m z numbers sums t h e l d = (
  l,
  λ i k. undone t (part sums i) (activity m z i) h
      (d i k ∙ ap (λ xs. activity m xs i) e ∙ times_weighed t (width m) (λ j. coefficient m i j) z),
)

pub divided_are : {E : Type 0} (m : Model) (numbers wholes : List ℚ) (t : ℕ) (r : Result (List ℚ) E) →
    AreSums m numbers wholes →
    IfOk r (λ sums. (i : ℕ) → i < length wholes → multiple t (part sums i) ≡ part wholes i) →
    IfOk r (λ sums. (i : ℕ) → i < height m → multiple t (part sums i) ≡ activity m numbers i)
divided_are m numbers wholes t (Ok sums) w d = λ i k. d i (omega (arith, k, w.0)) ∙ w.1 i k
divided_are m numbers wholes t (Err e) w d = tt

pub cost_is : (m : Model) (z numbers : List ℚ) (t : ℕ) (c : ℚ) → 0 < t → numbers ≡ map (multiple t) z →
    multiple t c ≡ cost_of m numbers → c ≡ cost_of m z
cost_is m z numbers t c h e g = undone t c (cost_of m z) h (g ∙ ap (cost_of m) e ∙ cost_times m z t)

-- ---- reduced costs

-- w c less w p is w times c less p
difference_times : (w c p : ℚ) → w *ℚ c -ℚ w *ℚ p ≡ w *ℚ (c -ℚ p)
difference_times w c p = by_ring_ℚ (w ∷ c ∷ p ∷ []) (v0 ⊗ v1 ⊖ v0 ⊗ v2) (v0 ⊗ (v1 ⊖ v2)) refl

pub reduced_is : (m : Model) (y numbers : List ℚ) (j t : ℕ) (d : ℚ) → 0 < t → numbers ≡ map (multiple t) y →
    multiple t d ≡ multiple t (signed m.sense (cost m j)) -ℚ priced m numbers j → d ≡ reduced m y j
reduced_is m y numbers j t d h e f =
    undone t d (reduced m y j) h
    (f ∙ ap (λ p. multiple t (signed m.sense (cost m j)) -ℚ p) (ap (λ xs. priced m xs j) e ∙ priced_times m y j t)
    ∙ difference_times (whole (pos t)) (signed m.sense (cost m j)) (priced m y j))

pub reduced_all : (m : Model) (y : List ℚ) (j : ℕ) → reduced_run None m y j ≡ Ok (reduced m y j)
reduced_all m y j =
    from_all (signed m.sense (cost m j)) (height m)
    (λ i d. less_product None (part y i) (coefficient m i j) d) (λ i. neg_ℚ (part y i *ℚ coefficient m i j))
    (λ i u p. less_all (part y i) (coefficient m i j) u)
    ∙ ap (λ s. Ok (signed m.sense (cost m j) +ℚ s))
    (sym (neg-sum_below (height m) (λ i. part y i *ℚ coefficient m i j)))

-- ---- what rows ask for and columns give
-- the result of a run taken t times; a refusal stays
abbrev scaled : ℕ → Run ℚ → Run ℚ
scaled t (Ok v) = Ok (multiple t v)
scaled t (Err e) = Err e

-- where each step takes numbers taken t times to its result taken t times, so do n steps
steps_times : (t n : ℕ) (f g : ℕ → ℚ → Run ℚ) (a b : ℚ) → b ≡ multiple t a →
    ((k : ℕ) (s : ℚ) → g k (multiple t s) ≡ scaled t (f k s)) → steps n g b ≡ scaled t (steps n f a)
steps_times t zero f g a b e h = ap Ok e
steps_times t (suc n) f g a b e h =
    ap (λ o. o >>= λ s. g n s) (steps_times t n f g a b e h) ∙ by (steps n f a)
  where
    by : (o : Run ℚ) → (scaled t o >>= λ s. g n s) ≡ scaled t (o >>= λ s. f n s)
    by (Ok s) = h n s
    by (Err e) = refl

-- w s plus w d times b is w times s plus d b
onto_times : (w d b s : ℚ) → w *ℚ s +ℚ w *ℚ d *ℚ b ≡ w *ℚ (s +ℚ d *ℚ b)
onto_times w d b s =
    by_ring_ℚ (w ∷ d ∷ b ∷ s ∷ []) (v0 ⊗ v3 ⊕ v0 ⊗ v1 ⊗ v2) (v0 ⊗ (v3 ⊕ v1 ⊗ v2)) refl

-- weighing a bound by d taken t times, onto s taken t times, gives the sum taken t times
weighed_at_times : (t n : ℕ) (d : ℚ) (l : Option ℚ) (s : ℚ) →
    weighed_at n None (multiple t d) l (multiple t s) ≡ scaled t (weighed_at n None d l s)
weighed_at_times t n d None s = refl
weighed_at_times t n d (Some b) s =
    plus_all (multiple t d) b (multiple t s) ∙ ap Ok (onto_times (whole (pos t)) d b s)
    ∙ sym (ap (scaled t) (plus_all d b s))

-- the choice by the sign of d taken t times, among results taken t times, is the choice by d, taken t times
by_signs : (t : ℕ) (d : ℚ) (p q r p' q' r' : Run ℚ) → 0 < t → p' ≡ scaled t p → q' ≡ scaled t q → r' ≡ scaled t r →
    cond (lt_ℚ 0ℚ (multiple t d)) p' (cond (lt_ℚ (multiple t d) 0ℚ) q' r')
    ≡ scaled t (cond (lt_ℚ 0ℚ d) p (cond (lt_ℚ d 0ℚ) q r))
by_signs t d p q r p' q' r' h e f g =
    ap₂ (λ a b. cond a p' (cond b q' r')) (above_times t d h) (below_times t d h) ∙ by (lt_ℚ 0ℚ d) (lt_ℚ d 0ℚ)
  where
    by : (a b : Bool) → cond a p' (cond b q' r') ≡ scaled t (cond a p (cond b q r))
    by true b = e
    by false true = f
    by false false = g

-- with multipliers and the sum taken t times, what row i asks for gives the sum taken t times
row_asks_times : (m : Model) (y : List ℚ) (t i : ℕ) (s : ℚ) → 0 < t →
    row_asks_run None m (map (multiple t) y) i (multiple t s) ≡ scaled t (row_asks_run None m y i s)
row_asks_times m y t i s h =
    ap (λ d. cond (lt_ℚ 0ℚ d) (lower_run None (row m i) >>= λ l. weighed_at 1 None d l (multiple t s))
    (cond (lt_ℚ d 0ℚ) (upper_run None (row m i) >>= λ u. weighed_at 1 None d u (multiple t s)) (Ok (multiple t s))))
    (part_map t y i)
    ∙ by_signs t (part y i) _ _ (Ok s) _ _ _ h (low (lower_run None (row m i)) (lower_all (row m i)))
    (low (upper_run None (row m i)) (upper_all (row m i))) refl
  where
    low : {l : Option ℚ} (o : Run (Option ℚ)) → o ≡ Ok l →
        (o >>= λ l. weighed_at 1 None (multiple t (part y i)) l (multiple t s))
        ≡ scaled t (o >>= λ l. weighed_at 1 None (part y i) l s)
    low {l} o e =
        ap (λ z. z >>= λ l. weighed_at 1 None (multiple t (part y i)) l (multiple t s)) e
        ∙ weighed_at_times t 1 (part y i) l s ∙ sym (ap (λ z. scaled t (z >>= λ l. weighed_at 1 None (part y i) l s)) e)

-- without a limit the run of the multipliers' part in a column gives that part
priced_all : (m : Model) (y : List ℚ) (j : ℕ) → priced_run None m y j ≡ Ok (priced m y j)
priced_all m y j = sum_all (height m) (λ i. part y i) (λ i. coefficient m i j)

pub priced_is : (m : Model) (y : List ℚ) (j : ℕ) (p : ℚ) → p ≡ priced m y j → priced_run None m y j ≡ Ok p
priced_is m y j p e = priced_all m y j ∙ ap Ok (sym e)

-- with multipliers and the sum taken t times, what column j gives makes the sum taken t times
column_gives_times : (m : Model) (y : List ℚ) (t j : ℕ) (s : ℚ) → 0 < t →
    column_gives_run None m (map (multiple t) y) j (multiple t s) ≡ scaled t (column_gives_run None m y j s)
column_gives_times m y t j s h =
    ap (λ o. o >>= λ g. weighed 2 None (turned_limits (bounds m j)) g (multiple t s))
    (priced_all m (map (multiple t) y) j ∙ ap Ok (priced_times m y j t))
    ∙ by_signs t (priced m y j) _ _ (Ok s) _ _ _ h
    (weighed_at_times t 2 (priced m y j) (turned_limits (bounds m j)).lower s)
    (weighed_at_times t 2 (priced m y j) (turned_limits (bounds m j)).upper s) refl
    ∙ sym (ap (λ o. scaled t (o >>= λ g. weighed 2 None (turned_limits (bounds m j)) g s)) (priced_all m y j))

-- the order of v and w is less exactly where v tests as below w
judged_by : (v w : ℚ) → is_lt (order v w) ≡ lt_ℚ v w
judged_by v w = by (order v w) refl
  where
    by : (o : Ordering) → order v w ≡ o → is_lt o ≡ lt_ℚ v w
    by Less e = sym (lt_test v w ((order_less v w).0 e))
    by Equal e = sym (not_lt_test v w (subst (λ z. z ≤ℚ v) ((order_equal v w).0 e) (≤ℚ_refl v)))
    by Greater e = sym (not_lt_test v w (<ℚ-le w v ((order_greater v w).0 e)))

-- Farkas multipliers taken t times are judged as the multipliers are
infeasible_times : (m : Model) (y numbers : List ℚ) (t : ℕ) → 0 < t → numbers ≡ map (multiple t) y →
    check_run None m (Infeasible numbers) ≡ check_run None m (Infeasible y)
unfolding check_run
infeasible_times m y numbers t h e =
    ap (infeasible_run None m) e
    ∙ ap₂ (λ a g. a >>= λ asked. g >>= λ given. step Cmp given asked (compare None given asked)
    >>= λ o. need 3 (is_lt o) >>= λ _. Ok known.Infeasible)
    (steps_times t (height m) (row_asks_run None m y) (row_asks_run None m (map (multiple t) y)) 0ℚ 0ℚ (sym (none_times t))
    (λ i s. row_asks_times m y t i s h))
    (steps_times t (width m) (column_gives_run None m y) (column_gives_run None m (map (multiple t) y)) 0ℚ 0ℚ
    (sym (none_times t)) (λ j s. column_gives_times m y t j s h))
    ∙ by (rows_ask_run None m y) (columns_give_run None m y)
  where
    judged : Run ℚ → Run ℚ → Run (known.the_data ℚ)
    judged a g =
        a >>= λ asked. g >>= λ given. step Cmp given asked (compare None given asked)
        >>= λ o. need 3 (is_lt o) >>= λ _. Ok known.Infeasible

    ends : (a g : ℚ) → judged (Ok a) (Ok g) ≡ (need 3 (is_lt (order g a)) >>= λ _. Ok known.Infeasible)
    ends a g = ap (λ z. z >>= λ o. need 3 (is_lt o) >>= λ _. Ok known.Infeasible) (ordered g a)

    by : (a g : Run ℚ) → judged (scaled t a) (scaled t g) ≡ judged a g
    by (Ok a) (Ok g) =
        ends (multiple t a) (multiple t g)
        ∙ ap (λ o. need 3 o >>= λ _. Ok known.Infeasible) (judged_by (multiple t g) (multiple t a) ∙ less_times t g a h
        ∙ sym (judged_by g a))
        ∙ sym (ends a g)
    by (Ok a) (Err e) = refl
    by (Err e) g = refl

pub says_times : {E : Type 0} (m : Model) (y numbers : List ℚ) (t : ℕ) (r : Result Verdict E) → 0 < t →
    numbers ≡ map (multiple t) y → IfOk r (Says m (Infeasible numbers)) → IfOk r (Says m (Infeasible y))
says_times m y numbers t (Ok (Yes known)) h e s = sym (infeasible_times m y numbers t h e) ∙ s
says_times m y numbers t (Ok (No n)) h e s = sym (infeasible_times m y numbers t h e) ∙ s
says_times m y numbers t (Err e) h f s = tt
