-- The checker's run: the sums and tests of the conditions, in their order, under a limit.
use Rattle.std.specs.Prelude.{◌≡◌, ◌⊎◌, ℕ, ⊤, List, Option, Some, None}
use Rattle.std.specs.Prelude.{Result, Ok, Err, Bool, true, false, not, cond}
use Rattle.std.specs.Ordering.{is_lt, is_gt}
use Rattle.spec_exact.specs.Fraction.{ℚ, 0ℚ, lt_ℚ, eq_ℚ}
use Rattle.spec_exact.specs.Limit.{add, compare}
use Rattle.spec_exact.specs.Answer.{told}
use Rattle.spec_exact.specs.declared.past.Op.{Op}
use Rattle.spec_exact.specs.declared.past.Op.TheVariants.{Add, Cmp}
use Rattle.spec_exact.specs.declared.past.Past.{Past}
use Rattle.spec_exact.specs.Run.{◌>>=◌, refused_as, steps}
use Rattle.spec_exact.specs.Run as exact
use Rattle.spec_model.specs.Model.{Model, ExactRow, Limits, width, height, bounds, row, cost, coefficient, part}
use Rattle.spec_model.specs.Model as model
use Rattle.spec_check.specs.declared.certificate.Certificate.{Certificate}
use Rattle.spec_check.specs.declared.certificate.Certificate.TheVariants.{Optimal, Infeasible, Clash, Unbounded}
use Rattle.spec_check.specs.declared.certificate.Known.{Known}
use Rattle.spec_check.specs.declared.certificate.Known.TheVariants as known
use Rattle.spec_check.specs.declared.certificate.CheckStop.{CheckStop}
use Rattle.spec_check.specs.declared.certificate.CheckStop.TheVariants as stop
use Rattle.spec_check.specs.declared.certificate.Verdict.{Verdict}
use Rattle.spec_check.specs.declared.certificate.Verdict.TheVariants as verdict
use Rattle.spec_check.specs.Checks.{signed, turned_limits}

-- a result; or the number of the condition that fails; or the operation that is refused
abbrev pub Run : Type 0 → Type 0
Run A = Result A (CheckStop ℚ)

-- the result of an operation, as one of a run; or its refusal with both operands
abbrev pub step : {A : Type 0} → Op → ℚ → ℚ → Option A → Run A
step op v w answer = refused_as stop.Past (told op v w answer)

-- the run goes on where the test holds; else it stops with n, the number of the condition that fails
abbrev pub need : ℕ → Bool → Run ⊤
need n true = Ok tt
need n false = Err (stop.No n)

-- the conditions f 0, f 1 .. f (n - 1) in order: the run goes on if all hold, else it stops at the first that does not
abbrev pub each : ℕ → (ℕ → Run ⊤) → Run ⊤
each n f = steps n (λ k _. f k) tt

-- s + v * w at a limit, or the refusal
abbrev pub plus_product : Option ℕ → ℚ → ℚ → ℚ → Run ℚ
plus_product limit v w s = refused_as stop.Past (exact.plus_product limit v w s)

-- s - v * w at a limit, or the refusal
abbrev pub less_product : Option ℕ → ℚ → ℚ → ℚ → Run ℚ
less_product limit v w s = refused_as stop.Past (exact.less_product limit v w s)

-- the sum of f k * g k for k below n, or the first operation that the limit refuses
abbrev pub sum_run : Option ℕ → ℕ → (ℕ → ℚ) → (ℕ → ℚ) → Run ℚ
sum_run limit n f g = steps n (λ k s. plus_product limit (f k) (g k) s) 0ℚ

-- ---- a row's limits

-- the lower limit of a row at a limit on numbers, none where the row has none; or the refusal of its operation
abbrev pub lower_run : Option ℕ → ExactRow → Run (Option ℚ)
lower_run limit r = refused_as stop.Past (model.lower_run limit r)

-- the upper limit of a row at a limit on numbers, none where the row has none; or the refusal of its operation
abbrev pub upper_run : Option ℕ → ExactRow → Run (Option ℚ)
upper_run limit r = refused_as stop.Past (model.upper_run limit r)

-- ---- tests

-- the run goes on where v is at least the lower limit, if there is one; else it stops with the number n of a condition,
-- or with the comparison, where the limit on numbers refuses that
abbrev pub at_least : ℕ → Option ℕ → Option ℚ → ℚ → Run ⊤
at_least n limit None v = Ok tt
at_least n limit (Some k) v = step Cmp v k (compare limit v k) >>= λ o. need n (not (is_lt o))

-- the run goes on where v is at most the upper limit, if there is one; else it stops with the number n of a condition,
-- or with the comparison, where the limit on numbers refuses that
abbrev pub at_most : ℕ → Option ℕ → Option ℚ → ℚ → Run ⊤
at_most n limit None v = Ok tt
at_most n limit (Some k) v = step Cmp v k (compare limit v k) >>= λ o. need n (not (is_gt o))

-- whether a limit is there, and is v
abbrev pub stands_at : Option ℚ → ℚ → Bool
stands_at None v = false
stands_at (Some k) v = eq_ℚ k v

-- whether v is at the lower limit for a multiplier d above 0, and at the upper limit for d below 0; true for d = 0
abbrev pub is_tight : Limits → ℚ → ℚ → Bool
is_tight l d v = cond (lt_ℚ 0ℚ d) (stands_at l.lower v) (cond (lt_ℚ d 0ℚ) (stands_at l.upper v) true)

-- ---- a feasible point: conditions 1 and 2

-- condition 1 of column j: the run goes on if the point's value is within its bounds, and nothing is refused
abbrev pub column_within_run : Option ℕ → Model → List ℚ → ℕ → Run ⊤
column_within_run limit m x j =
    at_least 1 limit (bounds m j).lower (part x j) >>= λ _. at_most 1 limit (bounds m j).upper (part x j)

-- condition 1 of all columns: the run goes on if each value is within its column's bounds, and nothing is refused
abbrev pub columns_run : Option ℕ → Model → List ℚ → Run ⊤
columns_run limit m x = each (width m) (column_within_run limit m x)

-- the activity of row i at the point z, or the first operation that the limit refuses
abbrev pub activity_run : Option ℕ → Model → List ℚ → ℕ → Run ℚ
activity_run limit m z i = sum_run limit (width m) (λ j. coefficient m i j) (λ j. part z j)

-- condition 2 of row i: the run goes on if its activity is within its limits, and nothing is refused
abbrev pub row_within_run : Option ℕ → Model → List ℚ → ℕ → Run ⊤
row_within_run limit m x i =
    activity_run limit m x i >>= λ v.
    lower_run limit (row m i) >>= λ l. at_least 2 limit l v >>= λ _.
    upper_run limit (row m i) >>= λ u. at_most 2 limit u v

-- condition 2 of all rows: the run goes on if each activity is within its row's limits, and nothing is refused
abbrev pub rows_run : Option ℕ → Model → List ℚ → Run ⊤
rows_run limit m x = each (height m) (row_within_run limit m x)

-- ---- complementary multipliers: conditions 3 and 4

-- the reduced cost of column j with these multipliers, where its cost is negated for the sense Max; or the first
-- operation that the limit refuses
abbrev pub reduced_run : Option ℕ → Model → List ℚ → ℕ → Run ℚ
reduced_run limit m y j =
    steps (height m) (λ i d. less_product limit (part y i) (coefficient m i j) d) (signed m.sense (cost m j))

-- condition 3 of column j: its value is at its lower bound for a reduced cost above 0, at its upper bound for one below
-- 0. The run goes on if so, unless an operation on the reduced cost is refused.
abbrev pub column_tight_run : Option ℕ → Model → List ℚ → List ℚ → ℕ → Run ⊤
column_tight_run limit m x y j = reduced_run limit m y j >>= λ d. need 3 (is_tight (bounds m j) d (part x j))

-- Condition 4 of row i: its activity is at its lower limit for a multiplier above 0, and at its upper limit for one
-- below 0. For these activity and limit are computed again, where an operation may be refused.
abbrev pub row_tight_run : Option ℕ → Model → List ℚ → List ℚ → ℕ → Run ⊤
row_tight_run limit m x y i =
    cond (lt_ℚ 0ℚ (part y i))
    (activity_run limit m x i >>= λ v. lower_run limit (row m i) >>= λ l. need 4 (stands_at l v))
    (cond (lt_ℚ (part y i) 0ℚ)
    (activity_run limit m x i >>= λ v. upper_run limit (row m i) >>= λ u. need 4 (stands_at u v)) (Ok tt))

-- ---- the value

-- the sum of the columns' costs times the numbers of a point or a ray, without the offset and with no sign of the
-- sense; or the first operation that the limit refuses
abbrev pub cost_run : Option ℕ → Model → List ℚ → Run ℚ
cost_run limit m z = sum_run limit (width m) (cost m) (λ j. part z j)

-- the value of the objective at the point z, the sum of costs times values, and the offset; or the first operation that
-- the limit refuses
abbrev pub value_run : Option ℕ → Model → List ℚ → Run ℚ
value_run limit m z = cost_run limit m z >>= λ s. step Add s m.offset (add limit s m.offset)

-- the run on a certificate that a point is optimal: conditions 1 to 4, and then the value that it shows. The first one
-- that fails, or the first operation that is refused, ends it.
abbrev pub optimal_run : Option ℕ → Model → List ℚ → List ℚ → Run (Known ℚ)
optimal_run limit m x y =
    columns_run limit m x >>= λ _. rows_run limit m x >>= λ _.
    each (width m) (column_tight_run limit m x y) >>= λ _. each (height m) (row_tight_run limit m x y) >>= λ _.
    value_run limit m x >>= λ v. Ok (known.Optimal v)

-- ---- rows that no point satisfies together

-- s + d * b for a limit b, or the refusal; where the limit is absent, the run stops with the number n of a condition
abbrev pub weighed_at : ℕ → Option ℕ → ℚ → Option ℚ → ℚ → Run ℚ
weighed_at n limit d None s = Err (stop.No n)
weighed_at n limit d (Some b) s = plus_product limit d b s

-- s + y_i * b, or the refusal: b is the lower limit of row i for a multiplier y_i above 0, the upper limit for y_i
-- below 0. For y_i = 0 it is s. Where the limit is absent, condition 1 fails.
abbrev pub row_asks_run : Option ℕ → Model → List ℚ → ℕ → ℚ → Run ℚ
row_asks_run limit m y i s =
    cond (lt_ℚ 0ℚ (part y i)) (lower_run limit (row m i) >>= λ l. weighed_at 1 limit (part y i) l s)
    (cond (lt_ℚ (part y i) 0ℚ) (upper_run limit (row m i) >>= λ u. weighed_at 1 limit (part y i) u s) (Ok s))

-- s + d * b at a limit on numbers, or the refusal: b is the lower one of l for d above 0, the upper one for d below 0.
-- For d = 0 it is s. Where the one of l that is asked for is absent, the run stops with the number n of a condition.
abbrev pub weighed : ℕ → Option ℕ → Limits → ℚ → ℚ → Run ℚ
weighed n limit l d s =
    cond (lt_ℚ 0ℚ d) (weighed_at n limit d l.lower s) (cond (lt_ℚ d 0ℚ) (weighed_at n limit d l.upper s) (Ok s))

-- the sum of column j's coefficients times the multipliers of their rows, or the first operation that is refused
abbrev pub priced_run : Option ℕ → Model → List ℚ → ℕ → Run ℚ
priced_run limit m y j = sum_run limit (height m) (λ i. part y i) (λ i. coefficient m i j)

-- s + g * b, or a refusal: g is the sum of column j's coefficients times the multipliers of their rows, and b the
-- column's upper bound where g is above 0, its lower bound where g is below. For g = 0 it is s. Where the bound is
-- absent, condition 2 fails.
abbrev pub column_gives_run : Option ℕ → Model → List ℚ → ℕ → ℚ → Run ℚ
column_gives_run limit m y j s = priced_run limit m y j >>= λ g. weighed 2 limit (turned_limits (bounds m j)) g s

-- the least that the limits let the sum of all rows be, each of them times its multiplier, or the first operation that
-- is refused; condition 1 fails where a limit that a multiplier asks for is absent
abbrev pub rows_ask_run : Option ℕ → Model → List ℚ → Run ℚ
rows_ask_run limit m y = steps (height m) (row_asks_run limit m y) 0ℚ

-- the most that the bounds of the columns let the sum of all rows be, each of them times its multiplier, or the first
-- operation that is refused; condition 2 fails where a bound that is needed is absent
abbrev pub columns_give_run : Option ℕ → Model → List ℚ → Run ℚ
columns_give_run limit m y = steps (width m) (column_gives_run limit m y) 0ℚ

-- the run on Farkas multipliers: condition 1, the limits of rows that they ask for are there; condition 2, so are the
-- bounds of columns; condition 3, the columns give less than the rows ask for. If all hold and nothing is refused, it
-- says that no point is feasible.
abbrev pub infeasible_run : Option ℕ → Model → List ℚ → Run (Known ℚ)
infeasible_run limit m y =
    rows_ask_run limit m y >>= λ asked. columns_give_run limit m y >>= λ given.
    step Cmp given asked (compare limit given asked) >>= λ o. need 3 (is_lt o) >>= λ _. Ok known.Infeasible

-- ---- a column whose lower bound is above its upper bound

-- the run goes on if both bounds are there and the lower one is above the upper one; else condition 1 fails, unless the
-- limit refuses to compare them
abbrev pub crossed_run : Option ℕ → Option ℚ → Option ℚ → Run ⊤
crossed_run limit None upper = Err (stop.No 1)
crossed_run limit (Some l) None = Err (stop.No 1)
crossed_run limit (Some l) (Some u) = step Cmp l u (compare limit l u) >>= λ o. need 1 (is_gt o)

-- the run on a column whose bounds are to clash: it shows that no point is feasible, or condition 1 fails, or the
-- comparison of the bounds is refused
abbrev pub clash_run : Option ℕ → Model → ℕ → Run (Known ℚ)
clash_run limit m j = crossed_run limit (bounds m j).lower (bounds m j).upper >>= λ _. Ok known.Infeasible

-- ---- a ray: conditions 3 to 5, after those of a feasible point

-- whether a move along r keeps a lower limit: there is none, or r is at least 0
abbrev pub not_below : Option ℚ → ℚ → Bool
not_below None r = true
not_below (Some k) r = not (lt_ℚ r 0ℚ)

-- whether a move along r keeps an upper limit: there is none, or r is at most 0
abbrev pub not_above : Option ℚ → ℚ → Bool
not_above None r = true
not_above (Some k) r = not (lt_ℚ 0ℚ r)

-- condition 3 of column j: the run goes on if no bound stops a move along the ray
abbrev pub column_allows_run : Model → List ℚ → ℕ → Run ⊤
column_allows_run m r j =
    need 3 (not_below (bounds m j).lower (part r j)) >>= λ _. need 3 (not_above (bounds m j).upper (part r j))

-- condition 4 of row i: the run goes on if no limit stops a move along the ray, and nothing is refused
abbrev pub row_allows_run : Option ℕ → Model → List ℚ → ℕ → Run ⊤
row_allows_run limit m r i =
    activity_run limit m r i >>= λ s.
    lower_run limit (row m i) >>= λ l. need 4 (not_below l s) >>= λ _.
    upper_run limit (row m i) >>= λ u. need 4 (not_above u s)

-- condition 5: the run goes on if the objective improves along the ray, and nothing is refused
abbrev pub better_run : Option ℕ → Model → List ℚ → Run ⊤
better_run limit m r = cost_run limit m r >>= λ s. need 5 (lt_ℚ (signed m.sense s) 0ℚ)

-- the run on a certificate that the model is unbounded: conditions 1 to 5. The first one that fails, or the first
-- operation that is refused, ends it.
abbrev pub unbounded_run : Option ℕ → Model → List ℚ → List ℚ → Run (Known ℚ)
unbounded_run limit m x r =
    columns_run limit m x >>= λ _. rows_run limit m x >>= λ _.
    each (width m) (column_allows_run m r) >>= λ _. each (height m) (row_allows_run limit m r) >>= λ _.
    better_run limit m r >>= λ _. Ok known.Unbounded

-- the checker's run on a certificate: what it shows of the model; or the number of the first condition that fails, or
-- the operation that the limit refuses
unfoldable pub check_run : Option ℕ → Model → Certificate (List ℚ) → Run (Known ℚ)
check_run limit m (Optimal x y) = optimal_run limit m x y
check_run limit m (Infeasible y) = infeasible_run limit m y
check_run limit m (Clash j) = clash_run limit m j
check_run limit m (Unbounded x r) = unbounded_run limit m x r

-- the verdict by the end of the checker's run: yes with what is known, no with the condition's number,
-- or past the limit
abbrev pub verdict_of : Run (Known ℚ) → Verdict ℚ
verdict_of (Ok known) = verdict.Yes known
verdict_of (Err (stop.No n)) = verdict.No n
verdict_of (Err (stop.Past p)) = verdict.Past p

-- run o ends as run u does, or o ends with a refused operation
unfoldable pub Agrees : {A : Type 0} → Run A → Run A → Type 0
Agrees o u = (o ≡ u) ⊎ ((p : Past ℚ) × (o ≡ Err (stop.Past p)))
