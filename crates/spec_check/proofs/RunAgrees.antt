-- At a limit the run is the run without one, or an operation is refused.
use Rattle.std.proofs.Common.{◌≡◌, inl, inr, ⊎_elim, ℕ, zero, suc, List, Option, Some, None}
use Rattle.std.proofs.Common.{Ok, Err, Bool, true, false, cond, refl, sym, ap, ◌∙◌, subst, subst₂}
use Rattle.std.specs.Prelude.{⊤}
use Rattle.spec_exact.specs.Fraction.{ℚ, 0ℚ, ◌+ℚ◌, ◌-ℚ◌, ◌*ℚ◌, lt_ℚ, abs_ℚ}
use Rattle.spec_exact.specs.Limit.{add, sub, mul, compare, order}
use Rattle.spec_exact.specs.declared.past.Op.{Op}
use Rattle.spec_exact.specs.declared.past.Op.TheVariants.{Add, Sub, Mul, Cmp}
use Rattle.spec_exact.proofs.Limit.{add_gives, add_unlimited, sub_gives, sub_unlimited, mul_gives, mul_unlimited}
use Rattle.spec_exact.proofs.Compare.{compare_gives, compare_unlimited}
use Rattle.spec_exact.specs.Answer.{told}
use Rattle.spec_exact.specs.Run.{◌>>=◌, refused_as, steps}
use Rattle.spec_model.specs.declared.parts.RowLimit.{RowLimit}
use Rattle.spec_model.specs.declared.parts.RowLimit.TheVariants.{Absent, Given, Sum, Difference}
use Rattle.spec_model.specs.Model.{Model, ExactRow, Limits, width, height, bounds, cost, coefficient, part}
use Rattle.spec_model.specs.Model.{row, lower_of, upper_of, limit_run}
use Rattle.spec_check.specs.declared.certificate.Certificate.{Certificate}
use Rattle.spec_check.specs.declared.certificate.Certificate.TheVariants.{Optimal, Infeasible, Clash, Unbounded}
use Rattle.spec_check.specs.declared.certificate.CheckStop.TheVariants as stop
use Rattle.spec_check.specs.Checks.{signed, turned_limits}
use Rattle.spec_check.specs.Run.{Run, Agrees, step, each, plus_product, less_product}
use Rattle.spec_check.specs.Run.{sum_run, lower_run, upper_run, at_least}
use Rattle.spec_check.specs.Run.{at_most, column_within_run, activity_run, row_within_run, reduced_run}
use Rattle.spec_check.specs.Run.{column_tight_run, row_tight_run, value_run, optimal_run, check_run}
use Rattle.spec_check.specs.Run.{weighed_at, weighed, row_asks_run, priced_run, column_gives_run, infeasible_run}
use Rattle.spec_check.specs.Run.{crossed_run, clash_run, row_allows_run, better_run, unbounded_run}
use Rattle.spec_check.proofs.StoppedRuns.{plus_is, less_is}

-- a run agrees with itself
same : {A : Type 0} (o : Run A) → Agrees o o
unfolding Agrees
same o = inl refl

-- where two next steps agree on each result, one run followed by either of them agrees
goes_on : {A B : Type 0} (o : Run A) (f g : A → Run B) → ((a : A) → Agrees (f a) (g a)) → Agrees (o >>= f) (o >>= g)
unfolding Agrees
goes_on (Ok a) f g h = h a
goes_on (Err e) f g h = inl refl

-- where two runs agree, and their next steps agree on each result, the runs with these steps agree
after_agrees : {A B : Type 0} (o u : Run A) (f g : A → Run B) → Agrees o u → ((a : A) → Agrees (f a) (g a)) →
    Agrees (o >>= f) (u >>= g)
unfolding Agrees
after_agrees o u f g h k =
    ⊎_elim
    (λ e. subst (λ z. Agrees (z >>= f) (u >>= g)) (sym e) (goes_on u f g k))
    (λ p. inr (p.0, ap (λ z. z >>= f) p.1))
    h

-- an operation that gives nothing but y, or is refused, agrees with the operation that gives y
step_agrees : {A : Type 0} (op : Op) (v w : ℚ) (a b : Option A) (y : A) → ((x : A) → a ≡ Some x → x ≡ y) → b ≡ Some y →
    Agrees (step op v w a) (step op v w b)
unfolding Agrees
step_agrees op v w (Some x) b y g u = inl (ap (λ z. step op v w z) (ap Some (g x refl) ∙ sym u))
step_agrees op v w None b y g u = inr (record { op = op; a = v; b = w }, refl)

-- a row's limit from an operation that gives nothing but y, or is refused, agrees with the limit y
some_agrees : (op : Op) (v w : ℚ) (a b : Option ℚ) (y : ℚ) → ((x : ℚ) → a ≡ Some x → x ≡ y) → b ≡ Some y →
    Agrees (refused_as stop.Past (told op v w a >>= λ s. Ok (Some s)))
    (refused_as stop.Past (told op v w b >>= λ s. Ok (Some s)))
unfolding Agrees
some_agrees op v w (Some x) b y g u =
    inl (ap (λ z. refused_as stop.Past (told op v w z >>= λ s. Ok (Some s))) (ap Some (g x refl) ∙ sym u))
some_agrees op v w None b y g u = inr (record { op = op; a = v; b = w }, refl)

-- where the runs on either side of a test agree, the choices between them agree
choice_agrees : {A : Type 0} (t : Bool) (a b c d : Run A) → Agrees a c → Agrees b d → Agrees (cond t a b) (cond t c d)
choice_agrees true a b c d h k = h
choice_agrees false a b c d h k = k

-- where two tests agree at each index, testing all indexes below n agrees
each_agrees : (n : ℕ) (f g : ℕ → Run ⊤) → ((i : ℕ) → Agrees (f i) (g i)) → Agrees (each n f) (each n g)
each_agrees zero f g h = same (Ok tt)
each_agrees (suc n) f g h = after_agrees (each n f) (each n g) (λ _. f n) (λ _. g n) (each_agrees n f g h) (λ _. h n)

-- where two steps agree at each index and number, n of them from the same number agree
steps_agrees : (s : ℚ) (n : ℕ) (f g : ℕ → ℚ → Run ℚ) → ((i : ℕ) (u : ℚ) → Agrees (f i u) (g i u)) →
    Agrees (steps n f s) (steps n g s)
steps_agrees s zero f g h = same (Ok s)
steps_agrees s (suc n) f g h =
    after_agrees (steps n f s) (steps n g s) (λ u. f n u) (λ u. g n u) (steps_agrees s n f g h) (λ u. h n u)

module _ (limit : Option ℕ) where
  add_agrees : (v w : ℚ) → Agrees (step Add v w (add limit v w)) (step Add v w (add None v w))
  add_agrees v w =
      step_agrees Add v w (add limit v w) (add None v w) (v +ℚ w) (λ x e. add_gives limit v w x e) (add_unlimited v w)

  sub_agrees : (v w : ℚ) → Agrees (step Sub v w (sub limit v w)) (step Sub v w (sub None v w))
  sub_agrees v w =
      step_agrees Sub v w (sub limit v w) (sub None v w) (v -ℚ w) (λ x e. sub_gives limit v w x e) (sub_unlimited v w)

  mul_agrees : (v w : ℚ) → Agrees (step Mul v w (mul limit v w)) (step Mul v w (mul None v w))
  mul_agrees v w =
      step_agrees Mul v w (mul limit v w) (mul None v w) (v *ℚ w) (λ x e. mul_gives limit v w x e) (mul_unlimited v w)

  compare_agrees : (v w : ℚ) → Agrees (step Cmp v w (compare limit v w)) (step Cmp v w (compare None v w))
  compare_agrees v w =
      step_agrees Cmp v w (compare limit v w) (compare None v w) (order v w)
      (λ x e. compare_gives limit v w x e) (compare_unlimited v w)

  plus_agrees : (v w s : ℚ) → Agrees (plus_product limit v w s) (plus_product None v w s)
  plus_agrees v w s =
      subst₂ Agrees (sym (plus_is limit v w s)) (sym (plus_is None v w s))
      (after_agrees _ _ _ _ (mul_agrees v w) (λ p. add_agrees s p))

  less_agrees : (v w s : ℚ) → Agrees (less_product limit v w s) (less_product None v w s)
  less_agrees v w s =
      subst₂ Agrees (sym (less_is limit v w s)) (sym (less_is None v w s))
      (after_agrees _ _ _ _ (mul_agrees v w) (λ p. sub_agrees s p))

  sum_agrees : (n : ℕ) (f g : ℕ → ℚ) → Agrees (sum_run limit n f g) (sum_run None n f g)
  sum_agrees n f g = steps_agrees 0ℚ n _ _ (λ k s. plus_agrees (f k) (g k) s)

  -- at a limit on numbers a row's limit comes out as without one, or its operation is refused
  limit_agrees : (o : RowLimit ℚ) →
      Agrees (refused_as stop.Past (limit_run limit o)) (refused_as stop.Past (limit_run None o))
  limit_agrees Absent = same _
  limit_agrees (Given v) = same _
  limit_agrees (Sum v w) =
      some_agrees Add v w (add limit v w) (add None v w) (v +ℚ w) (λ x e. add_gives limit v w x e) (add_unlimited v w)
  limit_agrees (Difference v w) =
      some_agrees Sub v w (sub limit v w) (sub None v w) (v -ℚ w) (λ x e. sub_gives limit v w x e) (sub_unlimited v w)

  lower_agrees : (r : ExactRow) → Agrees (lower_run limit r) (lower_run None r)
  lower_agrees r = limit_agrees (lower_of r)

  upper_agrees : (r : ExactRow) → Agrees (upper_run limit r) (upper_run None r)
  upper_agrees r = limit_agrees (upper_of r)

  least_agrees : (n : ℕ) (o : Option ℚ) (v : ℚ) → Agrees (at_least n limit o v) (at_least n None o v)
  least_agrees n None v = same _
  least_agrees n (Some k) v = after_agrees _ _ _ _ (compare_agrees v k) (λ o. same _)

  most_agrees : (n : ℕ) (o : Option ℚ) (v : ℚ) → Agrees (at_most n limit o v) (at_most n None o v)
  most_agrees n None v = same _
  most_agrees n (Some k) v = after_agrees _ _ _ _ (compare_agrees v k) (λ o. same _)

  -- at a limit on numbers condition 1 of a column ends as without one, or a comparison is refused
  column_within_agrees : (m : Model) (x : List ℚ) (j : ℕ) →
      Agrees (column_within_run limit m x j) (column_within_run None m x j)
  column_within_agrees m x j =
      after_agrees _ _ _ _ (least_agrees 1 (bounds m j).lower (part x j))
      (λ _. most_agrees 1 (bounds m j).upper (part x j))

  activity_agrees : (m : Model) (z : List ℚ) (i : ℕ) → Agrees (activity_run limit m z i) (activity_run None m z i)
  activity_agrees m z i = sum_agrees (width m) (λ j. coefficient m i j) (λ j. part z j)

  row_within_agrees : (m : Model) (x : List ℚ) (i : ℕ) → Agrees (row_within_run limit m x i) (row_within_run None m x i)
  row_within_agrees m x i =
      after_agrees _ _ _ _ (activity_agrees m x i) (λ v.
      after_agrees _ _ _ _ (lower_agrees (row m i)) (λ l. after_agrees _ _ _ _ (least_agrees 2 l v) (λ _.
      after_agrees _ _ _ _ (upper_agrees (row m i)) (λ u. most_agrees 2 u v))))

  -- at a limit on numbers a reduced cost comes out as without one, or an operation is refused
  reduced_agrees : (m : Model) (y : List ℚ) (j : ℕ) → Agrees (reduced_run limit m y j) (reduced_run None m y j)
  reduced_agrees m y j =
      steps_agrees (signed m.sense (cost m j)) (height m) _ _ (λ i d. less_agrees (part y i) (coefficient m i j) d)

  column_tight_agrees : (m : Model) (x y : List ℚ) (j : ℕ) →
      Agrees (column_tight_run limit m x y j) (column_tight_run None m x y j)
  column_tight_agrees m x y j = after_agrees _ _ _ _ (reduced_agrees m y j) (λ d. same _)

  row_tight_agrees : (m : Model) (x y : List ℚ) (i : ℕ) →
      Agrees (row_tight_run limit m x y i) (row_tight_run None m x y i)
  row_tight_agrees m x y i =
      choice_agrees (lt_ℚ 0ℚ (part y i)) _ _ _ _
      (after_agrees _ _ _ _ (activity_agrees m x i) (λ v. after_agrees _ _ _ _ (lower_agrees (row m i)) (λ l. same _)))
      (choice_agrees (lt_ℚ (part y i) 0ℚ) _ _ _ _
      (after_agrees _ _ _ _ (activity_agrees m x i) (λ v. after_agrees _ _ _ _ (upper_agrees (row m i)) (λ u. same _)))
      (same (Ok tt)))

  value_agrees : (m : Model) (z : List ℚ) → Agrees (value_run limit m z) (value_run None m z)
  value_agrees m z = after_agrees _ _ _ _ (sum_agrees (width m) (cost m) (λ j. part z j)) (λ s. add_agrees s m.offset)

  optimal_agrees : (m : Model) (x y : List ℚ) → Agrees (optimal_run limit m x y) (optimal_run None m x y)
  optimal_agrees m x y =
      after_agrees _ _ _ _ (each_agrees (width m) _ _ (column_within_agrees m x)) (λ _.
      after_agrees _ _ _ _ (each_agrees (height m) _ _ (row_within_agrees m x)) (λ _.
      after_agrees _ _ _ _ (each_agrees (width m) _ _ (column_tight_agrees m x y)) (λ _.
      after_agrees _ _ _ _ (each_agrees (height m) _ _ (row_tight_agrees m x y)) (λ _.
      after_agrees _ _ _ _ (value_agrees m x) (λ v. same _)))))

  -- at a limit on numbers s + d * b comes out, or lacks b, as without one, or an operation is refused
  weighed_at_agrees : (n : ℕ) (d : ℚ) (o : Option ℚ) (s : ℚ) →
      Agrees (weighed_at n limit d o s) (weighed_at n None d o s)
  weighed_at_agrees n d None s = same _
  weighed_at_agrees n d (Some b) s = plus_agrees d b s

  row_asks_agrees : (m : Model) (y : List ℚ) (i : ℕ) (s : ℚ) →
      Agrees (row_asks_run limit m y i s) (row_asks_run None m y i s)
  row_asks_agrees m y i s =
      choice_agrees (lt_ℚ 0ℚ (part y i)) _ _ _ _
      (after_agrees _ _ _ _ (lower_agrees (row m i)) (λ l. weighed_at_agrees 1 (part y i) l s))
      (choice_agrees (lt_ℚ (part y i) 0ℚ) _ _ _ _
      (after_agrees _ _ _ _ (upper_agrees (row m i)) (λ u. weighed_at_agrees 1 (part y i) u s))
      (same (Ok s)))

  weighed_agrees : (n : ℕ) (l : Limits) (d s : ℚ) → Agrees (weighed n limit l d s) (weighed n None l d s)
  weighed_agrees n l d s =
      choice_agrees (lt_ℚ 0ℚ d) _ _ _ _ (weighed_at_agrees n d l.lower s)
      (choice_agrees (lt_ℚ d 0ℚ) _ _ _ _ (weighed_at_agrees n d l.upper s) (same (Ok s)))

  priced_agrees : (m : Model) (y : List ℚ) (j : ℕ) → Agrees (priced_run limit m y j) (priced_run None m y j)
  priced_agrees m y j = sum_agrees (height m) (λ i. part y i) (λ i. coefficient m i j)

  column_gives_agrees : (m : Model) (y : List ℚ) (j : ℕ) (s : ℚ) →
      Agrees (column_gives_run limit m y j s) (column_gives_run None m y j s)
  column_gives_agrees m y j s =
      after_agrees _ _ _ _ (priced_agrees m y j) (λ g. weighed_agrees 2 (turned_limits (bounds m j)) g s)

  infeasible_agrees : (m : Model) (y : List ℚ) → Agrees (infeasible_run limit m y) (infeasible_run None m y)
  infeasible_agrees m y =
      after_agrees _ _ _ _ (steps_agrees 0ℚ (height m) _ _ (row_asks_agrees m y)) (λ asked.
      after_agrees _ _ _ _ (steps_agrees 0ℚ (width m) _ _ (column_gives_agrees m y)) (λ given.
      after_agrees _ _ _ _ (compare_agrees given asked) (λ o. same _)))

  crossed_agrees : (l u : Option ℚ) → Agrees (crossed_run limit l u) (crossed_run None l u)
  crossed_agrees None u = same _
  crossed_agrees (Some l) None = same _
  crossed_agrees (Some l) (Some u) = after_agrees _ _ _ _ (compare_agrees l u) (λ o. same _)

  clash_agrees : (m : Model) (j : ℕ) → Agrees (clash_run limit m j) (clash_run None m j)
  clash_agrees m j = after_agrees _ _ _ _ (crossed_agrees (bounds m j).lower (bounds m j).upper) (λ _. same _)

  -- at a limit on numbers condition 4 of a ray at a row ends as without one, or an operation is refused
  row_allows_agrees : (m : Model) (r : List ℚ) (i : ℕ) → Agrees (row_allows_run limit m r i) (row_allows_run None m r i)
  row_allows_agrees m r i =
      after_agrees _ _ _ _ (activity_agrees m r i) (λ s.
      after_agrees _ _ _ _ (lower_agrees (row m i)) (λ l. after_agrees _ _ _ _ (same _) (λ _.
      after_agrees _ _ _ _ (upper_agrees (row m i)) (λ u. same _))))

  better_agrees : (m : Model) (r : List ℚ) → Agrees (better_run limit m r) (better_run None m r)
  better_agrees m r = after_agrees _ _ _ _ (sum_agrees (width m) (cost m) (λ j. part r j)) (λ s. same _)

  unbounded_agrees : (m : Model) (x r : List ℚ) → Agrees (unbounded_run limit m x r) (unbounded_run None m x r)
  unbounded_agrees m x r =
      after_agrees _ _ _ _ (each_agrees (width m) _ _ (column_within_agrees m x)) (λ _.
      after_agrees _ _ _ _ (each_agrees (height m) _ _ (row_within_agrees m x)) (λ _.
      after_agrees _ _ _ _ (same _) (λ _.
      after_agrees _ _ _ _ (each_agrees (height m) _ _ (row_allows_agrees m r)) (λ _.
      after_agrees _ _ _ _ (better_agrees m r) (λ _. same _)))))

  pub run_agrees : (m : Model) (cert : Certificate (List ℚ)) → Agrees (check_run limit m cert) (check_run None m cert)
  unfolding check_run
  run_agrees m (Optimal x y) = optimal_agrees m x y
  run_agrees m (Infeasible y) = infeasible_agrees m y
  run_agrees m (Clash j) = clash_agrees m j
  run_agrees m (Unbounded x r) = unbounded_agrees m x r
