-- What a loop finds first, among rows or columns in order.
--
-- `first_stops`: where nothing is found before k and the run at k is refused an operation, the whole search is refused
--   it.
-- `first_found`: where nothing is found before k and something at k, that is what the whole search finds.
-- `more_stays`: a row with more than one entry among the first k columns has more than one among more columns.
use Rattle.std.proofs.Common.{◌≡◌, ℕ, zero, suc, ◌<◌, ◌≤◌, Bool, true, false, cond, Option, Some, None, Ok, Err, ap, ◌∙◌, subst, arith}
use Rattle.std.proofs.Common.{⊎_elim}
use Rattle.std.proofs.lemmas.Bool.{cases_eq}
use Rattle.spec_exact.specs.Fraction.{ℚ, 0ℚ, eq_ℚ}
use Rattle.spec_exact.specs.declared.past.Past.{Past}
use Rattle.spec_exact.specs.Run.{Run, ◌>>=◌}
use Rattle.spec_exact.proofs.RunsInOrder.{steps_stop}
use Rattle.spec_model.specs.Model.{Model, coefficient}
use Rattle.spec_presolve.specs.declared.reduction.InRow.TheVariants.{More}
use Rattle.spec_presolve.specs.Choose.{unless, first, in_row_below, one_more}

-- nothing so far, and the run at k is refused
pub first_stops : {A : Type 0} (k n : ℕ) (f : ℕ → Run (Option A)) (p : Past ℚ) → k < n → first k f ≡ Ok None →
    f k ≡ Err p → first n f ≡ Err p
first_stops {A} k n f p l h e = steps_stop k n (λ k found. unless found (f k)) None None p l h e

-- nothing so far, and this at k
pub first_found : {A : Type 0} (k n : ℕ) (f : ℕ → Run (Option A)) (a : A) → k < n → first k f ≡ Ok None →
    f k ≡ Ok (Some a) → first n f ≡ Ok (Some a)
first_found k zero f a l h e = absurd (let z : ⊥ = omega (arith, l) in z)
first_found {A} k (suc n) f a l h e =
    ⊎_elim
    (λ q. subst (λ n. first (suc n) f ≡ Ok (Some a)) q
    (ap (λ o. o >>= λ found. unless found (f k)) h ∙ e))
    (λ o. ap (λ r. r >>= λ found. unless found (f n)) (first_found k n f a (omega (arith, l, o)) h e)) (cases_eq k n)

-- a row with more than one entry in the first k columns has more than one in the first k + 1
more_and_next : (m : Model) (i k : ℕ) → in_row_below m i k ≡ More → in_row_below m i (suc k) ≡ More
more_and_next m i k e = by (eq_ℚ (coefficient m i k) 0ℚ)
  where
    by : (t : Bool) → cond t (in_row_below m i k) (one_more (in_row_below m i k) k (coefficient m i k)) ≡ More
    by true = e
    by false = ap (λ found. one_more found k (coefficient m i k)) e

pub more_stays : (m : Model) (i k n : ℕ) → k ≤ n → in_row_below m i k ≡ More → in_row_below m i n ≡ More
more_stays m i k zero l e = let q : k ≡ 0 = omega (arith, l) in subst (λ n. in_row_below m i n ≡ More) q e
more_stays m i k (suc n) l e =
    ⊎_elim (λ q. subst (λ n. in_row_below m i n ≡ More) q e)
    (λ o. more_and_next m i n (more_stays m i k n (omega (arith, l, o)) e)) (cases_eq k (suc n))
