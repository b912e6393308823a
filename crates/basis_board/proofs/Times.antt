-- How often a number occurs in a list.
--
-- `times-append`: a number occurs in two lists together as often as in one and in the other.
-- `times_contains`: a number that occurs in a list is contained in it.
-- `contains_times`: a number that a list contains occurs in it.
-- `once_times`: in a list without repetitions each number occurs at most once.
-- `times_once`: a list in which each number occurs at most once has no repetitions.
use Rattle.std.proofs.Common.{◌≡◌, ℕ, zero, suc, ◌+◌, ◌<◌, ◌≤◌, List, [], ◌∷◌, ◌++◌, eqb, sym, ap, ◌∙◌, ⊎_elim, arith}
use Rattle.std.specs.List.{AllByRecursion, Contains}
use Rattle.std.proofs.lemmas.Bool.{cases_eq}
use Rattle.spec_board.specs.Orders.{InPairs}
use Rattle.basis_board.specs.Board.{times, one_if}
use Rattle.basis_board.proofs.Totals.{times_here, times_else}

pub times-append : (k : ℕ) (xs ys : List ℕ) → times k (xs ++ ys) ≡ times k xs + times k ys
times-append k [] ys = omega arith
times-append k (x ∷ xs) ys = let h = times-append k xs ys in omega arith

-- a number that is k counts once as k
is_here : (x k : ℕ) → x ≡ k → one_if (eqb x k) ≡ 1
is_here x k e = ap (λ z. one_if (eqb z k)) e ∙ times_here k

-- ---- a number stands in a list where it does so once or more

pub times_contains : (k : ℕ) (xs : List ℕ) → 0 < times k xs → Contains xs k
times_contains k [] some_time = absurd (omega arith)
times_contains k (x ∷ xs) some_time = ⊎_elim
    (λ (e : x ≡ k). (zero, omega arith, e))
    (λ (n : x ≡ k → ⊥). let z = times_else x k n in let h = times_contains k xs (omega arith) in
    (suc h.0, (let l = h.1 in omega arith), h.2))
    (cases_eq x k)

pub contains_times : (k : ℕ) (xs : List ℕ) → Contains xs k → 0 < times k xs
contains_times k [] (i, l, e) = absurd (omega arith)
contains_times k (x ∷ xs) (zero, l, e) = let h = is_here x k e in omega arith
contains_times k (x ∷ xs) (suc i, l, e) = let h = contains_times k xs (i, omega arith, e) in omega arith

-- ---- no number stands twice in a list where each does so once at most

-- where no element is k, k occurs 0 times
never : (k : ℕ) (xs : List ℕ) → AllByRecursion (λ j. k ≡ j → ⊥) xs → times k xs ≡ 0
never k [] h = omega arith
never k (x ∷ xs) h =
    let z = times_else x k (λ e. h.0 (sym e)) in let more = never k xs h.1 in omega arith

-- where k occurs 0 times, no element is k
never_back : (k : ℕ) (xs : List ℕ) → times k xs ≡ 0 → AllByRecursion (λ j. k ≡ j → ⊥) xs
never_back k [] h = tt
never_back k (x ∷ xs) h =
    ((λ e. (let one = is_here x k (sym e) in omega arith)), never_back k xs (omega arith))

pub once_times : (k : ℕ) (xs : List ℕ) → InPairs (λ i j. i ≡ j → ⊥) xs → times k xs ≤ 1
once_times k [] h = omega arith
once_times k (x ∷ xs) h = ⊎_elim
    (λ (e : x ≡ k). let one = is_here x k e in
    let more : times k xs ≡ 0 = ap (λ z. times z xs) (sym e) ∙ never x xs h.0 in omega arith)
    (λ (n : x ≡ k → ⊥). let z = times_else x k n in let more = once_times k xs h.1 in omega arith)
    (cases_eq x k)

pub times_once : (xs : List ℕ) → ((k : ℕ) → times k xs ≤ 1) → InPairs (λ i j. i ≡ j → ⊥) xs
times_once [] h = tt
times_once (x ∷ xs) h = (
  never_back x xs (let one = times_here x in let l = h x in omega arith),
  times_once xs (λ k. (let l = h k in omega arith)),
)
