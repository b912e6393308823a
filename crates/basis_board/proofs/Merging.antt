-- The notes of all passes, in the order of their numbers.
use Rattle.std.proofs.Common.{◌≡◌, ℕ, zero, suc, ◌+◌, ◌<◌, ◌≤◌, ◌%◌, Bool, true, false, List, [], ◌∷◌}
use Rattle.std.proofs.Common.{nat_eq, eqb, eqb-true, eq-eqb, cond, refl, sym, ap, ◌∙◌, subst, ⊎_elim, arith}
use Rattle.std.specs.List.{filter, AllByRecursion}
use Rattle.std.proofs.lemmas.Bool.{cases_eq, eqb-false}
use Rattle.spec_board.specs.Places.{Logged}
use Rattle.basis_board.specs.declared.seats.RawRead.{RawRead}
use Rattle.basis_board.specs.Board.{total, one_if}
use Rattle.basis_board.proofs.Totals.{times_here, times_else}
use Rattle.basis_board.specs.PassReads.{exact_read}
use Rattle.basis_board.specs.Played.{of_read}

-- a note of a pass, with the session that it was made for
pub record Mark : Type 0 where
  pub number : ℕ
  pub words : List ℕ
  pub session : ℕ
  pub read : RawRead

-- the read of a mark, as the places' definitions have it, with its session
abbrev pub logged_of : Mark → Logged
logged_of x = of_read x.session (exact_read x.read)

-- how many of these marks have the number t
abbrev pub marked : ℕ → List Mark → ℕ
marked t xs = total (λ x. one_if (eqb x.number t)) xs

-- the numbers of these marks are at least t, and each is more than the one before it
abbrev pub Ascends : ℕ → List Mark → Type 0
Ascends t [] = Unit {0}
Ascends t (x ∷ xs) = (t ≤ x.number) × Ascends (x.number + 1) xs

-- the numbers of these marks are t, t + 1 and so on, in this order
abbrev pub CountsUp : ℕ → List Mark → Type 0
CountsUp t [] = Unit {0}
CountsUp t (x ∷ xs) = (x.number ≡ t) × CountsUp (t + 1) xs

-- ---- sums

-- f of each number below m, added up
abbrev pub sum_of : ℕ → (ℕ → ℕ) → ℕ
sum_of zero f = 0
sum_of (suc m) f = f 0 + sum_of m (λ i. f (suc i))

-- two functions that are equal below m have the same sum below m
sum_same : (m : ℕ) (f g : ℕ → ℕ) → ((i : ℕ) → i < m → f i ≡ g i) → sum_of m f ≡ sum_of m g
sum_same zero f g h = refl
sum_same (suc m) f g h =
    let a = h 0 (omega arith) in
    let b = sum_same m (λ i. f (suc i)) (λ i. g (suc i)) (λ i l. h (suc i) (omega arith)) in omega arith

-- the value at a number below m is at most the sum below m
sum_at : (m : ℕ) (f : ℕ → ℕ) (i : ℕ) → i < m → f i ≤ sum_of m f
sum_at zero f i l = absurd (omega arith)
sum_at (suc m) f zero l = omega arith
sum_at (suc m) f (suc i) l = let h = sum_at m (λ k. f (suc k)) i (omega arith) in omega arith

-- the values at two different numbers below m are together at most the sum below m
sum_two : (m : ℕ) (f : ℕ → ℕ) (i j : ℕ) → i < m → j < m → (i ≡ j → ⊥) → f i + f j ≤ sum_of m f
sum_two zero f i j l k n = absurd (omega arith)
sum_two (suc m) f zero zero l k n = absurd (n refl)
sum_two (suc m) f zero (suc j) l k n = let h = sum_at m (λ x. f (suc x)) j (omega arith) in omega arith
sum_two (suc m) f (suc i) zero l k n = let h = sum_at m (λ x. f (suc x)) i (omega arith) in omega arith
sum_two (suc m) f (suc i) (suc j) l k n =
    let h = sum_two m (λ x. f (suc x)) i j (omega arith) (omega arith) (λ e. n (ap suc e)) in omega arith

-- where the sum below m is not 0, some value below m is not 0
sum_some : (m : ℕ) (f : ℕ → ℕ) → 1 ≤ sum_of m f → (i : ℕ) × (i < m) × (1 ≤ f i)
sum_some zero f l = absurd (omega arith)
sum_some (suc m) f l =
    ⊎_elim (λ (e : f 0 ≡ 0). let h = sum_some m (λ i. f (suc i)) (omega arith) in (suc h.0, omega arith, h.2))
    (λ (n : f 0 ≡ 0 → ⊥). (0, omega arith, omega arith)) (cases_eq (f 0) 0)

-- ---- one list

-- in numbers that ascend from t, no number below t occurs
pub none_before : (t s : ℕ) (xs : List Mark) → Ascends t xs → s < t → marked s xs ≡ 0
none_before t s [] a l = refl
none_before t s (x ∷ xs) a l =
    let first = a.0 in
    let z = times_else x.number s (λ e. omega arith) in
    let r = none_before (x.number + 1) s xs a.1 (omega arith) in omega arith

-- the list begins with a mark of number t, and the numbers behind it ascend from t + 1
record Head (t : ℕ) (xs : List Mark) : Type 0 where
  mark : Mark
  rest : List Mark
  all : xs ≡ mark ∷ rest
  is : mark.number ≡ t
  on : Ascends (t + 1) rest

-- where numbers ascend from t and t occurs, the first one is t
head_is : (t : ℕ) (xs : List Mark) → Ascends t xs → 1 ≤ marked t xs → Head t xs
head_is t [] a m = absurd (omega arith)
head_is t (x ∷ xs) a m =
    ⊎_elim
    (λ (e : x.number ≡ t). record {
      mark = x;
      rest = xs;
      all = refl;
      is = e;
      on = subst (λ (n : ℕ). Ascends (n + 1) xs) e a.1;
    })
    (λ (n : x.number ≡ t → ⊥). let first = a.0 in let z = times_else x.number t n in
    let r = none_before (x.number + 1) t xs a.1 (omega arith) in absurd (omega arith))
    (cases_eq x.number t)

-- numbers that ascend from t without t itself ascend from t + 1
from_next : (t : ℕ) (xs : List Mark) → Ascends t xs → marked t xs ≡ 0 → Ascends (t + 1) xs
from_next t [] a m = tt
from_next t (x ∷ xs) a m =
    ⊎_elim
    (λ (e : x.number ≡ t). let one : one_if (eqb x.number t) ≡ 1 =
    ap (λ (n : ℕ). one_if (eqb n t)) e ∙ times_here t in absurd (omega arith))
    (λ (n : x.number ≡ t → ⊥). let first = a.0 in (omega arith, a.1))
    (cases_eq x.number t)

-- ---- the lists of all workers

module _ (workers : ℕ) where
  -- the mark is of a session that worker i serves
  abbrev IsOwn : ℕ → Mark → Type 0
  IsOwn i x = x.session % workers ≡ i

  -- the marks of the sessions that worker i serves, in their order
  abbrev pub part : ℕ → List Mark → List Mark
  part i xs = filter (λ x. nat_eq (x.session % workers) i) xs

  -- one list of marks whose numbers count up from t, in which each worker's part is what that worker had
  pub record Merged (t : ℕ) (had : ℕ → List Mark) : Type 0 where
    pub all : List Mark
    pub counts : CountsUp t all
    pub parts : (i : ℕ) → i < workers → part i all ≡ had i

  -- what workers had, less the first one of this worker
  abbrev less : ℕ → List Mark → (ℕ → List Mark) → ℕ → List Mark
  less i rest had j = cond (nat_eq i j) rest (had j)

  module _ (t : ℕ) (had : ℕ → List Mark) (i : ℕ) (head : Head t (had i)) where
    -- what holds of the rest of one worker's list, and of each other worker's list, holds of each worker's list once
    -- the first mark is left out of that one
    left_have : (P : ℕ → List Mark → Type 0) → P i head.rest →
        ((j : ℕ) → (i ≡ j → ⊥) → j < workers → P j (had j)) → (j : ℕ) → j < workers → P j (less i head.rest had j)
    left_have P mine others j l = by (nat_eq i j) refl
      where
        by : (b : Bool) → nat_eq i j ≡ b → P j (cond b head.rest (had j))
        by true e = subst (λ (k : ℕ). P k head.rest) (eqb-true i j e) mine
        by false e = others j (eqb-false i j e) l

    -- where a worker's first mark is put in front of the merged rest, each worker's part is what it had
    parts_more : (r : Merged (t + 1) (less i head.rest had)) → IsOwn i head.mark → (j : ℕ) → j < workers →
        part j (head.mark ∷ r.all) ≡ had j
    parts_more r mine j l =
        ap (λ n. cond (nat_eq n j) (head.mark ∷ part j r.all) (part j r.all)) mine
        ∙ ap (λ xs. cond (nat_eq i j) (head.mark ∷ xs) xs) (r.parts j l)
        ∙ by (nat_eq i j) refl
      where
        by : (b : Bool) → nat_eq i j ≡ b →
            cond b (head.mark ∷ cond b head.rest (had j)) (cond b head.rest (had j)) ≡ had j
        by true e = sym head.all ∙ ap had (eqb-true i j e)
        by false e = refl

  -- marks whose numbers ascend from t, and are none of those from t on, are no marks
  none_left : (t : ℕ) (i : ℕ) (xs : List Mark) → Ascends t xs →
      ((s : ℕ) → t ≤ s → marked s xs ≡ 0) → [] ≡ xs
  none_left t i [] a h = refl
  none_left t i (x ∷ xs) a h = let z = h x.number a.0 in let one = times_here x.number in absurd (omega arith)

  -- lists of workers, each ascending from t, that have each number from t up to t + `many` once together, and no other,
  -- are the parts of one list that counts up
  pub merged : (many t : ℕ) (had : ℕ → List Mark) → ((i : ℕ) → i < workers → Ascends t (had i)) →
      ((i : ℕ) → i < workers → AllByRecursion (IsOwn i) (had i)) →
      ((s : ℕ) → t ≤ s → s < t + many → sum_of workers (λ i. marked s (had i)) ≡ 1) →
      ((s : ℕ) → t + many ≤ s → sum_of workers (λ i. marked s (had i)) ≡ 0) → Merged t had
  merged zero t had asc own one none = record {
    all = [];
    counts = tt;
    parts = λ i l. none_left t i (had i) (asc i l)
        (λ s from. (let z = none s (omega arith) in let h = sum_at workers (λ k. marked s (had k)) i l in omega arith));
  }
  merged (suc many) t had asc own one none =
      let now = one t (omega arith) (omega arith) in
      let first = sum_some workers (λ k. marked t (had k)) (omega arith) in
      let i : ℕ = first.0 in
      let head : Head t (had i) = head_is t (had i) (asc i first.1) first.2 in
      let mine : AllByRecursion (IsOwn i) (head.mark ∷ head.rest) =
      subst (AllByRecursion (IsOwn i)) head.all (own i first.1) in
      let rest : ℕ → List Mark = less i head.rest had in
      let same : (s : ℕ) → t + 1 ≤ s →
      sum_of workers (λ k. marked s (rest k)) ≡ sum_of workers (λ k. marked s (had k)) =
      λ s l. sum_same workers (λ k. marked s (rest k)) (λ k. marked s (had k))
      (left_have t had i head (λ k xs. marked s xs ≡ marked s (had k))
      (let z = times_else head.mark.number s (λ e. (let is = head.is in omega arith)) in
      let all : marked s (had i) ≡ one_if (eqb head.mark.number s) + marked s head.rest = ap (marked s) head.all in
      omega arith)
      (λ j n k. refl)) in
      let more : Merged (t + 1) rest = merged many (t + 1) rest
      (left_have t had i head (λ k xs. Ascends (t + 1) xs) head.on
      (λ j n l. from_next t (had j) (asc j l)
      (let two = sum_two workers (λ k. marked t (had k)) i j first.1 l n in
      let some = first.2 in omega arith)))
      (left_have t had i head (λ k xs. AllByRecursion (IsOwn k) xs) mine.1 (λ j n l. own j l))
      (λ s a b. same s a ∙ one s (omega arith) (omega arith))
      (λ s a. same s (omega arith) ∙ none s (omega arith)) in
      record {
        all = head.mark ∷ more.all;
        counts = (head.is, more.counts);
        parts = parts_more t had i head more mine.0;
      }

  -- ---- what holds of all

  -- what holds of a list with x or without it holds of the list
  part_rest : (P : Mark → Type 0) (x : Mark) (xs : List Mark) (b : Bool) → AllByRecursion P (cond b (x ∷ xs) xs) →
      AllByRecursion P xs
  part_rest P x xs true h = h.1
  part_rest P x xs false h = h

  -- what holds of each element of each worker's part of a list holds of each element of the list
  pub holds_of_all : (P : Mark → Type 0) (xs : List Mark) → ((n : ℕ) → n % workers < workers) →
      ((i : ℕ) → i < workers → AllByRecursion P (part i xs)) → AllByRecursion P xs
  holds_of_all P [] some h = tt
  holds_of_all P (x ∷ xs) some h =
      let own : ℕ = x.session % workers in
      let mine = h own (some x.session) in
      let first : AllByRecursion P (x ∷ part own xs) =
      subst (λ (b : Bool). AllByRecursion P (cond b (x ∷ part own xs) (part own xs))) (eq-eqb own own refl) mine in (
        first.0,
        holds_of_all P xs some (λ i l. part_rest P x (part i xs) (nat_eq own i) (h i l)),
      )
