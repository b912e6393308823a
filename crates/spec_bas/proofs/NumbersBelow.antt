-- The numbers below a bound that pass a test, in order, and how many they are.
--
-- `all_front`: what holds of all items of two lists holds of all items of the first.
-- `all_back`: what holds of all items of two lists holds of all items of the second.
-- `all_named`: what holds of all images of a list under a function holds of the image of each item.
-- `all_zip`: what holds of all items of two lists holds of the two parts of each pair of them.
-- `basics_chosen`: the chosen basic columns below n are as many as the basic columns that are counted below n.
-- `others_chosen`: the basic columns below c + n and the nonbasic ones of the last n together are n more than the basic
--   ones below c.
use Rattle.std.proofs.Common.{◌≡◌, ◌≢◌, ℕ, zero, suc, ◌+◌, ◌<◌, ◌⊎◌, inl, inr, Bool, true, false, not, cond}
use Rattle.std.proofs.Common.{List, [], ◌∷◌, ◌++◌, length, map, get_or, All, refl, sym, ap, ◌∙◌, subst, arith}
use Rattle.std.proofs.Common.{length-append}
use Rattle.std.specs.List.{AllPairs, zip}
use Rattle.std.proofs.lemmas.Bool.{cases_eq}
use Rattle.std.proofs.lemmas.List.Elements.{All-nil, All-cons, All-tail, All-append, filter-append}
use Rattle.std.proofs.lemmas.List.Kept.{AllPairs-filter}
use Rattle.spec_pivot.specs.declared.status.Status.{Status}
use Rattle.spec_exact.specs.Run.{made}
use Rattle.spec_simplex.specs.Tableau.{is_basic}
use Rattle.spec_simplex.specs.Eliminate.{basis_at, basics_below}
use Rattle.spec_exact.proofs.RunsInOrder.{length-made, get_or-made}
use Rattle.spec_bas.specs.Written.{chosen}

-- ---- lists

pub all_front : {A : Type 0} (P : A → Type 0) (xs ys : List A) → All P (xs ++ ys) → All P xs
all_front P [] ys h = All-nil P
all_front P (x ∷ xs) ys h =
    All-cons P x xs (h 0 x (omega arith)) (all_front P xs ys (All-tail P x (xs ++ ys) h))

pub all_back : {A : Type 0} (P : A → Type 0) (xs ys : List A) → All P (xs ++ ys) → All P ys
all_back P [] ys h = h
all_back P (x ∷ xs) ys h = all_back P xs ys (All-tail P x (xs ++ ys) h)

pub all_named : {A B : Type 0} (P : B → Type 0) (f : A → B) (xs : List A) → All P (map f xs) → All (λ x. P (f x)) xs
all_named P f [] h = All-nil (λ x. P (f x))
all_named P f (x ∷ xs) h =
    All-cons (λ x. P (f x)) x xs (h 0 (f x) (omega arith)) (all_named P f xs (All-tail P (f x) (map f xs) h))

pub all_zip : {A B : Type 0} (P : A → Type 0) (Q : B → Type 0) (xs : List A) (ys : List B) → All P xs → All Q ys →
    All (λ (p : A × B). P p.0 × Q p.1) (zip xs ys)
all_zip P Q [] ys h k = All-nil (λ p. P p.0 × Q p.1)
all_zip P Q (x ∷ xs) [] h k = All-nil (λ p. P p.0 × Q p.1)
all_zip P Q (x ∷ xs) (y ∷ ys) h k =
    All-cons (λ p. P p.0 × Q p.1) (x, y) (zip xs ys) (h 0 x (omega arith), k 0 y (omega arith))
    (all_zip P Q xs ys (All-tail P x xs h) (All-tail Q y ys k))

-- ---- what is chosen

module _ (test : ℕ → Bool) where
  -- the numbers below n + 1 that pass a test are those below n, and n behind them if it passes
  pub chosen_more : (n : ℕ) → chosen (suc n) test ≡ chosen n test ++ cond (test n) (n ∷ []) []
  chosen_more n = filter-append test (made n (λ k. k)) (n ∷ [])

  -- what holds of each number below n that passes a test holds of all that are chosen below n
  pub chosen_all : (P : ℕ → Type 0) (n : ℕ) → ((k : ℕ) → k < n → test k ≡ true → P k) → All P (chosen n test)
  chosen_all P zero h = All-nil P
  chosen_all P (suc n) h =
      subst (All P) (sym (chosen_more n))
      (All-append P (chosen n test) (cond (test n) (n ∷ []) [])
      (chosen_all P n (λ k l e. h k (omega arith) e)) (last (test n) refl))
    where
      last : (b : Bool) → test n ≡ b → All P (cond b (n ∷ []) [])
      last true e = All-cons P n [] (h n (omega arith) e) (All-nil P)
      last false e = All-nil P

  -- a number below n that is not among those chosen below n does not pass the test
  pub chosen_missing : (n j : ℕ) → All (λ i. i ≢ j) (chosen n test) → j < n → test j ≡ false
  chosen_missing zero j h l = absurd (omega arith)
  chosen_missing (suc n) j h l =
      by (λ ne. chosen_missing n j (all_front (λ i. i ≢ j) (chosen n test) (cond (test n) (n ∷ []) []) parts) ne)
      (cases_eq n j)
    where
      parts : All (λ i. i ≢ j) (chosen n test ++ cond (test n) (n ∷ []) [])
      parts = subst (All (λ i. i ≢ j)) (chosen_more n) h

      last : (b : Bool) → All (λ i. i ≢ j) (cond b (n ∷ []) []) → n ≡ j → b ≡ false
      last true g e = absurd (g 0 n (omega arith) e)
      last false g e = refl

      by : (j < n → test j ≡ false) → (n ≡ j) ⊎ (n ≡ j → ⊥) → test j ≡ false
      by before (inl e) =
          ap test (sym e)
          ∙ last (test n) (all_back (λ i. i ≢ j) (chosen n test) (cond (test n) (n ∷ []) []) parts) e
      by before (inr ne) = before (omega arith)

  -- no number stands twice among those below n that pass a test
  pub chosen_once : (n : ℕ) → AllPairs (λ i k. i ≢ k) (chosen n test)
  chosen_once n = AllPairs-filter (λ i k. i ≢ k) test (made n (λ k. k)) apart
    where
      apart : AllPairs (λ i k. i ≢ k) (made n (λ k. k))
      apart i k d l r e =
          let long : length (made n (λ k. k)) ≡ n = length-made n (λ k. k) in
          let a : get_or (made n (λ k. k)) i d ≡ i = get_or-made n (λ k. k) i d (omega arith) in
          let b : get_or (made n (λ k. k)) k d ≡ k = get_or-made n (λ k. k) k d (omega arith) in
          omega arith

  -- the numbers below n + 1 that pass a test are as many as those below n, and one more if n passes
  pub length-chosen : (n : ℕ) → length (chosen (suc n) test) ≡ length (chosen n test) + cond (test n) 1 0
  length-chosen n =
      ap length (chosen_more n) ∙ length-append (chosen n test) (cond (test n) (n ∷ []) [])
      ∙ ap (λ k. length (chosen n test) + k) (last (test n))
    where
      last : (b : Bool) → length (cond b (n ∷ []) []) ≡ cond b 1 0
      last true = refl
      last false = refl

-- ---- how many columns are basic

pub basics_chosen : (basis : List Status) (n : ℕ) →
    length (chosen n (λ j. is_basic (basis_at basis j))) ≡ basics_below basis n
basics_chosen basis zero = refl
basics_chosen basis (suc n) =
    length-chosen (λ j. is_basic (basis_at basis j)) n
    ∙ ap (λ k. k + cond (is_basic (basis_at basis n)) 1 0) (basics_chosen basis n)

-- each of the next n columns is basic or not
pub others_chosen : (basis : List Status) (c n : ℕ) →
    basics_below basis (c + n) + length (chosen n (λ i. not (is_basic (basis_at basis (c + i))))) ≡
    basics_below basis c + n
others_chosen basis c zero =
    let z : c + 0 ≡ c = omega arith in
    let e : basics_below basis (c + 0) ≡ basics_below basis c = ap (basics_below basis) z in
    omega arith
others_chosen basis c (suc n) =
    let rest = others_chosen basis c n in
    let more = length-chosen (λ i. not (is_basic (basis_at basis (c + i)))) n in
    let z : c + suc n ≡ suc (c + n) = omega arith in
    let e : basics_below basis (c + suc n) ≡ basics_below basis (suc (c + n)) = ap (basics_below basis) z in
    let one = one (is_basic (basis_at basis (c + n))) in
    omega arith
  where
    one : (b : Bool) → cond b 1 0 + cond (not b) 1 0 ≡ 1
    one true = refl
    one false = refl
