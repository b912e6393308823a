-- Lists and sums with one index more.
--
-- `by_skip`: what holds of i, and of each index below n that skips i, holds of each index below n + 1.
-- `skipping_inside`: an index below n that skips i is below n + 1.
-- `part_at`: after v is inserted into a list at i, the list has v at i.
-- `part_skipping`: after v is inserted into a list at i, the list has its former number k at index k, or at k + 1 from
--   i on.
-- `sum_skipping`: a sum of n + 1 terms is the sum of those that skip index i, and term i.
-- `sum_of_one`: where all terms but term j are 0, their sum is term j.
-- `sum_but_one`: two sums whose terms are the same but at j differ by their terms at j.
use Rattle.std.proofs.Common.{◌≡◌, ℕ, zero, suc, ◌+◌, ◌-◌, ◌<◌, ◌≤◌, List, length}
use Rattle.std.proofs.Common.{sym, ap, ap₂, ◌∙◌, subst, arith, ⊎_elim}
use Rattle.std.specs.List.{insert}
use Rattle.std.proofs.lemmas.Bool.{cases_lt}
use Rattle.std.proofs.lemmas.List.Edits.{get_or-insert_below, get_or-insert_at, get_or-insert_above}
use Rattle.spec_exact.specs.Fraction.{ℚ, 0ℚ, ◌+ℚ◌}
use Rattle.spec_exact.specs.Sums.{sum_below}
use Rattle.spec_exact.proofs.Ruleset.{ring, zero-+ℚ}
use Rattle.spec_exact.proofs.Sums.{sum_below_same, sum_below_none}
use Rattle.spec_model.specs.Model.{part}
use Rattle.spec_edit.specs.Meaning.{skipping}
use Rattle.spec_edit.proofs.FreeRows.{skipping_from, skipping_below}

-- ---- the other indexes

-- each index below n + 1 is i, or one of the others
pub by_skip : (P : ℕ → Type 0) (n i : ℕ) → P i → ((k : ℕ) → k < n → P (skipping i k)) → i ≤ n →
    (a : ℕ) → a < n + 1 → P a
by_skip P n i at others p a l =
    ⊎_elim (λ below. subst P (skipping_below i a below) (others a (omega arith)))
    (λ from. ⊎_elim
    (λ above. let e : skipping i (a - 1) ≡ a = skipping_from i (a - 1) (omega arith) ∙ omega arith in
    subst P e (others (a - 1) (omega arith)))
    (λ upto. let e : i ≡ a = omega arith in subst P e at) (cases_lt i a))
    (cases_lt a i)

pub skipping_inside : (n i k : ℕ) → k < n → skipping i k < n + 1
skipping_inside n i k l =
    ⊎_elim (λ p. subst (λ a. a < n + 1) (sym (skipping_below i k p)) (omega arith))
    (λ p. subst (λ a. a < n + 1) (sym (skipping_from i k p)) (omega arith)) (cases_lt k i)

-- an index that skips i is never i
skipping_other : (i k : ℕ) → ¬ (skipping i k ≡ i)
skipping_other i k e =
    ⊎_elim (λ p. let f = skipping_below i k p in absurd (omega arith))
    (λ p. let f = skipping_from i k p in absurd (omega arith)) (cases_lt k i)

-- ---- lists

pub part_at : (y : List ℚ) (i : ℕ) (v : ℚ) → i ≤ length y → part (insert y i v) i ≡ v
part_at y i v l = get_or-insert_at y i v 0ℚ l

pub part_skipping : (y : List ℚ) (i k : ℕ) (v : ℚ) → i ≤ length y → part (insert y i v) (skipping i k) ≡ part y k
part_skipping y i k v l =
    ⊎_elim (λ p. ap (part (insert y i v)) (skipping_below i k p) ∙ get_or-insert_below y i v 0ℚ k p l)
    (λ p. ap (part (insert y i v)) (skipping_from i k p) ∙ get_or-insert_above y i v 0ℚ k p l) (cases_lt k i)

-- ---- sums

-- the last two numbers added to a sum may change places
more_last : (s a b : ℚ) → (s +ℚ a) +ℚ b ≡ (s +ℚ b) +ℚ a
more_last s a b = simp ring

pub sum_skipping : (n i : ℕ) (f : ℕ → ℚ) → i ≤ n →
    sum_below (suc n) f ≡ sum_below n (λ k. f (skipping i k)) +ℚ f i
sum_skipping zero i f l = let e : 0 ≡ i = omega arith in ap (λ k. 0ℚ +ℚ f k) e
sum_skipping (suc n) i f l =
    ⊎_elim
    (λ p. ap (λ s. s +ℚ f (suc n)) (sum_skipping n i f (omega arith))
    ∙ more_last (sum_below n (λ k. f (skipping i k))) (f i) (f (suc n))
    ∙ ap (λ k. (sum_below n (λ k. f (skipping i k)) +ℚ f k) +ℚ f i)
    (sym (skipping_from i n (omega arith) ∙ omega arith)))
    (λ p. let e : suc n ≡ i = omega arith in
    ap₂ ◌+ℚ◌
    (sum_below_same (suc n) f (λ k. f (skipping i k)) (λ k q. ap f (sym (skipping_below i k (omega arith)))))
    (ap f e)) (cases_lt i (suc n))

-- all terms but one are 0
pub sum_of_one : (n j : ℕ) (f : ℕ → ℚ) → j < n → ((k : ℕ) → k < n → ¬ (k ≡ j) → f k ≡ 0ℚ) → sum_below n f ≡ f j
sum_of_one zero j f l none = absurd (omega arith)
sum_of_one (suc n) j f l none =
    sum_skipping n j f (omega arith)
    ∙ ap (λ s. s +ℚ f j)
    (sum_below_none n (λ k. f (skipping j k))
    (λ k p. none (skipping j k) (subst (λ a. skipping j k < a) (omega arith) (skipping_inside n j k p)) (skipping_other j k)))
    ∙ zero-+ℚ (f j)

-- where s is t, adding a and then b to s is adding b and then a to t
trade : (s a t b : ℚ) → s ≡ t → (s +ℚ a) +ℚ b ≡ (t +ℚ b) +ℚ a
trade s a t b e = ap (λ s. (s +ℚ a) +ℚ b) e ∙ more_last t a b

-- two sums that differ in one term
pub sum_but_one : (n j : ℕ) (f g : ℕ → ℚ) → j < n → ((k : ℕ) → k < n → ¬ (k ≡ j) → f k ≡ g k) →
    sum_below n f +ℚ g j ≡ sum_below n g +ℚ f j
sum_but_one zero j f g l same = absurd (omega arith)
sum_but_one (suc n) j f g l same =
    ap (λ s. s +ℚ g j) (sum_skipping n j f (omega arith))
    ∙ trade (sum_below n (λ k. f (skipping j k))) (f j) (sum_below n (λ k. g (skipping j k))) (g j)
    (sum_below_same n (λ k. f (skipping j k)) (λ k. g (skipping j k))
    (λ k p. same (skipping j k) (subst (λ a. skipping j k < a) (omega arith) (skipping_inside n j k p))
    (skipping_other j k)))
    ∙ ap (λ s. s +ℚ f j) (sym (sum_skipping n j g (omega arith)))
