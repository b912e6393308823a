-- Counting the indexes that pass a test, and the values of a function below a bound.
--
-- `count_same`: tests that agree on all indexes below n are passed by as many of these.
-- `count_split`: the count of the first a + b indexes is that of the first a and that of the next b.
-- `count_either`: where no index passes both tests, as many pass one of them as pass the first and the second together.
-- `member_if`: a number that is found among the values of a function below m is its value at some index below m.
-- `member_test`: each value of a function at an index below m is found among its values.
-- `count_members`: where a function has m different values below n, m of the numbers below n are among them.
use Rattle.std.proofs.Common.{◌≡◌, ℕ, zero, suc, ◌+◌, ◌<◌, ◌≤◌, Bool, true, false, ◌||◌}
use Rattle.std.proofs.Common.{cond, nat_eq, refl, sym, ap, ap₂, ◌∙◌, arith, eq-eqb, ne_eqb}
use Rattle.std.proofs.lemmas.Bool.{eqb-true}
use Rattle.spec_pivot.proofs.Pivot.{by_eq}

-- how many of the first n indexes pass
abbrev pub count : ℕ → (ℕ → Bool) → ℕ
count zero p = 0
count (suc n) p = count n p + cond (p n) 1 0

pub count_same : (n : ℕ) (p q : ℕ → Bool) → ((k : ℕ) → k < n → p k ≡ q k) → count n p ≡ count n q
count_same zero p q h = refl
count_same (suc n) p q h =
    ap₂ (λ c d. c + cond d 1 0) (count_same n p q (λ k l. h k (omega (arith, l)))) (h n (omega arith))

pub count_split : (a b : ℕ) (p : ℕ → Bool) → count (a + b) p ≡ count a p + count b (λ i. p (a + i))
count_split a zero p =
    (let z : a + 0 ≡ a = omega arith in ap (λ k. count k p) z) ∙ (let z : count a p ≡ count a p + 0 = omega arith in z)
count_split a (suc b) p =
    (let z : a + suc b ≡ suc (a + b) = omega arith in ap (λ k. count k p) z)
    ∙ ap (λ c. c + cond (p (a + b)) 1 0) (count_split a b p)
    ∙ (let z : count a p + count b (λ i. p (a + i)) + cond (p (a + b)) 1 0
    ≡ count a p + (count b (λ i. p (a + i)) + cond (p (a + b)) 1 0) = omega arith in z)

-- where no index passes both tests
pub count_either : (n : ℕ) (p q : ℕ → Bool) → ((i : ℕ) → i < n → p i ≡ true → q i ≡ true → ⊥) →
    count n (λ i. p i || q i) ≡ count n p + count n q
count_either zero p q h = refl
count_either (suc n) p q h = by (p n) (q n) refl refl (count_either n p q (λ i l. h i (omega (arith, l))))
  where
    by : (c d : Bool) → p n ≡ c → q n ≡ d → count n (λ i. p i || q i) ≡ count n p + count n q →
        count n (λ i. p i || q i) + cond (c || d) 1 0 ≡ count n p + cond c 1 0 + (count n q + cond d 1 0)
    by true true e g more = absurd (h n (omega arith) e g)
    by true false e g more = omega (arith, more)
    by false true e g more = omega (arith, more)
    by false false e g more = omega (arith, more)

-- where j is at least n, no index below n is j
count_past : (n j : ℕ) → n ≤ j → count n (λ k. nat_eq k j) ≡ 0
count_past zero j h = refl
count_past (suc n) j h =
    ap₂ (λ c d. c + cond d 1 0) (count_past n j (omega (arith, h)))
    (ne_eqb n j (λ e. let z : ⊥ = omega (arith, h, e) in z))

-- where j is below n, exactly one index below n is j
count_one : (n j : ℕ) → j < n → count n (λ k. nat_eq k j) ≡ 1
count_one zero j h = absurd (let z : ⊥ = omega (arith, h) in z)
count_one (suc n) j h =
    by_eq n j
    (λ e. ap₂ (λ c d. c + cond d 1 0) (count_past n j (omega (arith, e))) (eq-eqb n j e))
    (λ e. ap₂ (λ c d. c + cond d 1 0) (count_one n j (omega (arith, h, e))) (ne_eqb n j e))

-- ---- the values of a function below m
abbrev pub member : ℕ → (ℕ → ℕ) → ℕ → Bool
member zero b k = false
member (suc m) b k = nat_eq k (b m) || member m b k

pub member_if : (m : ℕ) (b : ℕ → ℕ) (k : ℕ) → member m b k ≡ true → (i : ℕ) × (i < m) × (b i ≡ k)
member_if zero b k h = let z : false ≡ true = h in cc
member_if (suc m) b k h = by (nat_eq k (b m)) refl h (member_if m b k)
  where
    by : (c : Bool) → nat_eq k (b m) ≡ c → c || member m b k ≡ true →
        (member m b k ≡ true → (i : ℕ) × (i < m) × (b i ≡ k)) → (i : ℕ) × (i < suc m) × (b i ≡ k)
    by true e h more = (m, omega arith, sym (eqb-true k (b m) e))
    by false e h more = let o = more h in (o.0, omega (arith, o.1), o.2)

pub member_test : (m : ℕ) (b : ℕ → ℕ) (k i : ℕ) → i < m → b i ≡ k → member m b k ≡ true
member_test zero b k i h e = absurd (let z : ⊥ = omega (arith, h) in z)
member_test (suc m) b k i h e =
    by_eq i m
    (λ z. ap (λ c. c || member m b k) (eq-eqb k (b m) (sym e ∙ ap b z)))
    (λ z. ap (λ c. nat_eq k (b m) || c) (member_test m b k i (omega (arith, h, z)) e) ∙ or_true (nat_eq k (b m)))
  where
    or_true : (c : Bool) → c || true ≡ true
    or_true true = refl
    or_true false = refl

-- there are m of them, where they differ
pub count_members : (m n : ℕ) (b : ℕ → ℕ) → ((i : ℕ) → i < m → b i < n) →
    ((i r : ℕ) → i < m → r < m → b i ≡ b r → i ≡ r) → count n (member m b) ≡ m
count_members zero n b inside apart = none n
  where
    none : (n : ℕ) → count n (λ k. false) ≡ 0
    none zero = refl
    none (suc n) = (let z : count n (λ k. false) + 0 ≡ count n (λ k. false) = omega arith in z) ∙ none n
count_members (suc m) n b inside apart =
    count_either n (λ k. nat_eq k (b m)) (member m b) other
    ∙ ap₂ ◌+◌ (count_one n (b m) (inside m (omega arith))) (count_members m n b
    (λ i h. inside i (omega (arith, h))) (λ i r h l. apart i r (omega (arith, h)) (omega (arith, l))))
    ∙ (let z : 1 + m ≡ suc m = omega arith in z)
  where
    other : (k : ℕ) → k < n → nat_eq k (b m) ≡ true → member m b k ≡ true → ⊥
    other k h e g =
        let o = member_if m b k g in
        let z : o.0 ≡ m = apart o.0 m (omega (arith, o.1)) (omega arith) (o.2 ∙ eqb-true k (b m) e) in
        omega (arith, o.1, z)
