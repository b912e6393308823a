-- How many steps there can be.
use Rattle.std.proofs.Common.{◌≡◌, ℕ, zero, suc, ◌+◌, ◌-◌, ◌*◌, ◌^◌, ◌<◌, ◌≢◌, ◌⊎◌, cond, ltb, refl}
use Rattle.std.proofs.Common.{sym, ap, ◌∙◌, subst, arith, Option, Some, None, inl, inr, ⊎_elim, pow-suc}
use Rattle.std.proofs.lemmas.Bool.{cases_lt}
use Rattle.std.proofs.lemmas.Bool.Decides.{nat_tests}
use Rattle.spec_exact.specs.Fraction.{ℚ}
use Rattle.spec_pivot.specs.Tableau.{Matrix}
use Rattle.spec_pivot.specs.declared.status.Status.{Status}
use Rattle.spec_pivot.specs.declared.status.Status.TheVariants.{Basic, AtLower, AtUpper, AtZero}
use Rattle.spec_pivot.specs.Simplex.{Bounds, Stands, Table, IsTableau, Label, IsStep, IsRun}
use Rattle.spec_pivot.proofs.Pivot.{by_eq}
use Rattle.spec_pivot.proofs.Cycle.{good, no_cycle}

-- a number is the value at one of the first places, or at none of them
find_value : (c : ℕ → ℕ) (v len : ℕ) → ((i : ℕ) × (i < len) × (c i ≡ v)) ⊎ ((i : ℕ) → i < len → c i ≢ v)
find_value c v zero = inr (λ i h e. absurd (let k : ⊥ = omega arith in k))
find_value c v (suc len) =
    by_eq (c len) v
    (λ e. inl (len, omega arith, e))
    (λ n. ⊎_elim
    (λ w. inl (w.0, omega (arith, w.1), w.2))
    (λ o. inr (λ i h e. by_eq i len (λ z. n (sym (ap c z) ∙ e)) (λ z. o i (omega arith) e)))
    (find_value c v len))

-- a number's rank among all numbers but v
closed : ℕ → ℕ → ℕ
closed v k = cond (ltb k v) k (k - 1)

-- two numbers other than v are equal where their ranks among all but v are
closed_same : (v j k : ℕ) → j ≢ v → k ≢ v → closed v j ≡ closed v k → j ≡ k
unfolding closed
closed_same v j k p q e = grind (arith, nat_tests)

-- of the numbers 0 .. n, one other than v has a rank below n without v
closed_less : (v k n : ℕ) → k ≢ v → v < suc n → k < suc n → closed v k < n
unfolding closed
closed_less v k n p q r = grind (arith, nat_tests)

-- where there are more places than values, two places have the same value
pigeons : (len n : ℕ) (c : ℕ → ℕ) → ((i : ℕ) → i < len → c i < n) → n < len →
    (i j : ℕ) × (i < j) × (j < len) × (c i ≡ c j)
pigeons zero n c h p = absurd (let k : ⊥ = omega arith in k)
pigeons (suc len) zero c h p = absurd (let q : c len < 0 = h len (omega arith) in let k : ⊥ = omega arith in k)
pigeons (suc len) (suc n) c h p =
    ⊎_elim
    (λ w. (w.0, len, w.1, omega arith, w.2))
    (λ o. let r = pigeons len n (λ i. closed (c len) (c i))
    (λ i q. closed_less (c len) (c i) n (o i q) (h len (omega arith)) (h i (omega arith))) (omega arith) in (
      r.0,
      r.1,
      r.2,
      omega (arith, r.3),
      closed_same (c len) (c r.0) (c r.1) (o r.0 (omega (arith, r.2, r.3))) (o r.1 r.3) r.4,
    ))
    (find_value c (c len) len)

-- ---- statuses as numbers

-- the number of a status, which AtLower and AtZero share
digit : Status → ℕ
digit Basic = 0
digit AtLower = 1
digit AtZero = 1
digit AtUpper = 2

-- the number of a status is below 3
digit_less : (s : Status) → digit s < 3
unfolding digit
digit_less Basic = omega arith
digit_less AtLower = omega arith
digit_less AtUpper = omega arith
digit_less AtZero = omega arith

-- the statuses of the first n columns as one number, to the base 3
code : ℕ → (ℕ → Status) → ℕ
code zero s = 0
code (suc n) s = code n s * 3 + digit (s n)

-- the statuses of n columns have a number below 3 ^ n
code_less : (n : ℕ) (s : ℕ → Status) → code n s < 3 ^ n
unfolding code
code_less zero s = omega arith
code_less (suc n) s = omega (arith, code_less n s, digit_less (s n), pow-suc 3 n)

-- where two lists of statuses have the same number, so has each column's status
code_same : (n : ℕ) (s u : ℕ → Status) → code n s ≡ code n u → (k : ℕ) → k < n → digit (s k) ≡ digit (u k)
unfolding code
code_same zero s u e k h = absurd (let z : ⊥ = omega arith in z)
code_same (suc n) s u e k h =
    by_eq k n
    (λ z. subst (λ k. digit (s k) ≡ digit (u k)) (sym z) (omega (arith, digit_less (s n), digit_less (u n))))
    (λ z. code_same n s u (omega (arith, digit_less (s n), digit_less (u n))) k (omega arith))

-- statuses with the same number, at which values of one column stand, are the same
same_digit : (s u : Status) (l h : Option ℚ) (v w : ℚ) → Stands s l h v → Stands u l h w → digit s ≡ digit u → s ≡ u
unfolding digit
same_digit Basic Basic l h v w p q e = refl
same_digit AtLower AtLower l h v w p q e = refl
same_digit AtUpper AtUpper l h v w p q e = refl
same_digit AtZero AtZero l h v w p q e = refl
same_digit AtLower AtZero l h v w p q e = let z : Some v ≡ None = sym p ∙ q.0 in cc
same_digit AtZero AtLower l h v w p q e = let z : Some w ≡ None = sym q ∙ p.0 in cc
same_digit Basic AtLower l h v w p q e = absurd (let z : ⊥ = omega arith in z)
same_digit Basic AtUpper l h v w p q e = absurd (let z : ⊥ = omega arith in z)
same_digit Basic AtZero l h v w p q e = absurd (let z : ⊥ = omega arith in z)
same_digit AtLower Basic l h v w p q e = absurd (let z : ⊥ = omega arith in z)
same_digit AtLower AtUpper l h v w p q e = absurd (let z : ⊥ = omega arith in z)
same_digit AtUpper Basic l h v w p q e = absurd (let z : ⊥ = omega arith in z)
same_digit AtUpper AtLower l h v w p q e = absurd (let z : ⊥ = omega arith in z)
same_digit AtUpper AtZero l h v w p q e = absurd (let z : ⊥ = omega arith in z)
same_digit AtZero Basic l h v w p q e = absurd (let z : ⊥ = omega arith in z)
same_digit AtZero AtUpper l h v w p q e = absurd (let z : ⊥ = omega arith in z)

-- a run over n columns has fewer than 3 ^ n steps
pub bounded : (m n : ℕ) (f : Matrix) (cost : ℕ → ℚ) (b : Bounds) (t : ℕ → Table) (l : ℕ → Label) (len : ℕ) →
    IsRun m n f cost b t l len → len < 3 ^ n
bounded m n f cost b t l len run =
    ⊎_elim (λ lt. lt)
    (λ le. absurd
    (twice (pigeons (suc len) (3 ^ n) (λ i. code n (t i).status) (λ i _. code_less n (t i).status) (omega arith))))
    (cases_lt len (3 ^ n))
  where
    twice : (i j : ℕ) × (i < j) × (j < suc len) × (code n (t i).status ≡ code n (t j).status) → ⊥
    twice r =
        let i = r.0 in let j = r.1 in
        let lt : i < j = r.2 in let end : j < suc len = r.3 in
        let e : i + (j - i) ≡ j = omega arith in
        let e₀ : i + 0 ≡ i = omega arith in
        no_cycle m n f cost b (λ a. t (i + a)) (λ a. l (i + a)) (j - i)
        (record {
          first = subst (λ a. IsTableau m n f cost b (t a)) (sym e₀) (good m n f cost b t l len run i (omega arith));
          steps =
              λ a h. let q : suc (i + a) ≡ i + suc a = omega arith in
              subst (λ c. IsStep m n b (l (i + a)) (t (i + a)) (t c)) q (run.steps (i + a) (omega arith));
        })
        (omega arith)
        (λ k h. subst (λ a. (t (i + 0)).status k ≡ (t a).status k)
        (sym e) (subst (λ a. (t a).status k ≡ (t j).status k) (sym e₀)
        (same_digit ((t i).status k) ((t j).status k) (b.lower k) (b.upper k) _ _
        ((good m n f cost b t l len run i (omega arith)).stands k h)
        ((good m n f cost b t l len run j (omega arith)).stands k h)
        (code_same n (t i).status (t j).status r.4 k h))))
