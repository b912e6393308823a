-- Numbers of which the numerator and the denominator take at most half a line.
--
-- `below_from`: where comparing two numbers says less, the first is below the second.
-- `first_is`: a word is the word to the power 2 ^ 0.
-- `square_is`: the square of a word to the power 2 ^ i is the word to the power 2 ^ (i + 1).
-- `power_is`: 10 ^ 15, squared nine times, is the power of half a line.
-- `fits_of`: a fraction fits a line where its numerator and its denominator are below the power of half a line.
use Rattle.std.proofs.Common.{◌≡◌, ◌<◌, ◌^◌, ℕ, Bool, IsTrue, Ordering, nat_cmp, is_lt, unsigned_abs}
use Rattle.std.proofs.Common.{refl, sym, subst, ap, ◌∙◌, suc, ◌+◌, ◌*◌, arith, List, Result, IfOk, All}
use Rattle.std.proofs.lemmas.Nat.{pow-add}
use Rattle.std.proofs.Math.Nat.{pow-suc, pow-zero}
use Rattle.spec_exact.specs.Fraction.{ℚ}
use Rattle.spec_check.specs.declared.certificate.Certificate.{Certificate}
use Rattle.spec_check.specs.declared.certificate.Certificate.TheVariants.{Optimal, Infeasible, Unbounded}
use Rattle.spec_solve.specs.Exact.{FitsLine, FitsLines}
use Rattle.lp_solve.specs.Lines.{half_line, line_power}

-- what a test of the order tells
pub below_from : (a b : ℕ) (o : Ordering) (t : Bool) → o ≡ nat_cmp a b → t ≡ is_lt o → IsTrue t → a < b
below_from a b o t f g h = grind arith

-- the first power
pub first_is : (w v p : ℕ) → v ≡ w → p ≡ v → p ≡ w ^ (2 ^ 0)
first_is w v p h k =
    let first : w ^ suc 0 ≡ w ^ 0 * w = pow-suc w 0 in
    let none : w ^ 0 ≡ 1 = pow-zero w in
    k ∙ h ∙ sym (first ∙ ap (λ n. n * w) none ∙ omega arith)

-- a power, squared
pub square_is : (w i p q : ℕ) → p ≡ w ^ (2 ^ i) → q ≡ p * p → q ≡ w ^ (2 ^ (i + 1))
square_is w i p q h k =
    let twice : 2 ^ suc i ≡ 2 ^ i + 2 ^ i = pow-suc 2 i ∙ omega arith in
    let next : i + 1 ≡ suc i = omega arith in
    k ∙ ap (λ p. p * p) h ∙ sym (pow-add w (2 ^ i) (2 ^ i)) ∙ ap (λ n. w ^ n) (sym twice) ∙ ap (λ n. w ^ (2 ^ n)) (sym next)

-- so many squarings make up the power
pub power_is : 1000000000000000 ^ (2 ^ 9) ≡ line_power
unfolding line_power half_line
power_is = refl

-- a number whose numerator and denominator are below the power of half a line fits a line
half : (v : ℚ) → unsigned_abs v.num < line_power → v.den < line_power → FitsLine v
unfolding line_power half_line
half v top bottom = (7680, 7680, top, bottom, omega arith)

pub fits_of : (v : ℚ) (top bottom power : ℕ) → power ≡ line_power → top ≡ unsigned_abs v.num → bottom ≡ v.den →
    (top < power) × (bottom < power) → FitsLine v
fits_of v top bottom power is t b below =
    half v (subst (λ n. n < line_power) t (subst (λ p. top < p) is below.0))
    (subst (λ n. n < line_power) b (subst (λ p. bottom < p) is below.1))

-- ---- by the kind of a certificate

module _ {E : Type 0} (result : Result Bool E) (cert : Certificate (List ℚ)) where
  -- where the result is true, P holds; without a result or where it is false nothing is asked
  abbrev Tells : Type 0 → Type 0
  Tells P = IfOk result (λ b. IsTrue b → P)

  -- what a test tells of two lists it tells of lists that are equal to these
  both : (x y xs ys : List ℚ) → xs ≡ x → ys ≡ y → Tells (All FitsLine xs × All FitsLine ys) →
      Tells (All FitsLine x × All FitsLine y)
  both x y xs ys p q h =
      subst (λ x. Tells (All FitsLine x × All FitsLine y)) p (subst (λ y. Tells (All FitsLine xs × All FitsLine y)) q h)

  -- a test that tells that x and y fit their lines tells it of the certificate of an optimum with x and y
  pub optimal_fits : (x y xs ys : List ℚ) → cert ≡ Optimal x y → xs ≡ x → ys ≡ y →
      Tells (All FitsLine xs × All FitsLine ys) → Tells (FitsLines cert)
  optimal_fits x y xs ys is p q h = subst (λ c. Tells (FitsLines c)) (sym is) (both x y xs ys p q h)

  -- a test that tells that x and r fit their lines tells it of the certificate of an unbounded model with x and r
  pub unbounded_fits : (x r xs rs : List ℚ) → cert ≡ Unbounded x r → xs ≡ x → rs ≡ r →
      Tells (All FitsLine xs × All FitsLine rs) → Tells (FitsLines cert)
  unbounded_fits x r xs rs is p q h = subst (λ c. Tells (FitsLines c)) (sym is) (both x r xs rs p q h)

  -- a test that tells that y fits its lines tells it of the certificate of an infeasible model with y
  pub infeasible_fits : (y ys : List ℚ) → cert ≡ Infeasible y → ys ≡ y → Tells (All FitsLine ys) → Tells (FitsLines cert)
  infeasible_fits y ys is q h =
      subst (λ c. Tells (FitsLines c)) (sym is) (subst (λ y. Tells (All FitsLine y)) q h)
