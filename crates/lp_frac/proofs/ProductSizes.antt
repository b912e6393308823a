-- Products and differences of signed numbers as the code computes them, where their sizes show that they fit.
--
-- `fitted_size`: a number that fits a width with a sign has at most the magnitude of its least number.
-- `cast_fits`: a number that fits a width fits a larger one after a cast.
-- `cast_is`: a number that fits a width stays the same in a cast to a larger one.
-- `cast_product`: the product of two numbers cast to a width that holds it is computed exactly.
-- `cast_scaled`: the product of a number so cast and of an unsigned one is computed exactly where the sizes fit.
-- `scaled`: the product of a number and an unsigned one of one width is computed exactly where the sizes fit.
-- `difference`: the difference of two numbers of one width is computed exactly where the sizes fit.
-- `narrow_fits`: `narrow` gives a number of at most the limit.
-- `narrow_unfit`: `narrow` refuses a number that does not fit 128 bits.
-- `narrow_least`: `narrow` refuses -2^127, the least number of 128 bits.
-- `narrow_other`: `narrow` gives each number of 128 bits but the least.
use Rattle.std.proofs.Common.{◌≡◌, ◌<◌, ◌≤◌, ℕ, ◌+◌, ◌*◌, ◌^◌, ℤ, pos, negsuc, ◌-ℤ◌, ◌*ℤ◌, unsigned_abs}
use Rattle.std.proofs.Common.{Bool, true, false, T, Option, Some, None, if◌then◌else◌, le-leb, leb→le}
use Rattle.std.proofs.Common.{SFits, to_z, of_z, to_z-of_z}
use Rattle.std.proofs.Common.{refl, ap, ap₂, subst, sym, ◌∙◌, arith}
use Rattle.std.proofs.Math.Nat.{mul-le-mul}
use Rattle.std.proofs.lemmas.Int.{ints, unsigned_abs-mul, fits_signed_from_abs, to_z_pos}
use Rattle.spec_exact.specs.Narrow.{number_limit}
use mir.Syntax.{Width, w128}
use mir.Val.{hbits}
use Rattle.lp_frac.specs.Steps.{narrow}

-- the code's u is z, which fits the width, and whose size is at most n
pub record IsComputed (w : Width) (u z : ℤ) (n : ℕ) : Type 0 where
  pub fits : SFits w u
  pub value : to_z w (of_z w u) ≡ z
  pub bound : unsigned_abs z ≤ n
  pub size : unsigned_abs (to_z w (of_z w u)) ≤ n

-- a number of at most a size that the width holds is computed as it is
computed : (w : Width) (u z : ℤ) (n : ℕ) → u ≡ z → unsigned_abs z ≤ n → n < 2 ^ hbits w → IsComputed w u z n
computed w u z n e h k =
    let f : SFits w u = subst (SFits w) (sym e) (fits_signed_from_abs w z (omega (arith, h, k))) in
    let v : to_z w (of_z w u) ≡ z = to_z-of_z f ∙ e in
    record { fits = f; value = v; bound = h; size = subst (λ (x : ℤ). unsigned_abs x ≤ n) (sym v) h }

-- ---- a number that is cast to a larger width
pub fitted_size : (v : Width) (x : ℤ) → SFits v x → unsigned_abs x ≤ 2 ^ hbits v
fitted_size v (pos n) f = omega (arith, f.sfits)
fitted_size v (negsuc n) f = omega (arith, f.sfits)

pub cast_fits : (v w : Width) (x : ℤ) → SFits v x → 2 ^ hbits v ≤ 2 ^ hbits w → SFits w (to_z v (of_z v x))
cast_fits v w x f h = subst (SFits w) (sym (to_z-of_z f)) (record { sfits = omega (arith, f.sfits, h) })

pub cast_is : (v w : Width) (x : ℤ) → SFits v x → 2 ^ hbits v ≤ 2 ^ hbits w → to_z w (of_z w (to_z v (of_z v x))) ≡ x
cast_is v w x f h = to_z-of_z (cast_fits v w x f h) ∙ to_z-of_z f

-- ---- products

-- where the product of two sizes fits the width, the product of the numbers is computed as it is
product : (w : Width) (u v x y : ℤ) (m n : ℕ) → u ≡ x → v ≡ y → unsigned_abs x ≤ m → unsigned_abs y ≤ n →
    m * n < 2 ^ hbits w → IsComputed w (u *ℤ v) (x *ℤ y) (m * n)
product w u v x y m n eu ev hx hy h =
    computed w (u *ℤ v) (x *ℤ y) (m * n) (ap₂ ◌*ℤ◌ eu ev)
    (subst (λ (k : ℕ). k ≤ m * n) (sym (unsigned_abs-mul x y)) (mul-le-mul hx hy)) h

-- of two numbers that are cast
pub cast_product : (v w : Width) (a c : ℤ) → SFits v a → SFits v c → 2 ^ hbits v ≤ 2 ^ hbits w →
    2 ^ hbits v * 2 ^ hbits v < 2 ^ hbits w →
    IsComputed w (to_z w (of_z w (to_z v (of_z v a))) *ℤ to_z w (of_z w (to_z v (of_z v c)))) (a *ℤ c)
    (2 ^ hbits v * 2 ^ hbits v)
cast_product v w a c f g h k =
    product w _ _ a c (2 ^ hbits v) (2 ^ hbits v) (cast_is v w a f h) (cast_is v w c g h) (fitted_size v a f)
    (fitted_size v c g) k

-- of such a number and an unsigned one
pub cast_scaled : (v w : Width) (e : ℤ) (p n : ℕ) → SFits v e → p ≤ n → 2 ^ hbits v ≤ 2 ^ hbits w → n < 2 ^ hbits w →
    2 ^ hbits v * n < 2 ^ hbits w →
    IsComputed w (to_z w (of_z w (to_z v (of_z v e))) *ℤ to_z w p) (e *ℤ pos p) (2 ^ hbits v * n)
cast_scaled v w e p n f hp h k l =
    product w _ _ e (pos p) (2 ^ hbits v) n (cast_is v w e f h) (to_z_pos w p (omega (arith, hp, k)))
    (fitted_size v e f) hp l

-- of a number of the same width and an unsigned one
pub scaled : (w : Width) (e : ℤ) (p m n : ℕ) → SFits w e → unsigned_abs e ≤ m → p ≤ n → n < 2 ^ hbits w →
    m * n < 2 ^ hbits w → IsComputed w (to_z w (of_z w e) *ℤ to_z w p) (e *ℤ pos p) (m * n)
scaled w e p m n f he hp k l =
    product w _ _ e (pos p) m n (to_z-of_z f) (to_z_pos w p (omega (arith, hp, k))) he hp l

-- ---- differences

-- the size of a difference is at most the sum of the sizes
abs-diff : (x y : ℤ) → unsigned_abs (x -ℤ y) ≤ unsigned_abs x + unsigned_abs y
abs-diff x y = omega (arith, ints)

pub difference : (w : Width) (x y : ℤ) (m n : ℕ) → SFits w x → SFits w y → unsigned_abs x ≤ m → unsigned_abs y ≤ n →
    m + n < 2 ^ hbits w → IsComputed w (to_z w (of_z w x) -ℤ to_z w (of_z w y)) (x -ℤ y) (m + n)
difference w x y m n f g hx hy h =
    computed w _ (x -ℤ y) (m + n) (ap₂ ◌-ℤ◌ (to_z-of_z f) (to_z-of_z g)) (omega (arith, abs-diff x y, hx, hy)) h

-- ---- a number within the limit
pub narrow_fits : (z : ℤ) → unsigned_abs z ≤ number_limit → ◌≡◌ {A = Option ℤ} (Some z) (narrow z)
narrow_fits z h = sym (ap (λ (t : Bool). if t then Some z else None) (le-leb (unsigned_abs z) number_limit h))

-- a number that does not fit is past it
pub narrow_unfit : (z : ℤ) → (SFits w128 z → ⊥) → ◌≡◌ {A = Option ℤ} None (narrow z)
narrow_unfit z f =
    by _ (λ e. f (fits_signed_from_abs w128 z (omega (
      arith,
      leb→le (unsigned_abs z) number_limit (subst T (sym e)
          tt),
    ))))
  where
    by : (t : Bool) → (t ≡ true → ⊥) → ◌≡◌ {A = Option ℤ} None (if t then Some z else None)
    by true g = absurd (g refl)
    by false g = refl

-- -2^127 fits and is past it, and no other number is
pub narrow_least : (z : ℤ) → SFits w128 z → of_z w128 z ≡ 170141183460469231731687303715884105728 →
    ◌≡◌ {A = Option ℤ} None (narrow z)
narrow_least (pos n) f e = absurd (omega (arith, f.sfits, e))
narrow_least (negsuc n) f e =
    let k : n ≡ 170141183460469231731687303715884105727 = omega (arith, f.sfits, e) in
    subst (λ (m : ℕ). ◌≡◌ {A = Option ℤ} None (narrow (negsuc m))) (sym k) refl

pub narrow_other : (z : ℤ) → SFits w128 z → (of_z w128 z ≡ 170141183460469231731687303715884105728 → ⊥) →
    ◌≡◌ {A = Option ℤ} (Some z) (narrow z)
narrow_other (pos n) f g = narrow_fits (pos n) (omega (arith, f.sfits))
narrow_other (negsuc n) f g =
    narrow_fits (negsuc n) (omega (arith, f.sfits, differs))
  where
    differs : n ≡ 170141183460469231731687303715884105727 → ⊥
    differs e = g (ap (λ (m : ℕ). of_z w128 (negsuc m)) e)
