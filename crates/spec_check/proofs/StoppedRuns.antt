-- Adding or subtracting a product takes two steps, and a condition that fails ends the conditions of all places.
--
-- `plus_is`: adding a product is a multiplication and then an addition.
-- `less_is`: subtracting a product is a multiplication and then a subtraction.
-- `each_stops`: where condition k fails after k that succeed, all n conditions fail with its error.
use Rattle.std.proofs.Common.{◌≡◌, ℕ, ◌<◌, Option, Ok, Err}
use Rattle.std.specs.Prelude.{⊤}
use Rattle.spec_exact.specs.Fraction.{ℚ}
use Rattle.spec_exact.specs.Limit.{add, sub, mul}
use Rattle.spec_exact.specs.declared.past.Op.TheVariants.{Add, Sub, Mul}
use Rattle.spec_exact.specs.Run.{◌>>=◌, product_run, sum_run, difference_run}
use Rattle.spec_exact.proofs.RunsInOrder.{refused_then, steps_stop}
use Rattle.spec_check.specs.declared.certificate.CheckStop.{CheckStop}
use Rattle.spec_check.specs.declared.certificate.CheckStop.TheVariants as stop
use Rattle.spec_check.specs.Run.{Run, step, each, plus_product, less_product}

pub plus_is : (limit : Option ℕ) (v w s : ℚ) →
    plus_product limit v w s ≡ (step Mul v w (mul limit v w) >>= λ p. step Add s p (add limit s p))
plus_is limit v w s = refused_then stop.Past (product_run limit v w) (sum_run limit s)

pub less_is : (limit : Option ℕ) (v w s : ℚ) →
    less_product limit v w s ≡ (step Mul v w (mul limit v w) >>= λ p. step Sub s p (sub limit s p))
less_is limit v w s = refused_then stop.Past (product_run limit v w) (difference_run limit s)

pub each_stops : (k n : ℕ) (f : ℕ → Run ⊤) (e : CheckStop ℚ) → k < n → each k f ≡ Ok tt → f k ≡ Err e → each n f ≡ Err e
each_stops k n f e p h g = steps_stop k n (λ i _. f i) tt tt e p h g
