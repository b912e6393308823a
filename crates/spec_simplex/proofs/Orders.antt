-- What follows where a run compares two numbers, and goes on according to their order.
--
-- `by_order`: where the steps after a comparison of v and w give b, what follows from it in each of the three orders
--   holds.
-- `given`: what holds of a result holds of an equal result.
use Rattle.std.proofs.Common.{◌≡◌, ℕ, Option, Ok, sym, subst}
use Rattle.std.specs.declared.cmp.Ordering.{Ordering}
use Rattle.std.specs.declared.cmp.Ordering.TheVariants.{Less, Equal, Greater}
use Rattle.spec_exact.specs.Fraction.{ℚ, ◌<ℚ◌}
use Rattle.spec_exact.specs.Limit.{order}
use Rattle.spec_exact.proofs.Compare.{order_less, order_equal, order_greater}
use Rattle.spec_exact.specs.Run.{Run, ◌>>=◌, order_run}
use Rattle.spec_simplex.proofs.RunParts.{then_ok, order_ok}

pub by_order : {B : Type 0} (limit : Option ℕ) (v w : ℚ) (k : Ordering → Run B) (b : B) (P : Type 0) →
    (order_run limit v w >>= k) ≡ Ok b → (v <ℚ w → k Less ≡ Ok b → P) → (v ≡ w → k Equal ≡ Ok b → P) →
    (w <ℚ v → k Greater ≡ Ok b → P) → P
by_order limit v w k b P h less equal greater =
    let o = then_ok (order_run limit v w) k b h in go o.0 (order_ok limit v w o.0 o.1) o.2
  where
    go : (o : Ordering) → o ≡ order v w → k o ≡ Ok b → P
    go Less e q = less ((order_less v w).0 (sym e)) q
    go Equal e q = equal ((order_equal v w).0 (sym e)) q
    go Greater e q = greater ((order_greater v w).0 (sym e)) q

-- what a run gives is what holds of it
pub given : {A : Type 0} (P : A → Type 0) (a b : A) → ◌≡◌ {A = Run A} (Ok a) (Ok b) → P a → P b
given P a b e h = let z : a ≡ b = cc in subst P z h
