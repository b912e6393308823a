-- The order of two ratios by crosswise products, without a division.
--
-- `ratios`: g / (d * e) is to h / (d * f) as g * f is to h * e.
-- `chosen`: the better of two ratios by exact comparison is the better by the order of their crosswise products.
-- `lesser`: where x is below y, the test `nat_lt` is true.
-- `not_lesser`: where y is at most x, the test of x below y fails.
use Rattle.std.proofs.Common.{◌≡◌, ℕ, ◌*◌, ◌<◌, ◌≤◌, nat_lt, true, false, arith, ℤ, pos, ◌*ℤ◌, int_cmp, [], ◌∷◌}
use Rattle.std.proofs.Common.{refl, sym, ap, ap₂, ◌∙◌, Ordering, Option, Some, None, Ok}
use Rattle.std.proofs.Math.Nat.{mul-pos}
use Rattle.spec_exact.specs.Fraction.{ℚ, over}
use Rattle.spec_exact.specs.Limit.{order}
use Rattle.spec_exact.specs.Answer.{told}
use Rattle.spec_exact.specs.Run.{Run, ◌>>=◌, order_run}
use Rattle.spec_exact.specs.declared.past.Op.TheVariants.{Cmp}
use Rattle.spec_exact.proofs.Ring.{◌⊗◌, v0, v1, v2}
use Rattle.spec_exact.proofs.WholeRing.{by_ring}
use Rattle.spec_exact.proofs.Compare.{int_cmp-times, compare_unlimited}
use Rattle.spec_simplex.specs.declared.ends.Best.{Best}
use Rattle.spec_simplex.specs.Step.{better_by}
use Rattle.lp_ratio.proofs.Fractions.{order_over}

-- g / (d e) to h / (d f)
pub ratios : (g h : ℤ) (d e f : ℕ) → 0 < d → 0 < e → 0 < f →
    order (over g (d * e)) (over h (d * f)) ≡ int_cmp (g *ℤ pos f) (h *ℤ pos e)
ratios g h d e f p q r =
    order_over g h (d * e) (d * f) (mul-pos p q) (mul-pos p r)
    ∙ ap₂ int_cmp (moved g f) (moved h e)
    ∙ int_cmp-times (g *ℤ pos f) (h *ℤ pos e) d p
  where
    moved : (n : ℤ) (k : ℕ) → n *ℤ pos (d * k) ≡ n *ℤ pos k *ℤ pos d
    moved n k = by_ring (n ∷ pos d ∷ pos k ∷ []) (v0 ⊗ (v1 ⊗ v2)) (v0 ⊗ v2 ⊗ v1) refl

-- which of two is the better
pub chosen : (g h : ℤ) (d e f : ℕ) (new best : Best ℚ) (o : Ordering) → 0 < d → 0 < e → 0 < f →
    o ≡ int_cmp (g *ℤ pos f) (h *ℤ pos e) →
    ◌≡◌ {A = Run (Option (Best ℚ))}
    (order_run None (over g (d * e)) (over h (d * f)) >>= λ o. Ok (Some (better_by new best o)))
    (Ok (Some (better_by new best o)))
chosen g h d e f new best o p q r c =
    ap (λ (a : Option Ordering). told Cmp (over g (d * e)) (over h (d * f)) a >>= λ o. Ok (Some (better_by new best o)))
    (compare_unlimited (over g (d * e)) (over h (d * f)))
    ∙ ap (λ (o : Ordering). Ok (Some (better_by new best o))) (ratios g h d e f p q r ∙ sym c)

pub lesser : (x y : ℕ) → x < y → nat_lt x y ≡ true
lesser x y h = grind (arith, h)

pub not_lesser : (x y : ℕ) → y ≤ x → nat_lt x y ≡ false
not_lesser x y h = grind (arith, h)
