-- A number less a multiple, where a factor is 0 or 1.
--
-- `whole_none`: a number of magnitude 0 is 0.
-- `once`: where u is 1, u * v - w is v - w.
-- `less_none`: where y is 0, v is v - b * y, with whatever sign of y.
-- `both_none`: where x and y are 0, x is u * x - b * y, with whatever signs of x and y.
use Rattle.std.proofs.Common.{◌≡◌, ℕ, ℤ, pos, ◌*ℤ◌, ◌-ℤ◌, [], ◌∷◌, Bool, true, false, refl, sym, ap, ◌∙◌}
use Rattle.spec_exact.proofs.Ring.{◌⊕◌, ◌⊗◌, minus, lit, v0, v1}
use Rattle.spec_exact.proofs.WholeRing.{by_ring}
use Rattle.lp_natural.specs.Whole.{whole}

pub whole_none : (negative : Bool) (n : ℕ) → n ≡ 0 → whole negative n ≡ pos 0
whole_none false n e = ap pos e
whole_none true n e = ap (whole true) e

pub once : (u v w : ℤ) → u ≡ pos 1 → u *ℤ v -ℤ w ≡ v -ℤ w
once u v w e =
    ap (λ z. z *ℤ v -ℤ w) e ∙ by_ring (v ∷ w ∷ []) (lit (pos 1) ⊗ v0 ⊕ minus v1) (v0 ⊕ minus v1) refl

pub less_none : (v b : ℤ) (m : Bool) (y : ℕ) → y ≡ 0 → v ≡ v -ℤ b *ℤ whole m y
less_none v b m y e =
    sym
    (ap (λ z. v -ℤ b *ℤ z) (whole_none m y e)
    ∙ by_ring (v ∷ b ∷ []) (v0 ⊕ minus (v1 ⊗ lit (pos 0))) v0 refl)

pub both_none : (u b : ℤ) (n m : Bool) (x y : ℕ) → x ≡ 0 → y ≡ 0 → whole n x ≡ u *ℤ whole n x -ℤ b *ℤ whole m y
both_none u b n m x y d e =
    whole_none n x d
    ∙ sym (by_ring (u ∷ []) (v0 ⊗ lit (pos 0)) (lit (pos 0)) refl)
    ∙ ap (λ z. u *ℤ z) (sym (whole_none n x d))
    ∙ less_none (u *ℤ whole n x) b m y e
