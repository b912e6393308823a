-- The column that enters is the least of many.
use Rattle.std.proofs.Common.{◌≡◌, ℕ, zero, suc, ◌+◌, ◌-◌, ◌<◌, Some, None, subst, ap, ap₂, ◌∙◌, arith}
use Rattle.spec_pivot.specs.declared.status.Way.{Way}
use Rattle.spec_simplex.specs.declared.ends.Entering.{Entering}
use Rattle.spec_simplex.specs.Tableau.{Tableau}
use Rattle.spec_simplex.specs.Step.{way_at, or_enters, entering_below}

-- the column that enters among the first n columns is the one that enters among more of them
stays : (t : Tableau) (n d : ℕ) (e : Entering) → entering_below t n ≡ Some e → entering_below t (n + d) ≡ Some e
stays t n zero e h = (let z : n + 0 ≡ n = omega arith in ap (entering_below t) z) ∙ h
stays t n (suc d) e h =
    (let z : n + suc d ≡ suc (n + d) = omega arith in ap (entering_below t) z)
    ∙ ap (λ o. or_enters o (n + d) (way_at t (n + d))) (stays t n d e h)

-- a column that may enter, where none before it may, is the one that enters among all
pub enters_at : (t : Tableau) (k n : ℕ) (way : Way) → entering_below t k ≡ None → k < n → way_at t k ≡ Some way →
    entering_below t n ≡ Some (record { col = k; direction = way })
enters_at t k n way h l g =
    let z : suc k + (n - suc k) ≡ n = omega arith in
    subst (λ i. entering_below t i ≡ Some (record { col = k; direction = way })) z
    (stays t (suc k) (n - suc k) (record { col = k; direction = way }) (ap₂ (λ o w. or_enters o k w) h g))
