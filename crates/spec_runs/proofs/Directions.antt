-- The direction of an unbounded end is the ray of the column that enters.
use Rattle.std.proofs.Common.{◌≡◌, ◌≢◌, ⊎_elim, ℕ, zero, suc, ◌<◌}
use Rattle.std.proofs.Common.{cond, nat_eq, refl, sym, ap, ◌∙◌, arith, eq-eqb, ne_eqb}
use Rattle.spec_exact.specs.Fraction.{ℚ, 0ℚ, 1ℚ, neg_ℚ}
use Rattle.spec_pivot.specs.declared.status.Way.{Way}
use Rattle.spec_pivot.specs.declared.status.Way.TheVariants.{Up, Down}
use Rattle.spec_pivot.specs.Tableau.{Matrix}
use Rattle.spec_pivot.specs.Simplex.{Bounds, IsTableau, Enters, sign, ray}
use Rattle.spec_pivot.proofs.Pivot.{by_eq}
use Rattle.spec_pivot.proofs.Unique.{apart}
use Rattle.spec_pivot.proofs.SameEquations.{j_outside}
use Rattle.spec_pivot.proofs.Ray.{ray_at, ray_basic, ray_still}
use Rattle.spec_simplex.specs.Tableau.{Tableau, basic_at, entry_at}
use Rattle.spec_simplex.specs.Step.{directed}
use Rattle.spec_simplex.specs.Tables.{table_of}
use Rattle.spec_runs.specs.Cold.{moves_below}
use Rattle.spec_simplex.proofs.Moved.{at_position}
use Rattle.spec_simplex.proofs.Flips.{directed_is}

-- a column that is basic at no position moves by 1 in the direction where it is column j, and by 0 else
moves_none : (t : Tableau) (j : ℕ) (way : Way) (k m : ℕ) → ((r : ℕ) → r < m → basic_at t r ≢ k) →
    moves_below t j way k m ≡ cond (nat_eq k j) (directed way 1ℚ) 0ℚ
moves_none t j way k zero h = refl
moves_none t j way k (suc m) h =
    rw (ne_eqb (basic_at t m) k (h m (omega arith))) (moves_none t j way k m (λ r l. h r (omega (arith, l))))

-- a column that is basic at position r alone moves by the negative of column j's entry there, as directed
moves_basic : (t : Tableau) (j : ℕ) (way : Way) (k m r : ℕ) → r < m → basic_at t r ≡ k →
    ((s : ℕ) → s < m → basic_at t s ≡ k → s ≡ r) → moves_below t j way k m ≡ neg_ℚ (directed way (entry_at t r j))
moves_basic t j way k zero r l e u = absurd (let z : ⊥ = omega (arith, l) in z)
moves_basic t j way k (suc m) r l e u =
    by_eq m r
    (λ z. rw (eq-eqb (basic_at t m) k (ap (basic_at t) z ∙ e)) (ap (λ i. neg_ℚ (directed way (entry_at t i j))) z))
    (λ z. rw (ne_eqb (basic_at t m) k (λ y. z (u m (omega arith) y)))
    (moves_basic t j way k m r (omega (arith, l, z)) e (λ s q. u s (omega (arith, q)))))

-- 1 in a direction is the sign of that direction
one_way : (way : Way) → directed way 1ℚ ≡ sign way
one_way Up = refl
one_way Down = refl

-- where column j may enter, the moves of all columns are the ray of column j
pub moves_are : (m n : ℕ) (f : Matrix) (cost : ℕ → ℚ) (b : Bounds) (t : Tableau) (j : ℕ) (way : Way) →
    IsTableau m n f cost b (table_of t) → Enters n b (table_of t) way j → (k : ℕ) →
    moves_below t j way k m ≡ ray m (table_of t) way j k
moves_are m n f cost b t j way g e k =
    ⊎_elim
    (λ p. moves_basic t j way k m p.0 p.1 p.2
    (λ s q z. apart m (entry_at t) (basic_at t) g.units s p.0 q p.1 (z ∙ sym p.2))
    ∙ ap neg_ℚ (directed_is way (entry_at t p.0 j))
    ∙ sym (ray_basic m (table_of t) g.units way j outside p.0 p.1)
    ∙ ap (ray m (table_of t) way j) p.2)
    (λ none. moves_none t j way k m none ∙ by_eq k j
    (λ z. rw (eq-eqb k j z)
    (one_way way ∙ sym (ray_at m (table_of t) g.units way j outside) ∙ ap (ray m (table_of t) way j) (sym z)))
    (λ z. rw (ne_eqb k j z) (sym (ray_still m (table_of t) g.units way j outside k (λ y. z (sym y)) none))))
    (at_position m n f cost b (table_of t) g k)
  where
    outside : (i : ℕ) → i < m → ¬ (basic_at t i ≡ j)
    outside = j_outside m n f cost b (table_of t) g way j e
