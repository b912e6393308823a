-- What a step sees: the entries in the entering column.
use Rattle.std.proofs.Common.{◌≡◌, ℕ, suc, ◌<◌, List, [], get_or, cond, nat_eq, refl, ap, ◌∙◌, arith, eq-eqb}
use Rattle.spec_exact.specs.Fraction.{ℚ, 0ℚ}
use Rattle.spec_simplex.specs.declared.ends.RowStart.{RowStart}
use Rattle.spec_exact.specs.Run.{made}
use Rattle.spec_simplex.specs.Tableau.{Tableau, entry_at}
use Rattle.spec_exact.proofs.RunsInOrder.{get_or-made}
use Rattle.spec_factor.specs.Revised.{seen_entry, seen}

-- in the tableau that a step sees, the entries in the entering column j are those of the solved column
pub seen_at : (starts : List (RowStart ℚ)) (t : Tableau) (j : ℕ) (z : List ℚ) (p : ℕ) → p < t.rows →
    entry_at (seen starts t j z) p j ≡ seen_entry starts t z p
seen_at starts t j z p l =
    ap (λ xs. get_or xs j 0ℚ)
    (get_or-made t.rows (λ p. made (suc j) (λ k. cond (nat_eq k j) (seen_entry starts t z p) 0ℚ)) p [] l)
    ∙ get_or-made (suc j) (λ k. cond (nat_eq k j) (seen_entry starts t z p) 0ℚ) j 0ℚ (omega arith)
    ∙ rw (eq-eqb j j refl) refl
