-- One basis, one tableau.
use Rattle.std.proofs.Common.{◌≡◌, ℕ, ◌<◌, sym, ap, ◌∙◌}
use Rattle.spec_exact.specs.Fraction.{ℚ, 0ℚ}
use Rattle.spec_pivot.specs.Tableau.{Matrix}
use Rattle.spec_pivot.specs.Simplex.{Bounds, Table, IsTableau, SameStatuses, SameTableau}
use Rattle.spec_pivot.proofs.Pivot.{Spans_trans}
use Rattle.spec_pivot.proofs.Values.{same_values}
use Rattle.spec_pivot.proofs.Unique.{SameColumns, same_row, same_reduced_costs}

module _ (m n : ℕ) (f : Matrix) (cost : ℕ → ℚ) (b : Bounds) (t u : Table)
    (g : IsTableau m n f cost b t) (h : IsTableau m n f cost b u) (same : SameStatuses n t u) where
  same_columns : SameColumns m t.basic u.basic
  same_columns = record {
    position =
        λ s p. let q = h.placed (t.basic s) (g.in_range s p) (sym (same (t.basic s) (g.in_range s p)) ∙ g.marked s p) in
        (q.0, q.1, sym q.2);
  }

  zero_there : (i : ℕ) → i < m → u.reduced (t.basic i) ≡ 0ℚ
  zero_there i p = let q = same_columns.position i p in ap u.reduced q.2 ∙ h.costs.at_basic q.0 q.1

  pub one_tableau : SameTableau m n t u
  one_tableau = record {
    values = same_values m n f cost b t g u h same;
    reduced =
        same_reduced_costs m f t.entry t.basic g.units g.back cost t.reduced u.reduced
        g.costs.weights h.costs.weights g.costs.less h.costs.less g.costs.at_basic zero_there;
    rows =
        λ r i p q e k. sym (same_row m t.entry u.entry t.basic u.basic g.units h.units
        (Spans_trans m u.entry f t.entry h.forth g.back) same_columns r i p q e k);
  }
