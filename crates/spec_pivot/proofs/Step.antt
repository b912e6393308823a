-- A dual step leaves a tableau of the same rows, costs and bounds, in which the column that left is at its bound.
--
-- `behind_nonbasic`: the status that the leaving column gets is not that of a basic column.
-- `behind_stands`: the bound that the leaving column had passed is where its new status says.
use Rattle.std.proofs.Common.{◌≡◌, ℕ, ◌<◌, Option, sym, ap, ◌∙◌, subst}
use Rattle.spec_exact.specs.Fraction.{ℚ, ◌+ℚ◌, ◌-ℚ◌, ◌*ℚ◌, neg_ℚ, 0ℚ}
use Rattle.spec_exact.proofs.Ruleset.{ring}
use Rattle.spec_pivot.specs.declared.status.Status.TheVariants.{Basic, AtLower, AtUpper}
use Rattle.spec_pivot.specs.declared.status.Way.{Way}
use Rattle.spec_pivot.specs.declared.status.Way.TheVariants.{Up, Down}
use Rattle.spec_pivot.specs.Tableau.{Matrix}
use Rattle.spec_pivot.specs.Simplex.{Bounds, Stands, Table, sign, moved, IsTableau, Exchanges}
use Rattle.spec_pivot.proofs.AnyMove.{outside, pivot_kept}
use Rattle.spec_pivot.proofs.Ratio.{reaches_down}
use Rattle.spec_pivot.proofs.Ray.{ray_basic}
use Rattle.spec_pivot.specs.Dual.{IsPast, bound_behind, Leaves, IsCandidate, shift, after_dual}
use Rattle.spec_pivot.proofs.EntrySigns.{helps_nonzero, helps_nonbasic}

pub behind_nonbasic : (way : Way) → ¬ (bound_behind way ≡ Basic)
behind_nonbasic Up e = let z : AtLower ≡ Basic = e in cc
behind_nonbasic Down e = let z : AtUpper ≡ Basic = e in cc

pub behind_stands : (way : Way) (l u : Option ℚ) (v c : ℚ) → IsPast way l u v c → Stands (bound_behind way) l u c
behind_stands Up l u v c h = h.0
behind_stands Down l u v c h = h.0

module _ (m n : ℕ) (f : Matrix) (cost : ℕ → ℚ) (b : Bounds) (t : Table) (g : IsTableau m n f cost b t)
    (way : Way) (p j : ℕ) (c : ℚ) (l : Leaves m b t way p c) (j_in : j < n) (e : IsCandidate b t way p j) where
  pub j_nonbasic : ¬ (t.status j ≡ Basic)
  j_nonbasic = helps_nonbasic (t.status j) (sign way *ℚ t.entry p j) e.helps

  pub entry_nonzero : ¬ (t.entry p j ≡ 0ℚ)
  entry_nonzero = helps_nonzero (t.status j) way (t.entry p j) e.helps

  -- the leaving column comes to its bound
  pub lands_at : moved m t Up j (shift t p j c) (t.basic p) ≡ c
  lands_at =
      ap (λ r. t.value (t.basic p) +ℚ shift t p j c *ℚ r)
      (ray_basic m t g.units Up j (outside m n f cost b t g j j_nonbasic) p l.position)
      ∙ turn (t.value (t.basic p)) (shift t p j c) (t.entry p j)
      ∙ reaches_down c (t.value (t.basic p)) (t.entry p j) entry_nonzero
    where
      turn : (v s a : ℚ) → v +ℚ s *ℚ neg_ℚ (sign Up *ℚ a) ≡ v -ℚ s *ℚ a
      turn v s a = simp ring

  pub dual_exchanges : Exchanges m n b t Up j p (shift t p j c) (bound_behind way)
  dual_exchanges = record {
    in_range = j_in;
    nonbasic = j_nonbasic;
    position = l.position;
    entry = entry_nonzero;
    to_nonbasic = behind_nonbasic way;
    lands = subst (Stands (bound_behind way) (b.lower (t.basic p)) (b.upper (t.basic p))) (sym lands_at)
        (behind_stands way (b.lower (t.basic p)) (b.upper (t.basic p)) (t.value (t.basic p)) c l.past);
  }

  pub dual_kept : IsTableau m n f cost b (after_dual m t way p j c)
  dual_kept = pivot_kept m n f cost b t g Up j p (shift t p j c) (bound_behind way) dual_exchanges
