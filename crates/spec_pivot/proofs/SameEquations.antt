-- Each step leaves a tableau of the same rows, costs and bounds.
use Rattle.std.proofs.Common.{◌≡◌, ℕ, ◌<◌, ◌≢◌, ap, ◌∙◌, subst, inl, inr}
use Rattle.spec_exact.specs.Fraction.{ℚ, ◌+ℚ◌, ◌*ℚ◌, neg_ℚ, 0ℚ, ◌<ℚ◌}
use Rattle.spec_exact.specs.Sums.{sum_below}
use Rattle.spec_exact.proofs.Field.{*ℚ_zero}
use Rattle.spec_exact.proofs.Ruleset.{neg-zero}
use Rattle.spec_exact.proofs.Strict.{<ℚ_irrefl}
use Rattle.spec_pivot.specs.Tableau.{Matrix}
use Rattle.spec_pivot.specs.declared.status.Status.{Status}
use Rattle.spec_pivot.specs.declared.status.Status.TheVariants.{Basic}
use Rattle.spec_pivot.specs.declared.status.Way.{Way}
use Rattle.spec_pivot.specs.declared.status.Way.TheVariants.{Up, Down}
use Rattle.spec_pivot.specs.Simplex.{sign, Bounds, CanMove, Stands, Table, ray, IsBlocked, IsTableau, moved}
use Rattle.spec_pivot.specs.Simplex.{after_pivot, after_flip, Enters, Pivots, Flips, Exchanges, Crosses}
use Rattle.spec_pivot.proofs.Ray.{ray_basic}
use Rattle.spec_pivot.proofs.AnyMove as any
pub use Rattle.spec_pivot.proofs.AnyMove.{outside}

-- a column that can move up or down is not basic
pub not_basic : (way : Way) (s : Status) → CanMove way s → ¬ (s ≡ Basic)
not_basic Up s c e = subst (CanMove Up) e c
not_basic Down s c e = subst (CanMove Down) e c

module _ (m n : ℕ) (f : Matrix) (cost : ℕ → ℚ) (b : Bounds) (t : Table) (g : IsTableau m n f cost b t) where
  module _ (way : Way) (j : ℕ) (e : Enters n b t way j) where
    pub enters_nonbasic : ¬ (t.status j ≡ Basic)
    enters_nonbasic = not_basic way (t.status j) e.eligible.status

    pub j_outside : (i : ℕ) → i < m → ¬ (t.basic i ≡ j)
    j_outside = outside m n f cost b t g j enters_nonbasic

    pub cost_moved : (theta : ℚ) →
        sum_below n (λ k. cost k *ℚ moved m t way j theta k)
        ≡ sum_below n (λ k. cost k *ℚ t.value k) +ℚ theta *ℚ sum_below n (λ k. cost k *ℚ ray m t way j k)
    cost_moved = any.cost_moved m n f cost b t g way j e.in_range enters_nonbasic

    pub flip_kept : (theta : ℚ) (to : Status) → ¬ (to ≡ Basic) →
        Stands to (b.lower j) (b.upper j) (moved m t way j theta j)
        → IsTableau m n f cost b (after_flip m t way j theta to)
    flip_kept = any.flip_kept m n f cost b t g way j e.in_range enters_nonbasic

    pub flip_crosses : (theta : ℚ) (to : Status) → Flips m n b t way j theta to → Crosses m n b t way j theta to
    flip_crosses theta to v =
        record { in_range = e.in_range; nonbasic = enters_nonbasic; to_nonbasic = v.to_nonbasic; lands = v.lands }

  -- ---- a pivot
  module _ (way : Way) (j p : ℕ) (theta : ℚ) (to : Status) (v : Pivots m n b t way j p theta to) where
    pub entry_not_zero : ¬ (t.entry p j ≡ 0ℚ)
    entry_not_zero e = go v.blocked
      where
        none : ray m t way j (t.basic p) ≡ 0ℚ
        none =
            ray_basic m t g.units way j (j_outside way j v.enters) p v.position
            ∙ ap (λ a. neg_ℚ (sign way *ℚ a)) e ∙ ap neg_ℚ (*ℚ_zero (sign way)) ∙ neg-zero

        go : IsBlocked b (t.basic p) (moved m t way j theta (t.basic p)) (ray m t way j (t.basic p)) → ⊥
        go (inl h) = <ℚ_irrefl 0ℚ (subst (λ a. 0ℚ <ℚ a) none h.0)
        go (inr h) = <ℚ_irrefl 0ℚ (subst (λ a. a <ℚ 0ℚ) none h.0)

    pub pivot_exchanges : Exchanges m n b t way j p theta to
    pivot_exchanges = record {
      in_range = v.enters.in_range;
      nonbasic = enters_nonbasic way j v.enters;
      position = v.position;
      entry = entry_not_zero;
      to_nonbasic = v.to_nonbasic;
      lands = v.lands;
    }

    pub status_j : (after_pivot m t way j p theta to).status j ≡ Basic
    status_j = any.status_j m n f cost b t g way j p theta to pivot_exchanges

    pub status_left : (after_pivot m t way j p theta to).status (t.basic p) ≡ to
    status_left = any.status_left m n f cost b t g way j p theta to pivot_exchanges

    pub status_other : (k : ℕ) → k ≢ j → k ≢ t.basic p → (after_pivot m t way j p theta to).status k ≡ t.status k
    status_other = any.status_other m n f cost b t g way j p theta to pivot_exchanges

    pub pivot_kept : IsTableau m n f cost b (after_pivot m t way j p theta to)
    pivot_kept = any.pivot_kept m n f cost b t g way j p theta to pivot_exchanges
