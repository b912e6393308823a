-- What the fit of a tableau says: it is one for the primal method, or after its flips one for the dual method.
use Rattle.std.proofs.Common.{◌≡◌, ℕ, ◌+◌, ◌<◌, Option, Ok, subst₂, arith}
use Rattle.spec_exact.specs.Fraction.{ℚ}
use Rattle.spec_pivot.specs.declared.status.Status.TheVariants.{Basic}
use Rattle.spec_pivot.specs.Tableau.{Matrix}
use Rattle.spec_pivot.specs.Simplex.{Bounds, IsInside}
use Rattle.spec_simplex.specs.Tableau.{Tableau, status_at, value_at}
use Rattle.spec_simplex.specs.Tables.{table_of, IsTableauOf, IsWithinBounds}
use Rattle.spec_pivot.specs.Dual.{IsOrdered}
use Rattle.spec_pivot.proofs.Optimal.{within_where_basic}
use Rattle.spec_simplex.specs.declared.ends.Fit.TheVariants.{Primal, Dual}
use Rattle.spec_runs.specs.Based.{IsBased, IsReady}
use Rattle.spec_simplex.specs.Dual.{Reached, flips_run}
use Rattle.spec_simplex.specs.Fit.{fit_run}
use Rattle.spec_runs.proofs.Bounded.{own_counts, lower_same, upper_same}
use Rattle.spec_runs.proofs.Fits.{fit_is}
use Rattle.spec_runs.proofs.FlippedStatuses.{flips_ready}

module _ (limit : Option ℕ) (m n : ℕ) (f : Matrix) (cost : ℕ → ℚ)
    (b : Bounds) (t : Tableau) (s : IsBased m n f cost b t) where
  own : IsBased t.rows t.cols f cost b t
  own = own_counts m n f cost b t s

  -- where the fit is `Primal` and bounds are in order, the tableau has its values within the bounds, so that the primal
  -- method may go on from it
  pub primal_fit : IsOrdered (n + m + m) b → fit_run limit t ≡ Ok Primal →
      IsTableauOf m n f cost b t × IsWithinBounds m n b t
  primal_fit ordered h =
      (s.tableau, within_where_basic m (n + m + m) f cost b (table_of t) s.tableau.tableau ordered inside)
    where
      inside : (k : ℕ) → k < n + m + m → status_at t k ≡ Basic → IsInside (b.lower k) (b.upper k) (value_at t k)
      inside k l e =
          let q = fit_is limit t Primal h k (omega (arith, l, s.tableau.rows, s.tableau.cols)) e in
          subst₂ (λ low high. IsInside low high (value_at t k))
          (lower_same f cost b t own k (omega (arith, l, s.tableau.rows, s.tableau.cols)))
          (upper_same f cost b t own k (omega (arith, l, s.tableau.rows, s.tableau.cols))) q

  -- where the fit is `Dual`, the tableau after its flips is ready for the dual method
  pub dual_fit : (budget : ℕ) (r : Reached) → fit_run limit t ≡ Ok Dual → flips_run limit budget t ≡ Ok r →
      IsReady m n f cost b r.tableau
  dual_fit budget r h =
      flips_ready limit budget m n f cost b t r s (λ k l. fit_is limit t Dual h k (omega
      (arith, l, s.tableau.rows, s.tableau.cols)))
