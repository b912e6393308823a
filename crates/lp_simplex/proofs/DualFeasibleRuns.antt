-- The tableau of a dual feasible basis may be run.
use Rattle.std.proofs.Common.{◌≡◌, ℕ, ◌<◌, Option, Ok, Bool, true, false, not, ◌&&◌, ◌||◌, sym, subst₂}
use Rattle.spec_exact.specs.Fraction.{ℚ}
use Rattle.spec_pivot.specs.declared.status.Status.TheVariants.{Basic}
use Rattle.spec_pivot.specs.Tableau.{Matrix}
use Rattle.spec_pivot.specs.Simplex.{Bounds, Stands}
use Rattle.spec_pivot.proofs.SameEquations.{not_basic}
use Rattle.spec_simplex.specs.Step.{CanFlip}
use Rattle.spec_simplex.specs.Tableau.{Tableau, all_columns, value_at, reduced_at}
use Rattle.spec_simplex.specs.Tableau.{status_at, lower_at, upper_at, is_fixed}
use Rattle.spec_simplex.specs.declared.ends.Fit.TheVariants.{Dual}
use Rattle.spec_runs.specs.Based.{IsBased}
use Rattle.spec_simplex.specs.Fit.{needs_flip, meets_need, needs_flip_at, fit_run}
use Rattle.spec_runs.proofs.Bounded.{own_counts, lower_same, upper_same}
use Rattle.spec_runs.proofs.Fits.{fit_is}
use Rattle.spec_runs.proofs.FlippedStatuses.{wrong}
use Rattle.lp_simplex.specs.Starts.{HasPlace, IsDualStart}

module _ (limit : Option ℕ) (m n : ℕ) (f : Matrix) (cost : ℕ → ℚ) (b : Bounds)
    (t : Tableau) (s : IsBased m n f cost b t) (h : fit_run limit t ≡ Ok Dual) where
  own : IsBased t.rows t.cols f cost b t
  own = own_counts m n f cost b t s

  place : (k : ℕ) → k < all_columns t → status_at t k ≡ Basic → HasPlace t k
  place k l e = let p = own.tableau.tableau.placed k l e in record { place = p.0; inside = p.1; holds = p.2 }

  can_flip : (k : ℕ) → k < all_columns t → needs_flip_at t k ≡ true → CanFlip t k
  can_flip k l e = by (is_fixed (lower_at t k) (upper_at t k)) e (fit_is limit t Dual h k l)
    where
      stands : Stands (status_at t k) (lower_at t k) (upper_at t k) (value_at t k)
      stands =
          subst₂ (λ low high. Stands (status_at t k) low high (value_at t k))
          (sym (lower_same f cost b t own k l)) (sym (upper_same f cost b t own k l)) (own.tableau.tableau.stands k l)

      by : (c : Bool) → not c && needs_flip (status_at t k) (reduced_at t k) ≡ true →
          c || meets_need (status_at t k) (reduced_at t k) (lower_at t k) (upper_at t k) ≡ true → CanFlip t k
      by true e g = let z : false ≡ true = e in cc
      by false e g =
          let w = wrong (status_at t k) (reduced_at t k) (value_at t k) (lower_at t k) (upper_at t k) stands g e in
          record {
            column = l;
            nonbasic = not_basic w.0 (status_at t k) w.1.can_move;
            lower = w.1.low;
            upper = w.1.high;
          }

  pub can_start : IsDualStart t
  can_start =
      record {
        seated = record {
          all_basic = s.tableau.whole.all_basic;
          all_statuses = s.tableau.whole.all_statuses;
          places = place;
        };
        flips = can_flip;
      }
