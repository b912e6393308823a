-- A pivot that is chosen may be made.
use Rattle.std.proofs.Common.{◌≡◌, ℕ, ◌+◌, ◌<◌, Option, Some, Ok, sym, subst}
use Rattle.spec_exact.specs.Fraction.{ℚ}
use Rattle.spec_simplex.specs.Step.{NamesBound}
use Rattle.spec_simplex.specs.Tableau.{Tableau, basic_at, lower_at, upper_at}
use Rattle.spec_pivot.specs.declared.status.Way.{Way}
use Rattle.spec_pivot.specs.declared.status.Way.TheVariants.{Up, Down}
use Rattle.spec_pivot.specs.Dual.{IsPast, bound_behind}
use Rattle.spec_simplex.specs.declared.ends.Leaving.{Leaving}
use Rattle.spec_simplex.specs.declared.ends.Cheapest.{Cheapest}
use Rattle.spec_simplex.specs.Dual.{place_of, cheapest_run}
use Rattle.spec_simplex.specs.Fit.{leaving_run}
use Rattle.spec_runs.proofs.DualRatioTest.{place_is}
use Rattle.spec_runs.proofs.Fits.{IsLeaving, leaving_is}
use Rattle.lp_simplex.specs.Starts.{HasPlace, IsSeated, CanEnter}
use Rattle.lp_simplex.proofs.DualEntering.{MayEnter, best_enters}

-- the status of the bound that a value has passed, below the lower or above the upper one, names that bound
passed : (way : Way) (lower upper : Option ℚ) (v c : ℚ) → IsPast way lower upper v c →
    NamesBound (bound_behind way) lower upper c
passed Up lower upper v c h = h.0
passed Down lower upper v c h = h.0

module _ (limit : Option ℕ) (t : Tableau) (s : IsSeated t) (x : Leaving) (h : leaving_run limit t ≡ Ok (Some x)) where
  out : IsLeaving t (t.cols + t.rows + t.rows) x
  out = leaving_is limit t (Some x) h

  there : (place_of t x.col < t.rows) × (basic_at t (place_of t x.col) ≡ x.col)
  there =
      let p : HasPlace t x.col = s.places x.col out.inside out.basic in place_is t x.col t.rows p.place p.inside p.holds

  pub place_inside : place_of t x.col < t.rows
  place_inside = there.0

  pub can_enter : (best : Cheapest ℚ) → cheapest_run limit t (place_of t x.col) x.direction ≡ Ok (Some best) →
      CanEnter t (place_of t x.col) best.col (bound_behind x.direction)
  can_enter best g =
      let m : MayEnter t (place_of t x.col) x.direction best.col = best_enters limit t (place_of t x.col) x.direction best g in
      record {
        place = there.0;
        column = m.inside;
        nonbasic = m.nonbasic;
        entry = m.entry;
        bound = (
          out.bound,
          subst (λ k. NamesBound (bound_behind x.direction) (lower_at t k) (upper_at t k) out.bound)
              (sym there.1) (passed x.direction _ _ _ out.bound out.past),
        );
      }
