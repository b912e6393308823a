-- A dual step of the run is a dual step of the table.
use Rattle.std.proofs.Common.{◌≡◌, ℕ, ◌<◌, Option, Some, None, Ok}
use Rattle.std.proofs.Common.{refl, sym, ap, ap₂, ◌∙◌, subst, subst₂}
use Rattle.spec_exact.specs.Fraction.{ℚ, ◌-ℚ◌, ◌*ℚ◌, inverse}
use Rattle.spec_exact.proofs.Ruleset.{one-*ℚ}
use Rattle.spec_pivot.specs.declared.status.Status.{Status}
use Rattle.spec_pivot.specs.declared.status.Way.{Way}
use Rattle.spec_pivot.specs.declared.status.Way.TheVariants.{Up}
use Rattle.spec_pivot.specs.Tableau.{Matrix}
use Rattle.spec_pivot.specs.Simplex.{Bounds, IsInside, IsTableau}
use Rattle.spec_exact.specs.Run.{difference_run, quotient_run}
use Rattle.spec_simplex.specs.Step.{pivot_run}
use Rattle.spec_simplex.specs.Tableau.{Tableau, all_columns, basic_at, entry_at, value_at, lower_at, upper_at, stand}
use Rattle.spec_simplex.specs.Tables.{table_of}
use Rattle.spec_simplex.proofs.RunParts.{then_ok, difference_ok, quotient_ok}
use Rattle.spec_simplex.proofs.Pivots.{pivot_leaves}
use Rattle.spec_simplex.proofs.Pivots as step
use Rattle.spec_simplex.proofs.Tables.{stand_is}
use Rattle.spec_pivot.specs.Dual.{IsDualFeasible, IsPast, bound_behind, Leaves, shift, after_dual}
use Rattle.spec_pivot.proofs.Step.{behind_nonbasic, behind_stands, dual_exchanges, dual_kept}
use Rattle.spec_pivot.proofs.Feasible.{feasible_kept}
use Rattle.spec_simplex.specs.declared.ends.Leaving.{Leaving}
use Rattle.spec_simplex.specs.declared.ends.Cheapest.{Cheapest}
use Rattle.spec_simplex.specs.declared.ends.DualEnd.TheVariants.{Optimal}
use Rattle.spec_simplex.specs.declared.ends.DualChoice.{DualChoice}
use Rattle.spec_simplex.specs.declared.ends.DualChoice.TheVariants.{End}
use Rattle.spec_runs.specs.Based.{IsBased, IsReady, IsDualStep, IsDualMeant}
use Rattle.spec_simplex.specs.Dual.{place_of, cheapest_run, dual_choice_by}
use Rattle.spec_simplex.specs.Dual.{dual_choice_of, dual_choice_run, dual_pivot_by, dual_pivot_run}
use Rattle.spec_simplex.specs.Fit.{leaving_run}
use Rattle.spec_runs.proofs.Bounded.{lower_same, upper_same, free_open}
use Rattle.spec_runs.proofs.DualRatioTest.{place_is, none_cheapest, a_cheapest}
use Rattle.spec_runs.proofs.Fits.{IsLeaving, LeavingIs, leaving_is}

module _ (limit : Option ℕ) (f : Matrix) (cost : ℕ → ℚ) (b : Bounds)
    (t : Tableau) (s : IsBased t.rows t.cols f cost b t) where
  -- ---- the choice
  leaves_at : (x : Leaving) (l : IsLeaving t (all_columns t) x) →
      Leaves t.rows b (table_of t) x.direction (place_of t x.col) l.bound
  leaves_at x l =
      let w = s.tableau.tableau.placed x.col l.inside l.basic in
      let at = place_is t x.col t.rows w.0 w.1 w.2 in
      record {
        position = at.0;
        past = subst (λ k. IsPast x.direction (b.lower k) (b.upper k) (value_at t k) l.bound) (sym at.1)
            (subst₂ (λ low high. IsPast x.direction low high (value_at t x.col) l.bound)
            (lower_same f cost b t s x.col l.inside) (upper_same f cost b t s x.col l.inside) l.past);
      }

  -- what the run chooses for a leaving column is an end or a step of the dual method
  leaving_meant : (x : Leaving) (choice : DualChoice) → IsLeaving t (all_columns t) x →
      dual_choice_of limit t (Some x) ≡ Ok choice → IsDualMeant t.rows t.cols b t choice
  leaving_meant x choice l h =
      let o =
      then_ok (cheapest_run limit t (place_of t x.col) x.direction)
      (λ best. Ok (dual_choice_by (place_of t x.col) x.direction best)) choice h in
      let z : dual_choice_by (place_of t x.col) x.direction o.0 ≡ choice = cc in
      subst (IsDualMeant t.rows t.cols b t) z (by o.0 o.1)
    where
      by : (best : Option (Cheapest ℚ)) → cheapest_run limit t (place_of t x.col) x.direction ≡ Ok best →
          IsDualMeant t.rows t.cols b t (dual_choice_by (place_of t x.col) x.direction best)
      by None ok =
          record {
            bound = l.bound;
            leaves = leaves_at x l;
            none = none_cheapest limit f cost b t s (place_of t x.col) x.direction ok;
          }
      by (Some y) ok = (
        x.direction,
        record {
          bound = l.bound;
          leaves = leaves_at x l;
          cheapest = a_cheapest limit f cost b t s (place_of t x.col) x.direction y ok;
        },
        refl,
      )

  -- what the run chooses in a based tableau is an end or a step of the dual method
  pub choice_meant : (choice : DualChoice) → dual_choice_run limit t ≡ Ok choice → IsDualMeant t.rows t.cols b t choice
  unfolding dual_choice_run
  choice_meant choice h =
      let o = then_ok (leaving_run limit t) (dual_choice_of limit t) choice h in
      by o.0 (leaving_is limit t o.0 o.1) o.2
    where
      by : (x : Option Leaving) → LeavingIs t (all_columns t) x → dual_choice_of limit t x ≡ Ok choice →
          IsDualMeant t.rows t.cols b t choice
      by None inside h =
          let z : End Optimal ≡ choice = cc in
          subst (IsDualMeant t.rows t.cols b t) z
          (λ k l e. subst₂ (λ low high. IsInside low high (value_at t k))
          (lower_same f cost b t s k l) (upper_same f cost b t s k l) (inside k l e))
      by (Some x) l h = leaving_meant x choice l h

  -- ---- the pivot
  module _ (feasible : IsDualFeasible (all_columns t) b (table_of t)) (p j : ℕ)
      (way : Way) (d : IsDualStep t.rows t.cols b t p j way) where
    abbrev q : ℕ
    q = basic_at t p

    abbrev to : Status
    to = bound_behind way

    q_in : q < all_columns t
    q_in = s.tableau.tableau.in_range p d.leaves.position

    -- where the leaving column goes
    bound_is : stand to (lower_at t (basic_at t p)) (upper_at t (basic_at t p)) ≡ d.bound
    bound_is =
        ap₂ (stand to) (lower_same f cost b t s (basic_at t p) q_in) (upper_same f cost b t s (basic_at t p) q_in)
        ∙ stand_is to (b.lower (basic_at t p)) (b.upper (basic_at t p)) d.bound (behind_nonbasic way)
        (behind_stands way (b.lower (basic_at t p))
        (b.upper (basic_at t p)) (value_at t (basic_at t p)) d.bound d.leaves.past)

    by_theta : (gap theta : ℚ) → difference_run limit (value_at t (basic_at t p))
        (stand to (lower_at t (basic_at t p)) (upper_at t (basic_at t p))) ≡ Ok gap →
        quotient_run limit gap (entry_at t p j) ≡ Ok theta
        → theta ≡ shift (table_of t) p j d.bound
    by_theta gap theta h k =
        quotient_ok limit gap (entry_at t p j) theta k
        ∙ ap (λ a. a *ℚ inverse (entry_at t p j)) (difference_ok limit (value_at t (basic_at t p))
        (stand to (lower_at t (basic_at t p)) (upper_at t (basic_at t p))) gap h
        ∙ ap (λ a. value_at t (basic_at t p) -ℚ a) bound_is)

    -- the run's dual pivot leaves the table that `after_dual` gives
    left : (u : Tableau) → dual_pivot_by limit t p j (basic_at t p) to ≡ Ok u →
        step.Leaves b t u (after_dual t.rows (table_of t) way p j d.bound)
    left u h =
        let a =
        then_ok (difference_run limit (value_at t (basic_at t p))
        (stand to (lower_at t (basic_at t p)) (upper_at t (basic_at t p)))) _ u h in
        let c = then_ok (quotient_run limit a.0 (entry_at t p j)) _ u a.2 in
        pivot_leaves limit t s.tableau.whole f cost b s.tableau.tableau s.tableau.bounds Up j p (shift
        (table_of t) p j d.bound) to
        (dual_exchanges t.rows (all_columns t) f cost b (table_of t) s.tableau.tableau
        way p j d.bound d.leaves d.cheapest.in_range d.cheapest.candidate)
        (free_open f cost b t s j d.cheapest.in_range d.cheapest.candidate.not_fixed) u
        (subst (λ theta. pivot_run limit t p j theta to ≡ Ok u)
        (by_theta a.0 c.0 a.1 c.1 ∙ sym (one-*ℚ (shift (table_of t) p j d.bound))) c.2)

    -- a tableau with the table after a dual step is ready
    ready : (u : Tableau) → step.Leaves b t u (after_dual t.rows (table_of t) way p j d.bound) →
        IsReady t.rows t.cols f cost b u
    ready u l = record {
      based = record {
        tableau = record {
          rows = l.rows;
          cols = l.cols;
          whole = l.whole;
          tableau = subst (IsTableau t.rows (all_columns t) f cost b) (sym l.table)
              (dual_kept t.rows (all_columns t) f cost b (table_of t) s.tableau.tableau
              way p j d.bound d.leaves d.cheapest.in_range d.cheapest.candidate);
          bounds = l.bounds;
        };
        top = s.top;
      };
      feasible =
          subst (IsDualFeasible (all_columns t) b) (sym l.table) (feasible_kept t.rows (all_columns t) f cost b
          (table_of t) s.tableau.tableau feasible way p j d.bound d.leaves d.cheapest);
    }

    -- where a dual feasible tableau takes a dual step, the run's pivot leaves a ready tableau
    pub pivot_ready : (u : Tableau) → dual_pivot_run limit t p j (bound_behind way) ≡ Ok u →
        IsReady t.rows t.cols f cost b u
    unfolding dual_pivot_run
    pivot_ready u h =
        ready u (left u h)

    -- where a dual feasible tableau takes a dual step, the run's pivot leaves the table that `after_dual` gives
    pub pivot_table : (u : Tableau) → dual_pivot_run limit t p j (bound_behind way) ≡ Ok u →
        table_of u ≡ after_dual t.rows (table_of t) way p j d.bound
    unfolding dual_pivot_run
    pivot_table u h =
        (left u h).table
