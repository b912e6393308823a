-- What the flip or the pivot of a choice leaves, without a limit.
use Rattle.std.proofs.Common.{◌≡◌, ℕ, ◌<◌, Option, Some, None, Ok, refl, sym, ◌∙◌, subst}
use Rattle.spec_exact.specs.Fraction.{ℚ, ◌-ℚ◌, ◌*ℚ◌}
use Rattle.spec_pivot.specs.declared.status.Status.{Status}
use Rattle.spec_pivot.specs.declared.status.Way.{Way}
use Rattle.spec_pivot.specs.Tableau.{Matrix}
use Rattle.spec_pivot.specs.Simplex.{Bounds, IsTableau, IsWithin, Enters, sign, after_pivot}
use Rattle.spec_pivot.specs.Simplex.{after_flip}
use Rattle.spec_pivot.specs.Simplex.{Exchanges, Crosses, Pivots, Flips}
use Rattle.spec_pivot.specs.Ratio.{best_of}
use Rattle.spec_pivot.proofs.SameEquations.{flip_crosses, pivot_exchanges}
use Rattle.spec_pivot.proofs.RatioTest.{best_pivots, best_flips}
use Rattle.spec_simplex.specs.declared.ends.Entering.{Entering}
use Rattle.spec_simplex.specs.declared.ends.Best.{Best}
use Rattle.spec_simplex.specs.declared.ends.PrimalEnd.TheVariants.{Optimal}
use Rattle.spec_simplex.specs.declared.ends.Choice.{Choice}
use Rattle.spec_simplex.specs.declared.ends.Choice.TheVariants.{End, Flip, Pivot}
use Rattle.spec_simplex.specs.Tableau.{Tableau, form_columns, all_columns, status_at, lower_at, upper_at, or_zero}
use Rattle.spec_simplex.specs.Step.{entering, directed, other_bound, best_run, choice_at, choice_by}
use Rattle.spec_simplex.specs.Step.{choice_of, choice_run, flip_way, flip_run, pivot_run}
use Rattle.spec_simplex.specs.Phases.{done_run}
use Rattle.spec_simplex.specs.Tables.{table_of, IsWhole, KeepsBounds}
use Rattle.spec_simplex.proofs.RunParts.{then_ok}
use Rattle.spec_simplex.proofs.Enters.{an_entering}
use Rattle.spec_simplex.proofs.Pivots.{Leaves, enters_before, pivot_leaves}
use Rattle.spec_simplex.proofs.Flips.{directed_is, flip_leaves}
use Rattle.spec_simplex.proofs.LeastIndexSteps.{ahead_is, way_is}
use Rattle.spec_simplex.proofs.Tests.{plain, IsRange, a_best, best_range, best_ahead}

pub record PivotsTo (b : Bounds) (t u : Tableau) (p j : ℕ) (theta : ℚ) (to : Status) : Type 0 where
  pub way : Way
  pub ratio : ℚ
  pub same : theta ≡ sign way *ℚ ratio
  pub before : j < form_columns t
  pub exchanges : Exchanges t.rows (all_columns t) b (table_of t) way j p ratio to
  pub leaves : Leaves b t u (after_pivot t.rows (table_of t) way j p ratio to)

pub record FlipsTo (b : Bounds) (t u : Tableau) (j : ℕ) : Type 0 where
  pub way : Way
  pub ratio : ℚ
  pub range : ratio ≡ or_zero (upper_at t j) -ℚ or_zero (lower_at t j)
  pub way_is : flip_way (status_at t j) ≡ way
  pub before : j < form_columns t
  pub crosses : Crosses t.rows (all_columns t) b (table_of t) way j ratio (other_bound way)
  pub leaves : Leaves b t u (after_flip t.rows (table_of t) way j ratio (other_bound way))

abbrev pub LeavesBy : Bounds → Tableau → Tableau → Choice ℚ → Type 0
LeavesBy b t u (End end) = Unit {0}
LeavesBy b t u (Flip j) = FlipsTo b t u j
LeavesBy b t u (Pivot p j theta to) = PivotsTo b t u p j theta to

module _ (t : Tableau) (w : IsWhole t) (f : Matrix) (cost : ℕ → ℚ)
    (b : Bounds) (g : IsTableau t.rows (all_columns t) f cost b (table_of t))
    (within : IsWithin (all_columns t) b (table_of t)) (keeps : KeepsBounds b t) where
  module _ (e : Entering) (enters : Enters (all_columns t) b (table_of t) e.direction e.col) where
    pivots_to : (x : Best ℚ) → best_run None t e ≡ Ok (Some x) → (p : ℕ) → x.place ≡ Some p → (u : Tableau) →
        pivot_run None t p e.col (directed e.direction x.ratio) x.to ≡ Ok u →
        PivotsTo b t u p e.col (directed e.direction x.ratio) x.to
    pivots_to x found p at u h =
        let best : best_of t.rows b (table_of t) e.direction e.col ≡ Some (plain x) =
        a_best None t w f cost b g keeps e enters x found in
        let v : Pivots t.rows (all_columns t) b (table_of t) e.direction e.col p x.ratio x.to =
        subst (Pivots t.rows (all_columns t) b (table_of t) e.direction e.col p x.ratio)
        (sym (best_ahead None t w f cost b g keeps e enters x found p at))
        (best_pivots t.rows (all_columns t) f cost b (table_of t)
        e.direction e.col g within enters (plain x) best p at) in
        let x' : Exchanges t.rows (all_columns t) b (table_of t) e.direction e.col p x.ratio x.to =
        pivot_exchanges t.rows (all_columns t) f cost b (table_of t) g e.direction e.col p x.ratio x.to v in
        record {
          way = e.direction;
          ratio = x.ratio;
          same = directed_is e.direction x.ratio;
          before = enters_before b t e.col keeps enters.eligible.may_enter.0;
          exchanges = x';
          leaves =
              pivot_leaves None t w f cost b g keeps e.direction e.col p x.ratio x.to x' enters.eligible.may_enter.0 u
              (subst (λ theta. pivot_run None t p e.col theta x.to ≡ Ok u) (directed_is e.direction x.ratio) h);
        }

    flips_to : (x : Best ℚ) → best_run None t e ≡ Ok (Some x) → x.place ≡ None → (u : Tableau) →
        flip_run None t e.col ≡ Ok u → FlipsTo b t u e.col
    flips_to x found at u h =
        let best : best_of t.rows b (table_of t) e.direction e.col ≡ Some (plain x) =
        a_best None t w f cost b g keeps e enters x found in
        let own : IsRange t e x = best_range None t w f cost b g keeps e enters x found at in
        let v : Flips t.rows (all_columns t) b (table_of t) e.direction e.col x.ratio (other_bound e.direction) =
        subst (Flips t.rows (all_columns t) b (table_of t) e.direction e.col x.ratio) (ahead_is e.direction)
        (best_flips t.rows (all_columns t) f cost b (table_of t) e.direction e.col g within enters (plain x) best at) in
        let x' : Crosses t.rows (all_columns t) b (table_of t) e.direction e.col x.ratio (other_bound e.direction) =
        flip_crosses t.rows (all_columns t) f cost b (table_of t) g
        e.direction e.col enters x.ratio (other_bound e.direction) v in
        let y : flip_way (status_at t e.col) ≡ e.direction =
        way_is (status_at t e.col) e.direction (b.lower e.col) (b.upper e.col) _ own.bottom.0
        (sym (keeps.lower e.col enters.in_range) ∙ own.bottom.1) enters.eligible.status
        (g.stands e.col enters.in_range) in
        record {
          way = e.direction;
          ratio = x.ratio;
          range = own.ratio;
          way_is = y;
          before = enters_before b t e.col keeps enters.eligible.may_enter.0;
          crosses = x';
          leaves = flip_leaves None t w f cost b g keeps e.direction e.col x.ratio x' enters.eligible.may_enter.0 u y
              own.ratio h;
        }

    with_best : (best : Option (Best ℚ)) → best_run None t e ≡ Ok best → (u : Tableau) →
        done_run None t (choice_by e best) ≡ Ok u → LeavesBy b t u (choice_by e best)
    with_best None h u d = tt
    with_best (Some x) h u d = by x.place refl d
      where
        by : (place : Option ℕ) → x.place ≡ place → done_run None t (choice_at e x place) ≡ Ok u →
            LeavesBy b t u (choice_at e x place)
        by None p d = flips_to x h p u d
        by (Some i) p d = pivots_to x h i p u d

  -- where the tableau t chooses a flip or a pivot, and doing it without a limit gives u, u is t after that flip or
  -- pivot
  pub left : (choice : Choice ℚ) → choice_run None t ≡ Ok choice → (u : Tableau) → done_run None t choice ≡ Ok u →
      LeavesBy b t u choice
  unfolding choice_run
  left choice h u d = by (entering t) refl h
    where
      by : (o : Option Entering) → entering t ≡ o → choice_of None t o ≡ Ok choice → LeavesBy b t u choice
      by None e h = let z : End Optimal ≡ choice = cc in subst (LeavesBy b t u) z tt
      by (Some x) e h =
          let o = then_ok (best_run None t x) (λ best. Ok (choice_by x best)) choice h in
          let z : choice_by x o.0 ≡ choice = cc in
          subst (LeavesBy b t u) z
          (with_best x (an_entering b t keeps x e) o.0 o.1 u (subst (λ c. done_run None t c ≡ Ok u) (sym z) d))
