-- A step of the run is a step by Bland's rule.
--
-- `ahead_is`: the bound towards which a column moves is the one that the run takes as its other bound.
-- `way_is`: a column with a lower bound flips the way in which it can move.
-- `choice_is_meant`: what the run chooses in a tableau within its bounds is an end, a flip or a pivot by the rule.
use Rattle.std.proofs.Common.{◌≡◌, ℕ, ◌+◌, Option, Some, None, Ok, refl, sym, ◌∙◌, subst, subst₂}
use Rattle.spec_exact.specs.Fraction.{ℚ}
use Rattle.spec_pivot.specs.declared.status.Status.{Status}
use Rattle.spec_pivot.specs.declared.status.Status.TheVariants.{Basic, AtLower, AtUpper, AtZero}
use Rattle.spec_pivot.specs.declared.status.Way.{Way}
use Rattle.spec_pivot.specs.declared.status.Way.TheVariants.{Up, Down}
use Rattle.spec_pivot.specs.Tableau.{Matrix}
use Rattle.spec_pivot.specs.Simplex.{Bounds, Table, IsTableau, IsWithin, CanMove, Stands, Enters}
use Rattle.spec_pivot.specs.Simplex.{after_pivot, after_flip, Pivots, Flips, Label, IsStep}
use Rattle.spec_pivot.specs.Simplex as kind
use Rattle.spec_pivot.specs.Ratio.{best_of, bound_ahead}
use Rattle.spec_pivot.proofs.Best.{best_has_room, none_goes_on}
use Rattle.spec_pivot.proofs.Cycle.{step_kept}
use Rattle.spec_pivot.proofs.SameEquations.{flip_crosses, pivot_exchanges}
use Rattle.spec_pivot.proofs.Stays.{stays_within}
use Rattle.spec_pivot.proofs.RatioTest.{best_pivots, best_flips}
use Rattle.spec_simplex.specs.declared.ends.Entering.{Entering}
use Rattle.spec_simplex.specs.declared.ends.Best.{Best}
use Rattle.spec_simplex.specs.declared.ends.PrimalEnd.TheVariants.{Optimal}
use Rattle.spec_simplex.specs.declared.ends.Choice.{Choice}
use Rattle.spec_simplex.specs.declared.ends.Choice.TheVariants.{End}
use Rattle.spec_simplex.specs.Tableau.{Tableau, all_columns, status_at}
use Rattle.spec_simplex.specs.Step.{entering, directed, other_bound, best_run, choice_at, choice_by}
use Rattle.spec_simplex.specs.Step.{choice_of, choice_run, flip_way, flip_run, pivot_run}
use Rattle.spec_simplex.specs.Tables.{table_of, IsWhole, KeepsBounds, IsTableauOf, IsWithinBounds, StepsTo, IsMeant}
use Rattle.spec_simplex.proofs.RunParts.{then_ok}
use Rattle.spec_simplex.proofs.Enters.{no_entering, an_entering}
use Rattle.spec_simplex.proofs.Pivots.{Leaves, pivot_leaves}
use Rattle.spec_simplex.proofs.Flips.{directed_is, flip_leaves}
use Rattle.spec_simplex.proofs.Tests.{plain, IsRange, no_best, a_best, best_range, best_ahead}

pub ahead_is : (way : Way) → bound_ahead way ≡ other_bound way
ahead_is Up = refl
ahead_is Down = refl

-- a column with a lower bound flips the way that it enters
pub way_is : (s : Status) (way : Way) (l u : Option ℚ) (v low : ℚ) → l ≡ Some low → CanMove way s →
    Stands s l u v → flip_way s ≡ way
way_is Basic Up l u v low e c s = absurd c
way_is Basic Down l u v low e c s = absurd c
way_is AtLower Up l u v low e c s = refl
way_is AtLower Down l u v low e c s = absurd c
way_is AtUpper Up l u v low e c s = absurd c
way_is AtUpper Down l u v low e c s = refl
way_is AtZero way l u v low e c s = let z : None ≡ Some low = sym s.0 ∙ e in cc

module _ (limit : Option ℕ) (t : Tableau) (w : IsWhole t) (f : Matrix) (cost : ℕ → ℚ)
    (b : Bounds) (g : IsTableau t.rows (all_columns t) f cost b (table_of t))
    (within : IsWithin (all_columns t) b (table_of t)) (keeps : KeepsBounds b t) where
  -- where the run leaves the table v, and v is a step by Bland's rule with values within the bounds, the run steps to u
  -- so
  steps_to : (u : Tableau) (v : Table) (l : Label) → Leaves b t u v → IsStep t.rows (all_columns t) b l (table_of t) v →
      IsWithin (all_columns t) b v → StepsTo t.rows t.cols f cost b t u
  steps_to u v l left step inside = record {
    label = l;
    step = subst (IsStep t.rows (all_columns t) b l (table_of t)) (sym left.table) step;
    after = record {
      rows = left.rows;
      cols = left.cols;
      whole = left.whole;
      tableau =
          subst (IsTableau t.rows (all_columns t) f cost b) (sym left.table)
          (step_kept t.rows (all_columns t) f cost b l (table_of t) v g step);
      bounds = left.bounds;
    };
    within = subst (IsWithin (all_columns t) b) (sym left.table) inside;
  }

  module _ (e : Entering) (enters : Enters (all_columns t) b (table_of t) e.direction e.col) where
    -- a pivot by the best ratio at a position is a step by Bland's rule
    pivots_to : (x : Best ℚ) → best_run limit t e ≡ Ok (Some x) → (p : ℕ) → x.place ≡ Some p → (u : Tableau) →
        pivot_run limit t p e.col (directed e.direction x.ratio) x.to ≡ Ok u → StepsTo t.rows t.cols f cost b t u
    pivots_to x found p at u h =
        let best : best_of t.rows b (table_of t) e.direction e.col ≡ Some (plain x) =
        a_best limit t w f cost b g keeps e enters x found in
        let v : Pivots t.rows (all_columns t) b (table_of t) e.direction e.col p x.ratio x.to =
        subst (Pivots t.rows (all_columns t) b (table_of t) e.direction e.col p x.ratio)
        (sym (best_ahead limit t w f cost b g keeps e enters x found p at))
        (best_pivots t.rows (all_columns t) f cost b (table_of t)
        e.direction e.col g within enters (plain x) best p at) in
        steps_to u (after_pivot t.rows (table_of t) e.direction e.col p x.ratio x.to)
        (record { kind = kind.Pivot; way = e.direction; column = e.col; position = p; theta = x.ratio; to = x.to })
        (pivot_leaves limit t w f cost b g keeps e.direction e.col p x.ratio x.to
        (pivot_exchanges t.rows (all_columns t) f cost b (table_of t) g e.direction e.col p x.ratio x.to v)
        enters.eligible.may_enter.0 u
        (subst (λ theta. pivot_run limit t p e.col theta x.to ≡ Ok u) (directed_is e.direction x.ratio) h))
        (v, refl)
        (stays_within t.rows (all_columns t) f cost b (table_of t) e.direction e.col x.ratio g within enters
        (best_has_room t.rows (all_columns t) f cost b (table_of t) e.direction e.col g within enters (plain x) best))

    -- a flip by a best ratio at no position is a step by Bland's rule
    flips_to : (x : Best ℚ) → best_run limit t e ≡ Ok (Some x) → x.place ≡ None → (u : Tableau) →
        flip_run limit t e.col ≡ Ok u → StepsTo t.rows t.cols f cost b t u
    flips_to x found at u h =
        let best : best_of t.rows b (table_of t) e.direction e.col ≡ Some (plain x) =
        a_best limit t w f cost b g keeps e enters x found in
        let own : IsRange t e x = best_range limit t w f cost b g keeps e enters x found at in
        let v : Flips t.rows (all_columns t) b (table_of t) e.direction e.col x.ratio (other_bound e.direction) =
        subst (Flips t.rows (all_columns t) b (table_of t) e.direction e.col x.ratio) (ahead_is e.direction)
        (best_flips t.rows (all_columns t) f cost b (table_of t) e.direction e.col g within enters (plain x) best at) in
        steps_to u (after_flip t.rows (table_of t) e.direction e.col x.ratio (other_bound e.direction))
        (record {
          kind = kind.Flip;
          way = e.direction;
          column = e.col;
          position = 0;
          theta = x.ratio;
          to = other_bound e.direction;
        })
        (flip_leaves limit t w f cost b g keeps e.direction e.col x.ratio
        (flip_crosses t.rows (all_columns t) f cost b (table_of t) g
        e.direction e.col enters x.ratio (other_bound e.direction) v) enters.eligible.may_enter.0 u
        (way_is (status_at t e.col) e.direction (b.lower e.col) (b.upper e.col) _ own.bottom.0
        (sym (keeps.lower e.col enters.in_range) ∙ own.bottom.1) enters.eligible.status
        (g.stands e.col enters.in_range))
        own.ratio h)
        (v, refl)
        (stays_within t.rows (all_columns t) f cost b (table_of t) e.direction e.col x.ratio g within enters
        (best_has_room t.rows (all_columns t) f cost b (table_of t) e.direction e.col g within enters (plain x) best))

    -- the choice that the run makes by the best of the ratio test is an end, a flip or a pivot by the rule
    with_best : (best : Option (Best ℚ)) → best_run limit t e ≡ Ok best →
        IsMeant t.rows t.cols f cost b limit t (choice_by e best)
    with_best None h =
        none_goes_on t.rows (all_columns t) f cost b (table_of t)
        e.direction e.col g within enters (no_best limit t w f cost b g keeps e enters h)
    with_best (Some x) h = by x.place refl
      where
        by : (place : Option ℕ) → x.place ≡ place → IsMeant t.rows t.cols f cost b limit t (choice_at e x place)
        by None p = flips_to x h p
        by (Some i) p = pivots_to x h i p

  -- what the run chooses is an end, a flip or a pivot by Bland's rule
  chosen : (choice : Choice ℚ) → choice_run limit t ≡ Ok choice → IsMeant t.rows t.cols f cost b limit t choice
  unfolding choice_run
  chosen choice h = by (entering t) refl h
    where
      by : (o : Option Entering) → entering t ≡ o → choice_of limit t o ≡ Ok choice →
          IsMeant t.rows t.cols f cost b limit t choice
      by None e h =
          let z : End Optimal ≡ choice = cc in
          subst (IsMeant t.rows t.cols f cost b limit t) z (no_entering b t keeps e)
      by (Some x) e h =
          let o = then_ok (best_run limit t x) (λ best. Ok (choice_by x best)) choice h in
          let z : choice_by x o.0 ≡ choice = cc in
          subst (IsMeant t.rows t.cols f cost b limit t) z (with_best x (an_entering b t keeps x e) o.0 o.1)

pub choice_is_meant : (limit : Option ℕ) (m n : ℕ) (f : Matrix)
    (cost : ℕ → ℚ) (b : Bounds) (t : Tableau) (choice : Choice ℚ) →
    IsTableauOf m n f cost b t → IsWithinBounds m n b t → choice_run limit t ≡ Ok choice →
    IsMeant m n f cost b limit t choice
choice_is_meant limit m n f cost b t choice s inside h =
    subst₂ (λ m n. IsMeant m n f cost b limit t choice) s.rows s.cols
    (chosen limit t s.whole f cost b
    (subst₂ (λ m n. IsTableau m (n + m + m) f cost b (table_of t)) (sym s.rows) (sym s.cols) s.tableau)
    (subst₂ (λ m n. IsWithin (n + m + m) b (table_of t)) (sym s.rows) (sym s.cols) inside)
    s.bounds choice h)
