-- What a step does, part by part, and that it may be done.
use Rattle.std.proofs.Common.{◌≡◌, ℕ, Option, Some, None, Ok, refl, subst, ap, ◌∙◌}
use Rattle.spec_exact.specs.Fraction.{ℚ}
use Rattle.spec_simplex.specs.declared.ends.Entering.{Entering}
use Rattle.spec_simplex.specs.declared.ends.Best.{Best}
use Rattle.spec_simplex.specs.declared.ends.PrimalEnd.TheVariants.{Optimal}
use Rattle.spec_simplex.specs.declared.ends.Choice.{Choice}
use Rattle.spec_simplex.specs.declared.ends.Choice.TheVariants.{End}
use Rattle.spec_exact.specs.Run.{Run, ◌>>=◌}
use Rattle.spec_simplex.specs.Tableau.{Tableau, all_columns, reduced_at, lower_at, upper_at, is_fixed}
use Rattle.spec_simplex.specs.Step.{entering, best_run, choice_at, choice_by, choice_of, choice_run, CanMake}
use Rattle.spec_simplex.proofs.RunParts.{then_ok}
use Rattle.lp_simplex.proofs.Entering.{MayEnter, may_enter, not_basic}
use Rattle.lp_simplex.proofs.Ratios.{StopsBy, IsBest, best_is}

module _ (limit : Option ℕ) (t : Tableau) where
  -- ---- the parts
  module _ (e : Entering) (h : entering t ≡ Some e) where
    from_best : choice_run limit t ≡ (best_run limit t e >>= λ best. Ok (choice_by e best))
    unfolding choice_run
    from_best = ap (choice_of limit t) h

    pub chosen_is : (best : Option (Best ℚ)) → best_run limit t e ≡ Ok best → choice_run limit t ≡ Ok (choice_by e best)
    chosen_is best g = from_best ∙ ap (λ o. o >>= λ best. Ok (choice_by e best)) g

  -- ---- it may be done
  -- where a column may enter, and is stopped so, the flip or the pivot that follows may be made
  at_place : (e : Entering) (x : Best ℚ) (place : Option ℕ) → MayEnter t (all_columns t) e →
      StopsBy t e x.ratio x.to place → CanMake t (choice_at e x place)
  at_place e x None m s =
      record {
        column = m.inside;
        nonbasic = not_basic (is_fixed (lower_at t e.col) (upper_at t e.col)) _ (reduced_at t e.col) e.direction m.way;
        lower = s.lower;
        upper = s.upper;
      }
  at_place e x (Some i) m s =
      record {
        place = s.place;
        column = m.inside;
        nonbasic = not_basic (is_fixed (lower_at t e.col) (upper_at t e.col)) _ (reduced_at t e.col) e.direction m.way;
        entry = s.entry;
        lands = s.lands;
      }

  by_best : (e : Entering) (best : Option (Best ℚ)) → MayEnter t (all_columns t) e → IsBest t e best →
      CanMake t (choice_by e best)
  by_best e None m s = tt
  by_best e (Some x) m s = at_place e x x.place m s

  by_entering : (o : Option Entering) (choice : Choice ℚ) → entering t ≡ o → choice_of limit t o ≡ Ok choice →
      CanMake t choice
  by_entering None choice h g = let z : End Optimal ≡ choice = cc in subst (CanMake t) z tt
  by_entering (Some e) choice h g = by (then_ok (best_run limit t e) (λ best. Ok (choice_by e best)) choice g)
    where
      by : (best : Option (Best ℚ)) × (best_run limit t e ≡ Ok best)
          × (◌≡◌ {A = Run (Choice ℚ)} (Ok (choice_by e best)) (Ok choice)) →
          CanMake t choice
      by (best, f, k) =
          let z : choice_by e best ≡ choice = cc in
          subst (CanMake t) z (by_best e best (may_enter t e h) (best_is limit t e best f))

  pub can_make : (choice : Choice ℚ) → choice_run limit t ≡ Ok choice → CanMake t choice
  unfolding choice_run
  can_make choice h = by_entering (entering t) choice refl h
