-- The column that enters is not basic, and has an entry.
use Rattle.std.proofs.Common.{◌≡◌, ◌≢◌, ℕ, suc, ◌<◌, Option, Some, None, IfSome, Ok}
use Rattle.std.proofs.Common.{Bool, true, false, cond, refl, sym, ap, ◌∙◌, subst}
use Rattle.std.specs.declared.cmp.Ordering.{Ordering}
use Rattle.std.specs.declared.cmp.Ordering.TheVariants.{Less, Equal, Greater}
use Rattle.std.specs.Ordering.{is_lt}
use Rattle.spec_exact.specs.Fraction.{ℚ, 0ℚ, whole, lt_ℚ, abs_ℚ}
use Rattle.spec_pivot.specs.declared.status.Status.{Status}
use Rattle.spec_pivot.specs.declared.status.Status.TheVariants.{Basic, AtLower, AtUpper, AtZero}
use Rattle.spec_pivot.specs.declared.status.Way.{Way}
use Rattle.spec_exact.specs.Run.{quotient_run, order_run}
use Rattle.spec_simplex.specs.Step.{directed, way_by}
use Rattle.spec_simplex.specs.Tableau.{Tableau, all_columns, entry_at, reduced_at}
use Rattle.spec_simplex.specs.Tableau.{status_at, lower_at, upper_at, is_fixed}
use Rattle.spec_simplex.proofs.RunParts.{then_ok, steps_ok}
use Rattle.spec_simplex.specs.declared.ends.Cheapest.{Cheapest}
use Rattle.spec_simplex.specs.Dual.{dual_way_at, cheaper_run, cheapest_by, cheapest_with, cheapest_run}
use Rattle.lp_simplex.proofs.Entering.{not_basic}
use Rattle.lp_simplex.proofs.Ratios.{directed_zero, abs_not_zero}

-- a column whose entry is 0 goes neither way
no_way : (s : Status) → ◌≡◌ {A = Option Way} (way_by s 0ℚ) None
unfolding lt_ℚ whole
no_way Basic = refl
no_way AtLower = refl
no_way AtUpper = refl
no_way AtZero = refl

-- a column that goes some way in the dual ratio test has an entry other than 0
has_entry : (b : Bool) (way : Way) (s : Status) (a : ℚ) (w : Way) → cond b None (way_by s (directed way a)) ≡ Some w →
    a ≢ 0ℚ
has_entry true way s a w h e = let z : None ≡ Some w = h in cc
has_entry false way s a w h e =
    let z : None ≡ Some w = sym (no_way s) ∙ ap (way_by s) (sym (directed_zero way a e)) ∙ h in cc

module _ (t : Tableau) (p : ℕ) (way : Way) where
  pub entry_there : (k : ℕ) (w : Way) → dual_way_at t p way k ≡ Some w → entry_at t p k ≢ 0ℚ
  entry_there k w h = has_entry (is_fixed (lower_at t k) (upper_at t k)) way (status_at t k) (entry_at t p k) w h

  pub divides : (k : ℕ) (w : Way) → dual_way_at t p way k ≡ Some w → abs_ℚ (entry_at t p k) ≢ 0ℚ
  divides k w h = abs_not_zero (entry_at t p k) (entry_there k w h)

  -- column k may enter
  pub record MayEnter (k : ℕ) : Type 0 where
    pub inside : k < all_columns t
    pub nonbasic : status_at t k ≢ Basic
    pub entry : entry_at t p k ≢ 0ℚ

  abbrev pub BestEnters : ℕ → Option (Cheapest ℚ) → Type 0
  BestEnters n best = IfSome best (λ x. MayEnter x.col)

  one_of : (new best : Cheapest ℚ) (o : Ordering) → MayEnter new.col → MayEnter best.col →
      MayEnter (cond (is_lt o) new best).col
  one_of new best Less p q = p
  one_of new best Equal p q = q
  one_of new best Greater p q = q

module _ (limit : Option ℕ) (t : Tableau) (p : ℕ) (way : Way) where
  cheaper_enters : (new : Cheapest ℚ) (best next : Option (Cheapest ℚ)) → MayEnter t p way new.col →
      BestEnters t p way 0 best → cheaper_run limit new best ≡ Ok next → BestEnters t p way 0 next
  cheaper_enters new None next m was h = let z : Some new ≡ next = cc in subst (BestEnters t p way 0) z m
  cheaper_enters new (Some x) next m was h =
      let o = then_ok (order_run limit new.ratio x.ratio) (λ o. Ok (Some (cond (is_lt o) new x))) next h in
      let z : Some (cond (is_lt o.0) new x) ≡ next = cc in
      subst (BestEnters t p way 0) z (one_of t p way new x o.0 m was)

  step : (k : ℕ) (best next : Option (Cheapest ℚ)) → k < all_columns t → BestEnters t p way k best →
      cheapest_with limit t p way k best ≡ Ok next → BestEnters t p way (suc k) next
  step k best next l was h = by (dual_way_at t p way k) refl h
    where
      by : (o : Option Way) → dual_way_at t p way k ≡ o → cheapest_by limit t p k best o ≡ Ok next →
          BestEnters t p way (suc k) next
      by None e h = let z : best ≡ next = cc in subst (BestEnters t p way (suc k)) z was
      by (Some w) e h =
          let o =
          then_ok (quotient_run limit (abs_ℚ (reduced_at t k)) (abs_ℚ (entry_at t p k)))
          (λ ratio. cheaper_run limit (record { ratio = ratio; col = k }) best) next h in
          cheaper_enters (record { ratio = o.0; col = k }) best next
          (record {
            inside = l;
            nonbasic =
                not_basic (is_fixed (lower_at t k) (upper_at t k))
                (status_at t k) (directed way (entry_at t p k)) w e;
            entry = entry_there t p way k w e;
          })
          was o.2

  pub best_enters : (x : Cheapest ℚ) → cheapest_run limit t p way ≡ Ok (Some x) → MayEnter t p way x.col
  best_enters x h =
      steps_ok (BestEnters t p way) (all_columns t) (cheapest_with limit t p way) None (Some x) h tt step
