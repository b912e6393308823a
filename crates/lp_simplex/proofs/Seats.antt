-- After a dual pivot each basic column still has a position; and such a pivot may be made.
--
-- `can_pivot`: a dual pivot whose gap and step are not refused may be made.
-- `pivot_seated`: after a dual pivot each basic column still has a position.
use Rattle.std.proofs.Common.{◌≡◌, ◌≢◌, ℕ, ◌<◌, List, get_or, Option, Some, Ok, sym, ap, ◌∙◌, subst, ⊎_elim, arith}
use Rattle.std.proofs.lemmas.Bool.{cases_eq}
use Rattle.std.proofs.lemmas.List.{get_or-set_same, get_or-set_other, length-set}
use Rattle.std.specs.Prelude.{slice_set}
use Rattle.spec_exact.specs.Fraction.{ℚ, ◌-ℚ◌, ◌*ℚ◌}
use Rattle.spec_exact.proofs.Ruleset.{ring}
use Rattle.spec_pivot.specs.declared.status.Status.{Status}
use Rattle.spec_pivot.specs.declared.status.Status.TheVariants.{Basic, AtLower, AtUpper, AtZero}
use Rattle.spec_exact.specs.Run.{difference_run, quotient_run}
use Rattle.spec_simplex.specs.Step.{moved_run, shifted_run, turned_run, repriced_run}
use Rattle.spec_simplex.specs.Step.{exchanged, turned, pivot_run, NamesBound, CanPivot}
use Rattle.spec_simplex.specs.Tableau.{Tableau, all_columns, entry_at, basic_at, value_at}
use Rattle.spec_simplex.specs.Tableau.{status_at, lower_at, upper_at, or_zero, stand}
use Rattle.spec_simplex.proofs.RunParts.{then_ok, difference_ok}
use Rattle.spec_simplex.specs.Dual.{dual_pivot_run}
use Rattle.lp_simplex.proofs.Ratios.{quotient_ok}
use Rattle.lp_simplex.specs.Starts.{HasPlace, IsSeated, CanEnter}

-- ---- it may be made

-- where a status names a bound at v, it names the bound at which a column of that status stands
stands_there : (to : Status) (lower upper : Option ℚ) (v : ℚ) → NamesBound to lower upper v →
    NamesBound to lower upper (stand to lower upper)
stands_there Basic lower upper v h = h
stands_there AtLower lower upper v h = h ∙ ap (λ b. Some (or_zero b)) (sym h)
stands_there AtUpper lower upper v h = h ∙ ap (λ b. Some (or_zero b)) (sym h)
stands_there AtZero lower upper v h = h

pub can_pivot : (limit : Option ℕ) (t : Tableau) (p j : ℕ) (to : Status) (gap theta : ℚ) → CanEnter t p j to
    → difference_run limit (value_at t (basic_at t p))
    (stand to (lower_at t (basic_at t p)) (upper_at t (basic_at t p))) ≡ Ok gap
    → quotient_run limit gap (entry_at t p j) ≡ Ok theta → CanPivot t p j theta to
can_pivot limit t p j to gap theta c g q = record {
  place = c.place;
  column = c.column;
  nonbasic = c.nonbasic;
  entry = c.entry;
  lands =
      subst (NamesBound to (lower_at t (basic_at t p)) (upper_at t (basic_at t p))) (sym landed)
      (stands_there to (lower_at t (basic_at t p)) (upper_at t (basic_at t p)) c.bound.0 c.bound.1);
}
  where
    less : (v b : ℚ) → v -ℚ (v -ℚ b) ≡ b
    less v b = simp ring

    landed : value_at t (basic_at t p) -ℚ theta *ℚ entry_at t p j
        ≡ stand to (lower_at t (basic_at t p)) (upper_at t (basic_at t p))
    landed =
        ap (λ x. value_at t (basic_at t p) -ℚ x)
        (quotient_ok limit gap (entry_at t p j) theta c.entry q ∙ difference_ok limit
        (value_at t (basic_at t p)) (stand to (lower_at t (basic_at t p)) (upper_at t (basic_at t p))) gap g)
        ∙ less (value_at t (basic_at t p)) (stand to (lower_at t (basic_at t p)) (upper_at t (basic_at t p)))

-- ---- what it leaves

-- a status that names a bound is not that of a basic column
names_no_basic : (to : Status) (lower upper : Option ℚ) (v : ℚ) → NamesBound to lower upper v → to ≢ Basic
names_no_basic Basic lower upper v h e = h
names_no_basic AtLower lower upper v h e = cc
names_no_basic AtUpper lower upper v h e = cc
names_no_basic AtZero lower upper v h e = h

module _ (t : Tableau) (s : IsSeated t) (p j : ℕ) (to : Status)
    (c : CanEnter t p j to) (values reduced : List ℚ) (rows : List (List ℚ)) where
  abbrev after : Tableau
  after = exchanged (turned t values rows reduced) p j to

  abbrev left : List Status
  left = slice_set t.status (basic_at t p) to

  seat_at : (k : ℕ) → k < all_columns t → status_at after k ≡ Basic → HasPlace after k
  seat_at k l e = ⊎_elim same other (cases_eq k j)
    where
      same : k ≡ j → HasPlace after k
      same z =
          record {
            place = p;
            inside = c.place;
            holds = get_or-set_same t.basic p j 0 (omega (arith, c.place, s.all_basic)) ∙ sym z;
          }

      other : k ≢ j → HasPlace after k
      other n = record {
        place = seat.place;
        inside = seat.inside;
        holds = get_or-set_other t.basic p seat.place j 0 elsewhere ∙ seat.holds;
      }
        where
          still : get_or left k Basic ≡ Basic
          still = sym (get_or-set_other left j k Basic Basic n) ∙ e

          stays : k ≢ basic_at t p
          stays z = names_no_basic to (lower_at t (basic_at t p)) (upper_at t (basic_at t p)) c.bound.0 c.bound.1
              (sym (get_or-set_same t.status (basic_at t p) to Basic (omega (arith, l, z, s.all_statuses)))
              ∙ ap (λ i. get_or left i Basic) (sym z) ∙ still)

          seat : HasPlace t k
          seat = s.places k l (sym (get_or-set_other t.status (basic_at t p) k to Basic stays) ∙ still)

          elsewhere : seat.place ≢ p
          elsewhere z = stays (sym seat.holds ∙ ap (basic_at t) z)

  seated_after : IsSeated after
  seated_after = record {
    all_basic = length-set t.basic p j ∙ s.all_basic;
    all_statuses = length-set left j Basic ∙ length-set t.status (basic_at t p) to ∙ s.all_statuses;
    places = seat_at;
  }

pub pivot_seated : (limit : Option ℕ) (t u : Tableau) (p j : ℕ) (to : Status) → IsSeated t → CanEnter t p j to →
    dual_pivot_run limit t p j to ≡ Ok u → IsSeated u
unfolding dual_pivot_run pivot_run
pivot_seated limit t u p j to s c h =
    let gap =
    then_ok (difference_run limit (value_at t (basic_at t p))
    (stand to (lower_at t (basic_at t p)) (upper_at t (basic_at t p)))) _ u h in
    let theta = then_ok (quotient_run limit gap.0 (entry_at t p j)) _ u gap.2 in
    let moved = then_ok (moved_run limit t j theta.0 (Some p)) _ u theta.2 in
    let shifted = then_ok (shifted_run limit moved.0 j theta.0) _ u moved.2 in
    let rows = then_ok (turned_run limit t.rows (all_columns t) t.entries p j) _ u shifted.2 in
    let reduced = then_ok (repriced_run limit (all_columns t) t.reduced rows.0 p j) _ u rows.2 in
    let z : exchanged (turned t shifted.0 rows.0 reduced.0) p j to ≡ u = cc in
    subst IsSeated z (seated_after t s p j to c shifted.0 reduced.0 rows.0)
