-- The sides that a certificate uses which is of a model with some sides alone, as sides of the model itself.
use Rattle.std.proofs.Common.{◌≡◌, ℕ, ◌<◌, Bool, true, false, List, All, get_or}
use Rattle.std.proofs.Common.{Option, Some, None, Ok, refl, sym, ◌∙◌, subst}
use Rattle.spec_exact.specs.Fraction.{ℚ}
use Rattle.spec_model.specs.Model.{Model, Limits, width, height, bounds, limits, activity, part}
use Rattle.spec_check.specs.declared.certificate.Certificate.{Certificate}
use Rattle.spec_check.specs.declared.certificate.Known.TheVariants as known
use Rattle.spec_check.specs.Certificate.{IsFor}
use Rattle.spec_check.specs.Run.{check_run}
use Rattle.spec_iis.specs.declared.side.Side.{Side}
use Rattle.spec_iis.specs.Sides.{end_of, IsSide, is_listed, IsWithin, Meets}
use Rattle.spec_iis.specs.Only.{has_lower, has_upper, stays, rank, renumbered, only}
use Rattle.spec_iis.specs.Rule.{used, used_among, IsClash}
use Rattle.spec_iis.proofs.Listed.{listed_holds, all_listed, among_filter, listed_filter}
use Rattle.spec_iis.proofs.Picked.{IsAt, rank_onto}
use Rattle.spec_iis.proofs.Points.{Is, chosen, if_listed_of, side}
use Rattle.spec_iis.proofs.Points.{width-only, height-only, bounds-only, limits-only, activity-only}
use Rattle.spec_iis.proofs.Points.{points_meet, meeting_points}
use Rattle.spec_iis.proofs.Used.{used_clash}

-- an end that is chosen is there only if its side is listed
chosen_there : (u a b : Bool) (l : Limits) → Is (end_of u (chosen a b l)) → if_listed_of u a b ≡ true
chosen_there true a true l e = refl
chosen_there true a false l e = absurd (let z : None ≡ Some e.0 = e.1 in cc)
chosen_there false true b l e = refl
chosen_there false false b l e = absurd (let z : None ≡ Some e.0 = e.1 in cc)

-- what is within an end is within the same one where it is chosen
chosen_within : (u a b : Bool) (l : Limits) (v : ℚ) → IsWithin u (end_of u l) v → IsWithin u (end_of u (chosen a b l)) v
chosen_within true a true l v h = h
chosen_within true a false l v h = tt
chosen_within false true b l v h = h
chosen_within false false b l v h = tt

module _ (m : Model) (sides : List Side) (present : All (IsSide m) sides) (cert : Certificate (List ℚ)) where
  -- the model with these sides alone
  abbrev alone : Model
  alone = only m sides

  -- the sides of the model with these sides alone that the certificate uses
  abbrev uses : List Side
  uses = used alone cert

  -- those of the listed sides that the certificate uses
  abbrev few : List Side
  few = used_among m sides cert

  -- where the flag for the lower or upper side of a row or column is set, this side is listed
  flag_listed : (r : Bool) (i : ℕ) (u : Bool) → if_listed_of u (has_lower sides r i) (has_upper sides r i) ≡ true →
      is_listed sides (side r i u) ≡ true
  flag_listed r i true h = h
  flag_listed r i false h = h

  -- a listed side, which the certificate uses by its new number, is among the few
  few_listed : (s : Side) → is_listed sides s ≡ true → is_listed uses (renumbered sides s) ≡ true → is_listed few s ≡ true
  unfolding used_among
  few_listed s h g = listed_filter (λ s. is_listed uses (renumbered sides s)) sides s h g

  -- each of the few sides is listed
  few_among : All (λ s. is_listed sides s ≡ true) few
  unfolding used_among
  few_among = among_filter (λ s. is_listed uses (renumbered sides s)) sides

  -- each of the few sides is a side of the model
  few_present : All (IsSide m) few
  few_present = λ k d l. listed_holds (IsSide m) sides _ present (few_among k d l)

  module _ (z : List ℚ) (meets : (s : Side) → is_listed few s ≡ true → Meets m z s) where
    -- a point that meets the few sides meets each bound that the certificate uses in the model with the sides alone
    column_met : (j : ℕ) (u : Bool) → IsSide alone (side false j u) → is_listed uses (side false j u) ≡ true →
        Meets alone z (side false j u)
    column_met j u s h =
        let l : j < width m = subst (λ n. j < n) (width-only m sides) s.inside in
        let same = bounds-only m sides j l in
        let flag = chosen_there u (has_lower sides false j) (has_upper sides false j) (bounds m j)
        (subst (λ k. Is (end_of u k)) same s.there) in
        subst (λ k. IsWithin u (end_of u k) (part z j)) (sym same)
        (chosen_within u (has_lower sides false j) (has_upper sides false j) (bounds m j) (part z j)
        (meets (side false j u) (few_listed (side false j u) (flag_listed false j u flag) h)))

    -- a point that meets the few sides keeps each limit, of a row with a new number, that the certificate uses
    row_met_at : (k : ℕ) (u : Bool) (r : IsAt (stays sides) (height m) k) → Is (end_of u (limits alone k)) →
        is_listed uses (side true k u) ≡ true → IsWithin u (end_of u (limits alone k)) (activity alone z k)
    row_met_at k u r there h =
        let i : ℕ = r.item in
        let same = limits-only m sides present i r.inside r.passes in
        let flag = chosen_there u (has_lower sides true i) (has_upper sides true i) (limits m i)
        (subst (λ k. Is (end_of u k)) same (subst (λ k. Is (end_of u (limits alone k))) (sym r.number) there)) in
        let here = meets (side true i u)
        (few_listed (side true i u) (flag_listed true i u flag)
        (subst (λ k. is_listed uses (side true k u) ≡ true) (sym r.number) h)) in
        subst (λ k. IsWithin u (end_of u (limits alone k)) (activity alone z k)) r.number
        (subst (λ v. IsWithin u (end_of u (limits alone (rank (stays sides) i))) v)
        (sym (activity-only m sides z i r.passes))
        (subst (λ k. IsWithin u (end_of u k) (activity m z i)) (sym same)
        (chosen_within u (has_lower sides true i) (has_upper sides true i) (limits m i) (activity m z i) here)))

    -- a point that meets the few sides meets each side that the certificate uses in the model with the sides alone
    side_met : (s : Side) → IsSide alone s → is_listed uses s ≡ true → Meets alone z s
    side_met s present h = by s.row s.at s.upper present h
      where
        by : (r : Bool) (i : ℕ) (u : Bool) → IsSide alone (side r i u) → is_listed uses (side r i u) ≡ true →
            Meets alone z (side r i u)
        by true k u s h =
            row_met_at k u
            (rank_onto (stays sides) (height m) k (subst (λ n. k < n) (height-only m sides) s.inside)) s.there h
        by false j u s h = column_met j u s h

  -- where the checker accepts a certificate of infeasibility for the model with these sides alone, no point meets those
  -- that it uses
  pub few_clash : (limit : Option ℕ) → IsFor alone cert → check_run limit alone cert ≡ Ok known.Infeasible →
      IsClash m sides few
  few_clash limit fits accepted = record {
    among = few_among;
    infeasible = λ z f.
        let shown = used_clash limit alone cert fits accepted in
        let met = points_meet m few few_present z f in
        let meets : (s : Side) → is_listed few s ≡ true → Meets m z s =
        (λ s h. listed_holds (Meets m z) few s met.met h) in
        shown.infeasible z
        (meeting_points alone uses shown.present z
        (record {
          one_each = met.one_each ∙ sym (width-only m sides);
          met = λ k d l. side_met z meets (get_or uses k d) (shown.present k d l) (all_listed uses k d l);
        }));
  }
