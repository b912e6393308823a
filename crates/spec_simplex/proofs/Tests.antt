-- The ratio test of the run is the ratio test of the table.
--
-- `abs_falling`: an entry that is below 0 along the entering column's way has the negative of that as its magnitude.
-- `abs_rising`: an entry that is above 0 along the entering column's way has that as its magnitude.
use Rattle.std.proofs.Common.{◌≡◌, ℕ, suc, ◌<◌, Option, Some, None, Ok, Bool, true, false}
use Rattle.std.proofs.Common.{cond, nat_lt, option_map, refl, sym, ap, ap₂, ◌∙◌, subst}
use Rattle.std.specs.declared.cmp.Ordering.{Ordering}
use Rattle.std.specs.declared.cmp.Ordering.TheVariants.{Less, Equal, Greater}
use Rattle.spec_exact.specs.Fraction.{ℚ, 0ℚ, ◌-ℚ◌, ◌*ℚ◌, neg_ℚ, abs_ℚ, inverse, lt_ℚ, ◌<ℚ◌, ◌≤ℚ◌}
use Rattle.spec_exact.specs.Limit.{order}
use Rattle.spec_exact.proofs.Compare.{order_less, order_equal, order_greater}
use Rattle.spec_exact.proofs.Order.{≤ℚ_antisym, ≤ℚ_refl, <ℚ-le, lt_if, le_if_not, lt_test, not_lt_test}
use Rattle.spec_exact.proofs.Ruleset.{neg-neg, neg-zero}
use Rattle.spec_exact.proofs.Magnitudes.{abs_above, abs_below, below_turned, above_turned, turned_back, turned_down}
use Rattle.spec_pivot.specs.declared.status.Status.{Status}
use Rattle.spec_pivot.specs.declared.status.Status.TheVariants.{AtLower, AtUpper}
use Rattle.spec_pivot.specs.declared.status.Way.{Way}
use Rattle.spec_pivot.specs.declared.status.Way.TheVariants.{Up, Down}
use Rattle.spec_pivot.specs.Tableau.{Matrix}
use Rattle.spec_pivot.specs.Simplex.{Bounds, IsTableau, Enters, ray}
use Rattle.spec_pivot.specs.Ratio.{room, room_at, is_better, take_room, scan, range_of, best_of, way_of, bound_ahead}
use Rattle.spec_pivot.specs.Ratio as test
use Rattle.spec_pivot.proofs.SameEquations.{j_outside}
use Rattle.spec_pivot.proofs.Ray.{ray_basic}
use Rattle.spec_simplex.specs.declared.ends.Entering.{Entering}
use Rattle.spec_simplex.specs.declared.ends.Best.{Best}
use Rattle.spec_exact.specs.Run.{difference_run, quotient_run, order_run, steps}
use Rattle.spec_simplex.specs.Tableau.{Tableau, form_columns, all_columns, basic_at}
use Rattle.spec_simplex.specs.Tableau.{entry_at, value_at, lower_at, upper_at, or_zero}
use Rattle.spec_simplex.specs.Step.{directed, other_bound, range_run, rise_run, fall_run, gap_run}
use Rattle.spec_simplex.specs.Step.{better_by, better_run, with_gap, best_with, best_run}
use Rattle.spec_simplex.specs.Tables.{table_of, IsWhole, KeepsBounds}
use Rattle.spec_simplex.proofs.RunParts.{then_ok, difference_ok, quotient_ok, order_ok, steps_ok}
use Rattle.spec_simplex.proofs.Pivots.{enters_before}
use Rattle.spec_simplex.proofs.Flips.{directed_is}

-- ---- magnitudes

-- the magnitude of an entry, by the way of the column
pub abs_falling : (way : Way) (a : ℚ) → directed way a <ℚ 0ℚ → abs_ℚ a ≡ neg_ℚ (directed way a)
abs_falling Up a h = abs_below a h
abs_falling Down a h = abs_above a (<ℚ-le 0ℚ a (turned_back a h)) ∙ sym (neg-neg a)

pub abs_rising : (way : Way) (a : ℚ) → 0ℚ <ℚ directed way a → abs_ℚ a ≡ directed way a
abs_rising Up a h = abs_above a (<ℚ-le 0ℚ a h)
abs_rising Down a h = abs_below a (turned_down a h)

-- ---- the room of a position
-- how far a column at v, with bounds l and u, may move at the rate r until a bound stops it; none where none does
abbrev room_by : Option ℚ → Option ℚ → ℚ → ℚ → Option ℚ
room_by l u v r =
    cond (lt_ℚ 0ℚ r) (option_map (λ u. (u -ℚ v) *ℚ inverse r) u)
    (cond (lt_ℚ r 0ℚ) (option_map (λ l. (v -ℚ l) *ℚ inverse (neg_ℚ r)) l) None)

-- the run's gap, over the absolute value of the entry a, is the room of a column at v that moves at the rate r, and its
-- status is the bound ahead; without a gap there is no room that ends
abbrev IsRoom : Option ℚ → Option ℚ → ℚ → ℚ → ℚ → Option (ℚ × Status) → Type 0
IsRoom l u v r a None = room_by l u v r ≡ None
IsRoom l u v r a (Some (gap, to)) = (room_by l u v r ≡ Some (gap *ℚ inverse (abs_ℚ a))) × (to ≡ bound_ahead (way_of r))

-- the run's gap of a position, over the entry's magnitude, is that position's room
gap_is : (limit : Option ℕ) (way : Way) (a : ℚ) (l u : Option ℚ) (v r : ℚ) → r ≡ neg_ℚ (directed way a) →
    (gap : Option (ℚ × Status)) → gap_run limit way a l u v ≡ Ok gap → IsRoom l u v r a gap
gap_is limit way a l u v r r_is gap h = by (lt_ℚ (directed way a) 0ℚ) (lt_ℚ 0ℚ (directed way a)) refl refl h
  where
    rise : directed way a <ℚ 0ℚ → (o : Option ℚ) → rise_run limit o v ≡ Ok gap → IsRoom l o v r a gap
    rise d None h =
        let e : None ≡ gap = cc in
        subst (IsRoom l None v r a) e
        (rw (lt_test 0ℚ r (subst (λ r. 0ℚ <ℚ r) (sym r_is) (below_turned (directed way a) d))) refl)
    rise d (Some x) h =
        let o = then_ok (difference_run limit x v) (λ gap. Ok (Some (gap, AtUpper))) gap h in
        let above : 0ℚ <ℚ r = subst (λ r. 0ℚ <ℚ r) (sym r_is) (below_turned (directed way a) d) in
        let e : Some (o.0, AtUpper) ≡ gap = cc in
        subst (IsRoom l (Some x) v r a) e (
          rw (lt_test 0ℚ r above) (ap Some
              (ap₂ (λ g r. g *ℚ inverse r) (sym (difference_ok limit x v o.0 o.1)) (r_is ∙ sym (abs_falling way a d)))),
          rw (lt_test 0ℚ r above) refl,
        )

    fall : 0ℚ <ℚ directed way a → (o : Option ℚ) → fall_run limit o v ≡ Ok gap → IsRoom o u v r a gap
    fall d None h =
        let below : r <ℚ 0ℚ = subst (λ r. r <ℚ 0ℚ) (sym r_is) (above_turned (directed way a) d) in
        let e : None ≡ gap = cc in
        subst (IsRoom None u v r a) e (rw (not_lt_test 0ℚ r (<ℚ-le r 0ℚ below), lt_test r 0ℚ below) refl)
    fall d (Some x) h =
        let o = then_ok (difference_run limit v x) (λ gap. Ok (Some (gap, AtLower))) gap h in
        let below : r <ℚ 0ℚ = subst (λ r. r <ℚ 0ℚ) (sym r_is) (above_turned (directed way a) d) in
        let e : Some (o.0, AtLower) ≡ gap = cc in
        subst (IsRoom (Some x) u v r a) e (
          rw (not_lt_test 0ℚ r (<ℚ-le r 0ℚ below), lt_test r 0ℚ below)
              (ap Some (ap₂ (λ g r. g *ℚ inverse r) (sym (difference_ok limit v x o.0 o.1))
              (ap neg_ℚ r_is ∙ neg-neg (directed way a) ∙ sym (abs_rising way a d)))),
          rw (not_lt_test 0ℚ r (<ℚ-le r 0ℚ below)) refl,
        )

    by : (c d : Bool) → lt_ℚ (directed way a) 0ℚ ≡ c → lt_ℚ 0ℚ (directed way a) ≡ d →
        cond c (rise_run limit u v) (cond d (fall_run limit l v) (Ok None)) ≡ Ok gap → IsRoom l u v r a gap
    by true d c e h = rise (lt_if (directed way a) 0ℚ c) u h
    by false true c d h = fall (lt_if 0ℚ (directed way a) d) l h
    by false false c d h =
        let zero : directed way a
        ≡ 0ℚ = ≤ℚ_antisym (directed way a) 0ℚ (le_if_not 0ℚ (directed way a) d) (le_if_not (directed way a) 0ℚ c) in
        let still : r ≡ 0ℚ = r_is ∙ ap neg_ℚ zero ∙ neg-zero in
        let e : None ≡ gap = cc in
        subst (IsRoom l u v r a) e (rw (
          not_lt_test 0ℚ r (subst (λ r. r ≤ℚ 0ℚ) (sym still) (≤ℚ_refl 0ℚ)),
          not_lt_test r 0ℚ (subst (λ r. 0ℚ ≤ℚ r) (sym still) (≤ℚ_refl 0ℚ)),
        ) refl)

-- ---- the better of two
-- a best candidate of the run as one of the table's ratio test, without its status
abbrev pub plain : Best ℚ → test.Best
plain x = record { ratio = x.ratio; column = x.col; position = x.place }

-- of two candidates the run takes the one that the ratio test takes
better_is : (new x : Best ℚ) (o : Ordering) → o ≡ order new.ratio x.ratio →
    plain (better_by new x o) ≡ cond (is_better new.ratio new.col (Some (plain x))) (plain new) (plain x)
better_is new x Less e = rw (lt_test new.ratio x.ratio ((order_less new.ratio x.ratio).0 (sym e))) refl
better_is new x Equal e =
    let same : new.ratio ≡ x.ratio = (order_equal new.ratio x.ratio).0 (sym e) in
    rw (
      not_lt_test new.ratio x.ratio (subst (λ a. x.ratio ≤ℚ a) (sym same) (≤ℚ_refl x.ratio)),
      not_lt_test x.ratio new.ratio (subst (λ a. a ≤ℚ x.ratio) (sym same) (≤ℚ_refl x.ratio)),
    ) (by (nat_lt new.col x.col))
  where
    by : (c : Bool) → plain (cond c new x) ≡ cond c (plain new) (plain x)
    by true = refl
    by false = refl
better_is new x Greater e =
    let less : x.ratio <ℚ new.ratio = (order_greater new.ratio x.ratio).0 (sym e) in
    rw (not_lt_test new.ratio x.ratio (<ℚ-le x.ratio new.ratio less), lt_test x.ratio new.ratio less) refl

-- what holds of both of two candidates holds of the better one
one_of : (P : Best ℚ → Type 0) (new x : Best ℚ) (o : Ordering) → P new → P x → P (better_by new x o)
one_of P new x Less p q = p
one_of P new x Equal p q = by (nat_lt new.col x.col)
  where
    by : (c : Bool) → P (cond c new x)
    by true = p
    by false = q
one_of P new x Greater p q = q

-- ---- the test of a tableau

-- x is the entering column e itself, stopped at its other bound: its ratio is the distance of its bounds, and it has a
-- lower one
pub record IsRange (t : Tableau) (e : Entering) (x : Best ℚ) : Type 0 where
  pub to : x.to ≡ other_bound e.direction
  pub col : x.col ≡ e.col
  pub ratio : x.ratio ≡ or_zero (upper_at t e.col) -ℚ or_zero (lower_at t e.col)
  pub bottom : (v : ℚ) × (lower_at t e.col ≡ Some v)

module _ (limit : Option ℕ) (t : Tableau) (w : IsWhole t) (f : Matrix) (cost : ℕ → ℚ) (b : Bounds)
    (g : IsTableau t.rows (all_columns t) f cost b (table_of t)) (keeps : KeepsBounds b t)
    (e : Entering) (enters : Enters (all_columns t) b (table_of t) e.direction e.col) where
  -- the bound towards which the basic column of position p moves along the ray
  abbrev ahead : ℕ → Status
  ahead p = bound_ahead (way_of (ray t.rows (table_of t) e.direction e.col (basic_at t p)))

  -- the candidate x goes where it must: at no position it is the entering column's own range, at position p its status
  -- is the bound ahead of the basic column
  record Aims (x : Best ℚ) : Type 0 where
    flip : x.place ≡ None → IsRange t e x
    pivot : (p : ℕ) → x.place ≡ Some p → x.to ≡ ahead p

  -- the best of the run is that of the table's ratio test over the first i positions and the entering column's own
  -- range, and goes where it must
  record Found (i : ℕ) (best : Option (Best ℚ)) : Type 0 where
    same : option_map plain best ≡ scan i (room_at t.rows b (table_of t) e.direction e.col)
        (basic_at t) (range_of e.col (b.lower e.col) (b.upper e.col))
    aims : (x : Best ℚ) → best ≡ Some x → Aims x

  -- the best that the run begins with is the entering column's own range, as in the table's ratio test
  range_is : (l u : Option ℚ) → lower_at t e.col ≡ l → upper_at t e.col ≡ u → (best : Option (Best ℚ)) →
      range_run limit e l u ≡ Ok best →
      (option_map plain best ≡ range_of e.col l u) × ((x : Best ℚ) → best ≡ Some x → Aims x)
  range_is None u p q best h =
      let z : None ≡ best = cc in
      subst (λ best. (option_map plain best ≡ None) × ((x : Best ℚ) → best ≡ Some x → Aims x)) z
      (refl, λ x y. let k : None ≡ Some x = y in cc)
  range_is (Some l) None p q best h =
      let z : None ≡ best = cc in
      subst (λ best. (option_map plain best ≡ None) × ((x : Best ℚ) → best ≡ Some x → Aims x)) z
      (refl, λ x y. let k : None ≡ Some x = y in cc)
  range_is (Some l) (Some u) p q best h =
      let o = then_ok (difference_run limit u l) _ best h in
      let made : Best ℚ = record { ratio = o.0; col = e.col; place = None; to = other_bound e.direction } in
      let z : Some made ≡ best = cc in
      let length : o.0 ≡ u -ℚ l = difference_ok limit u l o.0 o.1 in
      subst (λ best. (option_map plain best ≡ range_of e.col (Some l) (Some u))
      × ((x : Best ℚ) → best ≡ Some x → Aims x)) z (
        (ap (λ r. Some (plain (record { ratio = r; col = e.col; place = None; to = other_bound e.direction }))) length),
        λ x y. let k : made ≡ x = cc in subst Aims k (record {
          flip =
              λ _. record {
                to = refl;
                col = refl;
                ratio = length ∙ ap₂ (λ u l. or_zero u -ℚ or_zero l) (sym q) (sym p);
                bottom = (l, p);
              };
          pivot = λ i y. let k : None ≡ Some i = y in cc;
        }),
      )

  -- the entering column is structural or logical
  pub e_before : e.col < form_columns t
  e_before = enters_before b t e.col keeps enters.eligible.may_enter.0

  -- the best ratio of no position is the distance between the entering column's own bounds, if there is one
  found_range : (best : Option (Best ℚ)) → range_run limit e (lower_at t e.col) (upper_at t e.col) ≡ Ok best →
      Found 0 best
  found_range best h =
      let r = range_is (lower_at t e.col) (upper_at t e.col) refl refl best h in
      record {
        same = r.0 ∙ ap₂ (range_of e.col) (keeps.lower e.col enters.in_range) (keeps.upper e.col e_before);
        aims = r.1;
      }

  -- where the best ratio of the first i positions is found, and the run makes `next` of it at position i, that of the
  -- first i + 1 is `next`
  found_step : (i : ℕ) (best next : Option (Best ℚ)) → i < t.rows → Found i best →
      best_with limit t e i best ≡ Ok next → Found (suc i) next
  found_step i best next i_in was h = with_one o.0 o.2 there
    where
      k : ℕ
      k = basic_at t i

      a : ℚ
      a = entry_at t i e.col

      r : ℚ
      r = ray t.rows (table_of t) e.direction e.col (basic_at t i)

      before : Option test.Best
      before =
          scan i (room_at t.rows b (table_of t) e.direction e.col)
          (basic_at t) (range_of e.col (b.lower e.col) (b.upper e.col))

      o : (gap : Option (ℚ × Status)) × (gap_run limit e.direction (entry_at t i e.col)
          (lower_at t (basic_at t i)) (upper_at t (basic_at t i)) (value_at t (basic_at t i)) ≡ Ok gap)
          × (with_gap limit i (basic_at t i) (entry_at t i e.col) best gap ≡ Ok next)
      o =
          then_ok (gap_run limit e.direction (entry_at t i e.col) (lower_at t (basic_at t i)) (upper_at t (basic_at t i))
          (value_at t (basic_at t i))) (λ gap. with_gap limit i (basic_at t i) (entry_at t i e.col) best gap) next h

      r_is : ray t.rows (table_of t) e.direction e.col (basic_at t i) ≡ neg_ℚ (directed e.direction (entry_at t i e.col))
      r_is =
          ray_basic t.rows (table_of t) g.units e.direction e.col
          (j_outside t.rows (all_columns t) f cost b (table_of t) g e.direction e.col enters) i i_in
          ∙ ap neg_ℚ (sym (directed_is e.direction (entry_at t i e.col)))

      there : IsRoom (lower_at t (basic_at t i)) (upper_at t (basic_at t i)) (value_at t (basic_at t i))
          (ray t.rows (table_of t) e.direction e.col (basic_at t i)) (entry_at t i e.col) o.0
      there =
          gap_is limit e.direction (entry_at t i e.col) (lower_at t (basic_at t i)) (upper_at t (basic_at t i))
          (value_at t (basic_at t i)) (ray t.rows (table_of t) e.direction e.col (basic_at t i)) r_is o.0 o.1

      room_same : room_at t.rows b (table_of t) e.direction e.col i
          ≡ room_by (lower_at t (basic_at t i)) (upper_at t (basic_at t i))
          (value_at t (basic_at t i)) (ray t.rows (table_of t) e.direction e.col (basic_at t i))
      room_same =
          ap₂ (λ l u. room_by l u (value_at t (basic_at t i)) (ray t.rows (table_of t) e.direction e.col (basic_at t i)))
          (sym (keeps.lower (basic_at t i) (g.in_range i i_in)))
          (sym (keeps.basic (basic_at t i) (g.in_range i i_in) (g.marked i i_in)))

      newer : ℚ → Status → Best ℚ
      newer q to = record { ratio = q; col = basic_at t i; place = Some i; to = to }

      new_aims : (q : ℚ) (to : Status) → to ≡ ahead i → Aims (newer q to)
      new_aims q to z =
          record { flip = λ y. let k : Some i ≡ None = y in cc; pivot = λ p y. z ∙ (let k : i ≡ p = cc in ap ahead k) }

      with_best : (q : ℚ) (to : Status) → to ≡ ahead i → (best : Option (Best ℚ)) → option_map plain best ≡ before →
          ((x : Best ℚ) → best ≡ Some x → Aims x) → better_run limit (newer q to) best ≡ Ok next
          → room_at t.rows b (table_of t) e.direction e.col i ≡ Some q → Found (suc i) next
      with_best q to z None same aims h room_is =
          let y : Some (newer q to) ≡ next = cc in
          subst (Found (suc i)) y (record {
            same = sym (ap₂ (take_room i (basic_at t i)) room_is (sym same));
            aims = λ x y. let k : newer q to ≡ x = cc in subst Aims k (new_aims q to z);
          })
      with_best q to z (Some x) same aims h room_is =
          let c = then_ok (order_run limit q x.ratio) (λ o. Ok (Some (better_by (newer q to) x o))) next h in
          let y : Some (better_by (newer q to) x c.0) ≡ next = cc in
          subst (Found (suc i)) y (record {
            same =
                ap Some (better_is (newer q to) x c.0 (order_ok limit q x.ratio c.0 c.1))
                ∙ spread (is_better q (basic_at t i) (Some (plain x))) (plain (newer q to)) (plain x)
                ∙ sym (ap₂ (take_room i (basic_at t i)) room_is (sym same));
            aims =
                λ v y. let k : better_by (newer q to) x c.0 ≡ v = cc in
                subst Aims k (one_of Aims (newer q to) x c.0 (new_aims q to z) (aims x refl));
          })
        where
          spread : (c : Bool) (u v : test.Best) → Some (cond c u v) ≡ cond c (Some u) (Some v)
          spread true u v = refl
          spread false u v = refl

      with_one : (gap : Option (ℚ × Status)) → with_gap limit i (basic_at t i) (entry_at t i e.col) best gap ≡ Ok next
          → IsRoom (lower_at t (basic_at t i)) (upper_at t (basic_at t i)) (value_at t (basic_at t i))
          (ray t.rows (table_of t) e.direction e.col (basic_at t i)) (entry_at t i e.col) gap → Found (suc i) next
      with_one None h room_is =
          let y : best ≡ next = cc in
          subst (Found (suc i)) y (record {
            same = was.same ∙ sym (ap (λ o. take_room i (basic_at t i) o before) (room_same ∙ room_is));
            aims = was.aims;
          })
      with_one (Some (gap, to)) h room_is =
          let c = then_ok (quotient_run limit gap (abs_ℚ (entry_at t i e.col))) _ next h in
          with_best c.0 to room_is.1 best was.same was.aims c.2
          (room_same ∙ room_is.0 ∙ ap Some (sym (quotient_ok limit gap (abs_ℚ (entry_at t i e.col)) c.0 c.1)))

  -- the best ratio that the run finds is that of all positions
  found_all : (best : Option (Best ℚ)) → best_run limit t e ≡ Ok best → Found t.rows best
  found_all best h =
      let o =
      then_ok (range_run limit e (lower_at t e.col) (upper_at t e.col))
      (λ best. steps t.rows (best_with limit t e) best) best h in
      steps_ok Found t.rows (best_with limit t e) o.0 best o.2 (found_range o.0 o.1) found_step

  -- where the run finds no best ratio, the ratio test of the table finds none
  pub no_best : best_run limit t e ≡ Ok None → best_of t.rows b (table_of t) e.direction e.col ≡ None
  no_best h = sym (found_all None h).same

  -- the best ratio that the run finds is the one of the table's ratio test
  pub a_best : (x : Best ℚ) → best_run limit t e ≡ Ok (Some x) →
      best_of t.rows b (table_of t) e.direction e.col ≡ Some (plain x)
  a_best x h = sym (found_all (Some x) h).same

  -- where the best ratio that the run finds is at no position, it is the distance between the entering column's own
  -- bounds
  pub best_range : (x : Best ℚ) → best_run limit t e ≡ Ok (Some x) → x.place ≡ None → IsRange t e x
  best_range x h = ((found_all (Some x) h).aims x refl).flip

  -- where the best ratio that the run finds is at position p, its column leaves at the bound towards which it moves
  -- along the ray
  pub best_ahead : (x : Best ℚ) → best_run limit t e ≡ Ok (Some x) → (p : ℕ) → x.place ≡ Some p →
      x.to ≡ bound_ahead (way_of (ray t.rows (table_of t) e.direction e.col (basic_at t p)))
  best_ahead x h = ((found_all (Some x) h).aims x refl).pivot
