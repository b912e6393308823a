-- What is known of the best of the ratio test: a position that stops the column has an entry there, and the move takes
-- its column to a bound; where the column stops itself, it has both bounds.
--
-- `quotient_ok`: where v / w is not refused and w is not 0, the quotient times w is v.
-- `directed_zero`: 0 stays 0, whichever way the entering column moves.
-- `abs_not_zero`: the magnitude of a number other than 0 is not 0.
-- `gap_is`: where a position has a gap, its entry is not 0, and the move by the ratio takes its column to a bound.
-- `divides`: where a position has a gap, the magnitude of its entry is not 0.
use Rattle.std.proofs.Common.{◌≡◌, ◌≢◌, ℕ, zero, suc, ◌<◌, ◌≤◌, Option, Some, None}
use Rattle.std.proofs.Common.{Ok, Err, Bool, true, false, cond, int_lt, pos, nat_lt, Ordering}
use Rattle.std.proofs.Common.{Less, Equal, Greater, refl, sym, subst, ap, ◌∙◌, arith}
use Rattle.spec_exact.specs.Fraction.{ℚ, 0ℚ, ◌+ℚ◌, ◌-ℚ◌, ◌*ℚ◌, neg_ℚ, abs_ℚ, lt_ℚ, ◌<ℚ◌}
use Rattle.spec_exact.specs.Limit.{div}
use Rattle.spec_exact.specs.declared.past.Past.{Past}
use Rattle.spec_exact.specs.declared.past.Op.TheVariants.{Div}
use Rattle.spec_exact.proofs.Limit.{div_exact}
use Rattle.spec_exact.proofs.Order.{lt_if}
use Rattle.spec_exact.proofs.Ruleset.{ring, neg-neg, neg-zero, neg-*ℚ, *ℚ-neg}
use Rattle.spec_exact.proofs.Strict.{<ℚ_irrefl}
use Rattle.spec_pivot.specs.declared.status.Status.{Status}
use Rattle.spec_pivot.specs.declared.status.Status.TheVariants.{AtLower, AtUpper}
use Rattle.spec_pivot.specs.declared.status.Way.{Way}
use Rattle.spec_pivot.specs.declared.status.Way.TheVariants.{Up, Down}
use Rattle.spec_simplex.specs.declared.ends.Entering.{Entering}
use Rattle.spec_simplex.specs.declared.ends.Best.{Best}
use Rattle.spec_exact.specs.Run.{Run, ◌>>=◌, difference_run, quotient_run, order_run, steps}
use Rattle.spec_simplex.specs.Tableau.{Tableau, entry_at, basic_at, value_at, lower_at, upper_at}
use Rattle.spec_simplex.specs.Step.{directed, other_bound, range_run, rise_run, fall_run, gap_run}
use Rattle.spec_simplex.specs.Step.{better_by, better_run, with_gap, best_with, best_run, NamesBound}
use Rattle.spec_exact.proofs.RunsInOrder.{steps_stop}
use Rattle.spec_exact.proofs.Results.{told_ok}
use Rattle.spec_simplex.proofs.RunParts.{then_ok, difference_ok}
use Rattle.spec_simplex.proofs.Tests.{abs_falling, abs_rising}

-- ---- results of operations
pub quotient_ok : (limit : Option ℕ) (v w x : ℚ) → w ≢ 0ℚ → quotient_run limit v w ≡ Ok x → x *ℚ w ≡ v
quotient_ok limit v w x n h = div_exact limit v w x n (told_ok Div v w (div limit v w) x h)

-- ---- magnitudes
pub directed_zero : (way : Way) (a : ℚ) → a ≡ 0ℚ → directed way a ≡ 0ℚ
directed_zero Up a e = e
directed_zero Down a e = ap neg_ℚ e ∙ neg-zero

-- turning the first factor of a product as the column moves is turning the second
directed_times : (way : Way) (r a : ℚ) → directed way r *ℚ a ≡ r *ℚ directed way a
directed_times Up r a = refl
directed_times Down r a = neg-*ℚ r a ∙ sym (*ℚ-neg r a)

pub abs_not_zero : (a : ℚ) → a ≢ 0ℚ → abs_ℚ a ≢ 0ℚ
abs_not_zero a n = by (int_lt a.num (pos 0))
  where
    by : (b : Bool) → cond b (neg_ℚ a) a ≢ 0ℚ
    by true e = n (sym (neg-neg a) ∙ ap neg_ℚ e ∙ neg-zero)
    by false e = n e

-- ---- a gap

-- where r * -d is u - v, v less r * d is u
up_to : (v u r d : ℚ) → r *ℚ neg_ℚ d ≡ u -ℚ v → v -ℚ r *ℚ d ≡ u
up_to v u r d h = ap (λ x. v +ℚ x) (sym (*ℚ-neg r d) ∙ h) ∙ simp ring

-- where r * d is v - l, v less r * d is l
down_to : (v l r d : ℚ) → r *ℚ d ≡ v -ℚ l → v -ℚ r *ℚ d ≡ l
down_to v l r d h = ap (λ x. v -ℚ x) h ∙ simp ring

-- the entry a is not 0, and a move of the entering column by the gap over a's absolute value takes the position's
-- column, now at v, to the bound that `to` names
pub record IsGap (way : Way) (a : ℚ) (lower upper : Option ℚ) (v gap : ℚ) (to : Status) : Type 0 where
  pub entry : a ≢ 0ℚ
  pub lands : (r : ℚ) → r *ℚ abs_ℚ a ≡ gap → NamesBound to lower upper (v -ℚ directed way r *ℚ a)

-- turning r or turning a gives the same value: v less the turned r times a is v less r times the turned a
moved_is : (way : Way) (v r a : ℚ) → v -ℚ directed way r *ℚ a ≡ v -ℚ r *ℚ directed way a
moved_is way v r a = ap (λ x. v -ℚ x) (directed_times way r a)

-- where a basic value rises, its distance to an upper bound is a gap: the move by the ratio lands at the bound
rises : (limit : Option ℕ) (way : Way) (a : ℚ) (lower upper : Option ℚ) (v gap : ℚ) (to : Status) →
    directed way a <ℚ 0ℚ → rise_run limit upper v ≡ Ok (Some (gap, to)) → IsGap way a lower upper v gap to
rises limit way a lower None v gap to d h = cc
rises limit way a lower (Some u) v gap to d h =
    by (then_ok (difference_run limit u v) (λ g. Ok (Some (g, AtUpper))) (Some (gap, to)) h)
  where
    by : (g : ℚ) × (difference_run limit u v ≡ Ok g)
        × (◌≡◌ {A = Run (Option (ℚ × Status))} (Ok (Some (g, AtUpper))) (Ok (Some (gap, to)))) →
        IsGap way a lower (Some u) v gap to
    by (g, e, f) =
        let z : ◌≡◌ {A = ℚ × Status} (g, AtUpper) (gap, to) = cc in
        let same : g ≡ gap = ap (λ (p : ℚ × Status). p.0) z in
        let there : AtUpper ≡ to = ap (λ (p : ℚ × Status). p.1) z in
        subst (IsGap way a lower (Some u) v gap) there
        (record {
          entry = λ z. <ℚ_irrefl 0ℚ (subst (λ x. x <ℚ 0ℚ) (directed_zero way a z) d);
          lands =
              λ r k. ap Some (sym (moved_is way v r a ∙ up_to v u r (directed way a)
              (ap (λ x. r *ℚ x) (sym (abs_falling way a d)) ∙ k ∙ sym same ∙ difference_ok limit u v g e)));
        })

-- where a basic value falls, its distance to a lower bound is a gap: the move by the ratio lands at the bound
falls : (limit : Option ℕ) (way : Way) (a : ℚ) (lower upper : Option ℚ) (v gap : ℚ) (to : Status) →
    0ℚ <ℚ directed way a → fall_run limit lower v ≡ Ok (Some (gap, to)) → IsGap way a lower upper v gap to
falls limit way a None upper v gap to d h = cc
falls limit way a (Some l) upper v gap to d h =
    by (then_ok (difference_run limit v l) (λ g. Ok (Some (g, AtLower))) (Some (gap, to)) h)
  where
    by : (g : ℚ) × (difference_run limit v l ≡ Ok g)
        × (◌≡◌ {A = Run (Option (ℚ × Status))} (Ok (Some (g, AtLower))) (Ok (Some (gap, to)))) →
        IsGap way a (Some l) upper v gap to
    by (g, e, f) =
        let z : ◌≡◌ {A = ℚ × Status} (g, AtLower) (gap, to) = cc in
        let same : g ≡ gap = ap (λ (p : ℚ × Status). p.0) z in
        let there : AtLower ≡ to = ap (λ (p : ℚ × Status). p.1) z in
        subst (IsGap way a (Some l) upper v gap) there
        (record {
          entry = λ z. <ℚ_irrefl 0ℚ (subst (λ x. 0ℚ <ℚ x) (directed_zero way a z) d);
          lands =
              λ r k. ap Some (sym (moved_is way v r a ∙ down_to v l r (directed way a)
              (ap (λ x. r *ℚ x) (sym (abs_rising way a d)) ∙ k ∙ sym same ∙ difference_ok limit v l g e)));
        })

pub gap_is : (limit : Option ℕ) (way : Way) (a : ℚ) (lower upper : Option ℚ) (v gap : ℚ) (to : Status) →
    gap_run limit way a lower upper v ≡ Ok (Some (gap, to)) → IsGap way a lower upper v gap to
gap_is limit way a lower upper v gap to h = by (lt_ℚ (directed way a) 0ℚ) (lt_ℚ 0ℚ (directed way a)) refl refl h
  where
    by : (b c : Bool) → lt_ℚ (directed way a) 0ℚ ≡ b → lt_ℚ 0ℚ (directed way a) ≡ c →
        cond b (rise_run limit upper v) (cond c (fall_run limit lower v) (Ok None)) ≡ Ok (Some (gap, to)) →
        IsGap way a lower upper v gap to
    by true c e f h = rises limit way a lower upper v gap to (lt_if (directed way a) 0ℚ e) h
    by false true e f h = falls limit way a lower upper v gap to (lt_if 0ℚ (directed way a) f) h
    by false false e f h = cc

-- a position with a gap has an entry to divide by
pub divides : (limit : Option ℕ) (way : Way) (a : ℚ) (lower upper : Option ℚ) (v gap : ℚ) (to : Status) →
    gap_run limit way a lower upper v ≡ Ok (Some (gap, to)) → abs_ℚ a ≢ 0ℚ
divides limit way a lower upper v gap to h =
    let g : IsGap way a lower upper v gap to = gap_is limit way a lower upper v gap to h in abs_not_zero a g.entry

-- ---- the best

-- column j has both bounds
pub record HasBoth (t : Tableau) (j : ℕ) : Type 0 where
  pub lower : (v : ℚ) × (lower_at t j ≡ Some v)
  pub upper : (v : ℚ) × (upper_at t j ≡ Some v)

-- position i has an entry in the entering column, and a move of this by r takes the basic column there to its bound
-- `to`
pub record StopsAt (t : Tableau) (e : Entering) (r : ℚ) (to : Status) (i : ℕ) : Type 0 where
  pub place : i < t.rows
  pub entry : entry_at t i e.col ≢ 0ℚ
  pub lands : NamesBound to (lower_at t (basic_at t i)) (upper_at t (basic_at t i))
      (value_at t (basic_at t i) -ℚ directed e.direction r *ℚ entry_at t i e.col)

abbrev pub StopsBy : Tableau → Entering → ℚ → Status → Option ℕ → Type 0
StopsBy t e r to None = HasBoth t e.col
StopsBy t e r to (Some i) = StopsAt t e r to i

abbrev pub IsBest : Tableau → Entering → Option (Best ℚ) → Type 0
IsBest t e None = Unit {0}
IsBest t e (Some x) = StopsBy t e x.ratio x.to x.place

module _ (limit : Option ℕ) (t : Tableau) (e : Entering) where
  range_is : (l u : Option ℚ) (best : Option (Best ℚ)) → lower_at t e.col ≡ l → upper_at t e.col ≡ u →
      range_run limit e l u ≡ Ok best → IsBest t e best
  range_is None u best p q h = let z : None ≡ best = cc in subst (IsBest t e) z tt
  range_is (Some l) None best p q h = let z : None ≡ best = cc in subst (IsBest t e) z tt
  range_is (Some l) (Some u) best p q h =
      by (then_ok (difference_run limit u l)
      (λ r. Ok (Some (record { ratio = r; col = e.col; place = None; to = other_bound e.direction }))) best h)
    where
      by : (r : ℚ) × (difference_run limit u l ≡ Ok r) × (◌≡◌ {A = Run (Option (Best ℚ))}
          (Ok (Some (record { ratio = r; col = e.col; place = None; to = other_bound e.direction }))) (Ok best)) →
          IsBest t e best
      by (r, f, g) =
          let z : ◌≡◌ {A = Option (Best ℚ)}
          (Some (record { ratio = r; col = e.col; place = None; to = other_bound e.direction })) best =
          cc in
          subst (IsBest t e) z (record { lower = (l, p); upper = (u, q) })

  one_of : (new old : Best ℚ) (o : Ordering) → IsBest t e (Some new) → IsBest t e (Some old) →
      IsBest t e (Some (better_by new old o))
  one_of new old Less p q = p
  one_of new old Equal p q = by (nat_lt new.col old.col)
    where
      by : (b : Bool) → IsBest t e (Some (cond b new old))
      by true = p
      by false = q
  one_of new old Greater p q = q

  better_is : (new : Best ℚ) (old best : Option (Best ℚ)) → IsBest t e (Some new) → IsBest t e old →
      better_run limit new old ≡ Ok best → IsBest t e best
  better_is new None best p q h = let z : Some new ≡ best = cc in subst (IsBest t e) z p
  better_is new (Some old) best p q h =
      by (then_ok (order_run limit new.ratio old.ratio) (λ o. Ok (Some (better_by new old o))) best h)
    where
      by : (o : Ordering) × (order_run limit new.ratio old.ratio ≡ Ok o)
          × (◌≡◌ {A = Run (Option (Best ℚ))} (Ok (Some (better_by new old o))) (Ok best)) →
          IsBest t e best
      by (o, f, g) = let z : Some (better_by new old o) ≡ best = cc in subst (IsBest t e) z (one_of new old o p q)

  with_gap_is : (i : ℕ) (gap : Option (ℚ × Status)) (old best : Option (Best ℚ)) → i < t.rows
      → gap_run limit e.direction (entry_at t i e.col) (lower_at t (basic_at t i))
      (upper_at t (basic_at t i)) (value_at t (basic_at t i)) ≡ Ok gap
      → IsBest t e old → with_gap limit i (basic_at t i) (entry_at t i e.col) old gap ≡ Ok best → IsBest t e best
  with_gap_is i None old best l g q h = let z : old ≡ best = cc in subst (IsBest t e) z q
  with_gap_is i (Some (gap, to)) old best l g q h =
      by (then_ok (quotient_run limit gap (abs_ℚ (entry_at t i e.col)))
      (λ r. better_run limit (record { ratio = r; col = basic_at t i; place = Some i; to = to }) old) best h)
    where
      known : IsGap e.direction (entry_at t i e.col) (lower_at t (basic_at t i))
          (upper_at t (basic_at t i)) (value_at t (basic_at t i)) gap to
      known =
          gap_is limit e.direction (entry_at t i e.col) (lower_at t (basic_at t i))
          (upper_at t (basic_at t i)) (value_at t (basic_at t i)) gap to g

      by : (r : ℚ) × (quotient_run limit gap (abs_ℚ (entry_at t i e.col)) ≡ Ok r)
          × (better_run limit (record { ratio = r; col = basic_at t i; place = Some i; to = to }) old ≡ Ok best) →
          IsBest t e best
      by (r, f, k) =
          better_is (record { ratio = r; col = basic_at t i; place = Some i; to = to }) old best
          (record {
            place = l;
            entry = known.entry;
            lands =
                known.lands r (quotient_ok limit gap (abs_ℚ (entry_at t i e.col)) r
                (abs_not_zero (entry_at t i e.col) known.entry) f);
          })
          q k

  steps_are : (n : ℕ) (first best : Option (Best ℚ)) → n ≤ t.rows → IsBest t e first →
      steps n (best_with limit t e) first ≡ Ok best → IsBest t e best
  steps_are zero first best l p h = let z : first ≡ best = cc in subst (IsBest t e) z p
  steps_are (suc n) first best l p h =
      let b = then_ok (steps n (best_with limit t e) first) (λ b. best_with limit t e n b) best h in
      let o =
      then_ok (gap_run limit e.direction (entry_at t n e.col) (lower_at t (basic_at t n)) (upper_at t (basic_at t n))
      (value_at t (basic_at t n))) (λ gap. with_gap limit n (basic_at t n) (entry_at t n e.col) b.0 gap) best b.2 in
      with_gap_is n o.0 b.0 best (omega (arith, l)) o.1 (steps_are n first b.0 (omega (arith, l)) p b.1) o.2

  pub best_is : (best : Option (Best ℚ)) → best_run limit t e ≡ Ok best → IsBest t e best
  best_is best h =
      let o =
      then_ok (range_run limit e (lower_at t e.col) (upper_at t e.col))
      (λ first. steps t.rows (best_with limit t e) first) best h in
      steps_are t.rows o.0 best (omega arith) (range_is (lower_at t e.col) (upper_at t e.col) o.0 refl refl o.1) o.2

  -- where the ratio test is refused an operation at position i, the whole test is refused it
  pub best_refused : (i : ℕ) (first best : Option (Best ℚ)) (p : Past ℚ) →
      range_run limit e (lower_at t e.col) (upper_at t e.col) ≡ Ok first →
      steps i (best_with limit t e) first ≡ Ok best → i < t.rows → best_with limit t e i best ≡ Err p →
      best_run limit t e ≡ Err p
  best_refused i first best p h s l g =
      ap (λ o. o >>= λ first. steps t.rows (best_with limit t e) first) h
      ∙ steps_stop i t.rows (best_with limit t e) first best p l s g
