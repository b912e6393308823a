-- The row or column that goes next, and what holds of it: no entries, one entry, or two bounds that are the same.
--
-- `none_not`: `None` is never `Some a`.
-- `chosen_ok`: a choice that succeeds was found by one of the rules, at a row or column of the model, or nothing was.
use Rattle.std.proofs.Common.{◌≡◌, ℕ, suc, ◌<◌, ◌||◌, Bool, true, false, not, cond, Option, Some, None, IfSome}
use Rattle.std.proofs.Common.{Ok, refl, sym, ap, ◌∙◌, subst, arith, is_gt, is_lt, pos, ◌^◌}
use Rattle.std.proofs.lemmas.Bool.{not-false, or_parts}
use Rattle.std.specs.declared.cmp.Ordering.{Ordering}
use Rattle.std.proofs.lemmas.Option.{same_Some}
use Rattle.spec_exact.specs.Fraction.{ℚ, 0ℚ, ◌≤ℚ◌, ◌<ℚ◌, lt_ℚ, eq_ℚ, abs_ℚ, whole}
use Rattle.spec_exact.specs.Limit.{order}
use Rattle.spec_exact.specs.Run.{Run, order_run, quotient_run}
use Rattle.spec_exact.proofs.Order.{≤ℚ_refl, le_if_not, lt_if, <ℚ-le}
use Rattle.spec_exact.proofs.Same.{eq_if}
use Rattle.spec_exact.proofs.Results.{ok_same}
use Rattle.spec_check.proofs.StepsSound.{least_from, most_from, less_from, greater_from}
use Rattle.spec_simplex.proofs.RunParts.{then_ok, quotient_ok, order_ok, steps_ok}
use Rattle.spec_simplex.proofs.FormRowLimits.{AreLimits, limits_ok}
use Rattle.spec_model.specs.Model.{Model, Limits, width, height, bounds, limits, row, coefficient}
use Rattle.spec_model.specs.Truth.{IsBetween}
use Rattle.spec_simplex.specs.Form.{limits_run}
use Rattle.spec_presolve.specs.declared.reduction.InRow.{InRow}
use Rattle.spec_presolve.specs.declared.reduction.InRow.TheVariants.{Nothing, One, More}
use Rattle.spec_presolve.specs.declared.reduction.Reduction.TheVariants.{Empty, Single, Fixed}
use Rattle.spec_presolve.specs.declared.reduction.Halt.{Halt}
use Rattle.spec_presolve.specs.declared.reduction.Halt.TheVariants.{Done, Clash, Above, Below}
use Rattle.spec_presolve.specs.declared.reduction.Choice.TheVariants.{Reduce}
use Rattle.spec_presolve.specs.declared.reduction.Choice.TheVariants as choice
use Rattle.spec_presolve.specs.Choose.{ExactReduction, ExactChoice, unless, first, crossed, clash_at, in_row, is_above}
use Rattle.spec_presolve.specs.Choose.{is_below, empty_row, empty_by, empty_at, quotient, is_far, raised, cut, given}
use Rattle.spec_presolve.specs.Choose.{single_by, single_at, fixed_by, fixed_at, or_done, chosen}
use Rattle.spec_presolve.specs.Reduce.{or_old}
use Rattle.spec_presolve.proofs.Scaled.{divided, scaled, scaled_up, scaled_down}
use Rattle.spec_presolve.proofs.Tightened.{Tightens, Least, Most}
use Rattle.spec_exact.specs.Narrow.{IsNarrow, number_limit}
use Rattle.spec_solve.proofs.NarrowRuns.{quotient_narrow}
use Rattle.spec_presolve.proofs.InRows.{Alone, row_empty, row_alone}

-- ---- what is first

-- f gives this item at one of n places
pub record Found {A : Type 0} (n : ℕ) (f : ℕ → Run (Option A)) (a : A) : Type 0 where
  pub place : ℕ
  pub inside : place < n
  pub found : f place ≡ Ok (Some a)

-- an item that the first i places give, or else place i, is found among the first i + 1 places
first_step : {A : Type 0} (i : ℕ) (f : ℕ → Run (Option A)) (x y : Option A) →
    ((a : A) → x ≡ Some a → Found i f a) → unless x (f i) ≡ Ok y → (a : A) → y ≡ Some a → Found (suc i) f a
first_step i f None y h e a p =
    record { place = i; inside = omega arith; found = e ∙ ap Ok p }
first_step i f (Some b) y h e a p =
    let w = h a (ok_same (Some b) y e ∙ p) in
    record { place = w.place; inside = omega (arith, w.inside); found = w.found }

pub none_not : {A P : Type 0} (a : A) → ◌≡◌ {A = Option A} None (Some a) → P
none_not {A} a e = let z : ◌≡◌ {A = Option A} None (Some a) = e in cc

-- an item that the search of the first n places gives is found at one of them
first_ok : {A : Type 0} (n : ℕ) (f : ℕ → Run (Option A)) (o : Option A) → first n f ≡ Ok o → (a : A) → o ≡ Some a →
    Found n f a
first_ok {A} n f o h =
    steps_ok (λ k x. (a : A) → x ≡ Some a → Found k f a) n (λ k found. unless found (f k)) None o h
    (λ a e. none_not a e) (λ i x y _ p k. first_step i f x y p k)

-- what holds of a first find, and of each find of a run, holds of the first find or else the run's
unless_keeps : {A : Type 0} (Q : Option A → Type 0) (o : Option A) (run : Run (Option A)) (x : Option A) → Q o →
    ((y : Option A) → run ≡ Ok y → Q y) → unless o run ≡ Ok x → Q x
unless_keeps Q None run x q k h = k x h
unless_keeps Q (Some a) run x q k h = subst Q (ok_same (Some a) x h) q

-- where a choice comes from: from bounds that clash, a row without entries, a row with one entry, a fixed column, or it
-- is to halt as done
pub data Origin (limit : Option ℕ) (m : Model) (c : ExactChoice) : Type 0 where
  of_clash : Found (width m) (clash_at limit m) c → Origin limit m c
  of_empty : Found (height m) (empty_at limit m) c → Origin limit m c
  of_single : Found (height m) (single_at limit m) c → Origin limit m c
  of_fixed : Found (width m) (fixed_at m) c → Origin limit m c
  of_none : c ≡ choice.Halt Done → Origin limit m c

pub chosen_ok : (limit : Option ℕ) (m : Model) (c : ExactChoice) → chosen limit m ≡ Ok c → Origin limit m c
unfolding chosen
chosen_ok limit m c h =
    let a = then_ok (first (width m) (clash_at limit m)) _ c h in
    let b = then_ok (unless a.0 (first (height m) (empty_at limit m))) _ c a.2 in
    let d = then_ok (unless b.0 (first (height m) (single_at limit m))) _ c b.2 in
    let e = then_ok (unless d.0 (first (width m) (fixed_at m))) _ c d.2 in
    last e.0
    (unless_keeps Known d.0 (first (width m) (fixed_at m)) e.0
    (unless_keeps Known b.0 (first (height m) (single_at limit m)) d.0
    (unless_keeps Known a.0 (first (height m) (empty_at limit m)) b.0
    (λ x p. of_clash (first_ok (width m) (clash_at limit m) a.0 a.1 x p))
    (λ y k x p. of_empty (first_ok (height m) (empty_at limit m) y k x p)) b.1)
    (λ y k x p. of_single (first_ok (height m) (single_at limit m) y k x p)) d.1)
    (λ y k x p. of_fixed (first_ok (width m) (fixed_at m) y k x p)) e.1)
    (ok_same (or_done e.0) c e.2)
  where
    Known : Option ExactChoice → Type 0
    Known o = (x : ExactChoice) → o ≡ Some x → Origin limit m x

    last : (o : Option ExactChoice) → Known o → or_done o ≡ c → Origin limit m c
    last None k e = of_none (sym e)
    last (Some x) k e = k c (ap Some e)

-- ---- a column whose bounds clash does not go

-- a choice to halt is no choice to reduce
halt_not : {P : Type 0} (h : Halt) (r : ExactReduction) → ◌≡◌ {A = ExactChoice} (choice.Halt h) (Reduce r) → P
halt_not h r e = let z : ◌≡◌ {A = ExactChoice} (choice.Halt h) (Reduce r) = e in cc

-- where two choices to reduce are the same, their reductions are the same
reduce_same : (r s : ExactReduction) → ◌≡◌ {A = ExactChoice} (Reduce r) (Reduce s) → r ≡ s
reduce_same r s e = cc

-- the test of a column's bounds for a clash never gives a reduction
no_clash : {P : Type 0} (j : ℕ) (t : Bool) (r : ExactReduction) →
    cond t (Some (choice.Halt (Clash j))) None ≡ Some (Reduce r) → P
no_clash j true r e = halt_not (Clash j) r (same_Some (choice.Halt (Clash j)) (Reduce r) e)
no_clash j false r e = none_not (Reduce r) e

-- ---- a row without entries
-- row i is one of the model's, has no entries, and 0 is within its limits
pub record EmptyFound (m : Model) (i : ℕ) : Type 0 where
  pub inside : i < height m
  pub nothing : (k : ℕ) → k < width m → coefficient m i k ≡ 0ℚ
  pub within : IsBetween (limits m i) 0ℚ

-- a lower limit that is not above 0 is at most 0, where there is one
not_above : (o : Option ℚ) → is_above o ≡ false → IfSome o (λ k. k ≤ℚ 0ℚ)
not_above None e = tt
not_above (Some l) e = le_if_not 0ℚ l e

-- an upper limit that is not below 0 is at least 0, where there is one
not_below : (o : Option ℚ) → is_below o ≡ false → IfSome o (λ k. 0ℚ ≤ℚ k)
not_below None e = tt
not_below (Some u) e = le_if_not u 0ℚ e

-- a row without entries that goes has 0 within its limits
empty_goes : (i : ℕ) (l : Limits) (r : ExactReduction) (s t : Bool) → is_above l.lower ≡ s → is_below l.upper ≡ t →
    cond s (choice.Halt (Above i)) (cond t (choice.Halt (Below i)) (Reduce (Empty i))) ≡ Reduce r →
    (Empty i ≡ r) × IsBetween l 0ℚ
empty_goes i l r true t e f h = halt_not (Above i) r h
empty_goes i l r false true e f h = halt_not (Below i) r h
empty_goes i l r false false e f h =
    (reduce_same (Empty i) r h, record { lower = not_above l.lower e; upper = not_below l.upper f })

-- ---- a row with one entry
-- row i is one of the model's, with the entry a in column j alone; `lower` and `upper` are those of its limits over a
-- that tighten j's bounds, below 10^20 in absolute value and, at the program's limit, of at most 127 bits
pub record SingleFound (limit : Option ℕ) (m : Model) (i j : ℕ) (a : ℚ) (lower upper : Option ℚ) : Type 0 where
  pub inside : i < height m
  pub alone : Alone m i (width m) j a
  pub tightens : Tightens (scaled a (limits m i)) (bounds m j) lower upper
  pub near_lower : IfSome lower (λ q. abs_ℚ q <ℚ whole (pos (10 ^ 20)))
  pub near_upper : IfSome upper (λ q. abs_ℚ q <ℚ whole (pos (10 ^ 20)))
  pub narrow_lower : limit ≡ Some number_limit → IfSome lower IsNarrow
  pub narrow_upper : limit ≡ Some number_limit → IfSome upper IsNarrow

-- The lower bound `new`, if there is one, is q, which the row asks for. The one that is then taken, `new` or else
-- `old`, is at least q and at least `old`, where these are there.
pub record Rises (q old new : Option ℚ) : Type 0 where
  pub from_row : (x : ℚ) → new ≡ Some x → q ≡ Some x
  pub at_row : (x : ℚ) → q ≡ Some x → Least (or_old new old) x
  pub at_old : (x : ℚ) → old ≡ Some x → Least (or_old new old) x

pub record Falls (q old new : Option ℚ) : Type 0 where
  pub from_row : (x : ℚ) → new ≡ Some x → q ≡ Some x
  pub at_row : (x : ℚ) → q ≡ Some x → Most (or_old new old) x
  pub at_old : (x : ℚ) → old ≡ Some x → Most (or_old new old) x

-- where q is at most b and x is q, the bound b is at least x
least_is : (b q x : ℚ) → ◌≡◌ {A = Option ℚ} (Some q) (Some x) → q ≤ℚ b → Least (Some b) x
least_is b q x e h = record { bound = b; is = refl; at_least = subst (λ x. x ≤ℚ b) (same_Some q x e) h }

-- where q is at least b and x is q, the bound b is at most x
most_is : (b q x : ℚ) → ◌≡◌ {A = Option ℚ} (Some q) (Some x) → b ≤ℚ q → Most (Some b) x
most_is b q x e h = record { bound = b; is = refl; at_most = subst (λ x. b ≤ℚ x) (same_Some q x e) h }

-- a raised lower bound is the row's, and the bound taken is at least the row's and the old one
raised_ok : (limit : Option ℕ) (q old new : Option ℚ) → raised limit q old ≡ Ok new → Rises q old new
raised_ok limit None old new h = subst (λ n. Rises None old n) (ok_same None new h) (record {
  from_row = λ x e. none_not x e;
  at_row = λ x e. none_not x e;
  at_old = λ x e. record { bound = x; is = e; at_least = ≤ℚ_refl x };
})
raised_ok limit (Some q) None new h = subst (λ n. Rises (Some q) None n) (ok_same (Some q) new h) (record {
  from_row = λ x e. e;
  at_row = λ x e. least_is q q x e (≤ℚ_refl q);
  at_old = λ x e. none_not x e;
})
raised_ok limit (Some q) (Some l) new h =
    let o = then_ok (order_run limit q l) (λ o. Ok (cond (is_gt o) (Some q) None)) new h in
    by (is_gt o.0) o.0 (order_ok limit q l o.0 o.1) refl (ok_same (cond (is_gt o.0) (Some q) None) new o.2)
  where
    by : (t : Bool) (o : Ordering) → o ≡ order q l → is_gt o ≡ t → cond t (Some q) None ≡ new → Rises (Some q) (Some l) new
    by true o e f k = subst (λ n. Rises (Some q) (Some l) n) k (record {
      from_row = λ x e. e;
      at_row = λ x e. least_is q q x e (≤ℚ_refl q);
      at_old = λ x p. least_is q l x p (<ℚ-le l q (greater_from o q l e f));
    })
    by false o e f k = subst (λ n. Rises (Some q) (Some l) n) k (record {
      from_row = λ x e. none_not x e;
      at_row = λ x p. least_is l q x p (most_from o q l e (ap not f));
      at_old = λ x p. least_is l l x p (≤ℚ_refl l);
    })

-- a cut upper bound is the row's, and the bound taken is at most the row's and the old one
cut_ok : (limit : Option ℕ) (q old new : Option ℚ) → cut limit q old ≡ Ok new → Falls q old new
cut_ok limit None old new h = subst (λ n. Falls None old n) (ok_same None new h) (record {
  from_row = λ x e. none_not x e;
  at_row = λ x e. none_not x e;
  at_old = λ x e. record { bound = x; is = e; at_most = ≤ℚ_refl x };
})
cut_ok limit (Some q) None new h = subst (λ n. Falls (Some q) None n) (ok_same (Some q) new h) (record {
  from_row = λ x e. e;
  at_row = λ x e. most_is q q x e (≤ℚ_refl q);
  at_old = λ x e. none_not x e;
})
cut_ok limit (Some q) (Some u) new h =
    let o = then_ok (order_run limit q u) (λ o. Ok (cond (is_lt o) (Some q) None)) new h in
    by (is_lt o.0) o.0 (order_ok limit q u o.0 o.1) refl (ok_same (cond (is_lt o.0) (Some q) None) new o.2)
  where
    by : (t : Bool) (o : Ordering) → o ≡ order q u → is_lt o ≡ t → cond t (Some q) None ≡ new → Falls (Some q) (Some u) new
    by true o e f k = subst (λ n. Falls (Some q) (Some u) n) k (record {
      from_row = λ x e. e;
      at_row = λ x e. most_is q q x e (≤ℚ_refl q);
      at_old = λ x p. most_is q u x p (<ℚ-le q u (less_from o q u e f));
    })
    by false o e f k = subst (λ n. Falls (Some q) (Some u) n) k (record {
      from_row = λ x e. none_not x e;
      at_row = λ x p. most_is u q x p (least_from o q u e (ap not f));
      at_old = λ x p. most_is u u x p (≤ℚ_refl u);
    })

-- where the quotient of a limit by the entry is not refused, it is the limit divided by the entry
quotient_is : (limit : Option ℕ) (o q : Option ℚ) (a : ℚ) → quotient limit o a ≡ Ok q → q ≡ divided a o
quotient_is limit None q a h = sym (ok_same None q h)
quotient_is limit (Some l) q a h =
    let x = then_ok (quotient_run limit l a) (λ q. Ok (Some q)) q h in
    sym (ok_same (Some x.0) q x.2) ∙ ap Some (quotient_ok limit l a x.0 x.1)

-- where q is not far and a bound can only be q, the bound's absolute value is below 10^20
near_is : (q x : Option ℚ) → is_far q ≡ false → ((v : ℚ) → x ≡ Some v → q ≡ Some v) →
    IfSome x (λ q. abs_ℚ q <ℚ whole (pos (10 ^ 20)))
near_is q None e h = tt
near_is q (Some v) e h =
    lt_if (abs_ℚ v) (whole (pos (10 ^ 20))) (not-false _ (subst (λ q. is_far q ≡ false) (h v refl) e))

-- where q has at most 127 bits and a bound can only be q, the bound has at most 127 bits
narrow_is : (q x : Option ℚ) → IfSome q IsNarrow → ((v : ℚ) → x ≡ Some v → q ≡ Some v) → IfSome x IsNarrow
narrow_is q None n h = tt
narrow_is q (Some v) n h = subst (λ o. IfSome o IsNarrow) (h v refl) n

-- a quotient of a limit that is worked out under the number limit has at most 127 bits
quotient_is_narrow : (limit : Option ℕ) (o q : Option ℚ) (a : ℚ) → quotient limit o a ≡ Ok q →
    limit ≡ Some number_limit →
    IfSome q IsNarrow
quotient_is_narrow limit None q a h e = subst (λ o. IfSome o IsNarrow) (ok_same None q h) tt
quotient_is_narrow limit (Some l) q a h e =
    let x = then_ok (quotient_run limit l a) (λ q. Ok (Some q)) q h in
    subst (λ o. IfSome o IsNarrow) (ok_same (Some x.0) q x.2)
    (quotient_narrow l a x.0 (subst (λ n. quotient_run n l a ≡ Ok x.0) e x.1))

pub record Singles (limit : Option ℕ) (m : Model) (i j : ℕ) (a : ℚ) (r : ExactReduction) : Type 0 where
  pub lower : Option ℚ
  pub upper : Option ℚ
  pub same : Single i j a lower upper ≡ r
  pub found : SingleFound limit m i j a lower upper

module _ (limit : Option ℕ) (m : Model) (i j : ℕ) (a : ℚ) (inside : i < height m) (alone : Alone m i (width m) j a) where
  given_ok : (l u : Option ℚ) (r : ExactReduction) → given limit m i j a l u ≡ Ok (Some (Reduce r)) →
      record { lower = l; upper = u } ≡ scaled a (limits m i) → is_far l ≡ false → is_far u ≡ false →
      (limit ≡ Some number_limit → IfSome l IsNarrow) → (limit ≡ Some number_limit → IfSome u IsNarrow) →
      Singles limit m i j a r
  given_ok l u r h e f g n w =
      let x = then_ok (raised limit l (bounds m j).lower) _ (Some (Reduce r)) h in
      let y = then_ok (cut limit u (bounds m j).upper) _ (Some (Reduce r)) x.2 in
      let low = raised_ok limit l (bounds m j).lower x.0 x.1 in
      let high = cut_ok limit u (bounds m j).upper y.0 y.1 in
      record {
        lower = x.0;
        upper = y.0;
        same = reduce_same (Single i j a x.0 y.0) r
            (same_Some (Reduce (Single i j a x.0 y.0)) (Reduce r)
            (ok_same (Some (Reduce (Single i j a x.0 y.0))) (Some (Reduce r)) y.2));
        found = record {
          inside = inside;
          alone = alone;
          tightens = subst (λ s. Tightens s (bounds m j) x.0 y.0) e (record {
            from_lower = low.from_row;
            from_upper = high.from_row;
            low_row = low.at_row;
            low_old = low.at_old;
            high_row = high.at_row;
            high_old = high.at_old;
          });
          near_lower = near_is l x.0 f low.from_row;
          near_upper = near_is u y.0 g high.from_row;
          narrow_lower = λ e. narrow_is l x.0 (n e) low.from_row;
          narrow_upper = λ e. narrow_is u y.0 (w e) high.from_row;
        };
      }

  near_ok : (p q : Option ℚ) (r : ExactReduction) (s t : Bool) → (is_far p || is_far q) ≡ s → lt_ℚ a 0ℚ ≡ t →
      cond s (Ok None) (cond t (given limit m i j a q p) (given limit m i j a p q)) ≡ Ok (Some (Reduce r)) →
      p ≡ divided a (limits m i).lower → q ≡ divided a (limits m i).upper →
      (limit ≡ Some number_limit → IfSome p IsNarrow) → (limit ≡ Some number_limit → IfSome q IsNarrow) →
      Singles limit m i j a r
  near_ok p q r true t e f h k l n w = none_not (Reduce r) (ok_same None (Some (Reduce r)) h)
  near_ok p q r false true e f h k l n w =
      let far = or_parts (is_far p) (is_far q) e in
      given_ok q p r h (bounds_ap q p l k ∙ sym (scaled_down a (limits m i) f)) far.1 far.0 w n
    where
      bounds_ap : (x y : Option ℚ) {v w : Option ℚ} → x ≡ v → y ≡ w →
          ◌≡◌ {A = Limits} (record { lower = x; upper = y }) (record { lower = v; upper = w })
      bounds_ap x y e f = cc
  near_ok p q r false false e f h k l n w =
      let far = or_parts (is_far p) (is_far q) e in
      given_ok p q r h (bounds_ap p q k l ∙ sym (scaled_up a (limits m i) f)) far.0 far.1 n w
    where
      bounds_ap : (x y : Option ℚ) {v w : Option ℚ} → x ≡ v → y ≡ w →
          ◌≡◌ {A = Limits} (record { lower = x; upper = y }) (record { lower = v; upper = w })
      bounds_ap x y e f = cc

-- ---- a column that stands still
-- column j is one of the model's, and v is both of its bounds
pub record FixedFound (m : Model) (j : ℕ) (v : ℚ) : Type 0 where
  pub inside : j < width m
  pub lower_is : (bounds m j).lower ≡ Some v
  pub upper_is : (bounds m j).upper ≡ Some v

pub record Fixes (m : Model) (j : ℕ) (r : ExactReduction) : Type 0 where
  pub value : ℚ
  pub same : Fixed j value ≡ r
  pub found : FixedFound m j value

-- where a column is found to be fixed, the reduction fixes it at the value of both its bounds
fixed_ok : (m : Model) (j : ℕ) (l u : Option ℚ) (r : ExactReduction) → j < width m → (bounds m j).lower ≡ l →
    (bounds m j).upper ≡ u → fixed_by j l u ≡ Some (Reduce r) → Fixes m j r
fixed_ok m j None u r k e f h = none_not (Reduce r) h
fixed_ok m j (Some l) None r k e f h = none_not (Reduce r) h
fixed_ok m j (Some l) (Some u) r k e f h = by (eq_ℚ l u) refl h
  where
    by : (t : Bool) → eq_ℚ l u ≡ t → cond t (Some (Reduce (Fixed j l))) None ≡ Some (Reduce r) → Fixes m j r
    by true g h = record {
      value = l;
      same = reduce_same (Fixed j l) r (same_Some (Reduce (Fixed j l)) (Reduce r) h);
      found = record { inside = k; lower_is = e; upper_is = f ∙ ap Some (sym (eq_if l u g)) };
    }
    by false g h = none_not (Reduce r) h

-- ---- what goes
-- what the reduction says of its row or column holds in the model, so it may go
abbrev pub Goes : Option ℕ → Model → ExactReduction → Type 0
Goes limit m (Empty i) = EmptyFound m i
Goes limit m (Single i j a lower upper) = SingleFound limit m i j a lower upper
Goes limit m (Fixed j v) = FixedFound m j v

module _ (limit : Option ℕ) (m : Model) (r : ExactReduction) where
  limits_are : (i : ℕ) (l : Option ℚ × Option ℚ) → limits_run limit (row m i) ≡ Ok l → AreLimits (limits m i) l
  limits_are i l e = limits_ok limit (row m i) l e

  empty_ok : (i : ℕ) (x : InRow ℚ) → i < height m → in_row m i ≡ x → empty_by limit m i x ≡ Ok (Some (Reduce r)) → Goes limit m r
  empty_ok i Nothing k e h =
      let l = then_ok (limits_run limit (row m i)) _ (Some (Reduce r)) h in
      let a = limits_are i l.0 l.1 in
      let g = empty_goes i (limits m i) r (is_above (limits m i).lower) (is_below (limits m i).upper) refl refl
      (subst (λ x. cond (is_above x) (choice.Halt (Above i)) (cond (is_below (limits m i).upper) (choice.Halt (Below i))
      (Reduce (Empty i))) ≡ Reduce r) a.lower
      (subst (λ x. empty_row i l.0.0 x ≡ Reduce r) a.upper
      (same_Some (empty_row i l.0.0 l.0.1) (Reduce r)
      (ok_same (Some (empty_row i l.0.0 l.0.1)) (Some (Reduce r)) l.2)))) in
      subst (Goes limit m) g.0 (record { inside = k; nothing = row_empty m i e; within = g.1 })
  empty_ok i (One j a) k e h = none_not (Reduce r) (ok_same None (Some (Reduce r)) h)
  empty_ok i More k e h = none_not (Reduce r) (ok_same None (Some (Reduce r)) h)

  single_ok : (i : ℕ) (x : InRow ℚ) → i < height m → in_row m i ≡ x → single_by limit m i x ≡ Ok (Some (Reduce r)) → Goes limit m r
  single_ok i Nothing k e h = none_not (Reduce r) (ok_same None (Some (Reduce r)) h)
  single_ok i (One j a) k e h =
      let l = then_ok (limits_run limit (row m i)) _ (Some (Reduce r)) h in
      let n = limits_are i l.0 l.1 in
      let p = then_ok (quotient limit l.0.0 a) _ (Some (Reduce r)) l.2 in
      let q = then_ok (quotient limit l.0.1 a) _ (Some (Reduce r)) p.2 in
      let s = near_ok limit m i j a k (row_alone m i j a e) p.0 q.0 r (is_far p.0 || is_far q.0) (lt_ℚ a 0ℚ) refl refl q.2
      (quotient_is limit l.0.0 p.0 a p.1 ∙ ap (divided a) n.lower)
      (quotient_is limit l.0.1 q.0 a q.1 ∙ ap (divided a) n.upper)
      (quotient_is_narrow limit l.0.0 p.0 a p.1) (quotient_is_narrow limit l.0.1 q.0 a q.1) in
      subst (Goes limit m) s.same s.found
  single_ok i More k e h = none_not (Reduce r) (ok_same None (Some (Reduce r)) h)

  pub what_goes : chosen limit m ≡ Ok (Reduce r) → Goes limit m r
  what_goes h = by (chosen_ok limit m (Reduce r) h)
    where
      by : Origin limit m (Reduce r) → Goes limit m r
      by (of_clash f) =
          let c = then_ok (crossed limit (bounds m f.place).lower (bounds m f.place).upper) _ (Some (Reduce r)) f.found in
          no_clash f.place c.0 r (ok_same (cond c.0 (Some (choice.Halt (Clash f.place))) None) (Some (Reduce r)) c.2)
      by (of_empty f) = empty_ok f.place (in_row m f.place) f.inside refl f.found
      by (of_single f) = single_ok f.place (in_row m f.place) f.inside refl f.found
      by (of_fixed f) =
          let s = fixed_ok m f.place (bounds m f.place).lower (bounds m f.place).upper r f.inside refl refl
          (ok_same (fixed_by f.place (bounds m f.place).lower (bounds m f.place).upper) (Some (Reduce r)) f.found) in
          subst (Goes limit m) s.same s.found
      by (of_none e) = halt_not Done r (sym e)
