-- Where reductions end, and what it shows.
use Rattle.std.proofs.Common.{◌≡◌, ℕ, ◌-◌, ◌<◌, ◌||◌, Bool, true, false, cond, Option, Some, None, Ok}
use Rattle.std.proofs.Common.{List, length, replicate, is_gt, refl, sym, ap, ◌∙◌, subst, subst₂, arith, ⊎_elim}
use Rattle.std.proofs.lemmas.Bool.{cases_eq}
use Rattle.std.proofs.lemmas.List.{length-replicate}
use Rattle.std.proofs.lemmas.List.Edits.{length-insert}
use Rattle.std.proofs.lemmas.Option.{same_Some}
use Rattle.spec_exact.specs.Fraction.{ℚ, 0ℚ, 1ℚ, ◌*ℚ◌, neg_ℚ, ◌<ℚ◌, lt_ℚ, eq_ℚ}
use Rattle.spec_exact.specs.Run.{order_run}
use Rattle.spec_exact.proofs.Field.{*ℚ_zero}
use Rattle.spec_exact.proofs.Order.{lt_if}
use Rattle.spec_exact.proofs.Strict.{neg_strict}
use Rattle.spec_exact.proofs.Ruleset.{zero-*ℚ, neg-zero, one-*ℚ}
use Rattle.spec_exact.proofs.Results.{ok_same}
use Rattle.spec_exact.proofs.Sums.{sum_below_none}
use Rattle.spec_simplex.proofs.RunParts.{then_ok, order_ok}
use Rattle.spec_model.specs.Model.{Model, Limits, width, height, bounds, limits, row, coefficient, part}
use Rattle.spec_model.proofs.ListParts.{part_zeros}
use Rattle.spec_check.proofs.StepsSound.{greater_from}
use Rattle.spec_check.specs.declared.certificate.Certificate.TheVariants.{Infeasible}
use Rattle.spec_check.specs.declared.certificate.Certificate.TheVariants as certificate
use Rattle.spec_check.specs.Checks.{IsTight, HasLimit, ChecksClash, turned_limits, priced, asked}
use Rattle.spec_check.specs.Checks.{rows_ask, columns_give}
use Rattle.spec_check.proofs.Sound.{tight_has, asked_weighs}
use Rattle.spec_simplex.specs.Form.{limits_run}
use Rattle.spec_presolve.specs.declared.reduction.InRow.{InRow}
use Rattle.spec_presolve.specs.declared.reduction.InRow.TheVariants.{Nothing, One, More}
use Rattle.spec_presolve.specs.declared.reduction.Reduction.TheVariants.{Empty, Single, Fixed}
use Rattle.spec_presolve.specs.declared.reduction.Halt.{Halt}
use Rattle.spec_presolve.specs.declared.reduction.Halt.TheVariants.{Done, Clash, Above, Below}
use Rattle.spec_presolve.specs.declared.reduction.Choice.TheVariants.{Reduce}
use Rattle.spec_presolve.specs.declared.reduction.Choice.TheVariants as choice
use Rattle.spec_presolve.specs.Choose.{ExactReduction, ExactChoice, crossed, in_row, is_above}
use Rattle.spec_presolve.specs.Choose.{is_below, empty_row, empty_by, given, quotient, single_by}
use Rattle.spec_presolve.specs.Choose.{is_far, raised, cut, fixed_by, chosen}
use Rattle.spec_presolve.specs.Carry.{ExactCertificate, IsShown, alone_at, halted}
use Rattle.spec_presolve.proofs.Skips.{by_skip, part_at, part_skipping, sum_of_one}
use Rattle.spec_presolve.proofs.Tightened.{tight_zero}
use Rattle.spec_presolve.proofs.OverSingleRun.{one_tight, minus_tight, minus_times}
use Rattle.spec_presolve.proofs.InRows.{row_empty}
use Rattle.spec_presolve.proofs.NextReduction.{Origin, of_clash, of_empty, of_single, of_fixed, of_none, chosen_ok, none_not}
use Rattle.spec_simplex.proofs.FormRowLimits.{limits_ok}

-- ---- a row without entries whose limits leave out 0

module _ (m : Model) (i : ℕ) (d s : ℚ) (inside : i < height m) (nothing : (k : ℕ) → k < width m → coefficient m i k ≡ 0ℚ)
    (tight : IsTight (limits m i) d s) (above : 0ℚ <ℚ (d *ℚ s)) where
  abbrev y : List ℚ
  y = alone_at (height m - 1) i d

  own : part y i ≡ d
  own = part_at (replicate (height m - 1) 0ℚ) i d (let e = length-replicate (height m - 1) 0ℚ in omega (arith, e, inside))

  others : (k : ℕ) → k < height m → ¬ (k ≡ i) → part y k ≡ 0ℚ
  others k l =
      by_skip (λ k. ¬ (k ≡ i) → part y k ≡ 0ℚ) (height m - 1) i (λ o. absurd (o refl))
      (λ a p _. part_skipping (replicate (height m - 1) 0ℚ) i a d
      (let e = length-replicate (height m - 1) 0ℚ in omega (arith, e, inside)) ∙ part_zeros (height m - 1) a)
      (omega (arith, inside)) k (omega (arith, l, inside))

  long : length y ≡ height m
  long =
      let e = length-replicate (height m - 1) 0ℚ in
      let f = length-insert (replicate (height m - 1) 0ℚ) i d (omega (arith, e, inside)) in
      omega (arith, e, f, inside)

  no_price : (k : ℕ) → k < width m → priced m y k ≡ 0ℚ
  no_price k l =
      sum_of_one (height m) i (λ r. part y r *ℚ coefficient m r k) inside
      (λ r p o. ap (λ w. w *ℚ coefficient m r k) (others r p o) ∙ zero-*ℚ (coefficient m r k))
      ∙ ap (λ c. part y i *ℚ c) (nothing k l) ∙ times_none (part y i)
    where
      times_none : (v : ℚ) → v *ℚ 0ℚ ≡ 0ℚ
      times_none v = *ℚ_zero v

  has : (l : Limits) (v : ℚ) → v ≡ 0ℚ → HasLimit l v
  has l v e = subst (HasLimit l) (sym e) (tight_has l 0ℚ 0ℚ (tight_zero l 0ℚ))

  asks : rows_ask m y ≡ d *ℚ s
  asks =
      sum_of_one (height m) i (λ r. part y r *ℚ asked (limits m r) (part y r)) inside
      (λ r p o. ap (λ w. w *ℚ asked (limits m r) (part y r)) (others r p o) ∙ zero-*ℚ (asked (limits m r) (part y r)))
      ∙ ap (λ w. w *ℚ asked (limits m i) w) own ∙ asked_weighs (limits m i) d s tight

  gives : columns_give m y ≡ 0ℚ
  gives =
      sum_below_none (width m) (λ k. priced m y k *ℚ asked (turned_limits (bounds m k)) (priced m y k))
      (λ k l. ap (λ g. g *ℚ asked (turned_limits (bounds m k)) (priced m y k)) (no_price k l)
      ∙ zero-*ℚ (asked (turned_limits (bounds m k)) (priced m y k)))

  outside : IsShown m (Infeasible y)
  outside = record {
    fits = long;
    checks = record {
      rows = λ r l. ⊎_elim
          (λ e. subst (λ r. HasLimit (limits m r) (part y r)) (sym e)
          (subst (λ w. HasLimit (limits m i) w) (sym own) (tight_has (limits m i) d s tight)))
          (λ o. has (limits m r) (part y r) (others r l o)) (cases_eq r i);
      columns = λ k l. has (turned_limits (bounds m k)) (priced m y k) (no_price k l);
      less = subst₂ ◌<ℚ◌ (sym gives) (sym asks) above;
    };
    shows = refl;
  }

-- ---- by what is found

-- a choice to reduce is no choice to halt
reduce_not : {P : Type 0} (h : Halt) (r : ExactReduction) → ◌≡◌ {A = ExactChoice} (Reduce r) (choice.Halt h) → P
reduce_not h r e = let z : ◌≡◌ {A = ExactChoice} (Reduce r) (choice.Halt h) = e in cc

-- where two choices to halt are the same, they halt for the same reason
halt_same : (h g : Halt) → ◌≡◌ {A = ExactChoice} (choice.Halt h) (choice.Halt g) → h ≡ g
halt_same h g e = cc

-- what is shown by an end, if anything is
abbrev Shows : Model → Halt → Type 0
Shows m h = (c : ExactCertificate) → halted m h ≡ Some c → IsShown m c

-- where a halt's one certificate shows that no point is feasible, all certificates of the halt do
shows_one : (m : Model) (h : Halt) (c : ExactCertificate) → halted m h ≡ Some c → IsShown m c → Shows m h
shows_one m h c e k d f = subst (IsShown m) (same_Some c d (sym e ∙ f)) k

-- where column j's bounds are found to cross, the certificate that they clash checks
crossed_ok : (limit : Option ℕ) (m : Model) (j : ℕ) (l u : Option ℚ) → j < width m → (bounds m j).lower ≡ l →
    (bounds m j).upper ≡ u → crossed limit l u ≡ Ok true → ChecksClash m j
crossed_ok limit m j None u p e f h = let z : false ≡ true = ok_same false true h in cc
crossed_ok limit m j (Some l) None p e f h = let z : false ≡ true = ok_same false true h in cc
crossed_ok limit m j (Some l) (Some u) p e f h =
    let o = then_ok (order_run limit l u) (λ o. Ok (is_gt o)) true h in
    record {
      inside = p;
      low = l;
      high = u;
      lower = e;
      upper = f;
      crossed = greater_from o.0 l u (order_ok limit l u o.0 o.1) (ok_same (is_gt o.0) true o.2);
    }

module _ (limit : Option ℕ) (m : Model) (h : Halt) where
  clash_shows : (j : ℕ) (t : Bool) → j < width m → crossed limit (bounds m j).lower (bounds m j).upper ≡ Ok t →
      cond {A = Option ExactChoice} t (Some (choice.Halt (Clash j))) None ≡ Some (choice.Halt h) → Shows m h
  clash_shows j true p e f =
      let c = crossed_ok limit m j (bounds m j).lower (bounds m j).upper p refl refl e in
      subst (Shows m) (halt_same (Clash j) h (same_Some (choice.Halt (Clash j)) (choice.Halt h) f))
      (shows_one m (Clash j) (certificate.Clash j) refl (record { fits = p; checks = c; shows = refl }))
  clash_shows j false p e f = none_not (choice.Halt h) f

  above_at : (i : ℕ) (o : Option ℚ) → (limits m i).lower ≡ o → is_above o ≡ true → i < height m →
      ((k : ℕ) → k < width m → coefficient m i k ≡ 0ℚ) → Shows m (Above i)
  above_at i None e t p n = let z : false ≡ true = t in cc
  above_at i (Some l) e t p n =
      shows_one m (Above i) (Infeasible (alone_at (height m - 1) i 1ℚ)) refl
      (outside m i 1ℚ l p n (one_tight (limits m i) l e)
      (subst (λ w. 0ℚ <ℚ w) (sym (one-*ℚ l)) (lt_if 0ℚ l t)))

  below_at : (i : ℕ) (o : Option ℚ) → (limits m i).upper ≡ o → is_below o ≡ true → i < height m →
      ((k : ℕ) → k < width m → coefficient m i k ≡ 0ℚ) → Shows m (Below i)
  below_at i None e t p n = let z : false ≡ true = t in cc
  below_at i (Some u) e t p n =
      shows_one m (Below i) (Infeasible (alone_at (height m - 1) i (neg_ℚ 1ℚ))) refl
      (outside m i (neg_ℚ 1ℚ) u p n (minus_tight (limits m i) u e)
      (subst₂ ◌<ℚ◌ neg-zero (sym (minus_times u)) (neg_strict u 0ℚ (lt_if u 0ℚ t))))

  row_by : (i : ℕ) (l : Limits) (s t : Bool) → limits m i ≡ l → is_above l.lower ≡ s → is_below l.upper ≡ t →
      i < height m → ((k : ℕ) → k < width m → coefficient m i k ≡ 0ℚ) →
      cond {A = ExactChoice} s (choice.Halt (Above i)) (cond t (choice.Halt (Below i)) (Reduce (Empty i))) ≡ choice.Halt h →
      Shows m h
  row_by i l true t e f g p n k =
      subst (Shows m) (halt_same (Above i) h k) (above_at i l.lower (ap (λ (l : Limits). l.lower) e) f p n)
  row_by i l false true e f g p n k =
      subst (Shows m) (halt_same (Below i) h k) (below_at i l.upper (ap (λ (l : Limits). l.upper) e) g p n)
  row_by i l false false e f g p n k = reduce_not h (Empty i) k

  empty_shows : (i : ℕ) (x : InRow ℚ) → i < height m → in_row m i ≡ x →
      empty_by limit m i x ≡ Ok (Some (choice.Halt h)) → Shows m h
  empty_shows i Nothing p e k =
      let l = then_ok (limits_run limit (row m i)) _ (Some (choice.Halt h)) k in
      let a = limits_ok limit (row m i) l.0 l.1 in
      row_by i (limits m i) (is_above (limits m i).lower) (is_below (limits m i).upper) refl refl refl p
      (row_empty m i e)
      (subst (λ x. cond {A = ExactChoice} (is_above x) (choice.Halt (Above i))
      (cond (is_below (limits m i).upper) (choice.Halt (Below i)) (Reduce (Empty i))) ≡ choice.Halt h) a.lower
      (subst (λ x. empty_row i l.0.0 x ≡ choice.Halt h) a.upper
      (same_Some (empty_row i l.0.0 l.0.1) (choice.Halt h)
      (ok_same (Some (empty_row i l.0.0 l.0.1)) (Some (choice.Halt h)) l.2))))
  empty_shows i (One j a) p e k = none_not (choice.Halt h) (ok_same None (Some (choice.Halt h)) k)
  empty_shows i More p e k = none_not (choice.Halt h) (ok_same None (Some (choice.Halt h)) k)

  given_not : {P : Type 0} (i j : ℕ) (a : ℚ) (l u : Option ℚ) → given limit m i j a l u ≡ Ok (Some (choice.Halt h)) → P
  given_not i j a l u k =
      let x = then_ok (raised limit l (bounds m j).lower) _ (Some (choice.Halt h)) k in
      let y = then_ok (cut limit u (bounds m j).upper) _ (Some (choice.Halt h)) x.2 in
      reduce_not h (Single i j a x.0 y.0)
      (same_Some (Reduce (Single i j a x.0 y.0)) (choice.Halt h)
      (ok_same (Some (Reduce (Single i j a x.0 y.0))) (Some (choice.Halt h)) y.2))

  near_not : {P : Type 0} (i j : ℕ) (a : ℚ) (p q : Option ℚ) (s t : Bool) →
      cond s (Ok None) (cond t (given limit m i j a q p) (given limit m i j a p q)) ≡ Ok (Some (choice.Halt h)) → P
  near_not i j a p q true t k = none_not (choice.Halt h) (ok_same None (Some (choice.Halt h)) k)
  near_not i j a p q false true k = given_not i j a q p k
  near_not i j a p q false false k = given_not i j a p q k

  single_not : {P : Type 0} (i : ℕ) (x : InRow ℚ) → single_by limit m i x ≡ Ok (Some (choice.Halt h)) → P
  single_not i Nothing k = none_not (choice.Halt h) (ok_same None (Some (choice.Halt h)) k)
  single_not i (One j a) k =
      let l = then_ok (limits_run limit (row m i)) _ (Some (choice.Halt h)) k in
      let p = then_ok (quotient limit l.0.0 a) _ (Some (choice.Halt h)) l.2 in
      let q = then_ok (quotient limit l.0.1 a) _ (Some (choice.Halt h)) p.2 in
      near_not i j a p.0 q.0 (is_far p.0 || is_far q.0) (lt_ℚ a 0ℚ) q.2
  single_not i More k = none_not (choice.Halt h) (ok_same None (Some (choice.Halt h)) k)

  fixed_not : {P : Type 0} (j : ℕ) (l u : Option ℚ) → fixed_by j l u ≡ Some (choice.Halt h) → P
  fixed_not j None u k = none_not (choice.Halt h) k
  fixed_not j (Some l) None k = none_not (choice.Halt h) k
  fixed_not {P} j (Some l) (Some u) k = by (eq_ℚ l u) k
    where
      by : (t : Bool) → cond t (Some (Reduce (Fixed j l))) None ≡ Some (choice.Halt h) → P
      by true k = reduce_not h (Fixed j l) (same_Some (Reduce (Fixed j l)) (choice.Halt h) k)
      by false k = none_not (choice.Halt h) k

  pub halt_shows : chosen limit m ≡ Ok (choice.Halt h) → Shows m h
  halt_shows k = by (chosen_ok limit m (choice.Halt h) k)
    where
      by : Origin limit m (choice.Halt h) → Shows m h
      by (of_clash f) =
          let c = then_ok (crossed limit (bounds m f.place).lower (bounds m f.place).upper) _ (Some (choice.Halt h)) f.found in
          clash_shows f.place c.0 f.inside c.1
          (ok_same (cond c.0 (Some (choice.Halt (Clash f.place))) None) (Some (choice.Halt h)) c.2)
      by (of_empty f) = empty_shows f.place (in_row m f.place) f.inside refl f.found
      by (of_single f) = single_not f.place (in_row m f.place) f.found
      by (of_fixed f) =
          fixed_not f.place (bounds m f.place).lower (bounds m f.place).upper
          (ok_same (fixed_by f.place (bounds m f.place).lower (bounds m f.place).upper) (Some (choice.Halt h)) f.found)
      by (of_none e) =
          subst (Shows m) (sym (halt_same h Done e)) (λ c k. none_not c k)
