-- The ratio test finds the same best column in whatever order the positions come.
use Rattle.std.proofs.Common.{◌≡◌, ◌≢◌, ℕ, zero, suc, ◌<◌, ◌≤◌, Option, Some, None, Bool, true}
use Rattle.std.proofs.Common.{false, cond, refl, sym, ap, ◌∙◌, subst, arith, inr, ⊎_elim}
use Rattle.spec_exact.specs.Fraction.{ℚ}
use Rattle.spec_exact.proofs.Order.{≤ℚ_antisym}
use Rattle.spec_pivot.specs.Ratio.{Best, NoWorse, is_better, take_room, scan}
use Rattle.spec_pivot.proofs.Ratio.{no_more, no_later, none_before, none_first, found, scan_least, better_still}

-- ---- the order of bests

-- a best is no worse than itself
NoWorse_refl : (x : Best) → NoWorse x x.ratio x.column
unfolding NoWorse
NoWorse_refl x = inr (refl, let k : x.column ≤ x.column = omega arith in k)

-- the best that a scan finds is no worse than the one with which the scan begins
scan_start : (r : ℕ → Option ℚ) (c : ℕ → ℕ) (y : Best) (m : ℕ) (x : Best) → scan m r c (Some y) ≡ Some x →
    NoWorse x y.ratio y.column
scan_start r c y zero x e = let z : y ≡ x = cc in subst (λ (x : Best). NoWorse x y.ratio y.column) z (NoWorse_refl y)
scan_start r c y (suc m) x e = go (r m) (scan m r c (Some y)) refl e (λ z k. scan_start r c y m z k)
  where
    go : (o : Option ℚ) (u : Option Best) → scan m r c (Some y) ≡ u → take_room m (c m) o u ≡ Some x →
        ((z : Best) → scan m r c (Some y) ≡ Some z → NoWorse z y.ratio y.column) → NoWorse x y.ratio y.column
    go None u w h ih = ih x (w ∙ h)
    go (Some q) None w h ih = let z : Some y ≡ None = none_first r c (Some y) m w in cc
    go (Some q) (Some z) w h ih = pick (is_better q (c m) (Some z)) refl h
      where
        pick : (t : Bool) → is_better q (c m) (Some z) ≡ t →
            cond t (Some (record { ratio = q; column = c m; position = Some m })) (Some z) ≡ Some x →
            NoWorse x y.ratio y.column
        pick true p h =
            let same : ◌≡◌ {A = Best} (record { ratio = q; column = c m; position = Some m }) x = cc in
            subst (λ (x : Best). NoWorse x y.ratio y.column) same
            (better_still q (c m) (Some m) z y.ratio y.column p (ih z w))
        pick false p h = let same : z ≡ x = cc in subst (λ (x : Best). NoWorse x y.ratio y.column) same (ih z w)

-- two bests of which none is worse than the other have the same ratio
both_ratio : (x y : Best) → NoWorse x y.ratio y.column → NoWorse y x.ratio x.column → x.ratio ≡ y.ratio
both_ratio x y h k = ≤ℚ_antisym x.ratio y.ratio (no_more x y.ratio y.column h) (no_more y x.ratio x.column k)

-- two bests of which none is worse than the other have the same column
both_column : (x y : Best) → NoWorse x y.ratio y.column → NoWorse y x.ratio x.column → x.column ≡ y.column
both_column x y h k =
    let e : x.ratio ≡ y.ratio = both_ratio x y h k in
    let a : x.column ≤ y.column = no_later x y.column (subst (λ q. NoWorse x q y.column) (sym e) h) in
    let c : y.column ≤ x.column = no_later y x.column (subst (λ q. NoWorse y q x.column) e k) in
    omega (arith, a, c)

-- ---- positions with the same columns and rooms, in another order
pub record SamePositions (m : ℕ) (r : ℕ → Option ℚ) (c : ℕ → ℕ) (s : ℕ → Option ℚ) (d : ℕ → ℕ) : Type 0 where
  pub position : (i : ℕ) → i < m → (p : ℕ) × (p < m) × (c i ≡ d p) × (r i ≡ s p)

-- both have the same ratio and column, and stand at no position or at positions of the same column
pub record SameBest (m : ℕ) (c d : ℕ → ℕ) (x y : Best) : Type 0 where
  pub ratio : x.ratio ≡ y.ratio
  pub column : x.column ≡ y.column
  pub none : x.position ≡ None → y.position ≡ None
  pub some : (p : ℕ) → x.position ≡ Some p → (q : ℕ) × (q < m) × (c p ≡ d q) × (y.position ≡ Some q)

module _ (m : ℕ) (r : ℕ → Option ℚ) (c : ℕ → ℕ) (s : ℕ → Option ℚ)
    (d : ℕ → ℕ) (start : Option Best) (forth : SamePositions m r c s d) where
  pub none_same : scan m s d start ≡ None → scan m r c start ≡ None
  none_same h = by (scan m r c start) refl
    where
      by : (o : Option Best) → scan m r c start ≡ o → scan m r c start ≡ None
      by None e = e
      by (Some x) e = ⊎_elim
          (λ z. let y : None ≡ Some x = sym (none_first s d start m h) ∙ z in cc)
          (λ w. let at = w.1 in let p = forth.position w.0 at.in_range in
          let y : None ≡ Some x.ratio = sym (none_before s d start m h p.0 p.1) ∙ sym p.3 ∙ at.ratio in cc)
          (found r c start m x e)

  no_worse : (x y : Best) → scan m r c start ≡ Some x → scan m s d start ≡ Some y → NoWorse y x.ratio x.column
  no_worse x y h k =
      ⊎_elim
      (λ z. scan_start s d x m y (ap (scan m s d) (sym z) ∙ k))
      (λ w. let at = w.1 in let p = forth.position w.0 at.in_range in
      subst (λ j. NoWorse y x.ratio j) (sym p.2 ∙ at.column)
      (scan_least s d start m y k p.0 p.1 x.ratio (sym p.3 ∙ at.ratio)))
      (found r c start m x h)

module _ (m : ℕ) (r : ℕ → Option ℚ) (c : ℕ → ℕ) (s : ℕ → Option ℚ) (d : ℕ → ℕ)
    (start : Option Best) (forth : SamePositions m r c s d) (back : SamePositions m s d r c)
    -- the first best has no position, and its column stands at none
    (first : (x : Best) → start ≡ Some x →
    (x.position ≡ None) × ((i : ℕ) → i < m → (c i ≢ x.column) × (d i ≢ x.column))) where
  pub same_best : (x y : Best) → scan m r c start ≡ Some x → scan m s d start ≡ Some y → SameBest m c d x y
  same_best x y h k =
      record {
        ratio = ratio_same;
        column = column_same;
        none = λ e. ⊎_elim
            (λ z. (first y z).0)
            (λ w. ⊎_elim
            (λ z. absurd (((first x z).1 w.0 w.1.in_range).1 (w.1.column ∙ sym column_same)))
            (λ v. let z : None ≡ Some v.0 = sym e ∙ v.1.position in cc)
            (found r c start m x h))
            (found s d start m y k);
        some = λ p e. ⊎_elim
            (λ z. let v : None ≡ Some p = sym ((first x z).0) ∙ e in cc)
            (λ v. let z : v.0 ≡ p = (let z : Some v.0 ≡ Some p = sym v.1.position ∙ e in cc) in
            ⊎_elim
            (λ w. absurd (((first y w).1 v.0 v.1.in_range).0 (v.1.column ∙ column_same)))
            (λ w. (w.0, w.1.in_range, ap c (sym z) ∙ v.1.column ∙ column_same ∙ sym w.1.column, w.1.position))
            (found s d start m y k))
            (found r c start m x h);
      }
    where
      one : NoWorse x y.ratio y.column
      one = no_worse m s d r c start back y x k h

      two : NoWorse y x.ratio x.column
      two = no_worse m r c s d start forth x y h k

      ratio_same : x.ratio ≡ y.ratio
      ratio_same = both_ratio x y one two

      column_same : x.column ≡ y.column
      column_same = both_column x y one two
