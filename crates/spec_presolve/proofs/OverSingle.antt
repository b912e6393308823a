-- A certificate carried back over a row with one entry.
use Rattle.std.proofs.Common.{◌≡◌, ℕ, ◌<◌, Bool, true, false, cond, List, length, replicate}
use Rattle.std.proofs.Common.{Option, refl, sym, ap, ap₂, ◌∙◌, subst, subst₂, ⊎_elim}
use Rattle.std.specs.List.{insert}
use Rattle.std.proofs.lemmas.Bool.{cases_eq}
use Rattle.std.proofs.lemmas.List.{length-replicate}
use Rattle.spec_exact.specs.Fraction.{ℚ, 0ℚ, ◌+ℚ◌, ◌-ℚ◌, ◌*ℚ◌, neg_ℚ, inverse, ◌<ℚ◌}
use Rattle.spec_exact.specs.Sums.{sum_below}
use Rattle.spec_exact.proofs.Strict.{+ℚ_strict}
use Rattle.spec_exact.proofs.Ruleset.{ring, zero-*ℚ, zero-+ℚ}
use Rattle.spec_exact.proofs.Sums.{sum_below_none}
use Rattle.spec_model.specs.Model.{Model, Limits, width, height, bounds, limits, coefficient, part, activity}
use Rattle.spec_model.specs.Truth.{IsBetween, IsFeasible}
use Rattle.spec_model.proofs.ListParts.{part_zeros}
use Rattle.spec_check.specs.Checks.{signed, priced, reduced, IsTight, HasLimit, Allows, asked, rows_ask, columns_give}
use Rattle.spec_check.specs.Checks.{turned_limits, ChecksOptimal, ChecksInfeasible, ChecksUnbounded}
use Rattle.spec_check.proofs.Sound.{tight_has, asked_weighs}
use Rattle.spec_presolve.specs.Reduce.{tightened}
use Rattle.spec_presolve.specs.Carry.{is_given, alone_at}
use Rattle.spec_presolve.proofs.Skips.{sum_of_one, sum_but_one}
use Rattle.spec_presolve.proofs.Scaled.{Ordered, scaled, quotient_times, scaled_between, scaled_allows, scaled_tight}
use Rattle.spec_presolve.proofs.Tightened.{Tightens, tight_zero, asked_tight, between_old}
use Rattle.spec_presolve.proofs.Tightened.{between_row, allows_old, allows_row, tight_row, tight_old, turned_row, turned_old}
use Rattle.spec_presolve.proofs.RowMore.{HasRow, priced_more, reduced_more, feasible_more, tight_rows}
use Rattle.spec_presolve.proofs.RowMore.{has_limits, asks_more, allows_rows, cost_same}
use Rattle.spec_presolve.proofs.OverEmpty.{less_none, plus_none}

-- m has row i more than n, with the entry a in column j alone; and n has the bounds of column j that the row tightens
pub record SingleStep (m n : Model) (i j : ℕ) (a : ℚ) (lower upper : Option ℚ) : Type 0 where
  pub row : HasRow m n i
  pub inside : j < width m
  pub entry : coefficient m i j ≡ a
  pub not_zero : ¬ (a ≡ 0ℚ)
  pub alone : (k : ℕ) → k < width m → ¬ (k ≡ j) → coefficient m i k ≡ 0ℚ
  pub others : (k : ℕ) → ¬ (k ≡ j) → bounds n k ≡ bounds m k
  pub own : bounds n j ≡ tightened (bounds m j) lower upper
  pub tightens : Tightens (scaled a (limits m i)) (bounds m j) lower upper
  pub ordered : Ordered (limits m i)

-- adding a number times 0 leaves the sum
plus_nothing : (s v : ℚ) → s +ℚ v *ℚ 0ℚ ≡ s
plus_nothing s v = simp ring

-- subtracting a number times 0 leaves what was there
less_nothing : (s v : ℚ) → s -ℚ v *ℚ 0ℚ ≡ s
less_nothing s v = simp ring

-- a number less itself is 0
less_itself : (d : ℚ) → d -ℚ d ≡ 0ℚ
less_itself d = simp ring

-- a number plus its negative is 0
plus_negative : (d : ℚ) → d +ℚ neg_ℚ d ≡ 0ℚ
plus_negative d = simp ring

module _ (m n : Model) (i j : ℕ) (a : ℚ) (lower upper : Option ℚ) (h : SingleStep m n i j a lower upper) where
  abbrev given : Limits
  given = scaled a (limits m i)

  abbrev old : Limits
  old = bounds m j

  one_at : (x : List ℚ) → activity m x i ≡ a *ℚ part x j
  one_at x =
      sum_of_one (width m) j (λ k. coefficient m i k *ℚ part x k) h.inside
      (λ k p o. ap (λ c. c *ℚ part x k) (h.alone k p o) ∙ zero-*ℚ (part x k))
      ∙ ap (λ c. c *ℚ part x j) h.entry

  narrower : (k : ℕ) → k < width m → k < width n
  narrower k p = subst (λ w. k < w) h.row.width_is p

  own_bounds : (P : Limits → Type 0) → P (bounds n j) → P (tightened old lower upper)
  own_bounds P p = subst P h.own p

  -- what holds of column j, and of each other column of m, holds of each column of m
  each_column : (P : ℕ → Type 0) → P j → ((k : ℕ) → k < width m → ¬ (k ≡ j) → P k) → (k : ℕ) → k < width m → P k
  each_column P at others k p = ⊎_elim (λ e. subst P (sym e) at) (λ o. others k p o) (cases_eq k j)

  feasible : (x : List ℚ) → IsFeasible n x → IsFeasible m x
  feasible x f =
      let own : IsBetween (tightened old lower upper) (part x j) =
      own_bounds (λ l. IsBetween l (part x j)) (f.columns j (narrower j h.inside)) in
      feasible_more m n i h.row x f
      (λ k p b. ⊎_elim
      (λ e. subst (λ k. IsBetween (bounds m k) (part x k)) (sym e) (between_old given old lower upper h.tightens (part x j) own))
      (λ o. subst (λ l. IsBetween l (part x k)) (h.others k o) b) (cases_eq k j))
      (subst (λ v. IsBetween (limits m i) v) (sym (one_at x))
      (scaled_between a (part x j) (limits m i) h.not_zero (between_row given old lower upper h.tightens (part x j) own)))

  -- ---- an optimal point
  -- each column but j has in m, with the multiplier v put in for row i, the reduced cost that it has in n
  reduced_other : (y : List ℚ) (v : ℚ) (k : ℕ) → length y ≡ height n → k < width m → ¬ (k ≡ j) →
      reduced m (insert y i v) k ≡ reduced n y k
  reduced_other y v k e p o =
      reduced_more m n i h.row y v k e ∙ ap (λ c. reduced n y k -ℚ v *ℚ c) (h.alone k p o)
      ∙ less_nothing (reduced n y k) v

  reduced_own : (y : List ℚ) (v : ℚ) → length y ≡ height n → reduced m (insert y i v) j ≡ reduced n y j -ℚ v *ℚ a
  reduced_own y v e = reduced_more m n i h.row y v j e ∙ ap (λ c. reduced n y j -ℚ v *ℚ c) h.entry

  -- Where x is tight for d at the tightened bounds, and v is d over a if the row gave the bound that d asks for, else
  -- 0, x is tight for d less v times a at column j's old bounds, and a times x is for v at row i's limits.
  tight_by : (d x v : ℚ) (t : Bool) → is_given lower upper d ≡ t → v ≡ cond t (d *ℚ inverse a) 0ℚ →
      IsTight (tightened old lower upper) d x → IsTight old (d -ℚ v *ℚ a) x × IsTight (limits m i) v (a *ℚ x)
  tight_by d x v true g e k =
      let gone : d -ℚ v *ℚ a ≡ 0ℚ = ap (λ w. d -ℚ w) (ap (λ v. v *ℚ a) e ∙ quotient_times a d h.not_zero) ∙ less_itself d in (
        subst (λ d. IsTight old d x) (sym gone) (tight_zero old x),
        subst (λ v. IsTight (limits m i) v (a *ℚ x)) (sym e)
            (scaled_tight a d x (limits m i) h.not_zero (tight_row given old lower upper h.tightens d x g k)),
      )
  tight_by d x v false g e k = (
    subst (λ d. IsTight old d x) (sym (ap (λ v. d -ℚ v *ℚ a) e ∙ less_none d a))
        (tight_old given old lower upper h.tightens d x g k),
    subst (λ v. IsTight (limits m i) v (a *ℚ x)) (sym e) (tight_zero (limits m i) (a *ℚ x)),
  )

  pub optimal : (x y : List ℚ) (v : ℚ) → length y ≡ height n → ChecksOptimal n x y →
      v ≡ cond (is_given lower upper (reduced n y j)) (reduced n y j *ℚ inverse a) 0ℚ → ChecksOptimal m x (insert y i v)
  optimal x y v e c is =
      let both = tight_by (reduced n y j) (part x j) v (is_given lower upper (reduced n y j)) refl is
      (own_bounds (λ l. IsTight l (reduced n y j) (part x j)) (c.columns j (narrower j h.inside))) in
      record {
        feasible = feasible x c.feasible;
        columns = each_column (λ k. IsTight (bounds m k) (reduced m (insert y i v) k) (part x k))
            (subst (λ d. IsTight old d (part x j)) (sym (reduced_own y v e)) both.0)
            (λ k p o. subst₂ (λ l d. IsTight l d (part x k)) (h.others k o) (sym (reduced_other y v k e p o))
            (c.columns k (narrower k p)));
        rows = tight_rows m n i h.row x y v e c.rows
            (subst (λ z. IsTight (limits m i) v z) (sym (one_at x)) both.1);
      }

  -- ---- no point is feasible
  -- in each column but j the multipliers have in m, with v put in for row i, the part that they have in n
  priced_other : (y : List ℚ) (v : ℚ) (k : ℕ) → length y ≡ height n → k < width m → ¬ (k ≡ j) →
      priced m (insert y i v) k ≡ priced n y k
  priced_other y v k e p o =
      priced_more m n i h.row y v k e ∙ ap (λ c. priced n y k +ℚ v *ℚ c) (h.alone k p o) ∙ plus_nothing (priced n y k) v

  priced_own : (y : List ℚ) (v : ℚ) → length y ≡ height n → priced m (insert y i v) j ≡ priced n y j +ℚ v *ℚ a
  priced_own y v e = priced_more m n i h.row y v j e ∙ ap (λ c. priced n y j +ℚ v *ℚ c) h.entry

  -- Row i, with the multiplier v, and column j, of which the multipliers' part is g then, are at limits of s and b.
  pub record Moved (v g s b : ℚ) : Type 0 where
    pub row_at : IsTight (limits m i) v s
    pub column_at : IsTight (turned_limits old) g b

  pub farkas : (y : List ℚ) (v g s b : ℚ) → length y ≡ height n →
      ((r : ℕ) → r < height n → HasLimit (limits n r) (part y r)) →
      ((k : ℕ) → k < width n → ¬ (k ≡ j) → HasLimit (turned_limits (bounds n k)) (priced n y k)) →
      priced m (insert y i v) j ≡ g → Moved v g s b →
      (columns_give n y +ℚ g *ℚ b)
      <ℚ ((rows_ask n y +ℚ v *ℚ s) +ℚ priced n y j *ℚ asked (turned_limits (bounds n j)) (priced n y j)) →
      ChecksInfeasible m (insert y i v)
  farkas y v g s b e rows columns own moved less = record {
    rows = has_limits m n i h.row y v e rows (tight_has (limits m i) v s moved.row_at);
    columns = each_column (λ k. HasLimit (turned_limits (bounds m k)) (priced m (insert y i v) k))
        (subst (λ g. HasLimit (turned_limits old) g) (sym own) (tight_has (turned_limits old) g b moved.column_at))
        (λ k p o. subst₂ (λ l g. HasLimit (turned_limits l) g) (h.others k o) (sym (priced_other y v k e p o))
        (columns k (narrower k p) o));
    less = below;
  }
    where
      f : ℕ → ℚ
      f k = priced m (insert y i v) k *ℚ asked (turned_limits (bounds m k)) (priced m (insert y i v) k)

      f₂ : ℕ → ℚ
      f₂ k = priced n y k *ℚ asked (turned_limits (bounds n k)) (priced n y k)

      term : f j ≡ g *ℚ b
      term = ap (λ g. g *ℚ asked (turned_limits old) g) own ∙ asked_weighs (turned_limits old) g b moved.column_at

      gives : columns_give m (insert y i v) +ℚ f₂ j ≡ columns_give n y +ℚ g *ℚ b
      gives =
          sum_but_one (width m) j f f₂ h.inside
          (λ k p o. ap₂ (λ g l. g *ℚ asked (turned_limits l) g) (priced_other y v k e p o) (sym (h.others k o)))
          ∙ ap₂ ◌+ℚ◌ (ap (λ w. sum_below w f₂) h.row.width_is) term

      asks : rows_ask m (insert y i v) ≡ rows_ask n y +ℚ v *ℚ s
      asks = asks_more m n i h.row y v e ∙ ap (λ w. rows_ask n y +ℚ w) (asked_weighs (limits m i) v s moved.row_at)

      below : columns_give m (insert y i v) <ℚ rows_ask m (insert y i v)
      below = less_back (columns_give m (insert y i v)) (rows_ask m (insert y i v)) (f₂ j)
          (subst₂ ◌<ℚ◌ (sym gives) (ap (λ r. r +ℚ f₂ j) (sym asks)) less)
        where
          back : (s t : ℚ) → (s +ℚ t) +ℚ neg_ℚ t ≡ s
          back s t = simp ring

          less_back : (p q t : ℚ) → (p +ℚ t) <ℚ (q +ℚ t) → p <ℚ q
          less_back p q t k = subst₂ ◌<ℚ◌ (back p t) (back q t) (+ℚ_strict (p +ℚ t) (q +ℚ t) (neg_ℚ t) k)

  take_over : (d s v : ℚ) → v ≡ d *ℚ inverse a → v *ℚ (a *ℚ s) ≡ d *ℚ s
  take_over d s v e =
      regroup v a s ∙ ap (λ w. w *ℚ s) (ap (λ v. v *ℚ a) e ∙ quotient_times a d h.not_zero)
    where
      regroup : (v a s : ℚ) → v *ℚ (a *ℚ s) ≡ (v *ℚ a) *ℚ s
      regroup v a s = simp ring

  infeasible_by : (y : List ℚ) (v : ℚ) (t : Bool) → length y ≡ height n → ChecksInfeasible n y →
      is_given upper lower (priced n y j) ≡ t → v ≡ cond t (neg_ℚ (priced n y j) *ℚ inverse a) 0ℚ →
      ChecksInfeasible m (insert y i v)
  infeasible_by y v true e c g is =
      farkas y v 0ℚ (a *ℚ b) 0ℚ e c.rows (λ k p o. c.columns k p)
      (priced_own y v e ∙ ap (λ w. g₀ +ℚ w) (ap (λ v. v *ℚ a) is ∙ quotient_times a (neg_ℚ g₀) h.not_zero)
      ∙ plus_negative g₀)
      (record {
        row_at = subst (λ v. IsTight (limits m i) v (a *ℚ b)) (sym is)
            (scaled_tight a (neg_ℚ g₀) b (limits m i) h.not_zero (turned_row given old lower upper h.tightens g₀ b g own));
        column_at = tight_zero (turned_limits old) 0ℚ;
      })
      (subst₂ ◌<ℚ◌ (sym (plus_nothing (columns_give n y) 0ℚ))
      (sym (ap₂ (λ p q. (rows_ask n y +ℚ p) +ℚ q) (take_over (neg_ℚ g₀) b v is) refl ∙ cancels (rows_ask n y) g₀ b)) c.less)
    where
      g₀ : ℚ
      g₀ = priced n y j

      b : ℚ
      b = asked (turned_limits (bounds n j)) (priced n y j)

      own : IsTight (turned_limits (tightened old lower upper)) g₀ b
      own =
          own_bounds (λ l. IsTight (turned_limits l) g₀ b)
          (asked_tight (turned_limits (bounds n j)) g₀ (c.columns j (narrower j h.inside)))

      cancels : (r g b : ℚ) → (r +ℚ neg_ℚ g *ℚ b) +ℚ g *ℚ b ≡ r
      cancels r g b = simp ring
  infeasible_by y v false e c g is =
      farkas y v g₀ 0ℚ b e c.rows (λ k p o. c.columns k p)
      (priced_own y v e ∙ ap (λ v. g₀ +ℚ v *ℚ a) is ∙ plus_none g₀ a)
      (record {
        row_at = subst (λ v. IsTight (limits m i) v 0ℚ) (sym is) (tight_zero (limits m i) 0ℚ);
        column_at = turned_old given old lower upper h.tightens g₀ b g own;
      })
      (subst (λ r. (columns_give n y +ℚ g₀ *ℚ b) <ℚ (r +ℚ g₀ *ℚ b)) (sym (plus_nothing (rows_ask n y) v))
      (+ℚ_strict (columns_give n y) (rows_ask n y) (g₀ *ℚ b) c.less))
    where
      g₀ : ℚ
      g₀ = priced n y j

      b : ℚ
      b = asked (turned_limits (bounds n j)) (priced n y j)

      own : IsTight (turned_limits (tightened old lower upper)) g₀ b
      own =
          own_bounds (λ l. IsTight (turned_limits l) g₀ b)
          (asked_tight (turned_limits (bounds n j)) g₀ (c.columns j (narrower j h.inside)))

  pub infeasible : (y : List ℚ) (v : ℚ) → length y ≡ height n → ChecksInfeasible n y →
      v ≡ cond (is_given upper lower (priced n y j)) (neg_ℚ (priced n y j) *ℚ inverse a) 0ℚ →
      ChecksInfeasible m (insert y i v)
  infeasible y v e c is = infeasible_by y v (is_given upper lower (priced n y j)) e c refl is

  -- ---- bounds that clash

  abbrev zeros : List ℚ
  zeros = replicate (height n) 0ℚ

  no_price : (k : ℕ) → priced n zeros k ≡ 0ℚ
  no_price k =
      sum_below_none (height n) (λ r. part zeros r *ℚ coefficient n r k)
      (λ r _. ap (λ w. w *ℚ coefficient n r k) (part_zeros (height n) r) ∙ zero-*ℚ (coefficient n r k))

  no_asks : rows_ask n zeros ≡ 0ℚ
  no_asks =
      sum_below_none (height n) (λ r. part zeros r *ℚ asked (limits n r) (part zeros r))
      (λ r _. ap (λ w. w *ℚ asked (limits n r) (part zeros r)) (part_zeros (height n) r)
      ∙ zero-*ℚ (asked (limits n r) (part zeros r)))

  no_give : (k : ℕ) → priced n zeros k *ℚ asked (turned_limits (bounds n k)) (priced n zeros k) ≡ 0ℚ
  no_give k =
      ap (λ w. w *ℚ asked (turned_limits (bounds n k)) (priced n zeros k)) (no_price k)
      ∙ zero-*ℚ (asked (turned_limits (bounds n k)) (priced n zeros k))

  no_gives : columns_give n zeros ≡ 0ℚ
  no_gives =
      sum_below_none (width n) (λ k. priced n zeros k *ℚ asked (turned_limits (bounds n k)) (priced n zeros k))
      (λ k _. no_give k)

  has_zero : (l : Limits) (v : ℚ) → v ≡ 0ℚ → HasLimit l v
  has_zero l v e = subst (HasLimit l) (sym e) (tight_has l 0ℚ 0ℚ (tight_zero l 0ℚ))

  -- Where s is the bound by row i that d asks for, b column j's own other bound, d times b less than d times s, and v
  -- is d over a, multipliers that are 0 but v at row i show that no point is feasible in m.
  pub apart_by : (d s b v : ℚ) → IsTight given d s → IsTight (turned_limits old) d b → (d *ℚ b) <ℚ (d *ℚ s) →
      v ≡ d *ℚ inverse a → ChecksInfeasible m (alone_at (height n) i v)
  apart_by d s b v row column less is =
      farkas zeros v d (a *ℚ s) b (length-replicate (height n) 0ℚ)
      (λ r _. has_zero (limits n r) (part zeros r) (part_zeros (height n) r))
      (λ k _ _. has_zero (turned_limits (bounds n k)) (priced n zeros k) (no_price k))
      (priced_own zeros v (length-replicate (height n) 0ℚ)
      ∙ ap₂ ◌+ℚ◌ (no_price j) (ap (λ v. v *ℚ a) is ∙ quotient_times a d h.not_zero) ∙ zero-+ℚ d)
      (record {
        row_at = subst (λ v. IsTight (limits m i) v (a *ℚ s)) (sym is) (scaled_tight a d s (limits m i) h.not_zero row);
        column_at = column;
      })
      (subst₂ ◌<ℚ◌ (sym (ap (λ z. z +ℚ d *ℚ b) no_gives ∙ zero-+ℚ (d *ℚ b)))
      (sym (ap₂ ◌+ℚ◌ (ap₂ ◌+ℚ◌ no_asks (take_over d s v is) ∙ zero-+ℚ (d *ℚ s)) (no_give j) ∙ last_zero (d *ℚ s))) less)
    where
      last_zero : (s : ℚ) → s +ℚ 0ℚ ≡ s
      last_zero s = simp ring

  -- ---- a ray
  -- a point and a ray that are accepted for n are accepted for m
  pub unbounded : (x r : List ℚ) → ChecksUnbounded n x r → ChecksUnbounded m x r
  unbounded x r c =
      let own : Allows (tightened old lower upper) (part r j) =
      own_bounds (λ l. Allows l (part r j)) (c.columns j (narrower j h.inside)) in
      record {
        feasible = feasible x c.feasible;
        columns = each_column (λ k. Allows (bounds m k) (part r k)) (allows_old given old lower upper h.tightens (part r j) own)
            (λ k p o. subst (λ l. Allows l (part r k)) (h.others k o) (c.columns k (narrower k p)));
        rows = allows_rows m n i h.row r c.rows
            (subst (λ v. Allows (limits m i) v) (sym (one_at r))
            (scaled_allows a (part r j) (limits m i) h.not_zero (allows_row given old lower upper h.tightens (part r j) own)));
        better = subst (λ v. v <ℚ 0ℚ) (sym (ap₂ signed h.row.sense_is (cost_same m n i h.row r))) c.better;
      }
