-- A certificate beside a free row: the row's multiplier is 0, and all else is as without the row.
--
-- `free_row-checks`: a certificate checks for the model without a free row exactly where it checks for the model with
--   the multiplier 0 for that row.
-- `free_row-optimal`: an optimal certificate that checks has the multiplier 0 for a free row.
-- `free_row-infeasible`: Farkas multipliers that check have 0 for a free row.
use Rattle.std.proofs.Common.{◌≡◌, ◌↔◌, ℕ, ◌+◌, ◌<◌, ◌≤◌, List, length, Option, Some, None, true}
use Rattle.std.proofs.Common.{refl, sym, ap, ap₂, ◌∙◌, subst, subst₂, arith}
use Rattle.std.specs.List.{insert}
use Rattle.spec_exact.specs.Fraction.{ℚ, 0ℚ, ◌*ℚ◌, ◌<ℚ◌}
use Rattle.spec_exact.specs.Sums.{sum_below}
use Rattle.spec_exact.proofs.Strict.{by_sign}
use Rattle.spec_exact.proofs.Sums.{sum_below_same}
use Rattle.spec_model.specs.declared.parts.Kind.{Kind}
use Rattle.spec_model.specs.declared.parts.Kind.TheVariants.{L, G, E, N}
use Rattle.spec_model.specs.Model.{Model, Limits, width, height, row, bounds, limits, limits_by, is_free}
use Rattle.spec_model.specs.Model.{bounds_of, part, activity}
use Rattle.spec_model.specs.Truth.{IsBetween, IsFeasible}
use Rattle.spec_edit.specs.Changes.{without_row}
use Rattle.spec_edit.specs.Meaning.{skipping}
use Rattle.spec_edit.proofs.Meanings.{column-lowered}
use Rattle.spec_check.specs.declared.certificate.Certificate.TheVariants.{Optimal, Infeasible, Clash, Unbounded}
use Rattle.spec_check.specs.Certificate.{IsFor}
use Rattle.spec_check.specs.Checks.{signed, priced, reduced, IsTight, HasLimit, Allows, asked, rows_ask, columns_give}
use Rattle.spec_check.specs.Checks.{turned_limits, Checks}
use Rattle.spec_check.proofs.Sound.{tight_has}
use Rattle.spec_presolve.specs.Carry.{ExactCertificate, over_empty}
use Rattle.spec_presolve.proofs.After.{row_less}
use Rattle.spec_presolve.proofs.OverEmpty.{plus_none, less_none}
use Rattle.spec_presolve.proofs.RowMore.{HasRow, priced_more, reduced_more, feasible_more, tight_rows}
use Rattle.spec_presolve.proofs.RowMore.{activity_other, has_limits, asks_more, allows_rows, cost_same}
use Rattle.spec_presolve.proofs.Skips.{part_skipping, skipping_inside}
use Rattle.spec_presolve.proofs.Tightened.{tight_zero}

abbrev no_limits : Limits
no_limits = record { lower = None; upper = None }

-- m has row i more than n, which has no limits
pub record FreeStep (m n : Model) (i : ℕ) : Type 0 where
  pub row : HasRow m n i
  pub free : limits m i ≡ no_limits
  pub bounds_are : (k : ℕ) → bounds n k ≡ bounds m k

-- a row of a free kind has no limits, whatever its right side and its range
free_limits : (kind : Kind) (b : ℚ) (range : Option ℚ) → is_free kind ≡ true → limits_by kind b range ≡ no_limits
free_limits L b range e = absurd (cc)
free_limits G b range e = absurd (cc)
free_limits E b range e = absurd (cc)
free_limits N b range e = refl

-- where row i is free, the model has that row, without limits, more than the model without row i
free_step : (m : Model) (i : ℕ) → i < height m → is_free (row m i).kind ≡ true → FreeStep m (without_row m i) i
free_step m i l e = record {
  row = row_less m i l;
  free = free_limits (row m i).kind (row m i).rhs (row m i).range e;
  bounds_are = λ k. ap bounds_of (column-lowered m i k);
}

module _ (m n : Model) (i : ℕ) (h : FreeStep m n i) where
  within : (v : ℚ) → IsBetween (limits m i) v
  within v = subst (λ l. IsBetween l v) (sym h.free) (record { lower = tt; upper = tt })

  allows : (v : ℚ) → Allows (limits m i) v
  allows v = subst (λ l. Allows l v) (sym h.free) (record { lower = tt; upper = tt })

  narrower : (k : ℕ) → k < width m → k < width n
  narrower k p = subst (λ w. k < w) h.row.width_is p

  wider : (k : ℕ) → k < width n → k < width m
  wider k p = subst (λ w. k < w) (sym h.row.width_is) p

  inside : (a : ℕ) → a < height n → skipping i a < height m
  inside a p =
      let e = h.row.height_is in
      let q : skipping i a < height n + 1 = skipping_inside (height n) i a p in
      omega (arith, e, q)

  same_priced : (y : List ℚ) (k : ℕ) → length y ≡ height n → priced m (insert y i 0ℚ) k ≡ priced n y k
  same_priced y k e = priced_more m n i h.row y 0ℚ k e ∙ plus_none (priced n y k) _

  same_reduced : (y : List ℚ) (k : ℕ) → length y ≡ height n → reduced m (insert y i 0ℚ) k ≡ reduced n y k
  same_reduced y k e = reduced_more m n i h.row y 0ℚ k e ∙ less_none (reduced n y k) _

  low : (y : List ℚ) → length y ≡ height n → i ≤ length y
  low y e = subst (λ l. i ≤ l) (sym e) h.row.inside

  gives : (y : List ℚ) → length y ≡ height n → columns_give m (insert y i 0ℚ) ≡ columns_give n y
  gives y e =
      ap (λ w. sum_below w (λ k. priced m (insert y i 0ℚ) k *ℚ
      asked (turned_limits (bounds m k)) (priced m (insert y i 0ℚ) k))) h.row.width_is
      ∙ sum_below_same (width n)
      (λ k. priced m (insert y i 0ℚ) k *ℚ asked (turned_limits (bounds m k)) (priced m (insert y i 0ℚ) k))
      (λ k. priced n y k *ℚ asked (turned_limits (bounds n k)) (priced n y k))
      (λ k _. ap₂ (λ g b. g *ℚ asked (turned_limits b) g) (same_priced y k e) (sym (h.bounds_are k)))

  asks : (y : List ℚ) → length y ≡ height n → rows_ask m (insert y i 0ℚ) ≡ rows_ask n y
  asks y e = asks_more m n i h.row y 0ℚ e ∙ plus_none (rows_ask n y) (asked (limits m i) 0ℚ)

  -- ---- from the model without the row
  -- a point that is feasible in the model without the free row is feasible in the model with it
  feasible : (x : List ℚ) → IsFeasible n x → IsFeasible m x
  feasible x f =
      feasible_more m n i h.row x f (λ k p b. subst (λ l. IsBetween l (part x k)) (h.bounds_are k) b)
      (within (activity m x i))

  forth : (c : ExactCertificate) → IsFor n c → Checks n c → Checks m (over_empty i c)
  forth (Optimal x y) f c = record {
    feasible = feasible x c.feasible;
    columns = λ k p. subst₂ (λ l d. IsTight l d (part x k)) (h.bounds_are k) (sym (same_reduced y k f.1))
        (c.columns k (narrower k p));
    rows = tight_rows m n i h.row x y 0ℚ f.1 c.rows (tight_zero (limits m i) (activity m x i));
  }
  forth (Infeasible y) f c = record {
    rows = has_limits m n i h.row y 0ℚ f c.rows (tight_has (limits m i) 0ℚ 0ℚ (tight_zero (limits m i) 0ℚ));
    columns = λ k p. subst₂ (λ l g. HasLimit (turned_limits l) g) (h.bounds_are k) (sym (same_priced y k f))
        (c.columns k (narrower k p));
    less = subst₂ ◌<ℚ◌ (sym (gives y f)) (sym (asks y f)) c.less;
  }
  forth (Clash j) f c = record {
    inside = wider j c.inside;
    low = c.low;
    high = c.high;
    lower = subst (λ (l : Limits). l.lower ≡ Some c.low) (h.bounds_are j) c.lower;
    upper = subst (λ (l : Limits). l.upper ≡ Some c.high) (h.bounds_are j) c.upper;
    crossed = c.crossed;
  }
  forth (Unbounded x r) f c = record {
    feasible = feasible x c.feasible;
    columns = λ k p. subst (λ l. Allows l (part r k)) (h.bounds_are k) (c.columns k (narrower k p));
    rows = allows_rows m n i h.row r c.rows (allows (activity m r i));
    better = subst (λ v. v <ℚ 0ℚ) (sym (ap₂ signed h.row.sense_is (cost_same m n i h.row r))) c.better;
  }

  -- ---- and back
  -- a point that is feasible in the model with the free row is feasible in the model without it
  feasible_back : (x : List ℚ) → IsFeasible m x → IsFeasible n x
  feasible_back x f = record {
    one_each = f.one_each ∙ h.row.width_is;
    columns = λ k p. subst (λ l. IsBetween l (part x k)) (sym (h.bounds_are k)) (f.columns k (wider k p));
    rows = λ a p. subst₂ IsBetween (h.row.limits_are a) (activity_other m n i h.row x a)
        (f.rows (skipping i a) (inside a p));
  }

  back : (c : ExactCertificate) → IsFor n c → Checks m (over_empty i c) → Checks n c
  back (Optimal x y) f c = record {
    feasible = feasible_back x c.feasible;
    columns = λ k p. subst₂ (λ l d. IsTight l d (part x k)) (sym (h.bounds_are k)) (same_reduced y k f.1)
        (c.columns k (wider k p));
    rows = λ a p. subst (λ w. IsTight (limits n a) w (activity n x a)) (part_skipping y i a 0ℚ (low y f.1))
        (subst₂ (λ b z. IsTight b (part (insert y i 0ℚ) (skipping i a)) z) (h.row.limits_are a)
        (activity_other m n i h.row x a) (c.rows (skipping i a) (inside a p)));
  }
  back (Infeasible y) f c = record {
    rows = λ a p. subst₂ HasLimit (h.row.limits_are a) (part_skipping y i a 0ℚ (low y f))
        (c.rows (skipping i a) (inside a p));
    columns = λ k p. subst₂ (λ l g. HasLimit (turned_limits l) g) (sym (h.bounds_are k)) (same_priced y k f)
        (c.columns k (wider k p));
    less = subst₂ ◌<ℚ◌ (gives y f) (asks y f) c.less;
  }
  back (Clash j) f c = record {
    inside = narrower j c.inside;
    low = c.low;
    high = c.high;
    lower = subst (λ (l : Limits). l.lower ≡ Some c.low) (sym (h.bounds_are j)) c.lower;
    upper = subst (λ (l : Limits). l.upper ≡ Some c.high) (sym (h.bounds_are j)) c.upper;
    crossed = c.crossed;
  }
  back (Unbounded x r) f c = record {
    feasible = feasible_back x c.feasible;
    columns = λ k p. subst (λ l. Allows l (part r k)) (sym (h.bounds_are k)) (c.columns k (wider k p));
    rows = λ a p. subst₂ Allows (h.row.limits_are a) (activity_other m n i h.row r a)
        (c.rows (skipping i a) (inside a p));
    better = subst (λ v. v <ℚ 0ℚ) (ap₂ signed h.row.sense_is (cost_same m n i h.row r)) c.better;
  }

  -- ---- the row's own multiplier
  -- an option that is `None` has no number v
  none_some : {A : Type 0} (v : ℚ) (o : Option ℚ) → o ≡ None → o ≡ Some v → A
  none_some v o p q = let z : None ≡ Some v = sym p ∙ q in absurd (cc)

  only_zero : (d v : ℚ) → IsTight (limits m i) d v → d ≡ 0ℚ
  only_zero d v t =
      by_sign d (λ p. none_some v (limits m i).lower (ap (λ (l : Limits). l.lower) h.free) (t.above p))
      (λ p. none_some v (limits m i).upper (ap (λ (l : Limits). l.upper) h.free) (t.below p)) (λ e. e)

  asks_zero : (d : ℚ) → HasLimit (limits m i) d → d ≡ 0ℚ
  asks_zero d t =
      by_sign d
      (λ p. let b = t.above p in none_some b.0 (limits m i).lower (ap (λ (l : Limits). l.lower) h.free) b.1)
      (λ p. let b = t.below p in none_some b.0 (limits m i).upper (ap (λ (l : Limits). l.upper) h.free) b.1) (λ e. e)

pub free_row-checks : (m : Model) (i : ℕ) → i < height m → is_free (row m i).kind ≡ true → (c : ExactCertificate) →
    IsFor (without_row m i) c → Checks (without_row m i) c ↔ Checks m (over_empty i c)
free_row-checks m i l e c f =
    let h = free_step m i l e in (forth m (without_row m i) i h c f, back m (without_row m i) i h c f)

pub free_row-optimal : (m : Model) (i : ℕ) → i < height m → is_free (row m i).kind ≡ true → (x y : List ℚ) →
    Checks m (Optimal x y) → part y i ≡ 0ℚ
free_row-optimal m i l e x y c =
    only_zero m (without_row m i) i (free_step m i l e) (part y i) (activity m x i) (c.rows i l)

pub free_row-infeasible : (m : Model) (i : ℕ) → i < height m → is_free (row m i).kind ≡ true → (y : List ℚ) →
    Checks m (Infeasible y) → part y i ≡ 0ℚ
free_row-infeasible m i l e y c = asks_zero m (without_row m i) i (free_step m i l e) (part y i) (c.rows i l)
