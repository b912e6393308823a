-- A certificate carried back over a row without entries.
--
-- `plus_none`: adding 0 times a number changes nothing.
-- `less_none`: subtracting 0 times a number changes nothing.
-- `allows_zero`: a direction with the part 0 stays within any limits.
use Rattle.std.proofs.Common.{◌≡◌, ℕ, ◌<◌, List, length, Option, Some, None, IfSome}
use Rattle.std.proofs.Common.{refl, sym, ap, ap₂, ◌∙◌, subst, subst₂}
use Rattle.std.specs.List.{insert}
use Rattle.spec_exact.specs.Fraction.{ℚ, 0ℚ, ◌+ℚ◌, ◌-ℚ◌, ◌*ℚ◌, ◌≤ℚ◌, ◌<ℚ◌}
use Rattle.spec_exact.specs.Sums.{sum_below}
use Rattle.spec_exact.proofs.Order.{≤ℚ_refl}
use Rattle.spec_exact.proofs.Ruleset.{ring, zero-*ℚ, neg-zero}
use Rattle.spec_exact.proofs.Sums.{sum_below_same, sum_below_none}
use Rattle.spec_model.specs.Model.{Model, Limits, width, height, bounds, limits, coefficient, part, activity}
use Rattle.spec_model.specs.Truth.{IsBetween, IsFeasible}
use Rattle.spec_check.specs.declared.certificate.Certificate.TheVariants.{Optimal, Infeasible, Clash, Unbounded}
use Rattle.spec_check.specs.Certificate.{IsFor}
use Rattle.spec_check.specs.declared.certificate.Known.TheVariants as known
use Rattle.spec_check.specs.Checks.{signed, priced, reduced, IsTight, HasLimit, Allows, asked, rows_ask, columns_give}
use Rattle.spec_check.specs.Checks.{turned_limits, Checks, ChecksOptimal, ChecksInfeasible, ChecksClash, ChecksUnbounded}
use Rattle.spec_check.proofs.Sound.{tight_has}
use Rattle.spec_presolve.specs.Carry.{ExactCertificate, IsCarried, over_empty}
use Rattle.spec_presolve.proofs.RowMore.{HasRow, length_more, priced_more, reduced_more, feasible_more, tight_rows}
use Rattle.spec_presolve.proofs.RowMore.{has_limits, asks_more, allows_rows, cost_same, value_same}
use Rattle.spec_presolve.proofs.Tightened.{tight_zero}

-- m has row i more than n, without entries, and 0 is within its limits
pub record EmptyStep (m n : Model) (i : ℕ) : Type 0 where
  pub row : HasRow m n i
  pub nothing : (k : ℕ) → k < width m → coefficient m i k ≡ 0ℚ
  pub within : IsBetween (limits m i) 0ℚ
  pub bounds_are : (k : ℕ) → bounds n k ≡ bounds m k

pub plus_none : (s c : ℚ) → s +ℚ 0ℚ *ℚ c ≡ s
plus_none s c = simp ring

-- adding 0 to a number leaves the number
last_none : (s : ℚ) → s +ℚ 0ℚ ≡ s
last_none s = simp ring

pub less_none : (s c : ℚ) → s -ℚ 0ℚ *ℚ c ≡ s
less_none s c = ap (λ p. s -ℚ p) (zero-*ℚ c) ∙ ap (λ z. s +ℚ z) neg-zero ∙ last_none s

-- whether a limit is given or not, 0 is at least 0
still : (o : Option ℚ) → IfSome o (λ _. 0ℚ ≤ℚ 0ℚ)
still None = tt
still (Some b) = ≤ℚ_refl 0ℚ

pub allows_zero : (l : Limits) → Allows l 0ℚ
allows_zero l = record { lower = still l.lower; upper = still l.upper }

module _ (m n : Model) (i : ℕ) (h : EmptyStep m n i) where
  none_at : (x : List ℚ) → activity m x i ≡ 0ℚ
  none_at x =
      sum_below_none (width m) (λ k. coefficient m i k *ℚ part x k)
      (λ k p. ap (λ c. c *ℚ part x k) (h.nothing k p) ∙ zero-*ℚ (part x k))

  narrower : (k : ℕ) → k < width m → k < width n
  narrower k p = subst (λ w. k < w) h.row.width_is p

  same_priced : (y : List ℚ) (k : ℕ) → length y ≡ height n → priced m (insert y i 0ℚ) k ≡ priced n y k
  same_priced y k e = priced_more m n i h.row y 0ℚ k e ∙ plus_none (priced n y k) (coefficient m i k)

  feasible : (x : List ℚ) → IsFeasible n x → IsFeasible m x
  feasible x f =
      feasible_more m n i h.row x f (λ k p b. subst (λ l. IsBetween l (part x k)) (h.bounds_are k) b)
      (subst (λ v. IsBetween (limits m i) v) (sym (none_at x)) h.within)

  optimal : (x y : List ℚ) → length y ≡ height n → ChecksOptimal n x y → ChecksOptimal m x (insert y i 0ℚ)
  optimal x y e c = record {
    feasible = feasible x c.feasible;
    columns = λ k p. subst₂ (λ l d. IsTight l d (part x k)) (h.bounds_are k)
        (sym (reduced_more m n i h.row y 0ℚ k e ∙ less_none (reduced n y k) (coefficient m i k)))
        (c.columns k (narrower k p));
    rows = tight_rows m n i h.row x y 0ℚ e c.rows (tight_zero (limits m i) (activity m x i));
  }

  infeasible : (y : List ℚ) → length y ≡ height n → ChecksInfeasible n y → ChecksInfeasible m (insert y i 0ℚ)
  infeasible y e c = record {
    rows = has_limits m n i h.row y 0ℚ e c.rows (tight_has (limits m i) 0ℚ 0ℚ (tight_zero (limits m i) 0ℚ));
    columns = λ k p. subst₂ (λ l g. HasLimit (turned_limits l) g) (h.bounds_are k) (sym (same_priced y k e))
        (c.columns k (narrower k p));
    less = subst₂ ◌<ℚ◌ (sym gives) (sym asks) c.less;
  }
    where
      gives : columns_give m (insert y i 0ℚ) ≡ columns_give n y
      gives =
          ap (λ w. sum_below w (λ k. priced m (insert y i 0ℚ) k *ℚ
          asked (turned_limits (bounds m k)) (priced m (insert y i 0ℚ) k))) h.row.width_is
          ∙ sum_below_same (width n)
          (λ k. priced m (insert y i 0ℚ) k *ℚ asked (turned_limits (bounds m k)) (priced m (insert y i 0ℚ) k))
          (λ k. priced n y k *ℚ asked (turned_limits (bounds n k)) (priced n y k))
          (λ k _. ap₂ (λ g b. g *ℚ asked (turned_limits b) g) (same_priced y k e) (sym (h.bounds_are k)))

      asks : rows_ask m (insert y i 0ℚ) ≡ rows_ask n y
      asks = asks_more m n i h.row y 0ℚ e ∙ plus_none (rows_ask n y) (asked (limits m i) 0ℚ)

  clash : (j : ℕ) → ChecksClash n j → ChecksClash m j
  clash j c = record {
    inside = subst (λ w. j < w) (sym h.row.width_is) c.inside;
    low = c.low;
    high = c.high;
    lower = subst (λ (l : Limits). l.lower ≡ Some c.low) (h.bounds_are j) c.lower;
    upper = subst (λ (l : Limits). l.upper ≡ Some c.high) (h.bounds_are j) c.upper;
    crossed = c.crossed;
  }

  unbounded : (x r : List ℚ) → ChecksUnbounded n x r → ChecksUnbounded m x r
  unbounded x r c = record {
    feasible = feasible x c.feasible;
    columns = λ k p. subst (λ l. Allows l (part r k)) (h.bounds_are k) (c.columns k (narrower k p));
    rows = allows_rows m n i h.row r c.rows
        (subst (λ v. Allows (limits m i) v) (sym (none_at r)) (allows_zero (limits m i)));
    better = subst (λ v. v <ℚ 0ℚ) (sym (ap₂ signed h.row.sense_is (cost_same m n i h.row r))) c.better;
  }

  pub over_empty_row : (c : ExactCertificate) → IsFor n c → Checks n c → IsCarried m n c (over_empty i c)
  over_empty_row (Optimal x y) f c = record {
    fits = (f.0 ∙ sym h.row.width_is, length_more m n i h.row y 0ℚ f.1);
    checks = optimal x y f.1 c;
    shows = ap known.Optimal (value_same m n i h.row x);
  }
  over_empty_row (Infeasible y) f c =
      record { fits = length_more m n i h.row y 0ℚ f; checks = infeasible y f c; shows = refl }
  over_empty_row (Clash j) f c =
      record { fits = subst (λ w. j < w) (sym h.row.width_is) f; checks = clash j c; shows = refl }
  over_empty_row (Unbounded x r) f c = record {
    fits = (f.0 ∙ sym h.row.width_is, f.1 ∙ sym h.row.width_is);
    checks = unbounded x r c;
    shows = refl;
  }
