-- A dual step exists. There are two columns x and s, of which x is at least 0 and s at least 1, and one row s - x = 0,
-- and x is to be least. At first s is basic and 0, so it leaves to its bound, and x enters. Where the row is s + x = 0
-- no column can enter.
--
-- `is_tableau`: the first tableau is one of the row s - x = 0, its costs and its bounds.
-- `feasible`: the reduced costs of the first tableau have the signs that suit the statuses.
-- `leaves`: in the first tableau s, at position 0, has to rise to come back to its bound 1.
-- `cheapest`: in the first tableau x is the candidate with the least ratio.
-- `refutes`: the row s + x = 0 shows that no values solve it within the bounds.
use Rattle.std.proofs.Common.{◌≡◌, ℕ, zero, suc, ◌<◌, Some, None, refl, sym, subst, arith}
use Rattle.spec_exact.specs.Fraction.{ℚ, ◌+ℚ◌, ◌-ℚ◌, ◌*ℚ◌, neg_ℚ, 0ℚ, 1ℚ, ◌≤ℚ◌, ◌<ℚ◌}
use Rattle.spec_exact.proofs.Order.{≤ℚ_refl, <ℚ-le, clash_ℚ}
use Rattle.spec_exact.proofs.Ruleset.{ring, neg-zero}
use Rattle.spec_exact.proofs.Strict.{zero-lt-one, neg_strict}
use Rattle.spec_pivot.specs.declared.status.Way.TheVariants.{Up}
use Rattle.spec_pivot.specs.Tableau.{Matrix}
use Rattle.spec_pivot.specs.Simplex.{Bounds, Table, IsTableau}
use Rattle.spec_pivot.proofs.OneRow
use Rattle.spec_pivot.proofs.OneRow.{entries, costs, lowest, bounds}
use Rattle.spec_pivot.specs.Dual.{IsDualFeasible, Leaves, IsCandidate, ratio, IsCheapest, Refutes}

abbrev pub f : Matrix
f = entries (neg_ℚ 1ℚ)

abbrev pub cost : ℕ → ℚ
cost = costs 1ℚ

abbrev pub b : Bounds
b = bounds 1ℚ

abbrev pub opening : Table
opening = OneRow.opening (neg_ℚ 1ℚ) 1ℚ

pub is_tableau : IsTableau 1 2 f cost b opening
is_tableau = OneRow.is_tableau (neg_ℚ 1ℚ) 1ℚ 1ℚ

pub feasible : IsDualFeasible 2 b opening
feasible zero h free = subst (λ a. 0ℚ ≤ℚ a) (sym cost_is) (<ℚ-le 0ℚ 1ℚ zero-lt-one)
  where
    cost_is : 1ℚ -ℚ (0ℚ +ℚ 0ℚ *ℚ neg_ℚ 1ℚ) ≡ 1ℚ
    cost_is = simp ring
feasible (suc k) h free = tt

pub leaves : Leaves 1 b opening Up 0 1ℚ
leaves = record { position = omega arith; past = (refl, zero-lt-one) }

pub cheapest : IsCheapest 2 b opening Up 0 0
cheapest = record {
  in_range = omega arith;
  candidate =
      record {
        not_fixed = λ x. let e : None ≡ Some x.0 = x.2 in cc;
        helps = subst (λ a. a <ℚ 0ℚ) (sym entry_is) below;
      };
  least = λ k h c. only k h c;
}
  where
    entry_is : 1ℚ *ℚ neg_ℚ 1ℚ ≡ neg_ℚ 1ℚ
    entry_is = simp ring

    below : neg_ℚ 1ℚ <ℚ 0ℚ
    below = subst (λ a. neg_ℚ 1ℚ <ℚ a) neg-zero (neg_strict 0ℚ 1ℚ zero-lt-one)

    only : (k : ℕ) → k < 2 → IsCandidate b opening Up 0 k → ratio opening 0 0 ≤ℚ ratio opening 0 k
    only zero h c = ≤ℚ_refl (ratio opening 0 0)
    only (suc k) h c = absurd c.helps

-- ---- the row s + x = 0
abbrev pub stops : ℕ → ℚ
stops zero = 0ℚ
stops (suc k) = 1ℚ

pub refutes : Refutes 1 2 (λ i k. 1ℚ) b (λ k. 1ℚ) stops
refutes = record {
  weights = λ r. 1ℚ;
  combined = λ k. simp ring;
  above = λ k h p. at k;
  below = λ k h p. clash_ℚ 1ℚ 0ℚ p (<ℚ-le 0ℚ 1ℚ zero-lt-one);
  positive = subst (λ a. 0ℚ <ℚ a) (sym sum_is) zero-lt-one;
}
  where
    at : (k : ℕ) → lowest 1ℚ k ≡ Some (stops k)
    at zero = refl
    at (suc k) = refl

    sum_is : (0ℚ +ℚ 1ℚ *ℚ 0ℚ) +ℚ 1ℚ *ℚ 1ℚ ≡ 1ℚ
    sum_is = simp ring
