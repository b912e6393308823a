-- A run that is there. There are two columns x and s, each at least 0, and one row x + s = 0, and -x is to be least. So
-- x enters, and s leaves at once.
use Rattle.std.proofs.Common.{◌≡◌, ℕ, zero, suc, Some, None, refl, sym, ap, subst, arith, inr}
use Rattle.spec_exact.specs.Fraction.{ℚ, ◌+ℚ◌, ◌-ℚ◌, ◌*ℚ◌, neg_ℚ, 0ℚ, 1ℚ, ◌<ℚ◌}
use Rattle.spec_exact.proofs.Order.{≤ℚ_refl}
use Rattle.spec_exact.proofs.Ruleset.{ring}
use Rattle.spec_exact.proofs.Strict.{neg-one-lt-zero}
use Rattle.spec_pivot.specs.Tableau.{Matrix}
use Rattle.spec_pivot.specs.declared.status.Status.TheVariants.{AtLower}
use Rattle.spec_pivot.specs.declared.status.Way.TheVariants.{Up}
use Rattle.spec_pivot.specs.Simplex.{Bounds, Table, Pivots, ray}
use Rattle.spec_pivot.specs.Simplex.{moved, after_pivot, Label, Pivot, IsStep, IsRun}
use Rattle.spec_pivot.proofs.OneRow
use Rattle.spec_pivot.proofs.OneRow.{entries, costs, bounds, only_zero, is_tableau}

abbrev pub f : Matrix
f = entries 1ℚ

abbrev pub cost : ℕ → ℚ
cost = costs (neg_ℚ 1ℚ)

abbrev pub b : Bounds
b = bounds 0ℚ

abbrev opening : Table
opening = OneRow.opening 1ℚ (neg_ℚ 1ℚ)

abbrev pub tables : ℕ → Table
tables zero = opening
tables (suc i) = after_pivot 1 opening Up 0 0 0ℚ AtLower

abbrev pub label : Label
label = record { kind = Pivot; way = Up; column = 0; position = 0; theta = 0ℚ; to = AtLower }

-- x enters and s leaves by the rule of the least index, with a move of length 0
pivots : Pivots 1 2 b opening Up 0 0 0ℚ AtLower
pivots = record {
  enters = record {
    in_range = omega arith;
    eligible =
        record {
          may_enter = (refl, λ x. let e : None ≡ Some x.0 = x.2 in cc);
          status = tt;
          improves = subst (λ a. a <ℚ 0ℚ) (sym cheaper) neg-one-lt-zero;
        };
    least = λ k w h. absurd (let z : ⊥ = omega arith in z);
  };
  position = omega arith;
  forward = ≤ℚ_refl 0ℚ;
  blocked = inr (subst (λ a. a <ℚ 0ℚ) (sym down) neg-one-lt-zero, ap Some (sym rests));
  least = λ i h l. absurd (let z : ⊥ = omega arith in z);
  to_nonbasic = λ e. cc;
  lands = ap Some (sym rests);
}
  where
    cheaper : neg_ℚ 1ℚ -ℚ (0ℚ +ℚ 0ℚ *ℚ 1ℚ) ≡ neg_ℚ 1ℚ
    cheaper = simp ring

    down : ray 1 opening Up 0 1 ≡ neg_ℚ 1ℚ
    down = simp ring

    rests : moved 1 opening Up 0 0ℚ 1 ≡ 0ℚ
    rests = simp ring

-- the first tableau and its one pivot are a run of one step
pub run_there : IsRun 1 2 f cost b tables (λ i. label) 1
run_there = record {
  first = is_tableau 1ℚ (neg_ℚ 1ℚ) 0ℚ;
  steps = λ i h. subst (λ i. IsStep 1 2 b label (tables i) (tables (suc i))) (sym (only_zero i h)) (pivots, refl);
}
