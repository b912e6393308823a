-- Bounds that a row with one entry tightens.
--
-- `asked_tight`: where the limit that goes with a multiplier's sign is there, that limit is tight for the multiplier.
-- `tight_zero`: any value is tight for the multiplier 0.
use Rattle.std.proofs.Common.{◌≡◌, Bool, true, false, cond, Option, Some, None, IfSome, is_some}
use Rattle.std.proofs.Common.{refl, sym, ap, ◌∙◌, subst, subst₂}
use Rattle.spec_exact.specs.Fraction.{ℚ, 0ℚ, neg_ℚ, ◌≤ℚ◌, ◌<ℚ◌, lt_ℚ}
use Rattle.spec_exact.proofs.Order.{≤ℚ_trans, lt_test, not_lt_test, <ℚ-le, clash_ℚ}
use Rattle.spec_exact.proofs.Strict.{neg_strict}
use Rattle.spec_exact.proofs.Ruleset.{neg-zero, neg-neg}
use Rattle.spec_pivot.proofs.Optimal.{if_some}
use Rattle.spec_model.specs.Model.{Limits}
use Rattle.spec_model.specs.Truth.{IsBetween}
use Rattle.spec_check.specs.Checks.{IsTight, HasLimit, Allows, asked, turned_limits}
use Rattle.spec_check.proofs.Sound.{asked_above, asked_below}
use Rattle.spec_presolve.specs.Reduce.{or_old, tightened}
use Rattle.spec_presolve.specs.Carry.{is_given}
use Rattle.spec_presolve.proofs.Scaled.{Ordered}

-- ---- a limit that a multiplier asks for

pub asked_tight : (l : Limits) (d : ℚ) → HasLimit l d → IsTight l d (asked l d)
asked_tight l d h = record { above = asked_above l d h; below = asked_below l d h }

pub tight_zero : (l : Limits) (v : ℚ) → IsTight l 0ℚ v
tight_zero l v =
    record { above = λ p. absurd (clash_ℚ 0ℚ 0ℚ p (<ℚ-le 0ℚ 0ℚ p)); below = λ p. absurd (clash_ℚ 0ℚ 0ℚ p (<ℚ-le 0ℚ 0ℚ p)) }

-- ---- the tighter bounds

-- the bound is there, and is at least q
pub record Least (o : Option ℚ) (q : ℚ) : Type 0 where
  pub bound : ℚ
  pub is : o ≡ Some bound
  pub at_least : q ≤ℚ bound

pub record Most (o : Option ℚ) (q : ℚ) : Type 0 where
  pub bound : ℚ
  pub is : o ≡ Some bound
  pub at_most : bound ≤ℚ q

-- `lower` and `upper`, if they are there, are those of s, the limits of a row over its entry. Taken in place of the
-- bounds b, they are at least as tight as s and as b.
pub record Tightens (s b : Limits) (lower upper : Option ℚ) : Type 0 where
  pub from_lower : (q : ℚ) → lower ≡ Some q → s.lower ≡ Some q
  pub from_upper : (q : ℚ) → upper ≡ Some q → s.upper ≡ Some q
  pub low_row : (q : ℚ) → s.lower ≡ Some q → Least (or_old lower b.lower) q
  pub low_old : (q : ℚ) → b.lower ≡ Some q → Least (or_old lower b.lower) q
  pub high_row : (q : ℚ) → s.upper ≡ Some q → Most (or_old upper b.upper) q
  pub high_old : (q : ℚ) → b.upper ≡ Some q → Most (or_old upper b.upper) q

-- what holds of the number that an option has, if any, holds of k where the option has k
at_some : (P : ℚ → Type 0) (o : Option ℚ) (k : ℚ) → IfSome o P → o ≡ Some k → P k
at_some P o k h e = subst (λ o. IfSome o P) e h

module _ (s b : Limits) (lower upper : Option ℚ) (t : Tightens s b lower upper) where
  abbrev new : Limits
  new = tightened b lower upper

  least_of : (v q : ℚ) → IsBetween new v → Least (or_old lower b.lower) q → q ≤ℚ v
  least_of v q h k = ≤ℚ_trans q k.bound v k.at_least (at_some (λ k. k ≤ℚ v) new.lower k.bound h.lower k.is)

  most_of : (v q : ℚ) → IsBetween new v → Most (or_old upper b.upper) q → v ≤ℚ q
  most_of v q h k = ≤ℚ_trans v k.bound q (at_some (λ k. v ≤ℚ k) new.upper k.bound h.upper k.is) k.at_most

  pub between_old : (v : ℚ) → IsBetween new v → IsBetween b v
  between_old v h = record {
    lower = if_some (λ k. k ≤ℚ v) b.lower (λ k e. least_of v k h (t.low_old k e));
    upper = if_some (λ k. v ≤ℚ k) b.upper (λ k e. most_of v k h (t.high_old k e));
  }

  pub between_row : (v : ℚ) → IsBetween new v → IsBetween s v
  between_row v h = record {
    lower = if_some (λ k. k ≤ℚ v) s.lower (λ k e. least_of v k h (t.low_row k e));
    upper = if_some (λ k. v ≤ℚ k) s.upper (λ k e. most_of v k h (t.high_row k e));
  }

  up_of : (r q : ℚ) → Allows new r → Least (or_old lower b.lower) q → 0ℚ ≤ℚ r
  up_of r q h k = at_some (λ _. 0ℚ ≤ℚ r) new.lower k.bound h.lower k.is

  down_of : (r q : ℚ) → Allows new r → Most (or_old upper b.upper) q → r ≤ℚ 0ℚ
  down_of r q h k = at_some (λ _. r ≤ℚ 0ℚ) new.upper k.bound h.upper k.is

  pub allows_old : (r : ℚ) → Allows new r → Allows b r
  allows_old r h = record {
    lower = if_some (λ _. 0ℚ ≤ℚ r) b.lower (λ k e. up_of r k h (t.low_old k e));
    upper = if_some (λ _. r ≤ℚ 0ℚ) b.upper (λ k e. down_of r k h (t.high_old k e));
  }

  pub allows_row : (r : ℚ) → Allows new r → Allows s r
  allows_row r h = record {
    lower = if_some (λ _. 0ℚ ≤ℚ r) s.lower (λ k e. up_of r k h (t.low_row k e));
    upper = if_some (λ _. r ≤ℚ 0ℚ) s.upper (λ k e. down_of r k h (t.high_row k e));
  }

  -- ---- multipliers

  given_low : (v : ℚ) (o : Option ℚ) → lower ≡ o → is_some o ≡ true → or_old o b.lower ≡ Some v → s.lower ≡ Some v
  given_low v None e i h = let z : false ≡ true = i in cc
  given_low v (Some q) e i h = t.from_lower v (e ∙ h)

  given_high : (v : ℚ) (o : Option ℚ) → upper ≡ o → is_some o ≡ true → or_old o b.upper ≡ Some v → s.upper ≡ Some v
  given_high v None e i h = let z : false ≡ true = i in cc
  given_high v (Some q) e i h = t.from_upper v (e ∙ h)

  kept : (v : ℚ) (o old : Option ℚ) → is_some o ≡ false → or_old o old ≡ Some v → old ≡ Some v
  kept v None old i h = h
  kept v (Some q) old i h = let z : true ≡ false = i in cc

  given_above : (d : ℚ) (x y : Option ℚ) (c : Bool) → is_given x y d ≡ c → 0ℚ <ℚ d → is_some x ≡ c
  given_above d x y c e p = sym (ap (λ t. cond t (is_some x) (cond (lt_ℚ d 0ℚ) (is_some y) false)) (lt_test 0ℚ d p)) ∙ e

  given_below : (d : ℚ) (x y : Option ℚ) (c : Bool) → is_given x y d ≡ c → d <ℚ 0ℚ → is_some y ≡ c
  given_below d x y c e p =
      sym (ap (λ t. cond t (is_some x) (cond (lt_ℚ d 0ℚ) (is_some y) false)) (not_lt_test 0ℚ d (<ℚ-le d 0ℚ p))
      ∙ ap (λ t. cond t (is_some y) false) (lt_test d 0ℚ p)) ∙ e

  pub tight_row : (d v : ℚ) → is_given lower upper d ≡ true → IsTight new d v → IsTight s d v
  tight_row d v e h = record {
    above = λ p. given_low v lower refl (given_above d lower upper true e p) (h.above p);
    below = λ p. given_high v upper refl (given_below d lower upper true e p) (h.below p);
  }

  pub tight_old : (d v : ℚ) → is_given lower upper d ≡ false → IsTight new d v → IsTight b d v
  tight_old d v e h = record {
    above = λ p. kept v lower b.lower (given_above d lower upper false e p) (h.above p);
    below = λ p. kept v upper b.upper (given_below d lower upper false e p) (h.below p);
  }

  turned_up : (g : ℚ) → 0ℚ <ℚ neg_ℚ g → g <ℚ 0ℚ
  turned_up g p = subst₂ ◌<ℚ◌ (neg-neg g) neg-zero (neg_strict 0ℚ (neg_ℚ g) p)

  turned_down : (g : ℚ) → neg_ℚ g <ℚ 0ℚ → 0ℚ <ℚ g
  turned_down g p = subst₂ ◌<ℚ◌ neg-zero (neg-neg g) (neg_strict (neg_ℚ g) 0ℚ p)

  pub turned_row : (g v : ℚ) → is_given upper lower g ≡ true → IsTight (turned_limits new) g v → IsTight s (neg_ℚ g) v
  turned_row g v e h = record {
    above = λ p. let q = turned_up g p in given_low v lower refl (given_below g upper lower true e q) (h.below q);
    below = λ p. let q = turned_down g p in given_high v upper refl (given_above g upper lower true e q) (h.above q);
  }

  pub turned_old : (g v : ℚ) → is_given upper lower g ≡ false → IsTight (turned_limits new) g v →
      IsTight (turned_limits b) g v
  turned_old g v e h = record {
    above = λ p. kept v upper b.upper (given_above g upper lower false e p) (h.above p);
    below = λ p. kept v lower b.lower (given_below g upper lower false e p) (h.below p);
  }

  -- ---- new bounds that clash

  -- where the tightened bounds cross and the row, whose limits do not, gave the lower one, this is the row's and the
  -- upper one is the old one
  pub clash_low : Ordered s → (l u q : ℚ) → new.lower ≡ Some l → new.upper ≡ Some u → u <ℚ l → lower ≡ Some q →
      (s.lower ≡ Some l) × (b.upper ≡ Some u)
  clash_low o l u q h k less e =
      let at : s.lower ≡ Some l = given_low l lower refl (ap is_some e) h in (at, by upper refl)
    where
      by : (x : Option ℚ) → upper ≡ x → b.upper ≡ Some u
      by None f = subst (λ x. or_old x b.upper ≡ Some u) f k
      by (Some y) f =
          absurd (clash_ℚ u l less
          (o l u (given_low l lower refl (ap is_some e) h) (given_high u upper refl (ap is_some f) k)))

  -- where the row gave the upper one of the tightened bounds alone, this is the row's, and the lower one is the old one
  pub clash_high : (l u q : ℚ) → new.lower ≡ Some l → new.upper ≡ Some u → lower ≡ None → upper ≡ Some q →
      (s.upper ≡ Some u) × (b.lower ≡ Some l)
  clash_high l u q h k f e = (given_high u upper refl (ap is_some e) k, subst (λ x. or_old x b.lower ≡ Some l) f h)
