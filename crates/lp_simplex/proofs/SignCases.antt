-- Choices by the sign of a fraction: the gap of a position, and which way a column enters.
--
-- `by_sign`: a choice by the sign of v is the choice by whether v is below 0, or above it.
-- `gap_by`: the gap by the sign of the entry, turned as the column moves, is the gap of the ratio test.
-- `still`: a column of reduced cost 0 enters in neither direction.
-- `way_is`: the direction by the status and the sign of the reduced cost is the one in which the column may enter.
use Rattle.std.proofs.Common.{◌≡◌, ℕ, Ordering, Less, Equal, Greater, Option, Some}
use Rattle.std.proofs.Common.{None, Ok, cond, refl, ap, ap₂, ◌∙◌}
use Rattle.std.specs.Ordering.{is_lt, is_gt}
use Rattle.spec_exact.specs.Fraction.{ℚ, 0ℚ, lt_ℚ}
use Rattle.spec_exact.specs.Limit.{sign}
use Rattle.spec_exact.proofs.FractionSigns.{below_zero, above_zero}
use Rattle.spec_pivot.specs.declared.status.Status.{Status}
use Rattle.spec_pivot.specs.declared.status.Status.TheVariants.{Basic, AtLower, AtUpper, AtZero}
use Rattle.spec_pivot.specs.declared.status.Way.{Way}
use Rattle.spec_pivot.specs.declared.status.Way.TheVariants.{Up, Down}
use Rattle.spec_simplex.specs.Step.{directed, rise_run, fall_run, gap_run, way_by}

-- one of three, by the sign
abbrev pub of_sign : {A : Type 0} → Ordering → A → A → A → A
of_sign Less x y z = x
of_sign Equal x y z = y
of_sign Greater x y z = z

pub by_sign : {A : Type 0} (v : ℚ) (o : Ordering) (x y z : A) → o ≡ sign v →
    of_sign o x y z ≡ cond (lt_ℚ v 0ℚ) x (cond (lt_ℚ 0ℚ v) z y)
by_sign v o x y z e = by o ∙ ap₂ (λ a b. cond a x (cond b z y)) (below_zero v o e) (above_zero v o e)
  where
    by : (o : Ordering) → of_sign o x y z ≡ cond (is_lt o) x (cond (is_gt o) z y)
    by Less = refl
    by Equal = refl
    by Greater = refl

-- the gap, by the sign of the entry as the column goes
pub gap_by : (limit : Option ℕ) (way : Way) (a : ℚ) (lower upper : Option ℚ) (v d : ℚ) (o : Ordering) →
    d ≡ directed way a → o ≡ sign d →
    of_sign o (rise_run limit upper v) (Ok None) (fall_run limit lower v) ≡ gap_run limit way a lower upper v
gap_by limit way a lower upper v d o e f =
    by_sign d o (rise_run limit upper v) (Ok None) (fall_run limit lower v) f
    ∙ ap (λ d. cond (lt_ℚ d 0ℚ) (rise_run limit upper v) (cond (lt_ℚ 0ℚ d) (fall_run limit lower v) (Ok None))) e

-- which way a column goes, by its status and the sign of its reduced cost
abbrev pub way_of : Status → Ordering → Option Way
way_of Basic o = None
way_of AtLower o = of_sign o (Some Up) None None
way_of AtUpper o = of_sign o None None (Some Down)
way_of AtZero o = of_sign o (Some Up) None (Some Down)

pub still : (s : Status) → ◌≡◌ {A = Option Way} None (way_of s Equal)
still Basic = refl
still AtLower = refl
still AtUpper = refl
still AtZero = refl

pub way_is : (s : Status) (d : ℚ) (o : Ordering) → o ≡ sign d → way_of s o ≡ way_by s d
way_is Basic d o e = refl
way_is AtLower d o e = by o ∙ ap (λ a. cond a (Some Up) None) (below_zero d o e)
  where
    by : (o : Ordering) → ◌≡◌ {A = Option Way} (of_sign o (Some Up) None None) (cond (is_lt o) (Some Up) None)
    by Less = refl
    by Equal = refl
    by Greater = refl
way_is AtUpper d o e = by o ∙ ap (λ a. cond a (Some Down) None) (above_zero d o e)
  where
    by : (o : Ordering) →
        ◌≡◌ {A = Option Way} (of_sign o None None (Some Down)) (cond (is_gt o) (Some Down) None)
    by Less = refl
    by Equal = refl
    by Greater = refl
way_is AtZero d o e = by_sign d o (Some Up) None (Some Down) e
