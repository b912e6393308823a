-- The numbers that a column has for the objective and for rows.
--
-- `number_here`: a number that a column takes for a target that had 0 is the target's number.
-- `number_there`: a number that a column takes for one target leaves the number of each other target.
-- `number_non_zero`: the entries of a column that are not 0 stay so with one more number.
use Rattle.std.proofs.Common.{◌≡◌, ◌≢◌, Bool, true, false, cond, eqb, Option, Some}
use Rattle.std.proofs.Common.{None, refl, sym, ◌∙◌}
use Rattle.std.proofs.Common.{arith}
use Rattle.spec_exact.specs.Fraction.{ℚ, 0ℚ, eq_ℚ}
use Rattle.spec_exact.proofs.Same.{eq_if, eq_test}
use Rattle.spec_model.specs.Model.{ExactColumn, entry_of}
use Rattle.spec_mps.specs.declared.target.Target.{Target}
use Rattle.spec_mps.specs.declared.target.Target.TheVariants.{Objective, Row}
use Rattle.spec_mps.specs.Reader.{State, same_target}
use Rattle.spec_mps.specs.Reader.{put_entry, with_number}
use Rattle.spec_mps.proofs.ColumnLemmas.{AreNonZero, put_non_zero, put_here, put_there}

-- the number of a column at a target: its cost at the objective, its entry at a row
abbrev pub number_at : ExactColumn → Target → ℚ
number_at c Objective = c.cost
number_at c (Row i) = entry_of c.entries i

-- the number of the open column at a target; 0 where no column is open
abbrev pub open_number : Option ExactColumn → Target → ℚ
open_number None t = 0ℚ
open_number (Some c) t = number_at c t

-- the number of the state's open column at a target; 0 where no column is open
abbrev pub open_at : State → Target → ℚ
open_at s t = open_number s.column t

pub number_here : (c : ExactColumn) (x : Target) (v : ℚ) → AreNonZero c.entries → number_at c x ≡ 0ℚ →
    number_at (with_number c x v) x ≡ v
number_here c Objective v z e = refl
number_here c (Row i) v z e = by (eq_ℚ v 0ℚ) refl
  where
    by : (b : Bool) → eq_ℚ v 0ℚ ≡ b → number_at (cond b c (record c { entries = put_entry i v c.entries })) (Row i) ≡ v
    by true f = e ∙ sym (eq_if v 0ℚ f)
    by false f = put_here i v c.entries z e

pub number_there : (c : ExactColumn) (x y : Target) (v : ℚ) → same_target y x ≡ false →
    number_at (with_number c x v) y ≡ number_at c y
number_there c Objective Objective v h = absurd (cc)
number_there c Objective (Row j) v h = refl
number_there c (Row i) y v h = by (eq_ℚ v 0ℚ) y h
  where
    by : (b : Bool) (y : Target) → same_target y (Row i) ≡ false →
        number_at (cond b c (record c { entries = put_entry i v c.entries })) y ≡ number_at c y
    by true y h = refl
    by false Objective h = refl
    by false (Row j) h = put_there i j v c.entries (turned h)
      where
        turned : eqb j i ≡ false → eqb i j ≡ false
        turned e = grind (arith, e)

pub number_non_zero : (c : ExactColumn) (x : Target) (v : ℚ) → AreNonZero c.entries →
    AreNonZero (with_number c x v).entries
number_non_zero c Objective v z = z
number_non_zero c (Row i) v z = by (eq_ℚ v 0ℚ) refl
  where
    differs : eq_ℚ v 0ℚ ≡ false → v ≢ 0ℚ
    differs e g = let h : eq_ℚ v 0ℚ ≡ true = eq_test v 0ℚ g in cc

    by : (b : Bool) → eq_ℚ v 0ℚ ≡ b → AreNonZero (cond b c (record c { entries = put_entry i v c.entries })).entries
    by true f = z
    by false f = put_non_zero i v c.entries (differs f) z
