-- The tableaus of a phase, one after the other, and the one with which phase two begins. Phase one begins with the
-- start of the form (`start_of` of spec_simplex).
use Rattle.std.specs.Prelude.{◌≡◌, ℕ, zero, suc, Option, Ok, false}
use Rattle.spec_exact.specs.Fraction.{ℚ}
use Rattle.spec_simplex.specs.declared.ends.Choice.{Choice}
use Rattle.spec_simplex.specs.declared.ends.Choice.TheVariants.{End, Flip, Pivot}
use Rattle.spec_simplex.specs.Form.{Form}
use Rattle.spec_simplex.specs.Tableau.{Tableau}
use Rattle.spec_simplex.specs.Start.{start_of}
use Rattle.spec_simplex.specs.Step.{choice_run}
use Rattle.spec_simplex.specs.Phases.{PrimalEnded, done_run, is_stuck, phase_one, phase_two_run}

-- the choice is a flip or a pivot, not an end
abbrev pub IsChange : Choice ℚ → Type 0
IsChange (End end) = ⊥
IsChange (Flip j) = Unit {0}
IsChange (Pivot p j theta to) = Unit {0}

-- the step that the primal method takes from t, at this limit, is a flip or a pivot, and u is the tableau after it
pub record IsNext (limit : Option ℕ) (t u : Tableau) : Type 0 where
  pub choice : Choice ℚ
  pub chosen : choice_run limit t ≡ Ok choice
  pub changes : IsChange choice
  pub done : done_run limit t choice ≡ Ok u

-- k flips and pivots of the primal method, one after the other, lead from t to u
abbrev pub IsAfter : Option ℕ → ℕ → Tableau → Tableau → Type 0
IsAfter limit zero t u = t ≡ u
IsAfter limit (suc k) t u = (s : Tableau) × IsNext limit t s × IsAfter limit k s u

-- Phase two of the form f begins with t. Phase one, if it was wanted, ended within the budget, and left no basic
-- artificial that is not 0; t is its last tableau with artificials fixed at 0 and with the form's costs.
pub record BeginsPhaseTwo (limit : Option ℕ) (budget : ℕ) (f : Form) (t : Tableau) : Type 0 where
  pub start : Tableau
  pub one : PrimalEnded
  pub started : start_of limit f ≡ Ok start
  pub ended : phase_one limit budget start ≡ Ok one
  pub free : is_stuck one.tableau ≡ false
  pub begun : phase_two_run limit f one.tableau ≡ Ok t
