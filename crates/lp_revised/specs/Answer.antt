-- What calls answer, by the definitions at the limit of 127 bits.
use Rattle.std.specs.Prelude.{◌≡◌, ⊤, Result, Ok, Err}
use Rattle.spec_exact.specs.Fraction.{ℚ}
use Rattle.spec_simplex.specs.declared.ends.RunStop.{RunStop}
use Rattle.spec_simplex.specs.declared.ends.RunStop.TheVariants as cause
use Rattle.spec_exact.specs.Run.{Run, refused_as}
use Rattle.lp_frac.specs.declared.stop.Stop.{Stop}
use Rattle.lp_revised.specs.declared.stop.Spent.{Spent}
use Rattle.lp_frac.specs.declared.stop.Stop.TheVariants as stop

-- the stated run stops as the code does: past the limit or spent; of a stop for lack of memory nothing is asked
abbrev pub StopsRevised : {A : Type 0} → Result A (RunStop ℚ) → Stop Spent → Type 0
StopsRevised run (stop.Past p) = run ≡ Err (cause.Past p)
StopsRevised run (stop.Cause why) = run ≡ Err cause.Spent
StopsRevised run stop.NoMemory = ⊤

-- the stated run gives what the code gives: this value, or this stop; of a stop for lack of memory nothing is asked
abbrev pub AnswersRevised : {A : Type 0} → Result A (RunStop ℚ) → Result A (Stop Spent) → Type 0
AnswersRevised run (Ok x) = run ≡ Ok x
AnswersRevised run (Err e) = StopsRevised run e

-- the stated run, which is never spent, gives what the code gives: this value, or this refusal; of a stop for lack of
-- memory nothing is asked
abbrev pub TellsRevised : {A : Type 0} → Run A → Result A (Stop Spent) → Type 0
TellsRevised run result = AnswersRevised (refused_as cause.Past run) result

-- the stated run gives x, where the code is done, or stops as the code does;
-- of a stop for lack of memory nothing is asked
abbrev pub LeavesRevised : {A : Type 0} → Result A (RunStop ℚ) → A → Result ⊤ (Stop Spent) → Type 0
LeavesRevised run x (Ok u) = run ≡ Ok x
LeavesRevised run x (Err e) = StopsRevised run e
