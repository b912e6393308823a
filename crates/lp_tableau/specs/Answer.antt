-- What calls answer, by the definitions at the limit of 127 bits.
use Rattle.std.specs.Prelude.{◌≡◌, ⊤, Result, Ok, Err}
use Rattle.spec_exact.specs.Fraction.{ℚ}
use Rattle.spec_exact.specs.declared.past.Past.{Past}
use Rattle.spec_exact.specs.Run.{Run}
use Rattle.lp_frac.specs.declared.stop.Stop.{Stop}
use Rattle.std.specs.declared.convert.Infallible.{Infallible}
use Rattle.lp_frac.specs.declared.stop.Stop.TheVariants as cold

-- where the code is done, the stated run gives x; where the code is refused an operation, the stated run is refused the
-- same one
abbrev pub GivesRun : {A : Type 0} → Run A → A → Result ⊤ (Past ℚ) → Type 0
GivesRun run x (Ok u) = run ≡ Ok x
GivesRun run x (Err p) = run ≡ Err p

-- the stated run is refused for the same operation as the code; of a stop for lack of memory nothing is asked
abbrev pub Stops : {A : Type 0} → Run A → Stop Infallible → Type 0
Stops run (cold.Cause never) = ⊥
Stops run (cold.Past p) = run ≡ Err p
Stops run cold.NoMemory = ⊤
