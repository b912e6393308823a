-- What calls answer, by the definitions at the limit of 127 bits.
use Rattle.std.specs.Prelude.{◌≡◌, ⊤, Result, Ok, Err}
use Rattle.spec_exact.specs.Fraction.{ℚ}
use Rattle.spec_exact.specs.declared.past.Past.{Past}
use Rattle.spec_exact.specs.Run.{Run}
use Rattle.spec_factor.specs.declared.stop.NoFactors.{NoFactors}
use Rattle.spec_factor.specs.declared.stop.NoFactors.TheVariants as cause
use Rattle.lp_frac.specs.declared.stop.Stop.{Stop}
use Rattle.lp_form.specs.declared.stop.Singular.{Singular}
use Rattle.lp_frac.specs.declared.stop.Stop.TheVariants as stop

-- the stated run gives x, where the code is done, or is refused for the same operation
abbrev pub GivesRun : {A : Type 0} → Run A → A → Result ⊤ (Past ℚ) → Type 0
GivesRun run x (Ok u) = run ≡ Ok x
GivesRun run x (Err p) = run ≡ Err p

-- the stated making of factors gives x, where the code is done, or stops as the code does: singular or past the limit;
-- of a stop for lack of memory nothing is asked
abbrev pub Chooses : {A : Type 0} → Result A (NoFactors ℚ) → A → Result ⊤ (Stop Singular) → Type 0
Chooses run x (Ok u) = run ≡ Ok x
Chooses run x (Err (stop.Cause why)) = run ≡ Err cause.Singular
Chooses run x (Err (stop.Past p)) = run ≡ Err (cause.Past p)
Chooses run x (Err stop.NoMemory) = ⊤

-- the stated making of factors gives what the code gives: this value, or this stop; of a stop for lack of memory
-- nothing is asked
abbrev pub MakesFactors : {A : Type 0} → Result A (NoFactors ℚ) → Result A (Stop Singular) → Type 0
MakesFactors run (Ok x) = run ≡ Ok x
MakesFactors run (Err (stop.Cause why)) = run ≡ Err cause.Singular
MakesFactors run (Err (stop.Past p)) = run ≡ Err (cause.Past p)
MakesFactors run (Err stop.NoMemory) = ⊤
