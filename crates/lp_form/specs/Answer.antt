-- What `form` answers, by the definition at the limit of 127 bits.
use Rattle.std.specs.Prelude.{◌≡◌, ⊤, Result, Err}
use Rattle.spec_exact.specs.Fraction.{ℚ}
use Rattle.spec_simplex.specs.declared.ends.FormFault.{FormFault}
use Rattle.spec_simplex.specs.declared.ends.FormFault.TheVariants as fault
use Rattle.spec_exact.specs.Run.{Run}
use Rattle.lp_frac.specs.declared.stop.Stop.{Stop}
use Rattle.lp_form.specs.declared.fault.Clash.{Clash}
use Rattle.lp_frac.specs.declared.stop.Stop.TheVariants.{Cause, Past, NoMemory}

-- the stated run ends without a form for the code's reason: the clash of this column, or the operation that is past the
-- limit; of a stop for lack of memory nothing is asked
abbrev pub IsFaultOf : {A : Type 0} → Result A (FormFault ℚ) → Stop Clash → Type 0
IsFaultOf run (Cause clash) = run ≡ Err (fault.Clash clash.column)
IsFaultOf run (Past p) = run ≡ Err (fault.Past p)
IsFaultOf run NoMemory = ⊤

-- the stated run is refused for the same operation as the code; of a stop for lack of memory nothing is asked
abbrev pub IsStopOf : {A : Type 0} → Run A → Stop Clash → Type 0
IsStopOf run (Cause clash) = ⊥
IsStopOf run (Past p) = run ≡ Err p
IsStopOf run NoMemory = ⊤
