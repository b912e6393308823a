-- What the flips and the whole run answer, by the definitions at the limit of 127 bits.
use Rattle.std.specs.Prelude.{◌≡◌, ℕ, ⊤, Result, Ok, Err}
use Rattle.spec_exact.specs.Fraction.{ℚ}
use Rattle.spec_simplex.specs.declared.ends.RunStop.{RunStop}
use Rattle.spec_simplex.specs.Tableau.{Tableau}
use Rattle.spec_simplex.specs.declared.ends.DualEnd.{DualEnd}
use Rattle.spec_simplex.specs.Dual.{Reached, DualEnded}

-- the stated flips give what the code gives: this tableau and this count, or the same stop
abbrev pub Reaches : Result Reached (RunStop ℚ) → Tableau → ℕ → Result ⊤ (RunStop ℚ) → Type 0
Reaches answer t used (Ok u) = answer ≡ Ok (record { tableau = t; used = used })
Reaches answer t used (Err stop) = answer ≡ Err stop

-- the stated run of the dual method gives what the code gives: this end, at this tableau and count, or the same stop
abbrev pub DualRuns : Result DualEnded (RunStop ℚ) → Tableau → ℕ → Result DualEnd (RunStop ℚ) → Type 0
DualRuns answer t used (Ok end) = answer ≡ Ok (record { end = end; tableau = t; used = used })
DualRuns answer t used (Err stop) = answer ≡ Err stop
