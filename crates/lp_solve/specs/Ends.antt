-- How both phases ended, as the code keeps it.
use Rattle.std.specs.Prelude.{◌≡◌, ◌<◌, ℕ, Option, Some, None, Result, Ok, Err}
use Rattle.spec_exact.specs.Fraction.{ℚ}
use Rattle.spec_simplex.specs.declared.ends.PrimalEnd.{PrimalEnd}
use Rattle.spec_simplex.specs.declared.ends.PrimalEnd.TheVariants.{Optimal, Unbounded}
use Rattle.spec_simplex.specs.declared.ends.RunStop.{RunStop}
use Rattle.spec_simplex.specs.Tableau.{Tableau, all_columns}
use Rattle.spec_simplex.specs.Phases.{PhasesEnd, Infeasible, Finished}
use Rattle.lp_solve.specs.declared.phases.Ended.{Ended}

-- the end of both phases at this tableau and count; without an end of phase two it is infeasible
abbrev pub end_by : Tableau → ℕ → Option PrimalEnd → PhasesEnd
end_by t used None = Infeasible t used
end_by t used (Some end) = Finished (record { end = end; tableau = t; used = used })

-- the end of both phases that the code keeps, as the definitions have it
abbrev pub end_of : Ended → PhasesEnd
end_of e = end_by e.tab e.used e.end

-- the stated phases give what the code gives: this end, at this tableau and count, or the same stop
abbrev pub EndsAt : Result PhasesEnd (RunStop ℚ) → Tableau → ℕ → Result (Option PrimalEnd) (RunStop ℚ) → Type 0
EndsAt answer t used (Ok end) = answer ≡ Ok (end_by t used end)
EndsAt answer t used (Err stop) = answer ≡ Err stop

-- the stated phases give what the code gives: this end, or the same stop
abbrev pub Ends : Result PhasesEnd (RunStop ℚ) → Result Ended (RunStop ℚ) → Type 0
Ends answer (Ok e) = answer ≡ Ok (end_of e)
Ends answer (Err stop) = answer ≡ Err stop

-- if the end is an unbounded one, its column is one of the tableau; of other ends nothing is asked
abbrev pub IsInside : Tableau → Option PrimalEnd → Type 0
IsInside t None = Unit {0}
IsInside t (Some Optimal) = Unit {0}
IsInside t (Some (Unbounded j way)) = j < all_columns t
