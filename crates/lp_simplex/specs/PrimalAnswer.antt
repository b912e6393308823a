-- What a run answers, by the definition at the limit of 127 bits.
use Rattle.std.specs.Prelude.{◌≡◌, ◌≢◌, ℕ, zero, suc, ◌+◌, ◌-◌, ◌≤◌, Some, Result, Ok, Err}
use Rattle.spec_exact.specs.Fraction.{ℚ}
use Rattle.spec_simplex.specs.declared.ends.PrimalEnd.{PrimalEnd}
use Rattle.spec_simplex.specs.declared.ends.Choice.{Choice}
use Rattle.spec_simplex.specs.declared.ends.Choice.TheVariants.{End}
use Rattle.spec_simplex.specs.declared.ends.RunStop.{RunStop}
use Rattle.spec_simplex.specs.declared.ends.RunStop.TheVariants.{Past, Spent}
use Rattle.spec_exact.specs.Run.{◌>>=◌}
use Rattle.spec_exact.specs.Narrow.{number_limit}
use Rattle.spec_simplex.specs.Tableau.{Tableau}
use Rattle.spec_simplex.specs.Step.{choice_run}
use Rattle.spec_simplex.specs.Phases.{PrimalEnded, done_run}

-- the stated run of the primal method gives what the code gives: this end, at this tableau and count, or the same stop
abbrev pub Runs : Result PrimalEnded (RunStop ℚ) → Tableau → ℕ → Result PrimalEnd (RunStop ℚ) → Type 0
Runs answer t used (Ok end) = answer ≡ Ok (record { end = end; tableau = t; used = used })
Runs answer t used (Err stop) = answer ≡ Err stop

-- ---- how many steps are made before a stop

-- the step that is chosen at t is a flip or a pivot, and takes t to u
pub record IsStep (t u : Tableau) : Type 0 where
  pub choice : Choice ℚ
  pub chosen : choice_run (Some number_limit) t ≡ Ok choice
  pub no_end : (end : PrimalEnd) → choice ≢ End end
  pub done : done_run (Some number_limit) t choice ≡ Ok u

-- n flips or pivots, one after the other, take t to u
abbrev pub Steps : ℕ → Tableau → Tableau → Type 0
Steps zero t u = t ≡ u
Steps (suc n) t u = (v : Tableau) × Steps n t v × IsStep v u

-- a run stops at t, with the count `now`: as an operation of its next step is refused, or as the budget is used up
abbrev pub StopsAt : ℕ → ℕ → Tableau → RunStop ℚ → Type 0
StopsAt budget now t (Past p) = (choice_run (Some number_limit) t >>= done_run (Some number_limit) t) ≡ Err p
StopsAt budget now t Spent = budget ≤ now

-- a run from t with the count `used` makes flips and pivots within the budget, counts each of them, and then stops so,
-- with the count `now`
pub record StopsAfter (budget used : ℕ) (t : Tableau) (now : ℕ) (stop : RunStop ℚ) : Type 0 where
  pub count : ℕ
  pub last : Tableau
  pub counted : now ≡ used + count
  pub few : count ≤ budget - used
  pub steps : Steps count t last
  pub stops : StopsAt budget now last stop
