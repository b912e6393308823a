-- A result of the code against a run, where memory may be wanting.
use Rattle.std.specs.Prelude.{◌≡◌, Result, Ok, Err, List, ◌++◌}
use Rattle.spec_model.specs.Model.{Model}
use Rattle.spec_presolve.specs.declared.reduction.Halt.{Halt}
use Rattle.spec_presolve.specs.Choose.{ExactReduction}
use Rattle.spec_presolve.specs.Reduce.{Reductions}
use Rattle.lp_presolve.specs.declared.step.Step.{Step}
use Rattle.lp_presolve.specs.Kept.{all_kept}
use Rattle.spec_exact.specs.Run.{Run}
use Rattle.lp_frac.specs.declared.stop.Stop.{Stop}
use Rattle.lp_frac.specs.declared.stop.Stop.TheVariants.{Cause, Past, NoMemory}

-- the code's result is that of the run: its value or its refusal; of a stop for lack of memory nothing is asked
abbrev pub Tells : {A C : Type 0} → Run A → Result A (Stop C) → Type 0
Tells run (Ok a) = run ≡ Ok a
Tells run (Err (Cause c)) = ⊥
Tells run (Err (Past p)) = run ≡ Err p
Tells run (Err NoMemory) = Unit {0}

-- the run gives reductions with this last model and this halt, and what is kept of them is appended to the list
abbrev pub LeadsTo : Run Reductions → Model → List Step → List Step → Halt → Type 0
LeadsTo run m before after halt =
    (steps : List (ExactReduction × Model)) × (run ≡ Ok (record { steps = steps; last = m; halt = halt }))
    × (after ≡ before ++ all_kept steps)

-- the run is refused for the same operation as the code; of a stop for lack of memory nothing is asked
abbrev pub StopsAt : {A C : Type 0} → Run A → Stop C → Type 0
StopsAt run (Cause c) = ⊥
StopsAt run (Past p) = run ≡ Err p
StopsAt run NoMemory = Unit {0}
