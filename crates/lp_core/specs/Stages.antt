-- Where a look goes on.
use Rattle.std.specs.Prelude.{ℕ, ◌-◌, ◌==◌, None, if◌then◌else◌}
use Rattle.spec_board.specs.Reads.{Words}
use Rattle.lp_core.specs.declared.stage.Stage.{Stage}
use Rattle.lp_core.specs.declared.stage.Stage.TheVariants.{Sees, Solving}

-- the stage of a look that goes on with the newest of the places below this number; ended with nothing where that is 0
abbrev pub looking_at : Words → ℕ → Stage
looking_at shape places = if places == 0 then Solving None else Sees shape (places - 1)
