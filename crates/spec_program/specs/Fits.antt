-- The numbers that a command line may have.
use Rattle.std.specs.Prelude.{ℕ, ◌≤◌}
use Rattle.spec_model.specs.Kept.{row_limit, column_limit}
use Rattle.spec_server.specs.Shared.{IsWorkers, IsPlaces}
use Rattle.spec_program.specs.CommandLine.{ExactLine}
use Rattle.spec_program.specs.declared.command_line.CommandLine.TheVariants.{Run, Read, Generate, Serve}

-- how many links each worker may serve: 1 to 1,000
abbrev pub IsLinks : ℕ → Type 0
IsLinks each = (1 ≤ each) × (each ≤ 1000)

-- each number of workers, places, links, rows and columns of the command line is within its limits; of a seed nothing
-- is asked
abbrev pub Fits : ExactLine → Type 0
Fits (Run workers places) = IsWorkers workers × IsPlaces places
Fits (Read command style) = Unit {0}
Fits (Generate seed rows columns) = (rows ≤ row_limit) × (columns ≤ column_limit)
Fits (Serve workers each places) = IsWorkers workers × IsLinks each × IsPlaces places
