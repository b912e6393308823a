-- What the command `gen` writes: the size of the model that it makes, and what a solve of the model ends with. It reads
-- nothing.
use Rattle.std.specs.Prelude.{ℕ, ◌≡◌, None, List, [], ◌∷◌, ◌++◌, length, sum_by, codes, decimal}
use Rattle.spec_model.specs.Model.{Model, width, height}
use Rattle.spec_runs.specs.Cold.{ExactSolveEnd}
use Rattle.spec_commands.specs.Generated.{generated}
use Rattle.spec_runs.specs.Solve.{SolveEnd}
use Rattle.spec_solve.specs.Answers.{IsSolved}
use Rattle.spec_server.specs.declared.asks.Reply.TheVariants as reply
use Rattle.spec_server.specs.Machine.{opening_budget, answer_of, pivots_of_solved}
use Rattle.spec_server.specs.Output.{check_line, pivots_text}

-- how many entries the columns of a model list together
abbrev pub entry_count : Model → ℕ
entry_count m = sum_by (λ column. length column.entries) m.columns

-- the line of how many rows, columns and entries a model has
unfoldable pub size_text : Model → List ℕ
size_text m =
    codes "MODEL "
    ++ decimal (height m)
    ++ codes " "
    ++ decimal (width m)
    ++ codes " "
    ++ decimal (entry_count m)
    ++ 10 ∷ []

-- what `gen` writes of a model: the line of its size, the line of the answer or of why there is none, and the line of
-- the pivots and flips, with `-` where there is no answer
unfoldable pub generated_lines : Model → ExactSolveEnd → List ℕ
generated_lines m solved =
    size_text m
    ++ check_line (answer_of opening_budget solved)
    ++ codes "PIVOTS "
    ++ pivots_text (pivots_of_solved solved)
    ++ 10 ∷ []

-- `gen` may write this of a model: the line of its size, and the lines on the answer and the pivots of an end that a
-- cold solve of it may have, within the budget of a new session
abbrev pub SolvedOut : Model → List ℕ → Type 0
SolvedOut m written =
    (solved : SolveEnd) × IsSolved m opening_budget None solved × (written ≡ generated_lines m solved.end)

-- what `gen` may write for a seed and a size: the lines of a solve of the model that is generated from them
abbrev pub GenOut : ℕ → ℕ → ℕ → List ℕ → Type 0
GenOut seed rows columns written = SolvedOut (generated seed rows columns) written
