-- What the command `solve` writes of what it reads, the text of a model: what a solve of the model ends with.
use Rattle.std.specs.Prelude.{ℕ, ◌≡◌, None, Ok, Err, List, ◌++◌}
use Rattle.spec_model.specs.Model.{Model}
use Rattle.spec_runs.specs.Cold.{ExactSolveEnd}
use Rattle.spec_runs.specs.Solve.{SolveEnd}
use Rattle.spec_solve.specs.Answers.{IsSolved}
use Rattle.spec_server.specs.declared.asks.Reply.TheVariants as reply
use Rattle.spec_server.specs.declared.asks.Refusal.TheVariants as refusal
use Rattle.spec_server.specs.Machine.{opening_budget, answer_of, lines_of_solved}
use Rattle.spec_server.specs.Output.{check_line, ended_lines}
use Rattle.spec_server.specs.TextSaid.{TextSaid}

-- the lines that `solve` writes of a solve: the answer and its certificate, or the line of why there is no answer
unfoldable pub solved_lines : Model → ExactSolveEnd → List ℕ
solved_lines m solved =
    check_line (answer_of opening_budget solved) ++ ended_lines (lines_of_solved m solved)

-- `solve` may write this: the lines of an end that a cold solve of the model may have, within the budget of a new
-- session; or the line of the text's fault
abbrev pub SolveOut : TextSaid → List ℕ → Type 0
SolveOut (Ok m) written =
    (solved : SolveEnd) × IsSolved m opening_budget None solved × (written ≡ solved_lines m solved.end)
SolveOut (Err fault) written = written ≡ check_line (reply.Refused (refusal.Misspelled fault))

-- the exit status of `solve`: 0 where the text spells a model, 9 where the text is refused
abbrev pub solve_code : TextSaid → ℕ
solve_code (Ok m) = 0
solve_code (Err fault) = 9
