-- What the command `solve` writes where the numbers of its answer may have any width. It reads what SolveOut has.
use Rattle.std.specs.Prelude.{ℕ, ◌≡◌, None, Ok, Err, List}
use Rattle.spec_solve.specs.Exact.{RationalEnd, IsExactEnd}
use Rattle.spec_server.specs.Machine.{opening_budget}
use Rattle.spec_server.specs.Output.{ended_lines}
use Rattle.spec_server.specs.WideLines.{wide_lines}
use Rattle.spec_server.specs.TextSaid.{TextSaid}
use Rattle.spec_commands.specs.SolveOut.{SolveOut}

-- `solve --wide` may write this: the lines of an end that an exact solve of the model may have, within the budget of a
-- new session; or the line of the text's fault
abbrev pub SolveWideOut : TextSaid → List ℕ → Type 0
SolveWideOut (Ok m) written =
    (end : RationalEnd) × IsExactEnd m opening_budget None end × (written ≡ ended_lines (wide_lines m end))
SolveWideOut (Err fault) written = SolveOut (Err fault) written
