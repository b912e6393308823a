-- What the command `range all` writes of the text of a model: what a solve of the model ends with and, after an optimum, a line
-- for each cost, and then for each right side, with its range as `range` writes it.
use Rattle.std.specs.Prelude.{ℕ, ◌≡◌, ◌++◌, Some, None, Result, Ok, Err, List, [], codes}
use Rattle.std.specs.List.{flat_map}
use Rattle.spec_exact.specs.Fraction.{ℚ}
use Rattle.spec_exact.specs.Narrow.{number_limit}
use Rattle.spec_exact.specs.Run.{made}
use Rattle.spec_model.specs.Model.{Model, Name, width, height, row, column}
use Rattle.spec_check.specs.declared.certificate.Known.TheVariants as known
use Rattle.spec_check.specs.declared.solve_end.SolveEnd.TheVariants.{Ended}
use Rattle.spec_pivot.specs.declared.status.Status.{Status}
use Rattle.spec_simplex.specs.declared.ends.FormFault.{FormFault}
use Rattle.spec_simplex.specs.Form.{Form, form_of}
use Rattle.spec_runs.specs.Cold.{ExactSolveEnd}
use Rattle.spec_runs.specs.Solve.{SolveEnd}
use Rattle.spec_solve.specs.Answers.{IsSolved}
use Rattle.spec_server.specs.declared.asks.Reply.TheVariants as reply
use Rattle.spec_server.specs.declared.asks.Refusal.TheVariants as refusal
use Rattle.spec_server.specs.Machine.{opening_budget, answer_of}
use Rattle.spec_server.specs.Output.{check_line}
use Rattle.spec_server.specs.TextSaid.{TextSaid}
use Rattle.spec_program.specs.declared.command_line.Moved.{Moved}
use Rattle.spec_program.specs.declared.command_line.Moved.TheVariants.{Cost, RightSide}
use Rattle.spec_commands.specs.RangeOut.{range_of, ranged_text}

-- the words before a range in the list of all: `cost` or `rhs`, and the name of the column or row
abbrev pub number_words : Moved → Name → List ℕ
number_words Cost name = codes "cost " ++ name ++ codes " "
number_words RightSide name = codes "rhs " ++ name ++ codes " "

-- the name of the column, or for a right side of the row, of this number
abbrev pub name_by : Moved → Model → ℕ → Name
name_by Cost m j = (column m j).name
name_by RightSide m i = (row m i).name

-- the line of one cost's or right side's range in the list of all: its words and its range, or in place of the range
-- the operation that is past the limit; its words alone for a singular basis, which that of an optimum never is
unfoldable pub number_line : Moved → Model → Form → List Status → ℕ → List ℕ
number_line moved m f basis at =
    number_words moved (name_by moved m at) ++ ranged_text (range_of moved (Some number_limit) m f basis at)

-- the lines of the ranges of the costs of the first `count` columns, or of the right sides of the first `count` rows
abbrev pub number_lines : Moved → Model → Form → List Status → ℕ → List ℕ
number_lines moved m f basis count = flat_map (number_line moved m f basis) (made count (λ at. at))

-- the lines of all ranges for a basis of the model's form: of the columns' costs, then of the rows' right sides;
-- nothing where the model has no form
abbrev pub ranges_from : Model → List Status → Result Form (FormFault ℚ) → List ℕ
ranges_from m basis (Ok f) = number_lines Cost m f basis (width m) ++ number_lines RightSide m f basis (height m)
ranges_from m basis (Err why) = []

-- the lines of all ranges for the basis with which a solve ended at an optimum; nothing after any other end, without a
-- basis, or where the model has no form
abbrev pub ranges_text : Model → ExactSolveEnd → List ℕ
ranges_text m (Ended (known.Optimal v) certificate (Some basis) pivots) =
    ranges_from m basis (form_of (Some number_limit) m)
ranges_text m end = []

-- the lines that `range all` writes of a solve: the answer or why there is none, and after an optimum with a basis all
-- ranges
unfoldable pub ranges_lines : Model → ExactSolveEnd → List ℕ
ranges_lines m solved = check_line (answer_of opening_budget solved) ++ ranges_text m solved

-- `range all` may write this: the lines of an end that a cold solve of the model may have, within the budget of a new
-- session, and after an optimum all ranges; or the line of the text's fault
abbrev pub RangesOut : TextSaid → List ℕ → Type 0
RangesOut (Ok m) written =
    (solved : SolveEnd) × IsSolved m opening_budget None solved × (written ≡ ranges_lines m solved.end)
RangesOut (Err fault) written = written ≡ check_line (reply.Refused (refusal.Misspelled fault))
