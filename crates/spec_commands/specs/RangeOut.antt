-- What the command `range` writes of the text of a model: what a solve of the model ends with and, after an optimum, the
-- range of one number of the model in which the basis of the optimum stays optimal.
use Rattle.std.specs.Prelude.{ℕ, ◌≡◌, ◌++◌, Option, Some, None, Result, Ok, Err, List, [], ◌∷◌, codes}
use Rattle.spec_exact.specs.Fraction.{ℚ}
use Rattle.spec_exact.specs.Narrow.{number_limit}
use Rattle.spec_model.specs.Model.{Model, Name}
use Rattle.spec_model.specs.Kept.{row_place, column_place}
use Rattle.spec_check.specs.declared.certificate.Known.TheVariants as known
use Rattle.spec_check.specs.declared.solve_end.SolveEnd.TheVariants.{Ended}
use Rattle.spec_pivot.specs.declared.status.Status.{Status}
use Rattle.spec_simplex.specs.declared.ends.FormFault.{FormFault}
use Rattle.spec_simplex.specs.declared.ends.StartStop.{StartStop}
use Rattle.spec_simplex.specs.declared.ends.StartStop.TheVariants as stop
use Rattle.spec_simplex.specs.Form.{Form, form_of}
use Rattle.spec_runs.specs.Cold.{ExactSolveEnd}
use Rattle.spec_runs.specs.Solve.{SolveEnd}
use Rattle.spec_solve.specs.Answers.{IsSolved}
use Rattle.spec_range.specs.declared.range.Range.{Range}
use Rattle.spec_range.specs.Rule.{cost_range, side_range}
use Rattle.spec_server.specs.declared.asks.Reply.TheVariants as reply
use Rattle.spec_server.specs.declared.asks.Refusal.TheVariants as refusal
use Rattle.spec_server.specs.Machine.{opening_budget, answer_of}
use Rattle.spec_server.specs.Output.{check_line, fraction_text}
use Rattle.spec_server.specs.TextSaid.{TextSaid}
use Rattle.spec_program.specs.declared.command_line.Moved.{Moved}
use Rattle.spec_program.specs.declared.command_line.Moved.TheVariants.{Cost, RightSide}

-- the number of the column, or for a right side of the row, with a name; none where there is none.
-- The objective is no row
abbrev pub place_by : Moved → Model → Name → Option ℕ
place_by Cost m name = column_place m name
place_by RightSide m name = row_place m name

-- the range of a column's cost or of a row's right side, at a limit, from a basis of the form; or why there is none
abbrev pub range_of : Moved → Option ℕ → Model → Form → List Status → ℕ → Result (Range ℚ) (StartStop ℚ)
range_of Cost limit m f basis at = cost_range limit m f basis at
range_of RightSide limit m f basis at = side_range limit m f basis at

-- ---- what is written

-- the text of an end of a range: its number, or `NONE` where there is no end
abbrev pub end_text : Option ℚ → List ℕ
end_text None = codes "NONE"
end_text (Some v) = fraction_text v

-- the line of a range: its lower end, its upper end and its slope
unfoldable pub range_line : Range ℚ → List ℕ
range_line r =
    codes "RANGE "
    ++ end_text r.ends.low
    ++ codes " "
    ++ end_text r.ends.high
    ++ codes " SLOPE "
    ++ fraction_text r.slope
    ++ 10 ∷ []

-- the line of a range, or of the operation that is past the limit; nothing for a singular basis, which that of an
-- optimum never is
abbrev pub ranged_text : Result (Range ℚ) (StartStop ℚ) → List ℕ
ranged_text (Ok r) = range_line r
ranged_text (Err (stop.Past p)) = check_line (reply.Past p)
ranged_text (Err stop.Singular) = []

-- the line of a number's range for a basis of the model's form, or of the operation past the limit; nothing where the
-- model has no form
abbrev pub based_text : Moved → Model → List Status → ℕ → Result Form (FormFault ℚ) → List ℕ
based_text moved m basis at (Ok f) = ranged_text (range_of moved (Some number_limit) m f basis at)
based_text moved m basis at (Err why) = []

-- the line of a number's range for the basis with which a solve ended at an optimum, or of the operation past the
-- limit; nothing after any other end, without a basis, or where the model has no form
abbrev pub range_text : Moved → Model → ℕ → ExactSolveEnd → List ℕ
range_text moved m at (Ended (known.Optimal v) certificate (Some basis) pivots) =
    based_text moved m basis at (form_of (Some number_limit) m)
range_text moved m at end = []

-- the lines that `range` writes of a solve: the answer or why there is none, and after an optimum with a basis the
-- range, or the operation past the limit
unfoldable pub range_lines : Moved → Model → ℕ → ExactSolveEnd → List ℕ
range_lines moved m at solved =
    check_line (answer_of opening_budget solved) ++ range_text moved m at solved

-- `range` may write this of a number of the model: the lines of an end that a cold solve of the model may have, within
-- the budget of a new session, and after an optimum the number's range
abbrev pub RangedOut : Moved → Model → ℕ → List ℕ → Type 0
RangedOut moved m at written =
    (solved : SolveEnd) × IsSolved m opening_budget None solved × (written ≡ range_lines moved m at solved.end)

-- `range` may write this of a model: the lines of the number that is named, or where nothing has the name,
-- a refusal alone
abbrev pub PlaceOut : Moved → Name → Model → Option ℕ → List ℕ → Type 0
PlaceOut moved name m None written = written ≡ check_line (reply.Refused (refusal.Name name))
PlaceOut moved name m (Some at) written = RangedOut moved m at written

-- `range` may write this of its input: the lines of the model's number of this name, or a refusal where it has none; or
-- the line of the text's fault
abbrev pub RangeOut : Moved → Name → TextSaid → List ℕ → Type 0
RangeOut moved name (Ok m) written = PlaceOut moved name m (place_by moved m name) written
RangeOut moved name (Err fault) written = written ≡ check_line (reply.Refused (refusal.Misspelled fault))

-- the exit status of `range` by the named column or row: 9 where the model has none of that name, and else 0
abbrev pub place_code : Option ℕ → ℕ
place_code None = 9
place_code (Some at) = 0

-- the exit status of `range`: 9 where the text is refused or the model has no column or row of the name, and else 0
abbrev pub range_code : Moved → Name → TextSaid → ℕ
range_code moved name (Ok m) = place_code (place_by moved m name)
range_code moved name (Err fault) = 9
