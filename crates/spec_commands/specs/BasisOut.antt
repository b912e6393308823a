-- What the command `basis` reads and writes: the text of a model and, from the line after it on, a basis file for the
-- model's form; and what a solve ends with to which this basis was handed.
use Rattle.std.specs.Prelude.{ℕ, ◌≡◌, ◌+◌, ◌++◌, Option, Some, None, Result, Ok, Err, List, [], ◌∷◌, codes, decimal}
use Rattle.spec_text.specs.declared.line.Line.{Line}
use Rattle.spec_exact.specs.Fraction.{ℚ}
use Rattle.spec_exact.specs.Narrow.{number_limit}
use Rattle.spec_model.specs.Model.{Model}
use Rattle.spec_model.specs.declared.parts.SizeLimits.{SizeLimits}
use Rattle.spec_mps.specs.declared.style.Style.{Style}
use Rattle.spec_mps.specs.Reader.{State, start}
use Rattle.spec_mps.specs.Steps as text
use Rattle.spec_check.specs.declared.certificate.Known.TheVariants as known
use Rattle.spec_pivot.specs.declared.status.Status.{Status}
use Rattle.spec_simplex.specs.declared.ends.FormFault.{FormFault}
use Rattle.spec_simplex.specs.Form.{Form, form_of}
use Rattle.spec_check.specs.declared.solve_end.SolveEnd.TheVariants.{Ended}
use Rattle.spec_runs.specs.Cold.{ExactSolveEnd}
use Rattle.spec_runs.specs.declared.ends.Route.{Route}
use Rattle.spec_runs.specs.declared.ends.Route.TheVariants as route
use Rattle.spec_runs.specs.Solve.{SolveEnd}
use Rattle.spec_solve.specs.Answers.{IsSolved}
use Rattle.spec_bas.specs.Steps.{code_number}
use Rattle.spec_bas.specs.Steps as file
use Rattle.spec_bas.specs.Written.{bas_text}
use Rattle.spec_server.specs.declared.asks.Reply.TheVariants as reply
use Rattle.spec_server.specs.declared.asks.Refusal.TheVariants as refusal
use Rattle.spec_commands.specs.declared.basis.BasisFault.{BasisFault}
use Rattle.spec_commands.specs.declared.basis.BasisFault.TheVariants as fault
use Rattle.spec_server.specs.Machine.{opening_budget, answer_of, lines_of_solved, pivots_of_solved}
use Rattle.spec_server.specs.Output.{check_line, ended_lines, fall_text, pivots_text}
use Rattle.spec_server.specs.Said.{Step, On, Says, said_by}

-- ---- what is read

-- a stage in reading the input of `basis`, in the model's text or in the file behind it:
-- what was read there, and how many lines
pub data Stage : Type 0 where
  InText : (style : Style) → (state : State) → (lines : ℕ) → Stage
  InFile : (model : Model) → (form : Form) → (state : file.State) → (lines : ℕ) → Stage

-- the model that is to be solved, and the basis that is handed to the solve, if the model has a form
pub record Handed : Type 0 where
  pub model : Model
  pub basis : Option (List Status)

-- what `basis` says of its input: the model and, if it has a form, the basis; or the first wrong line of the text or
-- of the file
abbrev pub BasisSaid : Type 0
BasisSaid = Result Handed BasisFault

-- what follows the text of a model, by its form at the limit of numbers: the basis file for the form; or nothing where
-- it has none, and the model is said without a basis
abbrev pub begun_file : Model → Result Form (FormFault ℚ) → Step Stage BasisSaid
begun_file m (Ok f) = On (InFile m f (file.start f) 0)
begun_file m (Err why) = Says (Ok (record { model = m; basis = None }))

-- what line n of the model's text leads to, by its outcome: a further stage in the text; behind its end the file, or
-- the model alone where it has no form; or a fault
abbrev pub behind_text : Style → ℕ → text.Outcome → Step Stage BasisSaid
behind_text style n (Ok (text.More s)) = On (InText style s n)
behind_text style n (Ok (text.Done m)) = begun_file m (form_of (Some number_limit) m)
behind_text style n (Err code) = Says (Err (fault.Text (record { line = n; code = code })))

-- what line n of the basis file leads to, by its outcome: a further stage in the file, the basis, or a fault
abbrev pub behind_file : Model → Form → ℕ → file.Outcome → Step Stage BasisSaid
behind_file m f n (Ok (file.More s)) = On (InFile m f s n)
behind_file m f n (Ok (file.Done basis)) = Says (Ok (record { model = m; basis = Some basis }))
behind_file m f n (Err code) = Says (Err (fault.File (record { line = n; code = code })))

-- what one more line of the text, or of the basis file behind it, leads to: a further stage, or what `basis` says
unfoldable pub basis_step : SizeLimits → Stage → Line (List ℕ) → Step Stage BasisSaid
basis_step limits (InText style s n) line = behind_text style (n + 1) (text.step limits style s line)
basis_step limits (InFile m f s n) line = behind_file m f (n + 1) (file.step m f s line)

-- what `basis` says of lines from a stage of its input on, in the text or in the basis file; nothing where more lines
-- are needed
abbrev pub basis_said_from : SizeLimits → Stage → List (Line (List ℕ)) → Option BasisSaid
basis_said_from limits stage lines = said_by (basis_step limits) stage lines

-- what `basis` says of the lines of its input, for models within these limits; none where more lines are needed
abbrev pub basis_said : SizeLimits → Style → List (Line (List ℕ)) → Option BasisSaid
basis_said limits style lines = basis_said_from limits (InText style start 0) lines

-- ---- what is written

-- the text of a solve's route: cold, from the basis, or cold because the start from the basis stopped
abbrev pub route_text : Route → List ℕ
route_text route.Cold = codes "COLD"
route_text route.Warm = codes "WARM"
route_text (route.Fell why) = codes "FELL " ++ fall_text why

-- the line of a solve's route, and of its pivots and flips, with `-` for their number where there is no answer
abbrev pub route_line : SolveEnd → List ℕ
route_line solved =
    route_text solved.route ++ codes " PIVOTS " ++ pivots_text (pivots_of_solved solved.end) ++ 10 ∷ []

-- the basis file of a solve that ended with an optimum and its basis; empty after any other end, or without a form
abbrev pub final_text : Model → Result Form (FormFault ℚ) → ExactSolveEnd → List ℕ
final_text m (Ok f) (Ended (known.Optimal v) certificate (Some basis) pivots) = bas_text m f basis
final_text m form end = []

-- the lines that `basis` writes of a solve: the answer or why there is none, the route, the certificate of an answer,
-- and after an optimum with a basis its basis file
unfoldable pub basis_lines : Model → SolveEnd → List ℕ
basis_lines m solved =
    check_line (answer_of opening_budget solved.end) ++ route_line solved
    ++ ended_lines (lines_of_solved m solved.end) ++ final_text m (form_of (Some number_limit) m) solved.end

-- the line that `basis` writes of a fault in the model's text or in the basis file
unfoldable pub basis_fault_line : BasisFault → List ℕ
basis_fault_line (fault.Text why) = check_line (reply.Refused (refusal.Misspelled why))
basis_fault_line (fault.File why) =
    codes "ERR 17 BAS " ++ decimal why.line ++ codes " B" ++ decimal (code_number why.code) ++ 10 ∷ []

-- `basis` may write this: the lines of an end that a solve of the model may have, from the basis and within the budget
-- of a new session; or the line of the fault
abbrev pub BasisOut : BasisSaid → List ℕ → Type 0
BasisOut (Ok handed) written =
    (solved : SolveEnd) × IsSolved handed.model opening_budget handed.basis solved
    × (written ≡ basis_lines handed.model solved)
BasisOut (Err why) written = written ≡ basis_fault_line why

-- the exit status of `basis`: 0 where its input is in order, 9 where the input has a fault
abbrev pub basis_code : BasisSaid → ℕ
basis_code (Ok handed) = 0
basis_code (Err why) = 9
