-- What is written of an end, but for its basis; and with that, by the form.
use Rattle.std.specs.Prelude.{ℕ, ◌++◌, List, ◌∷◌, Result, IfSome}
use Rattle.spec_exact.specs.Fraction.{ℚ}
use Rattle.spec_model.specs.Model.{Model}
use Rattle.spec_certificate.specs.TextWritten.{wide_certificate_lines}
use Rattle.spec_simplex.specs.declared.ends.FormFault.{FormFault}
use Rattle.spec_simplex.specs.Eliminate.{IsBasisOf}
use Rattle.spec_simplex.specs.Form.{Form}
use Rattle.spec_runs.specs.Solve.{SolveEnd}
use Rattle.spec_solve.specs.Exact.{RationalEnd}
use Rattle.spec_solve.specs.declared.exact.ExactEnd.TheVariants.{Answered, Open}
use Rattle.spec_server.specs.Machine.{opening_budget, answer_of, lines_of_solved}
use Rattle.spec_server.specs.Output.{check_line, ended_lines}
use Rattle.spec_server.specs.WideLines.{wide_known_text, wide_lines}
use Rattle.spec_server.specs.declared.asks.Reply.TheVariants as reply
use Rattle.spec_commands.specs.BasisOut as reading
use Rattle.spec_commands.specs.BasisWideOut.{origin_text, based_text}

-- the lines that are written of a solve: its answer, how it was found, and its certificate
abbrev pub end_lines : Model → SolveEnd → List ℕ
end_lines m solved =
    check_line (answer_of opening_budget solved.end) ++ reading.route_line solved
    ++ ended_lines (lines_of_solved m solved.end)

-- the lines that are written of an exact solve, without the basis file of its answer
abbrev pub exact_lines : Model → RationalEnd → List ℕ
exact_lines m (Answered a) =
    ended_lines (wide_known_text a.known ∷ origin_text a.origin ∷ wide_certificate_lines m a.certificate)
exact_lines m Open = ended_lines (wide_lines m Open)

-- the lines that are written of an exact solve, with the basis file of its answer, if it has a basis and the model a
-- form
abbrev pub whole_lines : Model → Result Form (FormFault ℚ) → RationalEnd → List ℕ
whole_lines m form (Answered a) = exact_lines m (Answered a) ++ based_text m form a.basis
whole_lines m form Open = exact_lines m Open

-- if the exact solve has an answer with a basis, that is one of the form
abbrev pub LeavesBased : Form → RationalEnd → Type 0
LeavesBased f (Answered a) = IfSome a.basis (λ basis. IsBasisOf f basis)
LeavesBased f Open = Unit {0}
