-- What the command `basis` writes where the numbers of its answer may have any width. It reads what BasisOut has.
use Rattle.std.specs.Prelude.{ℕ, ◌≡◌, ◌++◌, Option, Some, Result, Ok, Err, List, [], ◌∷◌, codes, decimal}
use Rattle.spec_exact.specs.Fraction.{ℚ}
use Rattle.spec_exact.specs.Narrow.{number_limit}
use Rattle.spec_model.specs.Model.{Model}
use Rattle.spec_certificate.specs.TextWritten.{wide_certificate_lines}
use Rattle.spec_pivot.specs.declared.status.Status.{Status}
use Rattle.spec_simplex.specs.declared.ends.FormFault.{FormFault}
use Rattle.spec_simplex.specs.Form.{Form, form_of}
use Rattle.spec_solve.specs.declared.exact.ExactEnd.TheVariants.{Answered, Open}
use Rattle.spec_solve.specs.declared.exact.Origin.{Origin}
use Rattle.spec_solve.specs.declared.exact.Origin.TheVariants.{Cold, Warm, Fell}
use Rattle.spec_solve.specs.Exact.{RationalEnd, IsExactEnd}
use Rattle.spec_bas.specs.Written.{bas_text}
use Rattle.spec_server.specs.Machine.{opening_budget}
use Rattle.spec_server.specs.Output.{ended_lines}
use Rattle.spec_server.specs.WideLines.{wide_known_text, wide_lines}
use Rattle.spec_commands.specs.BasisOut.{BasisSaid, BasisOut}

-- the text of where an exact answer was found: `COLD` where no basis was handed; else `WARM` from the basis or `FELL`
-- without it, with the number of pivots and flips
abbrev pub origin_text : Origin → List ℕ
origin_text Cold = codes "COLD"
origin_text (Warm pivots) = codes "WARM PIVOTS " ++ decimal pivots
origin_text (Fell pivots) = codes "FELL PIVOTS " ++ decimal pivots

-- the basis file of an answer; empty where it has no basis, or the model no form
abbrev pub based_text : Model → Result Form (FormFault ℚ) → Option (List Status) → List ℕ
based_text m (Ok f) (Some basis) = bas_text m f basis
based_text m form basis = []

-- the lines that `basis --wide` writes of an exact solve: the answer, where it was found, its certificate, and its
-- basis file if it has a basis; or `OPEN` alone without an answer
abbrev pub based_lines : Model → RationalEnd → List ℕ
based_lines m (Answered a) =
    ended_lines (wide_known_text a.known ∷ origin_text a.origin ∷ wide_certificate_lines m a.certificate)
    ++ based_text m (form_of (Some number_limit) m) a.basis
based_lines m Open = ended_lines (wide_lines m Open)

-- `basis --wide` may write this: the lines of an end that an exact solve of the model may have, from the basis and
-- within the budget of a new session; or the line of the fault
abbrev pub BasisWideOut : BasisSaid → List ℕ → Type 0
BasisWideOut (Ok handed) written =
    (end : RationalEnd) × IsExactEnd handed.model opening_budget handed.basis end
    × (written ≡ based_lines handed.model end)
BasisWideOut (Err why) written = BasisOut (Err why) written
