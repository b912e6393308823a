-- The lines that an exact solve is answered with: its answer, and those of its certificate; or that nothing is known.
use Rattle.std.specs.Prelude.{ℕ, List, [], ◌∷◌, ◌++◌, codes}
use Rattle.spec_exact.specs.Fraction.{ℚ}
use Rattle.spec_model.specs.Model.{Model}
use Rattle.spec_mps.specs.WideWritten.{wide_text}
use Rattle.spec_check.specs.declared.certificate.Known.{Known}
use Rattle.spec_check.specs.declared.certificate.Known.TheVariants as known
use Rattle.spec_certificate.specs.TextWritten.{wide_certificate_lines}
use Rattle.spec_solve.specs.declared.exact.ExactEnd.TheVariants.{Answered, Open}
use Rattle.spec_solve.specs.Exact.{RationalEnd}

-- the text of an answer: `OPTIMAL` and the value, of any width, or `INFEASIBLE`, or `UNBOUNDED`
abbrev pub wide_known_text : Known ℚ → List ℕ
wide_known_text (known.Optimal v) = codes "OPTIMAL " ++ wide_text v
wide_known_text known.Infeasible = codes "INFEASIBLE"
wide_known_text known.Unbounded = codes "UNBOUNDED"

-- the lines of how an exact solve ended: the answer and its certificate, or `OPEN` alone without an answer
abbrev pub wide_lines : Model → RationalEnd → List (List ℕ)
wide_lines m (Answered a) = wide_known_text a.known ∷ wide_certificate_lines m a.certificate
wide_lines m Open = codes "OPEN" ∷ []
