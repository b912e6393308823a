-- What `basis --wide` writes of a model with a basis begins with the line of an answer that is true of the model.
--
-- `optimal_begins`: where `basis --wide` writes `OPTIMAL` and a text, the lines spell a model with this optimal value.
-- `infeasible_begins`: where `basis --wide` writes `INFEASIBLE`, the lines spell a model that is infeasible.
-- `unbounded_begins`: where `basis --wide` writes `UNBOUNDED`, the lines spell a model that is unbounded.
use Rattle.std.proofs.Common.{◌≡◌, ◌≤◌, ℕ, List, ◌∷◌, ◌++◌, length, Some, Ok, Err, refl, ap}
use Rattle.std.specs.Prelude.{codes}
use Rattle.spec_text.specs.declared.line.Line.{Line}
use Rattle.spec_exact.specs.Fraction.{ℚ}
use Rattle.spec_model.specs.Model.{Model}
use Rattle.spec_model.specs.Kept.{large_limits}
use Rattle.spec_model.specs.Truth.{IsOptimal, IsInfeasible, IsUnbounded}
use Rattle.spec_mps.specs.declared.style.Style.{Style}
use Rattle.spec_mps.specs.Steps.{SpellsWithin}
use Rattle.spec_mps.specs.WideText.{most_zeros, Is, wide_of}
use Rattle.spec_mps.specs.WideWritten.{wide_text}
use Rattle.spec_commands.specs.BasisOut.{BasisSaid, basis_said}
use Rattle.spec_commands.specs.BasisWideOut.{BasisWideOut}
use Rattle.spec_commands.proofs.WideWritten.{based_true}
use Rattle.spec_truth.proofs.AnswerLines.{first}
use Rattle.spec_text_truth.specs.TrueOutput.{HasNoFeed}
use Rattle.spec_text_truth.proofs.BasisTexts.{handed_spells, no_fault}
use Rattle.spec_text_truth.proofs.WideTexts.{either_optimal, either_infeasible, either_unbounded}

pub optimal_begins : (style : Style) (lines : List (Line (List ℕ))) (what : BasisSaid) (written : List ℕ) →
    basis_said large_limits style lines ≡ Some what → BasisWideOut what written →
    (text behind : List ℕ) → HasNoFeed text → written ≡ codes "OPTIMAL " ++ text ++ 10 ∷ behind →
    (v : ℚ) × (text ≡ wide_text v) × (length text ≤ most_zeros → wide_of text ≡ Is v)
    × ((m : Model) × SpellsWithin large_limits style lines m × IsOptimal m v)
optimal_begins style lines (Ok handed) written is out text behind no_feed e =
    let o = either_optimal handed.model written text behind (based_true handed written out) no_feed e in
    (o.0, o.1, o.2, (handed.model, handed_spells large_limits style lines handed is, o.3))
optimal_begins style lines (Err why) written is out text behind no_feed e =
    absurd (no_fault why written 79 refl out (ap first e))

pub infeasible_begins : (style : Style) (lines : List (Line (List ℕ))) (what : BasisSaid) (written : List ℕ) →
    basis_said large_limits style lines ≡ Some what → BasisWideOut what written →
    (behind : List ℕ) → written ≡ codes "INFEASIBLE" ++ 10 ∷ behind →
    (m : Model) × SpellsWithin large_limits style lines m × IsInfeasible m
infeasible_begins style lines (Ok handed) written is out behind e = (
  handed.model,
  handed_spells large_limits style lines handed is,
  either_infeasible handed.model written behind (based_true handed written out) e,
)
infeasible_begins style lines (Err why) written is out behind e =
    absurd (no_fault why written 73 refl out (ap first e))

pub unbounded_begins : (style : Style) (lines : List (Line (List ℕ))) (what : BasisSaid) (written : List ℕ) →
    basis_said large_limits style lines ≡ Some what → BasisWideOut what written →
    (behind : List ℕ) → written ≡ codes "UNBOUNDED" ++ 10 ∷ behind →
    (m : Model) × SpellsWithin large_limits style lines m × IsUnbounded m
unbounded_begins style lines (Ok handed) written is out behind e = (
  handed.model,
  handed_spells large_limits style lines handed is,
  either_unbounded handed.model written behind (based_true handed written out) e,
)
unbounded_begins style lines (Err why) written is out behind e =
    absurd (no_fault why written 85 refl out (ap first e))
