-- What `solve --wide` writes of a text that spells a model begins with the line of an answer that is true of the model.
--
-- `optimal_begins`: where `solve --wide` writes `OPTIMAL` and a text, the text is the model's optimal value.
-- `infeasible_begins`: where `solve --wide` writes `INFEASIBLE`, the model that the lines spell is infeasible.
-- `unbounded_begins`: where `solve --wide` writes `UNBOUNDED`, the model that the lines spell is unbounded.
use Rattle.std.proofs.Common.{◌≡◌, ◌≤◌, ℕ, List, [], ◌∷◌, ◌++◌, length, Some, Ok, inl, inr, refl, sym, ◌∙◌, ap, subst}
use Rattle.std.specs.Prelude.{codes}
use Rattle.spec_text.specs.declared.line.Line.{Line}
use Rattle.spec_exact.specs.Fraction.{ℚ}
use Rattle.spec_model.specs.Model.{Model}
use Rattle.spec_model.specs.Kept.{large_limits}
use Rattle.spec_model.specs.Truth.{IsOptimal, IsInfeasible, IsUnbounded}
use Rattle.spec_mps.specs.declared.style.Style.{Style}
use Rattle.spec_mps.specs.Steps.{SpellsWithin}
use Rattle.spec_mps.specs.WideText.{most_zeros, Is, wide_of}
use Rattle.spec_mps.specs.WideWritten.{wide_text}
use Rattle.spec_mps.proofs.ReadBack.{read_again}
use Rattle.spec_check.specs.declared.certificate.Known.{Known}
use Rattle.spec_check.specs.declared.certificate.Known.TheVariants as known
use Rattle.spec_check.specs.Certificate.{Holds}
use Rattle.spec_server.specs.TextSaid.{TextSaid, text_said_within}
use Rattle.spec_server.specs.WideLines.{wide_known_text}
use Rattle.spec_server.specs.Output.{ended_lines}
use Rattle.spec_commands.specs.SolveWideOut.{SolveWideOut}
use Rattle.spec_commands.proofs.WideWritten.{OpenOrTrue, out_true}
use Rattle.spec_text_truth.proofs.TextLemmas.{spelled_said}
use Rattle.spec_truth.proofs.AnswerLines.{same_line, first, apart}
use Rattle.spec_text_truth.specs.TrueOutput.{HasNoFeed}
use Rattle.spec_text_truth.proofs.PlainText.{wide_no_feed}
use Rattle.spec_text_truth.proofs.SolvedTexts.{same_said}
use Rattle.spec_text_truth.proofs.WideReplies.{third}

-- ---- an answer with numbers of any width

abbrev pub IsRead : Model → List ℕ → Type 0
IsRead m text =
    (v : ℚ) × (text ≡ wide_text v) × (length text ≤ most_zeros → wide_of text ≡ Is v) × IsOptimal m v

-- where an answer is true of a model, and its line reads OPTIMAL and a text, the text reads as the model's optimal
-- value
wide_optimal : (m : Model) (what : Known ℚ) (text x y : List ℕ) → Holds m what → HasNoFeed text →
    wide_known_text what ++ 10 ∷ x ≡ codes "OPTIMAL " ++ text ++ 10 ∷ y → IsRead m text
wide_optimal m (known.Optimal v) text x y h k e =
    let more : wide_text v ++ 10 ∷ x ≡ text ++ 10 ∷ y = cc in
    let same : wide_text v ≡ text = same_line (wide_text v) text x y (wide_no_feed v) k more in
    (v, sym same, subst (λ (t : List ℕ). length t ≤ most_zeros → wide_of t ≡ Is v) same (read_again v), h)
wide_optimal m known.Infeasible text x y h k e = absurd (apart 73 79 refl (ap first e))
wide_optimal m known.Unbounded text x y h k e = absurd (apart 85 79 refl (ap first e))

-- where the line of a true answer is `INFEASIBLE`, the model is infeasible
wide_infeasible : (m : Model) (what : Known ℚ) (x y : List ℕ) → Holds m what →
    wide_known_text what ++ 10 ∷ x ≡ codes "INFEASIBLE" ++ 10 ∷ y → IsInfeasible m
wide_infeasible m (known.Optimal v) x y h e = absurd (apart 79 73 refl (ap first e))
wide_infeasible m known.Infeasible x y h e = h
wide_infeasible m known.Unbounded x y h e = absurd (apart 85 73 refl (ap first e))

-- where the line of a true answer is `UNBOUNDED`, the model is unbounded
wide_unbounded : (m : Model) (what : Known ℚ) (x y : List ℕ) → Holds m what →
    wide_known_text what ++ 10 ∷ x ≡ codes "UNBOUNDED" ++ 10 ∷ y → IsUnbounded m
wide_unbounded m (known.Optimal v) x y h e = absurd (apart 79 85 refl (ap first e))
wide_unbounded m known.Infeasible x y h e = absurd (apart 73 85 refl (ap first e))
wide_unbounded m known.Unbounded x y h e = h

-- ---- the line of an open end

-- the line `OPEN` is no line that reads OPTIMAL and a text
open_optimal : (text y : List ℕ) → ended_lines (codes "OPEN" ∷ []) ≡ codes "OPTIMAL " ++ text ++ 10 ∷ y → ⊥
unfolding ended_lines
open_optimal text y e = apart 69 84 refl (ap third e)

-- the line `OPEN` is not the line `INFEASIBLE`
open_infeasible : (y : List ℕ) → ended_lines (codes "OPEN" ∷ []) ≡ codes "INFEASIBLE" ++ 10 ∷ y → ⊥
unfolding ended_lines
open_infeasible y e = apart 69 70 refl (ap third e)

-- the line `OPEN` is not the line `UNBOUNDED`
open_unbounded : (y : List ℕ) → ended_lines (codes "OPEN" ∷ []) ≡ codes "UNBOUNDED" ++ 10 ∷ y → ⊥
unfolding ended_lines
open_unbounded y e = apart 69 66 refl (ap third e)

-- ---- either

module _ (m : Model) (written : List ℕ) where
  -- where an output is the line `OPEN`, or begins with the line of a true answer, and it reads `OPTIMAL` and a text,
  -- the text reads as the model's optimal value
  pub either_optimal : (text behind : List ℕ) → OpenOrTrue m written → HasNoFeed text →
      written ≡ codes "OPTIMAL " ++ text ++ 10 ∷ behind → IsRead m text
  either_optimal text behind (inl unknown) no_feed e = absurd (open_optimal text behind (sym unknown ∙ e))
  either_optimal text behind (inr r) no_feed e = wide_optimal m r.0 text r.1 behind r.3 no_feed (sym r.2 ∙ e)

  -- where an output is the line `OPEN`, or begins with the line of a true answer, and it reads `INFEASIBLE`, the model
  -- is infeasible
  pub either_infeasible : (behind : List ℕ) → OpenOrTrue m written → written ≡ codes "INFEASIBLE" ++ 10 ∷ behind →
      IsInfeasible m
  either_infeasible behind (inl unknown) e = absurd (open_infeasible behind (sym unknown ∙ e))
  either_infeasible behind (inr r) e = wide_infeasible m r.0 r.1 behind r.3 (sym r.2 ∙ e)

  -- where an output is the line `OPEN`, or begins with the line of a true answer, and it reads `UNBOUNDED`, the model
  -- is unbounded
  pub either_unbounded : (behind : List ℕ) → OpenOrTrue m written → written ≡ codes "UNBOUNDED" ++ 10 ∷ behind →
      IsUnbounded m
  either_unbounded behind (inl unknown) e = absurd (open_unbounded behind (sym unknown ∙ e))
  either_unbounded behind (inr r) e = wide_unbounded m r.0 r.1 behind r.3 (sym r.2 ∙ e)

-- ---- the laws

-- `solve --wide` writes of a text that spells a model the line `OPEN`, or first that of a true answer
either : (style : Style) (lines : List (Line (List ℕ))) (m : Model) (what : TextSaid) (written : List ℕ) →
    text_said_within large_limits style lines ≡ Some what → SolveWideOut what written → SpellsWithin large_limits style lines m → OpenOrTrue m written
either style lines m what written is out spells =
    let same : what ≡ Ok m = same_said what (Ok m) (sym is ∙ spelled_said large_limits style lines m spells) in
    out_true m written (subst (λ (w : TextSaid). SolveWideOut w written) same out)

pub optimal_begins : (style : Style) (lines : List (Line (List ℕ))) (m : Model) (what : TextSaid) (written : List ℕ) →
    text_said_within large_limits style lines ≡ Some what → SolveWideOut what written → SpellsWithin large_limits style lines m →
    (text behind : List ℕ) → HasNoFeed text → written ≡ codes "OPTIMAL " ++ text ++ 10 ∷ behind →
    (v : ℚ) × (text ≡ wide_text v) × (length text ≤ most_zeros → wide_of text ≡ Is v) × IsOptimal m v
optimal_begins style lines m what written is out spells text behind =
    either_optimal m written text behind (either style lines m what written is out spells)

pub infeasible_begins : (style : Style) (lines : List (Line (List ℕ))) (m : Model) (what : TextSaid)
    (written : List ℕ) → text_said_within large_limits style lines ≡ Some what → SolveWideOut what written → SpellsWithin large_limits style lines m →
    (behind : List ℕ) → written ≡ codes "INFEASIBLE" ++ 10 ∷ behind → IsInfeasible m
infeasible_begins style lines m what written is out spells behind =
    either_infeasible m written behind (either style lines m what written is out spells)

pub unbounded_begins : (style : Style) (lines : List (Line (List ℕ))) (m : Model) (what : TextSaid) (written : List ℕ) →
    text_said_within large_limits style lines ≡ Some what → SolveWideOut what written → SpellsWithin large_limits style lines m →
    (behind : List ℕ) → written ≡ codes "UNBOUNDED" ++ 10 ∷ behind → IsUnbounded m
unbounded_begins style lines m what written is out spells behind =
    either_unbounded m written behind (either style lines m what written is out spells)
