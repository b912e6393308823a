-- What a reader makes of the line that `check --wide` writes of a yes.
--
-- `valued_or_same`: a reply is a yes with a value, or has the same text as without `--wide`.
-- `wide_optimal_line`: where `check --wide` writes `YES OPTIMAL` and a text, the lines spell a model with this optimal
--   value.
-- `wide_infeasible_line`: where `check --wide` writes `YES INFEASIBLE`, the lines spell a model that is infeasible.
-- `wide_unbounded_line`: where `check --wide` writes `YES UNBOUNDED`, the lines spell a model that is unbounded.
use Rattle.std.proofs.Common.{◌≡◌, ◌≤◌, ℕ, List, [], ◌∷◌, ◌++◌, length, get_or, Some, ◌⊎◌, inl, inr, refl, sym, ◌∙◌, ap, subst}
use Rattle.std.specs.Prelude.{codes}
use Rattle.spec_text.specs.declared.line.Line.{Line}
use Rattle.spec_exact.specs.Fraction.{ℚ}
use Rattle.spec_model.specs.Truth.{IsOptimal, IsInfeasible, IsUnbounded}
use Rattle.spec_mps.specs.declared.style.Style.{Style}
use Rattle.spec_mps.specs.WideText.{most_zeros, Is, wide_of}
use Rattle.spec_mps.specs.WideWritten.{wide_text}
use Rattle.spec_mps.proofs.ReadBack.{read_again}
use Rattle.spec_check.specs.declared.certificate.Known.TheVariants as known
use Rattle.spec_check.specs.declared.certificate.Verdict.TheVariants as verdict
use Rattle.spec_server.specs.declared.asks.Reply.TheVariants as reply
use Rattle.spec_server.specs.Machine.{ExactReply}
use Rattle.spec_server.specs.Output.{reply_text}
use Rattle.spec_commands.specs.CheckWideOut.{wide_said, wide_reply_text, wide_check_line}
use Rattle.spec_text_truth.specs.Certified.{IsWidelyCertified}
use Rattle.spec_text_truth.proofs.YesLines.{same_end}
use Rattle.spec_truth.proofs.ReplyLines.{yes_to, optimal_yes, infeasible_yes, unbounded_yes}
use Rattle.spec_truth.proofs.AnswerLines.{apart}
use Rattle.spec_text_truth.proofs.CertifiedTexts.{wide_yes_is}

-- where `check --wide` writes a text as a line, the text is that of the reply
line_of : (is : ExactReply) (text : List ℕ) → wide_check_line is ≡ text ++ 10 ∷ [] → wide_reply_text is ≡ text
unfolding wide_check_line
line_of is text e = same_end (wide_reply_text is) text e

-- a reply is a yes with a value, or its wide text is its text
pub valued_or_same : (is : ExactReply) →
    ((v : ℚ) × (is ≡ yes_to (known.Optimal v))) ⊎ (wide_reply_text is ≡ reply_text is)
valued_or_same (reply.Loaded rows columns) = inr refl
valued_or_same (reply.Written text) = inr refl
valued_or_same reply.Done = inr refl
valued_or_same (reply.Known what) = inr refl
valued_or_same (reply.Past p) = inr refl
valued_or_same (reply.Spent budget) = inr refl
valued_or_same (reply.Certified lines) = inr refl
valued_or_same (reply.Found how pivots publication) = inr refl
valued_or_same (reply.Checked (verdict.Yes (known.Optimal v))) = inl (v, refl)
valued_or_same (reply.Checked (verdict.Yes known.Infeasible)) = inr refl
valued_or_same (reply.Checked (verdict.Yes known.Unbounded)) = inr refl
valued_or_same (reply.Checked (verdict.No n)) = inr refl
valued_or_same (reply.Checked (verdict.Past p)) = inr refl
valued_or_same (reply.Wide lines) = inr refl
valued_or_same reply.Bye = inr refl
valued_or_same reply.Memory = inr refl
valued_or_same (reply.Refused why) = inr refl

-- two texts are equal where they are equal behind the words YES OPTIMAL
behind_optimal : (a b : List ℕ) → codes "YES OPTIMAL " ++ a ≡ codes "YES OPTIMAL " ++ b → a ≡ b
behind_optimal a b e = cc

-- a text with another letter than O behind the word YES is not the wide text of a yes with a value
not_valued : (v : ℚ) (is : ExactReply) (text : List ℕ) → is ≡ yes_to (known.Optimal v) →
    (letter : ℕ) → (79 ≡ letter → ⊥) → get_or text 4 0 ≡ letter → wide_reply_text is ≡ text → ⊥
not_valued v is text e letter other begins says =
    other (sym (ap (λ (t : ExactReply). get_or (wide_reply_text t) 4 0) e) ∙ ap (λ t. get_or t 4 0) says ∙ begins)

-- a reply whose wide text is YES OPTIMAL and a text is a yes with the value of this text
valued : (is : ExactReply) (text : List ℕ) → wide_reply_text is ≡ codes "YES OPTIMAL " ++ text →
    (v : ℚ) × (is ≡ yes_to (known.Optimal v)) × (wide_text v ≡ text)
valued is text e = by (valued_or_same is)
  where
    value : (v : ℚ) → is ≡ yes_to (known.Optimal v) → wide_text v ≡ text
    value v h = behind_optimal (wide_text v) text (sym (ap wide_reply_text h) ∙ e)

    by : ((v : ℚ) × (is ≡ yes_to (known.Optimal v))) ⊎ (wide_reply_text is ≡ reply_text is) →
        (v : ℚ) × (is ≡ yes_to (known.Optimal v)) × (wide_text v ≡ text)
    by (inl (v, h)) = (v, h, value v h)
    by (inr same) = let y = optimal_yes is text (sym same ∙ e) in (y.0, y.1, value y.0 y.1)

-- where the wide text of a reply has another letter than O behind the word YES, its text of at most 127 bits is the
-- same
same_text : (is : ExactReply) (text : List ℕ) (letter : ℕ) → (79 ≡ letter → ⊥) → get_or text 4 0 ≡ letter →
    wide_reply_text is ≡ text → reply_text is ≡ text
same_text is text letter other begins e = by (valued_or_same is)
  where
    by : ((v : ℚ) × (is ≡ yes_to (known.Optimal v))) ⊎ (wide_reply_text is ≡ reply_text is) → reply_text is ≡ text
    by (inl (v, h)) = absurd (not_valued v is text h letter other begins e)
    by (inr same) = sym same ∙ e

-- ---- the laws

pub wide_optimal_line : (style : Style) (lines : List (Line (List ℕ))) (is : ExactReply) (text : List ℕ) →
    wide_said style lines ≡ Some is → wide_check_line is ≡ codes "YES OPTIMAL " ++ text ++ 10 ∷ [] →
    (v : ℚ) × (text ≡ wide_text v) × (length text ≤ most_zeros → wide_of text ≡ Is v)
    × IsWidelyCertified style lines (λ m. IsOptimal m v)
wide_optimal_line style lines is text h e =
    let y = valued is text (line_of is (codes "YES OPTIMAL " ++ text) e) in (
      y.0,
      sym y.2,
      subst (λ (t : List ℕ). length t ≤ most_zeros → wide_of t ≡ Is y.0) y.2 (read_again y.0),
      wide_yes_is style lines (known.Optimal y.0) (h ∙ ap Some y.1),
    )

pub wide_infeasible_line : (style : Style) (lines : List (Line (List ℕ))) (is : ExactReply) →
    wide_said style lines ≡ Some is → wide_check_line is ≡ codes "YES INFEASIBLE" ++ 10 ∷ [] →
    IsWidelyCertified style lines IsInfeasible
wide_infeasible_line style lines is h e =
    let text = same_text is (codes "YES INFEASIBLE") 73 (apart 79 73 refl) refl (line_of is (codes "YES INFEASIBLE") e) in
    wide_yes_is style lines known.Infeasible (h ∙ ap Some (infeasible_yes is text))

pub wide_unbounded_line : (style : Style) (lines : List (Line (List ℕ))) (is : ExactReply) →
    wide_said style lines ≡ Some is → wide_check_line is ≡ codes "YES UNBOUNDED" ++ 10 ∷ [] →
    IsWidelyCertified style lines IsUnbounded
wide_unbounded_line style lines is h e =
    let text = same_text is (codes "YES UNBOUNDED") 85 (apart 79 85 refl) refl (line_of is (codes "YES UNBOUNDED") e) in
    wide_yes_is style lines known.Unbounded (h ∙ ap Some (unbounded_yes is text))
