-- What a reader makes of the line that `check` writes of a yes.
--
-- `same_end`: two lines are equal where they are equal with a line feed behind each.
-- `optimal_line`: where `check` writes `YES OPTIMAL` and a text, the text reads as the optimal value of a model that
--   the lines spell.
-- `infeasible_line`: where `check` writes `YES INFEASIBLE`, the lines spell a model that is infeasible.
-- `unbounded_line`: where `check` writes `YES UNBOUNDED`, the lines spell a model that is unbounded.
use Rattle.std.proofs.Common.{◌≡◌, ℕ, List, [], ◌∷◌, ◌++◌, Some, refl, sym, ◌∙◌, ap}
use Rattle.std.specs.Prelude.{codes}
use Rattle.spec_text.specs.declared.line.Line.{Line}
use Rattle.spec_exact.specs.Fraction.{ℚ}
use Rattle.spec_model.specs.Truth.{IsOptimal, IsInfeasible, IsUnbounded}
use Rattle.spec_mps.specs.declared.style.Style.{Style}
use Rattle.spec_mps.specs.NumberText.{Is, number_of}
use Rattle.spec_check.specs.declared.certificate.Known.TheVariants as known
use Rattle.spec_server.specs.Machine.{ExactReply}
use Rattle.spec_server.specs.Output.{check_line, reply_text}
use Rattle.spec_commands.specs.CheckOut.{said}
use Rattle.spec_text_truth.specs.Certified.{IsCertified}
use Rattle.spec_truth.proofs.Shown.{IsShown, value_fits}
use Rattle.spec_truth.proofs.AnswerLines.{read_back}
use Rattle.spec_truth.proofs.ReplyLines as reply_lines
use Rattle.spec_text_truth.proofs.CertifiedTexts.{certified, yes_holds}

pub same_end : (a b : List ℕ) → a ++ 10 ∷ [] ≡ b ++ 10 ∷ [] → a ≡ b
same_end [] [] e = refl
same_end [] (c ∷ []) e = cc
same_end [] (c ∷ d ∷ b) e = cc
same_end (c ∷ []) [] e = cc
same_end (c ∷ d ∷ a) [] e = cc
same_end (c ∷ a) (d ∷ b) e =
    let first : c ≡ d = cc in
    let rest : a ++ 10 ∷ [] ≡ b ++ 10 ∷ [] = cc in
    let same : a ≡ b = same_end a b rest in
    cc

-- where `check` writes a text as a line, the text is that of the reply
line_of : (is : ExactReply) (text : List ℕ) → check_line is ≡ text ++ 10 ∷ [] → reply_text is ≡ text
unfolding check_line
line_of is text e = same_end (reply_text is) text e

pub optimal_line : (style : Style) (lines : List (Line (List ℕ))) (is : ExactReply) (text : List ℕ) →
    said style lines ≡ Some is →
    check_line is ≡ codes "YES OPTIMAL " ++ text ++ 10 ∷ [] → (v : ℚ) × (number_of text ≡ Is v) × IsCertified style
    lines (λ m. IsOptimal m v)
optimal_line style lines is text h e =
    let y = reply_lines.optimal_yes is text (line_of is (codes "YES OPTIMAL " ++ text) e) in
    let is_yes = h ∙ ap Some y.1 in
    let c = certified style lines (known.Optimal y.0) (λ m. IsShown m (known.Optimal y.0)) (λ m s. s) is_yes in (
      y.0,
      ap number_of (sym y.2) ∙ read_back y.0 (value_fits c.model y.0 c.is_so),
      yes_holds style lines (known.Optimal y.0) is_yes,
    )

pub infeasible_line : (style : Style) (lines : List (Line (List ℕ))) (is : ExactReply) → said style lines ≡ Some is →
    check_line is ≡ codes "YES INFEASIBLE" ++ 10 ∷ [] → IsCertified style lines IsInfeasible
infeasible_line style lines is h e =
    yes_holds style lines known.Infeasible
    (h ∙ ap Some (reply_lines.infeasible_yes is (line_of is (codes "YES INFEASIBLE") e)))

pub unbounded_line : (style : Style) (lines : List (Line (List ℕ))) (is : ExactReply) → said style lines ≡ Some is →
    check_line is ≡ codes "YES UNBOUNDED" ++ 10 ∷ [] → IsCertified style lines IsUnbounded
unbounded_line style lines is h e =
    yes_holds style lines known.Unbounded
    (h ∙ ap Some (reply_lines.unbounded_yes is (line_of is (codes "YES UNBOUNDED") e)))
