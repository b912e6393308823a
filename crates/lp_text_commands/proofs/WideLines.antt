-- How the lines of a text, and of a certificate with wide numbers after it, lead from stage to stage.
--
-- `leads_from`: a line leads to the state, or to the result, that one step of the reading gives.
-- `same_line`: where a reply has the same text with wide numbers, it has the same line.
-- `yes_line`: the word `YES` and what is known are the line of an accepted certificate.
use Rattle.std.proofs.Common.{◌≡◌, ℕ, ◌+◌, ◌≤◌, Result, List, [], ◌∷◌, ◌++◌, ap, ◌∙◌, arith, refl, subst}
use Rattle.std.proofs.Common.{append_assoc}
use Rattle.std.specs.Prelude.{IfOk, codes}
use Rattle.spec_text.specs.declared.line.Line.{Line}
use Rattle.spec_text.specs.declared.line.Line.TheVariants.{End}
use Rattle.spec_exact.specs.Fraction.{ℚ}
use Rattle.spec_model.specs.Model.{Model}
use Rattle.spec_model.specs.Kept.{large_limits}
use Rattle.spec_check.specs.declared.certificate.Known.{Known}
use Rattle.spec_check.specs.declared.certificate.Known.TheVariants as known
use Rattle.spec_check.specs.declared.certificate.Verdict.TheVariants as verdict
use Rattle.spec_server.specs.declared.asks.Reply.TheVariants as reply
use Rattle.spec_mps.specs.Steps as text
use Rattle.spec_certificate.specs.declared.progress.Progress.TheVariants as progress
use Rattle.spec_certificate.specs.Text.{step_by}
use Rattle.spec_certificate.specs.NarrowText as certificate
use Rattle.spec_certificate.specs.WideText.{wide}
use Rattle.spec_server.specs.Machine.{ExactReply}
use Rattle.spec_server.specs.Output.{check_line, reply_text}
use Rattle.spec_server.specs.WideLines.{wide_known_text}
use Rattle.spec_commands.specs.CheckOut as reading
use Rattle.spec_commands.specs.CheckWideOut.{behind_wide, wide_step, wide_reply_text, wide_check_line}
use Rattle.lp_line.specs.declared.hearing.Step.{Step}
use Rattle.lp_line.specs.Hearing.{Leads}
use Rattle.lp_text_commands.specs.declared.check.wide_stage.WideStage.{WideStage}
use Rattle.lp_text_commands.specs.declared.check.wide_stage.WideStage.TheVariants as stage
use Rattle.lp_text_commands.proofs.LeadingOn as on
use Rattle.lp_text_commands.proofs.LeadingOn.{on_same}
use Rattle.lp_text_commands.proofs.CheckLines.{lines_in, text_counts}
use Rattle.lp_text_commands.specs.WideStage.{wide_stage_of, wide_step_of, wide_count_of, WideSays}

-- behind a line of a certificate with numbers of any width, the next state has counted no more lines than were read
certificate_counts : (m : Model) (n : ℕ) (o : certificate.Outcome) (next : reading.Stage) →
    behind_wide m n o ≡ reading.On next → lines_in next ≤ n
certificate_counts m n (progress.More raw) next e = subst (λ a. lines_in a ≤ n) (on_same _ next e) (omega arith)
certificate_counts m n (progress.Done raw) next e = cc
certificate_counts m n progress.Unfit next e = cc

-- a line leads to a state of the reading that has counted at most one line more
step_counts : (at next : reading.Stage) (line : Line (List ℕ)) → wide_step at line ≡ reading.On next →
    lines_in next ≤ lines_in at + 1
unfolding wide_step
step_counts (reading.InText style s n) next line e = text_counts style (n + 1) (text.step large_limits style s line)
    next e
step_counts (reading.InCertificate m raw n) next line e =
    certificate_counts m (n + 1) (step_by wide raw line) next e

-- at the end of the input something is said
end_says : (at next : reading.Stage) → wide_step at End ≡ reading.On next → ⊥
unfolding wide_step text.step step_by
end_says (reading.InText style s n) next e = cc
end_says (reading.InCertificate m so_far n) next e = cc

-- the code's state of the reading has counted as many lines as the definition's
count_is : (at : WideStage) → lines_in (wide_stage_of at) ≡ wide_count_of at
count_is (stage.Text reader) = refl
count_is (stage.Certificate model reader) = refl

-- from the stage that self is
pub leads_from : {E : Type 0} (self at : WideStage) (line : Line (List ℕ))
    (result : Result (Step WideStage ExactReply) E) →
    self ≡ at → IfOk result (λ made. wide_step_of made ≡ wide_step (wide_stage_of at) line) →
    IfOk result (Leads WideSays wide_count_of self line)
leads_from = on.leads_from wide_stage_of wide_step wide_count_of lines_in count_is step_counts end_says

-- the line of a reply that has no wide number
pub same_line : (replied : ExactReply) → wide_reply_text replied ≡ reply_text replied →
    wide_check_line replied ≡ check_line replied
unfolding wide_check_line check_line
same_line replied e = ap (λ text. text ++ 10 ∷ []) e

-- the word `YES ` and what is known are the text of the reply that accepts a certificate
yes_text : (what : Known ℚ) → codes "YES " ++ wide_known_text what ≡ wide_reply_text (reply.Checked (verdict.Yes what))
unfolding reply_text
yes_text (known.Optimal v) = refl
yes_text known.Infeasible = refl
yes_text known.Unbounded = refl

-- the line of an accepted certificate, piece by piece
pub yes_line : (what : Known ℚ) (first now next last : List ℕ) → now ≡ first ++ codes "YES " →
    next ≡ now ++ wide_known_text what → last ≡ next ++ 10 ∷ [] →
    last ≡ first ++ wide_check_line (reply.Checked (verdict.Yes what))
unfolding wide_check_line
yes_line what first now next last is_now is_next is_last =
    is_last
    ∙ ap (λ bs. bs ++ 10 ∷ [])
    (is_next ∙ ap (λ bs. bs ++ wide_known_text what) is_now ∙ append_assoc first (codes "YES ") (wide_known_text what)
    ∙ ap (λ bs. first ++ bs) (yes_text what))
    ∙ append_assoc first (wide_reply_text (reply.Checked (verdict.Yes what))) (10 ∷ [])
