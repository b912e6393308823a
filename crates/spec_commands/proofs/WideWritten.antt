-- What a wide solve writes is true, from a basis too, and `check --wide` accepts its certificate.
--
-- `out_true`: what a wide solve writes is `OPEN`, or begins with the line of an answer that is true of the model.
-- `based_true`: what a wide solve from a basis writes is `OPEN`, or begins with the line of an answer that is true of
--   the model.
use Rattle.std.proofs.Common.{◌≡◌, ◌⊎◌, inl, inr, ℕ, ◌+◌, List, [], ◌∷◌, ◌++◌, map, get_or, Option, Some}
use Rattle.std.proofs.Common.{None, Ok, Err, All, ap, ◌∙◌, append_assoc, arith, ◌≤◌, ◌-◌, length, take}
use Rattle.std.specs.Prelude.{codes}
use Rattle.spec_text.specs.declared.line.Line.{Line}
use Rattle.spec_text.specs.declared.line.Line.TheVariants.{Text}
use Rattle.spec_text.specs.Lines.{ended_lines_of, input_limit}
use Rattle.spec_exact.specs.Fraction.{ℚ}
use Rattle.spec_exact.specs.Narrow.{number_limit}
use Rattle.spec_model.specs.Model.{Model}
use Rattle.spec_model.specs.Kept.{IsModel, large_limits}
use Rattle.spec_mps.specs.declared.style.Style.{Style}
use Rattle.spec_mps.specs.Reader.{State, start}
use Rattle.spec_mps.specs.Steps as text
use Rattle.spec_mps.proofs.SpelledKept.{spelled_kept}
use Rattle.spec_mps.proofs.WrittenWords.{plain_text}
use Rattle.spec_mps.specs.WideWritten.{wide_text}
use Rattle.spec_check.specs.declared.certificate.Certificate.{Certificate}
use Rattle.spec_check.specs.declared.certificate.Certificate.TheVariants.{Optimal, Infeasible, Clash, Unbounded}
use Rattle.spec_check.specs.declared.certificate.Known.{Known}
use Rattle.spec_check.specs.declared.certificate.Verdict.TheVariants.{Yes}
use Rattle.spec_check.specs.Certificate.{Holds}
use Rattle.spec_check.specs.Run.{verdict_of}
use Rattle.spec_check.specs.Settle.{certificate_for}
use Rattle.spec_simplex.specs.Form.{form_of}
use Rattle.spec_certificate.specs.declared.progress.Progress.TheVariants as progress
use Rattle.spec_certificate.specs.Text.{Spelled, step_by, judge_by, settled}
use Rattle.spec_certificate.specs.NarrowText.{ExactRaw, Outcome}
use Rattle.spec_certificate.specs.WideText.{wide}
use Rattle.spec_certificate.specs.TextWritten.{wide_certificate_lines}
use Rattle.spec_certificate.specs.TextRead.{AllNumbers, IsShortNumber}
use Rattle.spec_certificate.proofs.ReadBack.{wide_read_back}
use Rattle.spec_certificate.proofs.WideWords.{wide_word}
use Rattle.spec_solve.specs.declared.exact.ExactEnd.TheVariants.{Answered, Open}
use Rattle.spec_solve.specs.Exact.{FitsLine, FitsLines, IsShown}
use Rattle.spec_solve.proofs.ExactAnswers.{answer_true}
use Rattle.spec_server.specs.declared.asks.Reply.TheVariants as reply
use Rattle.spec_server.specs.Output.{ended_lines}
use Rattle.spec_server.specs.Said.{follow, said_by}
use Rattle.spec_commands.specs.CheckOut.{InText, InCertificate, behind_text}
use Rattle.spec_commands.specs.CheckWideOut.{behind_wide, wide_verdict_on, wide_step, wide_said}
use Rattle.spec_server.specs.TextSaid.{behind_line, text_said_within, text_step}
use Rattle.spec_server.specs.WideLines.{wide_known_text}
use Rattle.spec_commands.specs.InputSaid.{IsSaidEarly}
use Rattle.spec_commands.specs.SolveWideOut.{SolveWideOut}
use Rattle.spec_commands.specs.BasisOut.{Handed}
use Rattle.spec_commands.specs.BasisWideOut.{origin_text, based_text, BasisWideOut}
use Rattle.spec_commands.proofs.EndedText.{ended_behind}
use Rattle.spec_commands.proofs.PlainLines.{ended_lines_behind, IsFitting, fitting_plain}
use Rattle.spec_commands.proofs.WideLengths.{wide_few}
use Rattle.spec_commands.proofs.WrittenLengths.{take_behind}

-- ---- an answer

-- what was written is the line `OPEN`, or begins with the line of an answer that is true of the model
abbrev pub OpenOrTrue : Model → List ℕ → Type 0
OpenOrTrue m written = (written ≡ ended_lines (codes "OPEN" ∷ [])) ⊎ ((known : Known ℚ) × (behind : List ℕ)
    × (written ≡ wide_known_text known ++ 10 ∷ behind) × Holds m known)

pub out_true : (m : Model) (written : List ℕ) → SolveWideOut (Ok m) written → OpenOrTrue m written
unfolding ended_lines
out_true m written (Answered a, is, lines) =
    let rest : List ℕ = ended_lines (wide_certificate_lines m a.certificate) in
    inr (a.known, rest, lines ∙ append_assoc (wide_known_text a.known) (10 ∷ []) rest, answer_true m a is)
out_true m written (Open, is, lines) = inl lines

-- and of one to which a basis was handed
pub based_true : (handed : Handed) (written : List ℕ) → BasisWideOut (Ok handed) written →
    OpenOrTrue handed.model written
unfolding ended_lines
based_true handed written (Answered a, is, lines) =
    let m = handed.model in
    let line : List ℕ = wide_known_text a.known in
    let rest : List ℕ = ended_lines (origin_text a.origin ∷ wide_certificate_lines m a.certificate) in
    let final : List ℕ = based_text m (form_of (Some number_limit) m) a.basis in
    inr (
      a.known,
      rest ++ final,
      lines ∙ append_assoc (line ++ 10 ∷ []) rest final ∙ append_assoc line (10 ∷ []) (rest ++ final),
      answer_true m a is,
    )
based_true handed written (Open, is, lines) = inl lines

-- ---- lines of a text, and of a certificate

-- after the last line of a model's text, `check --wide` reads the lines behind as a certificate for the model that the
-- text spells
text_leads : (style : Style) (s : State) (n : ℕ) (front : List (Line (List ℕ))) (last : Line (List ℕ))
    (behind : List (Line (List ℕ))) (m : Model) →
    said_by (text_step large_limits style) (record { state = s; lines = n }) front ≡ None →
    text.judge large_limits style s (n + 1) (front ++ last ∷ []) ≡ text.Spelled m →
    said_by wide_step (InText style s n) (front ++ last ∷ behind) ≡ said_by wide_step (InCertificate m None 0) behind
unfolding wide_step text_step
text_leads style s n [] last behind m none spelled = by (text.step large_limits style s last) spelled
  where
    by : (o : text.Outcome) → text.settled (n + 1) (λ t. text.judge large_limits style t (n + 1 + 1) [])
        o ≡ text.Spelled m →
        follow (behind_text style (n + 1) o) (λ stage. said_by wide_step stage behind)
        ≡ said_by wide_step (InCertificate m None 0) behind
    by (Ok (text.More t)) e = cc
    by (Ok (text.Done d)) e =
        let same : d ≡ m = cc in ap (λ d. said_by wide_step (InCertificate d None 0) behind) same
    by (Err why) e = cc
text_leads style s n (line ∷ front) last behind m none spelled =
    by (text.step large_limits style s line) none spelled (λ t. text_leads style t (n + 1) front last behind m)
  where
    by : (o : text.Outcome) →
        follow (behind_line (n + 1) o) (λ next. said_by (text_step large_limits style) next front) ≡ None →
        text.settled (n + 1) (λ t. text.judge large_limits style t (n + 1 + 1) (front ++ last ∷ [])) o ≡ text.Spelled
        m →
        ((t : State) → said_by (text_step large_limits style) (record { state = t; lines = n + 1 }) front ≡ None →
        text.judge large_limits style t (n + 1 + 1) (front ++ last ∷ []) ≡ text.Spelled m →
        said_by wide_step (InText style t (n + 1)) (front ++ last ∷ behind)
        ≡ said_by wide_step (InCertificate m None 0) behind) →
        follow (behind_text style (n + 1) o) (λ stage. said_by wide_step stage (front ++ last ∷ behind))
        ≡ said_by wide_step (InCertificate m None 0) behind
    by (Ok (text.More t)) h e go = go t h e
    by (Ok (text.Done d)) h e go = cc
    by (Err why) h e go = cc

-- two certificates are equal where they are equal as verdicts on lines
same_spelled : (a b : ExactRaw) → Spelled a ≡ Spelled b → a ≡ b
same_spelled a b e = cc

-- where lines spell a certificate, `check --wide` says of them its verdict on the certificate for the model
certificate_said : (m : Model) (lines : List (Line (List ℕ))) (so_far : Option ExactRaw) (n : ℕ) (raw : ExactRaw) →
    judge_by wide so_far (n + 1) lines ≡ Spelled raw →
    said_by wide_step (InCertificate m so_far n) lines ≡ Some (wide_verdict_on m (certificate_for m raw))
unfolding wide_step
certificate_said m [] so_far n raw h = cc
certificate_said m (l ∷ lines) so_far n raw h =
    by (step_by wide so_far l) h (λ next. certificate_said m lines (Some next) (n + 1) raw)
  where
    by : (o : Outcome) →
        settled (n + 1) (λ next. judge_by wide (Some next) (n + 1 + 1) lines) o ≡ Spelled raw →
        ((next : ExactRaw) → judge_by wide (Some next) (n + 1 + 1) lines ≡ Spelled raw →
        said_by wide_step (InCertificate m (Some next) (n + 1)) lines
        ≡ Some (wide_verdict_on m (certificate_for m raw))) →
        follow (behind_wide m (n + 1) o) (λ stage. said_by wide_step stage lines)
        ≡ Some (wide_verdict_on m (certificate_for m raw))
    by (progress.More next) e go = go next e
    by (progress.Done other) e go = ap (λ raw. Some (wide_verdict_on m (certificate_for m raw))) (same_spelled other raw e)
    by progress.Unfit e go = cc

-- ---- the lines that are written

-- the text of a number whose digits fit a line is short enough for one and of plain bytes
wide_fitting : (v : ℚ) → FitsLine v → IsFitting wide_text v
wide_fitting v fits = record { fits = wide_few v fits; plain = plain_text (wide_text v) (wide_word v).printable }

-- the texts of numbers whose digits fit a line are short enough for one and of plain bytes
all_fitting : (xs : List ℚ) → All FitsLine xs → All (IsFitting wide_text) xs
all_fitting xs h = λ k d l. wide_fitting (get_or xs k d) (h k d l)

-- where a certificate's numbers fit lines, their texts are short enough for one and of plain bytes
numbers_fitting : (cert : Certificate (List ℚ)) → FitsLines cert → AllNumbers (IsFitting wide_text) cert
numbers_fitting (Optimal x y) n = (all_fitting x n.0, all_fitting y n.1)
numbers_fitting (Infeasible y) n = all_fitting y n
numbers_fitting (Clash j) n = tt
numbers_fitting (Unbounded x r) n = (all_fitting x n.0, all_fitting r n.1)

-- the text of a number whose digits fit a line is short enough to be read back
short_one : (v : ℚ) → FitsLine v → IsShortNumber v
short_one v fits = let few = wide_few v fits in omega (arith, few)

-- the texts of numbers whose digits fit a line are short enough to be read back
all_short : (xs : List ℚ) → All FitsLine xs → All IsShortNumber xs
all_short xs h = λ k d l. short_one (get_or xs k d) (h k d l)

-- where a certificate's numbers fit lines, their texts are short enough to be read back
numbers_short : (cert : Certificate (List ℚ)) → FitsLines cert → AllNumbers IsShortNumber cert
numbers_short (Optimal x y) n = (all_short x n.0, all_short y n.1)
numbers_short (Infeasible y) n = all_short y n
numbers_short (Clash j) n = tt
numbers_short (Unbounded x r) n = (all_short x n.0, all_short r n.1)

-- `check --wide` says yes behind a text of the model to the lines of a certificate that is shown
module _ (style : Style) (front : List (Line (List ℕ))) (last : Line (List ℕ)) (m : Model) (known : Known ℚ)
    (cert : Certificate (List ℚ)) (undecided : text_said_within large_limits style front ≡ None)
    (spells : text.SpellsWithin large_limits style (front ++ last ∷ []) m) (shown : IsShown m known cert) where
  -- `check --wide` says yes to lines of a text that spells the model and of a shown certificate, whatever lines follow
  accepted_lines : (more : List ℕ) →
      wide_said style ((front ++ last ∷ []) ++ ended_lines_of (ended_lines (wide_certificate_lines m cert) ++ more))
      ≡ Some (reply.Checked (Yes known))
  unfolding ended_lines
  accepted_lines more =
      let kept : IsModel m = spelled_kept large_limits style (front ++ last ∷ []) m spells in
      let r = wide_read_back m cert kept shown.0 (numbers_short cert shown.2) in
      let rest : List (Line (List ℕ)) = ended_lines_of more in
      let lines : List (Line (List ℕ)) = map Text (wide_certificate_lines m cert) ++ rest in
      ap (λ (ls : List (Line (List ℕ))). wide_said style ((front ++ last ∷ []) ++ ls))
      (ended_lines_behind (λ line. line) (wide_certificate_lines m cert) more
      (fitting_plain m kept wide_text cert shown.0 (numbers_fitting cert shown.2)))
      ∙ ap (wide_said style) (append_assoc front (last ∷ []) lines)
      ∙ text_leads style start 0 front last lines m undecided spells
      ∙ certificate_said m lines None 0 r.raw (r.spelled rest)
      ∙ ap (λ settled. Some (wide_verdict_on m settled)) r.settled
      ∙ ap (λ run. Some (reply.Checked (verdict_of run))) shown.1

  -- of a text that spells the model, with the lines of a shown certificate behind it, `check --wide` says yes, whatever
  -- bytes follow
  pub accepted_early : (text : List ℕ) → ended_lines_of (text ++ 10 ∷ []) ≡ front ++ last ∷ [] →
      length ((text ++ 10 ∷ []) ++ ended_lines (wide_certificate_lines m cert)) ≤ input_limit →
      IsSaidEarly (wide_said style) ((text ++ 10 ∷ []) ++ ended_lines (wide_certificate_lines m cert))
      (reply.Checked (Yes known))
  accepted_early text are within more =
      let lines : List ℕ = ended_lines (wide_certificate_lines m cert) in
      let read : List ℕ = (text ++ 10 ∷ []) ++ lines in
      let rest : List ℕ = take (input_limit - length read) more in
      ap (λ (bytes : List ℕ). wide_said style (ended_lines_of bytes))
      (take_behind input_limit read more within ∙ append_assoc (text ++ 10 ∷ []) lines rest)
      ∙ ap (wide_said style) (ended_behind text (lines ++ rest)
      ∙ ap (λ (ls : List (Line (List ℕ))). ls ++ ended_lines_of (lines ++ rest)) are)
      ∙ accepted_lines rest
