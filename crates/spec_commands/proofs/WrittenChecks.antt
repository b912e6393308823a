-- What the command `check` says of a model's written text with the certificate of an answer after it.
--
-- `certificate_said`: what `check` says of the lines of a certificate is the verdict on the certificate that they
--   spell.
-- `free_checks`: `check` accepts a usual model's text in free form with the certificate of its answer behind it.
-- `fixed_checks`: `check` accepts a usual model's text in fixed form, where it has one, with the certificate of its
--   answer behind it.
use Rattle.std.proofs.Common.{◌≡◌, ℕ, suc, ◌+◌, ◌-◌, ◌≤◌, true, false, Option, Some, None, Ok, Err, List, [], ◌∷◌, ◌++◌}
use Rattle.std.proofs.Common.{get_or, length, take, map, refl, sym, ap, ◌∙◌, append_assoc, arith}
use Rattle.std.specs.Prelude.{codes, All}
use Rattle.std.proofs.lemmas.List.{map-append}
use Rattle.std.proofs.lemmas.List.Elements.{All-map}
use Rattle.spec_text.specs.declared.line.Line.{Line}
use Rattle.spec_text.specs.declared.line.Line.TheVariants.{Text}
use Rattle.spec_text.specs.Lines.{lines_of, ended_lines_of, input_limit}
use Rattle.spec_exact.specs.Fraction.{ℚ}
use Rattle.spec_model.specs.Model.{Model}
use Rattle.spec_model.specs.Kept.{IsUsualModel, usual_limits}
use Rattle.spec_mps.specs.declared.style.Style.{Style}
use Rattle.spec_mps.specs.declared.style.Style.TheVariants.{Free, Fixed}
use Rattle.spec_mps.specs.Reader.{State, start}
use Rattle.spec_mps.specs.Steps as text
use Rattle.spec_mps.specs.Written.{cards_of, cards_text, section_card, line_text, free, fixed, too_wide}
use Rattle.spec_mps.proofs.WrittenSteps.{card_lines, IsPlainLine}
use Rattle.spec_mps.proofs.WrittenLines.{has_its_lines}
use Rattle.spec_mps.proofs.WrittenShort.{cards_short, plain_line}
use Rattle.spec_mps.proofs.WrittenColumnsRead.{columns_are_read}
use Rattle.spec_mps.proofs.WrittenWhole.{free_spells, fixed_spells}
use Rattle.spec_check.specs.declared.certificate.Certificate.{Certificate}
use Rattle.spec_check.specs.declared.certificate.Known.{Known}
use Rattle.spec_check.specs.declared.certificate.Verdict.TheVariants.{Yes}
use Rattle.spec_certificate.specs.declared.progress.Progress.TheVariants as progress
use Rattle.spec_check.specs.Run.{verdict_of}
use Rattle.spec_check.specs.Settle.{certificate_for}
use Rattle.spec_certificate.specs.NarrowText as certificate
use Rattle.spec_certificate.specs.TextWritten.{certificate_lines}
use Rattle.spec_certificate.proofs.ReadBack.{read_back}
use Rattle.spec_pivot.specs.declared.status.Status.{Status}
use Rattle.spec_check.specs.declared.solve_end.SolveEnd.TheVariants.{Ended}
use Rattle.spec_solve.specs.Answers.{MayAnswer}
use Rattle.spec_server.specs.declared.asks.Reply.TheVariants as reply
use Rattle.spec_server.specs.Machine.{verdict_on}
use Rattle.spec_server.specs.Output.{ended_lines}
use Rattle.spec_commands.specs.InputSaid.{IsSaidEarly}
use Rattle.spec_server.specs.Said.{follow}
use Rattle.spec_server.specs.Script.{ends_text}
use Rattle.spec_commands.specs.CheckOut.{InText, InCertificate, behind_text, behind_certificate, check_step, said_from}
use Rattle.spec_commands.specs.CheckOut.{said}
use Rattle.spec_commands.proofs.PlainLines.{ended_lines_behind, certificate_plain}
use Rattle.spec_commands.proofs.TextEnds.{done_ends}
use Rattle.spec_commands.proofs.WrittenEnds.{inner_cards, inner_lines}
use Rattle.spec_commands.proofs.WrittenLengths.{take_behind}
use Rattle.spec_commands.proofs.CertificateLengths.{text_fits}

-- ---- a text of which the last line alone ends it

-- after the last line of a model's text, `check` reads the lines behind as a certificate for the model that the text
-- spells
text_leads : (style : Style) (m : Model) (lines : List (Line (List ℕ))) (last : Line (List ℕ)) (s : State) (n : ℕ) →
    All (λ l. ends_text l ≡ false) lines
    → text.judge usual_limits style s (n + 1) (lines ++ last ∷ []) ≡ text.Spelled m
    → (more : List (Line (List ℕ))) → said_from (InText style s n) (lines ++ last ∷ more) ≡ said_from
    (InCertificate m None 0) more
unfolding check_step
text_leads style m [] last s n inner h more = by (text.step usual_limits style s last) h
  where
    by : (o : text.Outcome) → text.settled (n + 1) (λ t. text.judge usual_limits style t (n + 1 + 1) [])
        o ≡ text.Spelled m
        → follow (behind_text style (n + 1) o) (λ stage. said_from stage more) ≡ said_from (InCertificate m None 0) more
    by (Ok (text.More t)) e = cc
    by (Ok (text.Done d)) e = let same : d ≡ m = cc in ap (λ d. said_from (InCertificate d None 0) more) same
    by (Err code) e = cc
text_leads style m (l ∷ lines) last s n inner h more =
    by (text.step usual_limits style s l) refl h (λ t. text_leads style m lines last t (n + 1)
    (λ k d p. inner (suc k) d (omega arith)))
  where
    by : (o : text.Outcome) → text.step usual_limits style s l ≡ o → text.settled (n + 1)
        (λ t. text.judge usual_limits style t (n + 1 + 1) (lines ++ last ∷ [])) o ≡ text.Spelled m
        → ((t : State) → text.judge usual_limits style t (n + 1 + 1) (lines ++ last ∷ []) ≡ text.Spelled m →
        (more : List (Line (List ℕ))) → said_from (InText style t (n + 1)) (lines ++ last ∷ more) ≡ said_from
        (InCertificate m None 0) more)
        → follow (behind_text style (n + 1) o) (λ stage. said_from stage (lines ++ last ∷ more)) ≡ said_from
        (InCertificate m None 0) more
    by (Ok (text.More t)) q e go = go t e more
    by (Ok (text.Done d)) q e go =
        absurd (let z : true ≡ false = sym (done_ends usual_limits style s l d q) ∙ inner 0 l (omega arith) in cc)
    by (Err code) q e go = cc

-- ---- a certificate's text

-- two certificates are equal where they are equal as verdicts on lines
same_spelled : (a b : certificate.ExactRaw) → certificate.Spelled a ≡ certificate.Spelled b → a ≡ b
same_spelled a b e = cc

-- what is said of the certificate that lines spell
pub certificate_said : (m : Model) (lines : List (Line (List ℕ))) (so_far : Option certificate.ExactRaw) (n : ℕ)
    (raw : certificate.ExactRaw) → certificate.judge so_far (n + 1) lines ≡ certificate.Spelled raw
    → said_from (InCertificate m so_far n) lines ≡ Some (verdict_on m (certificate_for m raw))
unfolding check_step
certificate_said m [] so_far n raw h = cc
certificate_said m (l ∷ lines) so_far n raw h = by (certificate.step so_far l) h
    (λ next. certificate_said m lines (Some next) (n + 1) raw)
  where
    by : (o : certificate.Outcome) → certificate.settled (n + 1) (λ next. certificate.judge (Some next) (n + 1 + 1)
        lines) o ≡ certificate.Spelled raw
        → ((next : certificate.ExactRaw) → certificate.judge (Some next) (n + 1 + 1) lines ≡ certificate.Spelled raw →
        said_from (InCertificate m (Some next) (n + 1)) lines ≡ Some (verdict_on m (certificate_for m raw)))
        → follow (behind_certificate m (n + 1) o) (λ stage. said_from stage lines) ≡ Some
        (verdict_on m (certificate_for m raw))
    by (progress.More next) e go = go next e
    by (progress.Done other) e go = ap (λ raw. Some (verdict_on m (certificate_for m raw))) (same_spelled other raw e)
    by progress.Unfit e go = cc

-- ---- both

module _ (style : Style) (m : Model) (kept : IsUsualModel m)
    (spells : text.Spells style (lines_of (cards_text style (cards_of m))) m)
    (budget : ℕ) (known : Known ℚ) (cert : Certificate (List ℚ)) (basis : Option (List Status)) (pivots : ℕ)
    (h : MayAnswer m budget (Ended known cert basis pivots)) where
  -- the lines of a usual model's text are plain
  plain_cards : All (λ card. IsPlainLine (line_text style card)) (cards_of m)
  plain_cards = λ i d l. plain_line style (get_or (cards_of m) i d) (cards_short m kept.0 i d l)

  -- the lines of the cards before ENDATA
  abbrev body : List (Line (List ℕ))
  body = card_lines style (inner_cards m)

  -- the lines of a model's text are those of the cards before ENDATA, and ENDATA
  lines_split : card_lines style (cards_of m) ≡ body ++ Text (codes "ENDATA") ∷ []
  unfolding cards_of
  lines_split = map-append (λ card. Text (line_text style card)) (inner_cards m) (section_card (codes "ENDATA") ∷ [])

  -- no line before ENDATA ends the text
  body_inner : All (λ l. ends_text l ≡ false) body
  body_inner =
      All-map (λ (l : Line (List ℕ)). ends_text l ≡ false) (λ card. Text (line_text style card)) (inner_cards m)
      (inner_lines style m)

  -- the lines before ENDATA and ENDATA spell the model
  body_spells : text.judge usual_limits style start (0 + 1) (body ++ Text (codes "ENDATA") ∷ []) ≡ text.Spelled m
  body_spells =
      ap (text.judge usual_limits style start 1) (sym (has_its_lines style (cards_of m) plain_cards ∙ lines_split))
      ∙ spells

  -- the bytes of the model's text
  abbrev model : List ℕ
  model = cards_text style (cards_of m)

  -- the bytes of the certificate's lines
  abbrev behind : List ℕ
  behind = ended_lines (certificate_lines m cert)

  -- the lines that end in the model's text, the certificate and more bytes are those of the three, one after the other
  whole_lines : (more : List ℕ) → ended_lines_of ((model ++ behind) ++ more)
      ≡ body ++ Text (codes "ENDATA") ∷ (map Text (certificate_lines m cert) ++ ended_lines_of more)
  unfolding ended_lines
  whole_lines more =
      let rest : List (Line (List ℕ)) = map Text (certificate_lines m cert) ++ ended_lines_of more in
      ap ended_lines_of (append_assoc model (ended_lines (certificate_lines m cert)) more)
      ∙ ended_lines_behind (line_text style) (cards_of m) (ended_lines (certificate_lines m cert) ++ more) plain_cards
      ∙ ap (λ ls. card_lines style (cards_of m) ++ ls) (ended_lines_behind (λ line. line) (certificate_lines m cert)
      more (certificate_plain m kept.0 cert h.0 h.1))
      ∙ ap (λ ls. ls ++ rest) lines_split
      ∙ append_assoc body (Text (codes "ENDATA") ∷ []) rest

  -- `check` says yes to the model's text and the certificate, within a limit on bytes that they keep, whatever bytes
  -- follow
  within : (limit : ℕ) (more : List ℕ) → length (model ++ behind) ≤ limit →
      said style (ended_lines_of (take limit ((model ++ behind) ++ more))) ≡ Some (reply.Checked (Yes known))
  within limit more fits =
      let r = read_back m cert kept.0 h.0 h.1 in
      let rest : List ℕ = take (limit - length (model ++ behind)) more in
      ap (λ bs. said style (ended_lines_of bs)) (take_behind limit (model ++ behind) more fits)
      ∙ ap (said style) (whole_lines rest)
      ∙ text_leads style m body (Text (codes "ENDATA")) start 0 body_inner body_spells
      (map Text (certificate_lines m cert) ++ ended_lines_of rest)
      ∙ certificate_said m (map Text (certificate_lines m cert) ++ ended_lines_of rest) None 0 r.raw
      (r.spelled (ended_lines_of rest))
      ∙ ap (λ settled. Some (verdict_on m settled)) r.settled
      ∙ ap (λ run. Some (reply.Checked (verdict_of run))) h.2

  -- of the model's text with the certificate behind it, `check` says yes, and what is known, whatever bytes follow
  checks : IsSaidEarly (said style) (model ++ behind) (reply.Checked (Yes known))
  checks more = within input_limit more (text_fits style m kept cert h.0 h.1)

pub free_checks : (m : Model) (budget : ℕ) (known : Known ℚ) (cert : Certificate (List ℚ))
    (basis : Option (List Status)) (pivots : ℕ) → IsUsualModel m → MayAnswer m budget (Ended known cert basis pivots)
    → IsSaidEarly (said Free) (free m ++ ended_lines (certificate_lines m cert)) (reply.Checked (Yes known))
unfolding free
free_checks m budget known cert basis pivots kept h =
    checks Free m kept (free_spells m kept (columns_are_read Free m kept tt)) budget known cert basis pivots h

pub fixed_checks : (m : Model) (budget : ℕ) (known : Known ℚ) (cert : Certificate (List ℚ))
    (basis : Option (List Status)) (pivots : ℕ) → IsUsualModel m → too_wide m ≡ None → MayAnswer m budget
    (Ended known cert basis pivots)
    → IsSaidEarly (said Fixed) (fixed m ++ ended_lines (certificate_lines m cert)) (reply.Checked (Yes known))
unfolding fixed
fixed_checks m budget known cert basis pivots kept fits h =
    checks Fixed m kept (fixed_spells m kept fits (columns_are_read Fixed m kept fits)) budget known cert basis pivots h
