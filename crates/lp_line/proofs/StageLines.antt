-- Where the lines of a model's text and of a certificate's text lead.
--
-- `certificate_goes_on`: where the reader takes a line and goes on, the line leads to the reader's next state.
-- `certificate_spells`: where the reader's step ends the text, the line says the certificate that it spells.
-- `certificate_is_unfit`: where a line does not fit, it says its number.
use Rattle.std.proofs.Common.{◌≡◌, ℕ, ◌+◌, Option, Some, Ok, Err, List, ◌∷◌, arith, ap, sym, ◌∙◌}
use Rattle.spec_text.specs.declared.line.Line.{Line}
use Rattle.spec_text.specs.declared.line.Line.TheVariants.{End}
use Rattle.spec_model.specs.Model.{Model}
use Rattle.spec_model.specs.declared.parts.SizeLimits.{SizeLimits}
use Rattle.spec_mps.specs.declared.fault.MpsFault.{MpsFault}
use Rattle.spec_mps.specs.declared.style.Style.{Style}
use Rattle.spec_mps.specs.Reader.{State}
use Rattle.spec_mps.specs.Steps as text
use Rattle.spec_certificate.specs.declared.progress.Progress.TheVariants as progress
use Rattle.spec_certificate.specs.Text.{step_by}
use Rattle.spec_certificate.specs.NarrowText as certificate
use Rattle.spec_server.specs.Said.{follow, said_by}
use Rattle.spec_server.specs.TextSaid.{behind_line, text_step}
use Rattle.lp_mps.specs.Feeds as feeds
use Rattle.lp_mps.specs.TextRead.{TextRead}
use Rattle.lp_certificate.specs.Feeds as certificate_feeds
use Rattle.lp_line.specs.declared.hearing.Step.TheVariants.{On, Says}
use Rattle.lp_line.specs.Hearing.{Leads}
use Rattle.lp_line.specs.Stages.{NarrowRead, TextSaysWithin, CertificateSaid, certificate_step, CertificateSays}
use Rattle.lp_line.specs.Stages as stages

-- how many lines a reader of a model's text has read
abbrev lines_read : TextRead → ℕ
lines_read reader = reader.lines

-- ---- a text

module _ (limits : SizeLimits) where
  -- no reading of a model's text goes on after the end of the input
  no_text_behind_end : (style : Style) (state next : State) → text.step limits style state End ≡ Ok
      (text.More next) → ⊥
  unfolding text.step
  no_text_behind_end style state next e = cc

  -- what lines say of a text is the same for equal styles and equal counts of lines
  at_same : (style form : Style) (state : State) (n m : ℕ) (more : List (Line (List ℕ))) → style ≡ form → n ≡ m →
      said_by (text_step limits style) (record { state = state; lines = n }) more ≡
      said_by (text_step limits form) (record { state = state; lines = m }) more
  at_same style form state n m more e d =
      ap (λ (s : Style). said_by (text_step limits s) (record { state = state; lines = n }) more) e
      ∙ ap (λ (k : ℕ). said_by (text_step limits form) (record { state = state; lines = k }) more) d

  -- what a line of a model's text and those behind it say is what the outcome of the line leads to, and then the others
  by_outcome : (old : TextRead) (line : Line (List ℕ)) (more : List (Line (List ℕ))) (outcome : text.Outcome) →
      text.step limits old.style old.state line ≡ outcome →
      said_by (text_step limits old.style) (record { state = old.state; lines = old.lines }) (line ∷ more)
      ≡ follow (behind_line (old.lines + 1) outcome) (λ next. said_by (text_step limits old.style) next more)
  unfolding text_step
  by_outcome old line more outcome e =
      ap (λ (o : text.Outcome). follow (behind_line (old.lines + 1) o) (λ next. said_by (text_step limits old.style)
      next more))
      e

  -- where the reader of texts takes a line and goes on, the line leads to the reader's next state
  pub text_goes_on : (old new : TextRead) (line : Line (List ℕ)) →
      feeds.GoesOn (text.step limits old.style old.state line) old.style (old.lines + 1) new →
      Leads (TextSaysWithin limits) lines_read old line (On new)
  text_goes_on old new line g = record {
    behind = λ more answer h.
        by_outcome old line more (Ok (text.More new.state)) g.state
        ∙ at_same old.style new.style new.state (old.lines + 1) new.lines more (sym g.style) (sym g.lines) ∙ h;
    counts = omega (arith, g.lines);
    no_end = λ h. no_text_behind_end old.style old.state new.state (ap (text.step limits old.style old.state)
        (sym h) ∙ g.state);
  }

  -- where the reader's step ends the text with a model, the line says this model
  pub text_spells : (old : TextRead) (line : Line (List ℕ)) (m : Model) →
      text.step limits old.style old.state line ≡ Ok (text.Done m) →
      Leads (TextSaysWithin limits) lines_read old line (Says (Ok m))
  text_spells old line m e = λ more. by_outcome old line more (Ok (text.Done m)) e

  -- where the reader's step refuses the line, the line says the fault
  pub text_is_wrong : (old : TextRead) (line : Line (List ℕ)) (fault : MpsFault) →
      feeds.IsRefused (text.step limits old.style old.state line) (old.lines + 1) fault →
      Leads (TextSaysWithin limits) lines_read old line (Says (Err fault))
  text_is_wrong old line fault r = λ more.
      by_outcome old line more (Err fault.code) r.code
      ∙ ap (λ (n : ℕ). Some (Err (record { line = n; code = fault.code }))) (sym r.line)

-- ---- a certificate

-- how many lines a reader of a certificate has read
abbrev lines_of_certificate : NarrowRead → ℕ
lines_of_certificate reader = reader.lines

-- a certificate does not go on at the end of the input
no_certificate_behind_end : (raw : Option certificate.ExactRaw) (next : certificate.ExactRaw) →
    certificate.step raw End ≡ progress.More next → ⊥
unfolding step_by
no_certificate_behind_end raw next e = cc

-- the result of a certificate's line and of more lines is what its reader makes of the line, and then of the later ones
by_judgement : (old : NarrowRead) (line : Line (List ℕ)) (more : List (Line (List ℕ)))
    (outcome : certificate.Outcome) →
    certificate.step old.raw line ≡ outcome →
    said_by certificate_step old (line ∷ more) ≡
    follow (stages.behind_line (old.lines + 1) outcome) (λ next. said_by certificate_step next more)
unfolding certificate_step
by_judgement old line more outcome e =
    ap (λ (o : certificate.Outcome). follow (stages.behind_line (old.lines + 1) o)
    (λ next. said_by certificate_step next more)) e

pub certificate_goes_on : (old new : NarrowRead) (line : Line (List ℕ)) →
    certificate_feeds.GoesOn (certificate.step old.raw line) (old.lines + 1) new →
    Leads CertificateSays lines_of_certificate old line (On new)
certificate_goes_on old new line g = record {
  behind = λ more answer h.
      by_judgement old line more (progress.More g.raw) g.state
      ∙ ap (λ (reader : NarrowRead). said_by certificate_step reader more) (sym g.kept) ∙ h;
  counts = omega (arith, ap (λ (reader : NarrowRead). reader.lines) g.kept);
  no_end = λ h. no_certificate_behind_end old.raw g.raw (ap (certificate.step old.raw) (sym h) ∙ g.state);
}

pub certificate_spells : (old : NarrowRead) (line : Line (List ℕ))
    (raw : certificate.ExactRaw) →
    certificate.step old.raw line ≡ progress.Done raw →
    Leads CertificateSays lines_of_certificate old line (Says (Ok raw))
certificate_spells old line raw e = λ more. by_judgement old line more (progress.Done raw) e

pub certificate_is_unfit : (old : NarrowRead) (line : Line (List ℕ)) (n : ℕ) →
    certificate_feeds.IsUnfit (certificate.step old.raw line) (old.lines + 1) n →
    Leads CertificateSays lines_of_certificate old line (Says (Err n))
certificate_is_unfit old line n u = λ more.
    by_judgement old line more progress.Unfit u.state ∙ ap (λ (k : ℕ). Some (Err k)) (sym u.number)
