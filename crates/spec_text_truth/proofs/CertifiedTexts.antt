-- Where `check` says yes, its input spells a model and, after it, a certificate that shows what the yes says. It is so of
-- any reading of the certificate's numbers.
--
-- `certified`: where `check` says yes, the lines spell a model and a certificate, and what follows for each model of
--   which the yes is shown holds of this one.
-- `yes_holds`: where `check` says yes, the lines spell a model, and what the yes says holds of it.
-- `wide_yes_is`: where `check --wide` says yes, the lines spell a model, and what the yes says holds of it.
use Rattle.std.proofs.Common.{◌≡◌, ℕ, ◌+◌, List, [], ◌∷◌, ◌++◌, Option, Some, None, Ok, Err, refl, sym, ◌∙◌, ap}
use Rattle.spec_text.specs.declared.line.Line.{Line}
use Rattle.spec_exact.specs.Fraction.{ℚ}
use Rattle.spec_model.specs.declared.parts.SizeLimits.{SizeLimits}
use Rattle.spec_model.specs.Model.{Model, Name}
use Rattle.spec_model.specs.Kept.{usual_limits, large_limits}
use Rattle.spec_mps.specs.declared.style.Style.{Style}
use Rattle.spec_mps.specs.Reader.{State, start}
use Rattle.spec_mps.specs.Steps as text
use Rattle.spec_check.specs.declared.certificate.Certificate.{Certificate}
use Rattle.spec_check.specs.declared.certificate.Known.{Known}
use Rattle.spec_certificate.specs.declared.progress.Progress.TheVariants as progress
use Rattle.spec_check.specs.Certificate.{Holds}
use Rattle.spec_check.specs.Raw.{ExactRaw}
use Rattle.spec_check.specs.Settle.{Settled, certificate_for}
use Rattle.spec_certificate.specs.Text.{Reading, judge_by, step_by, Spelled, settled}
use Rattle.spec_certificate.specs.NarrowText.{Outcome, narrow}
use Rattle.spec_certificate.specs.WideText.{wide}
use Rattle.spec_server.specs.declared.asks.Reply.TheVariants as reply
use Rattle.spec_server.specs.declared.asks.Refusal.{Refusal}
use Rattle.spec_server.specs.declared.asks.Refusal.TheVariants as refusal
use Rattle.spec_server.specs.Machine.{ExactReply, verdict_on}
use Rattle.spec_server.specs.Said.{Step, On, Says, follow, said_by}
use Rattle.spec_commands.specs.CheckOut.{Stage, InText, InCertificate, behind_text, behind_certificate, check_step, said}
use Rattle.spec_commands.specs.CheckWideOut.{wide_verdict_on, behind_wide, wide_step, wide_said}
use Rattle.spec_server.specs.TextSaid.{behind_line, text_step}
use Rattle.spec_text_truth.specs.Certified.{IsCertifiedBy, IsCertified, IsWidelyCertified}
use Rattle.spec_truth.proofs.ReplyLines.{yes_to}
use Rattle.spec_truth.proofs.Shown.{IsShown, shown_holds, yes_shown}
use Rattle.spec_text_truth.proofs.WideShown.{wide_yes_holds}

-- a refusal is no yes to a certificate
no_yes : (why : Refusal Name (List ℕ)) (what : Known ℚ) →
    ◌≡◌ {A = Option ExactReply} (Some (reply.Refused why)) (Some (yes_to what)) → ⊥
no_yes why what e = cc

-- where a line of the certificate leads, which is its line n, by what is said of a certificate
abbrev behind_by : (Model → Settled (Certificate (List ℚ)) → ExactReply) → Model → ℕ → Outcome → Step Stage ExactReply
behind_by on m n (progress.More raw) = On (InCertificate m (Some raw) n)
behind_by on m n (progress.Done raw) = Says (on m (certificate_for m raw))
behind_by on m n progress.Unfit = Says (reply.Refused (refusal.Unfit n))

-- lines of a text, and of a certificate whose numbers are read so
module _ (read : Reading ℚ) (limits : SizeLimits) (on : Model → Settled (Certificate (List ℚ)) → ExactReply)
    (next : Stage → Line (List ℕ) → Step Stage ExactReply)
    (next_in_text : (style : Style) (s : State) (n : ℕ) (line : Line (List ℕ)) →
    next (InText style s n) line ≡ behind_text style (n + 1) (text.step limits style s line))
    (next_in_certificate : (m : Model) (so_far : Option ExactRaw) (n : ℕ) (line : Line (List ℕ)) →
    next (InCertificate m so_far n) line ≡ behind_by on m (n + 1) (step_by read so_far line)) where
  abbrev says : List (Line (List ℕ)) → Stage → Option ExactReply
  says lines stage = said_by next stage lines

  -- ---- in the certificate

  record IsCertificate (m : Model) (so_far : Option ExactRaw) (n : ℕ) (lines : List (Line (List ℕ)))
      (what : Known ℚ) : Type 0 where
    raw : ExactRaw
    judged : judge_by read so_far (n + 1) lines ≡ Spelled raw
    says_yes : on m (certificate_for m raw) ≡ yes_to what

  in_certificate : (m : Model) (so_far : Option ExactRaw) (n : ℕ) (lines : List (Line (List ℕ)))
      (what : Known ℚ) →
      says lines (InCertificate m so_far n) ≡ Some (yes_to what) → IsCertificate m so_far n lines what
  in_certificate m so_far n [] what h = cc
  in_certificate m so_far n (line ∷ lines) what h =
      by (step_by read so_far line) refl
      (sym (ap (λ t. follow t (says lines)) (next_in_certificate m so_far n line)) ∙ h)
      (λ raw. in_certificate m (Some raw) (n + 1) lines what)
    where
      by : (o : Outcome) → step_by read so_far line ≡ o
          → follow (behind_by on m (n + 1) o) (says lines) ≡ Some (yes_to what)
          → ((raw : ExactRaw) → says lines (InCertificate m (Some raw) (n + 1)) ≡ Some (yes_to what)
          → IsCertificate m (Some raw) (n + 1) lines what)
          → IsCertificate m so_far n (line ∷ lines) what
      by (progress.More raw) is e more =
          let c = more raw e in
          record {
            raw = c.raw;
            judged = ap (settled (n + 1) (λ raw. judge_by read (Some raw) (n + 1 + 1) lines)) is ∙ c.judged;
            says_yes = c.says_yes;
          }
      by (progress.Done raw) is e more =
          let same : on m (certificate_for m raw) ≡ yes_to what = cc in
          record {
            raw = raw;
            judged = ap (settled (n + 1) (λ raw. judge_by read (Some raw) (n + 1 + 1) lines)) is;
            says_yes = same;
          }
      by progress.Unfit is e more =
          absurd (no_yes (refusal.Unfit (n + 1)) what e)

  -- ---- in the text

  record IsText (style : Style) (s : State) (n : ℕ) (lines : List (Line (List ℕ))) (what : Known ℚ) : Type 0 where
    front : List (Line (List ℕ))
    last : Line (List ℕ)
    behind : List (Line (List ℕ))
    cut : lines ≡ front ++ last ∷ behind
    undecided : said_by (text_step limits style) (record { state = s; lines = n }) front ≡ None
    model : Model
    judged : text.judge limits style s (n + 1) (front ++ last ∷ []) ≡ text.Spelled model
    yes : says behind (InCertificate model None 0) ≡ Some (yes_to what)

  in_text : (style : Style) (s : State) (n : ℕ) (lines : List (Line (List ℕ))) (what : Known ℚ) →
      says lines (InText style s n) ≡ Some (yes_to what) → IsText style s n lines what
  unfolding text_step
  in_text style s n [] what h = cc
  in_text style s n (line ∷ lines) what h =
      by (text.step limits style s line) refl
      (sym (ap (λ t. follow t (says lines)) (next_in_text style s n line)) ∙ h)
      (λ t. in_text style t (n + 1) lines what)
    where
      by : (o : text.Outcome) → text.step limits style s line ≡ o
          → follow (behind_text style (n + 1) o) (says lines) ≡ Some (yes_to what)
          → ((t : State) → says lines (InText style t (n + 1)) ≡ Some (yes_to what)
          → IsText style t (n + 1) lines what)
          → IsText style s n (line ∷ lines) what
      by (Ok (text.More t)) is e more =
          let c = more t e in
          record {
            front = line ∷ c.front;
            last = c.last;
            behind = c.behind;
            cut = ap (λ ls. line ∷ ls) c.cut;
            undecided =
                ap (λ o. follow (behind_line (n + 1) o) (λ next. said_by (text_step limits style) next c.front)) is
                ∙ c.undecided;
            model = c.model;
            judged =
                ap (text.settled (n + 1) (λ t. text.judge limits style t (n + 1 + 1) (c.front ++ c.last ∷ []))) is
                ∙ c.judged;
            yes = c.yes;
          }
      by (Ok (text.Done m)) is e more =
          record {
            front = [];
            last = line;
            behind = lines;
            cut = refl;
            undecided = refl;
            model = m;
            judged = ap (text.settled (n + 1) (λ t. text.judge limits style t (n + 1 + 1) [])) is;
            yes = e;
          }
      by (Err code) is e more =
          absurd (no_yes (refusal.Misspelled (record { line = n + 1; code = code })) what e)

  -- with what follows of the model
  certified_by : (style : Style) (lines : List (Line (List ℕ))) (what : Known ℚ) (IsSo : Model → Type 0) →
      ((m : Model) (raw : ExactRaw) → on m (certificate_for m raw) ≡ yes_to what → IsSo m) →
      says lines (InText style start 0) ≡ Some (yes_to what) → IsCertifiedBy read limits style lines IsSo
  certified_by style lines what IsSo go h =
      let t = in_text style start 0 lines what h in
      let c = in_certificate t.model None 0 t.behind what t.yes in
      record {
        front = t.front;
        last = t.last;
        behind = t.behind;
        cut = t.cut;
        undecided = t.undecided;
        model = t.model;
        spelled = t.judged;
        raw = c.raw;
        certified = c.judged;
        is_so = go t.model c.raw c.says_yes;
      }

-- ---- with numbers of 127 bits

-- behind a line of a certificate `check` goes on as each check does, with the verdict at 127 bits
narrow_behind : (m : Model) (n : ℕ) (o : Outcome) → behind_certificate m n o ≡ behind_by verdict_on m n o
narrow_behind m n (progress.More raw) = refl
narrow_behind m n (progress.Done raw) = refl
narrow_behind m n progress.Unfit = refl

-- on a line of a text `check` goes on as the reader of texts does, at the usual limits
narrow_in_text : (style : Style) (s : State) (n : ℕ) (line : Line (List ℕ)) →
    check_step (InText style s n) line ≡ behind_text style (n + 1) (text.step usual_limits style s line)
unfolding check_step
narrow_in_text style s n line = refl

-- on a line of a certificate `check` goes on as each check does that reads numbers of 127 bits
narrow_in_certificate : (m : Model) (so_far : Option ExactRaw) (n : ℕ) (line : Line (List ℕ)) →
    check_step (InCertificate m so_far n) line ≡ behind_by verdict_on m (n + 1) (step_by narrow so_far line)
unfolding check_step
narrow_in_certificate m so_far n line = narrow_behind m (n + 1) (step_by narrow so_far line)

pub certified : (style : Style) (lines : List (Line (List ℕ))) (what : Known ℚ) (IsSo : Model → Type 0) →
    ((m : Model) → IsShown m what → IsSo m) → said style lines ≡ Some (yes_to what) → IsCertified style lines IsSo
certified style lines what IsSo go h =
    certified_by narrow usual_limits verdict_on check_step narrow_in_text narrow_in_certificate style lines what IsSo
    (λ m raw e. go m (yes_shown m raw what e)) h

pub yes_holds : (style : Style) (lines : List (Line (List ℕ))) (what : Known ℚ) →
    said style lines ≡ Some (yes_to what) → IsCertified style lines (λ m. Holds m what)
yes_holds style lines what h = certified style lines what (λ m. Holds m what) (λ m s. shown_holds m what s) h

-- ---- with numbers of any width

-- behind a line of a certificate `check --wide` goes on as each check does, with the wide verdict
wide_behind : (m : Model) (n : ℕ) (o : Outcome) → behind_wide m n o ≡ behind_by wide_verdict_on m n o
wide_behind m n (progress.More raw) = refl
wide_behind m n (progress.Done raw) = refl
wide_behind m n progress.Unfit = refl

-- on a line of a text `check --wide` goes on as the reader of texts does, at the large limits
wide_in_text : (style : Style) (s : State) (n : ℕ) (line : Line (List ℕ)) →
    wide_step (InText style s n) line ≡ behind_text style (n + 1) (text.step large_limits style s line)
unfolding wide_step
wide_in_text style s n line = refl

-- on a line of a certificate `check --wide` goes on as each check does that reads wide numbers
wide_in_certificate : (m : Model) (so_far : Option ExactRaw) (n : ℕ) (line : Line (List ℕ)) →
    wide_step (InCertificate m so_far n) line ≡ behind_by wide_verdict_on m (n + 1) (step_by wide so_far line)
unfolding wide_step
wide_in_certificate m so_far n line = wide_behind m (n + 1) (step_by wide so_far line)

pub wide_yes_is : (style : Style) (lines : List (Line (List ℕ))) (what : Known ℚ) →
    wide_said style lines ≡ Some (yes_to what) → IsWidelyCertified style lines (λ m. Holds m what)
wide_yes_is style lines what h =
    certified_by wide large_limits wide_verdict_on wide_step wide_in_text wide_in_certificate style lines what
    (λ m. Holds m what) (λ m raw e. wide_yes_holds m raw what e) h
