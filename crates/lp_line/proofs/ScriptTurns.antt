-- Where each line of a script leads, between two commands or in the body of one.
--
-- `behind_step`: the result of lines of a script is the request that the first line completes, or else the result of
--   the later lines from the next state.
-- `skips`: a line between two commands that is no command leaves the script between them.
-- `commands`: a command's line completes its request, or begins its body.
-- `text_goes_on`: a line of a model's text that is not its last one leads on in the text.
-- `text_ends`: the last line of a model's text completes the request with what the text says.
-- `certificate_goes_on`: a line of a certificate that is not its last one leads on in the certificate.
-- `certificate_ends`: the last line of a certificate completes the request with what its text says.
-- `ends_so`: the end of the input ends a script between two commands, and cuts one in a body off.
-- `leads_as`: a step equal to one to which a line leads is one to which the line leads.
use Rattle.std.proofs.Common.{◌≡◌, ◌≢◌, ℕ, ◌+◌, ◌≤◌, List, [], ◌∷◌, ◌++◌, Option, Some, None, Ok, Err, Bool, true}
use Rattle.std.proofs.Common.{false, cond, arith, ap, sym, ◌∙◌, append_assoc, refl, subst}
use Rattle.spec_text.specs.declared.line.Line.{Line}
use Rattle.spec_text.specs.declared.line.Line.TheVariants as line
use Rattle.spec_model.specs.Kept.{usual_limits}
use Rattle.spec_mps.specs.declared.style.Style.{Style}
use Rattle.spec_mps.specs.declared.fault.Code.TheVariants.{Cut}
use Rattle.spec_mps.specs.Reader.{State, start}
use Rattle.spec_mps.specs.Steps as text
use Rattle.spec_certificate.specs.declared.progress.Progress.TheVariants as progress
use Rattle.spec_certificate.specs.Text.{step_by}
use Rattle.spec_certificate.specs.NarrowText as certificate
use Rattle.spec_server.specs.declared.addressing.Addressing.{Addressing}
use Rattle.spec_server.specs.declared.asks.Asked.{Asked}
use Rattle.spec_server.specs.Addressing.{addressed_in}
use Rattle.spec_server.specs.Command.{ExactCommand}
use Rattle.spec_server.specs.Machine.{ExactAsk}
use Rattle.spec_server.specs.Said.{Step, follow, said_by}
use Rattle.spec_server.specs.TextSaid.{TextSaid, behind_line, text_step}
use Rattle.spec_server.specs.Script.{Pending, Between, Text, Certificate, ends_text, ends_certificate, ask_of_verdict}
use Rattle.spec_server.specs.Script.{ask_of_judgement}
use Rattle.spec_server.specs.Script.{begun_by, asks_by, pending_after_line, asks_of_line}
use Rattle.lp_mps.specs.TextRead.{TextRead}
use Rattle.lp_line.specs.declared.body.Body.{Body}
use Rattle.lp_line.specs.declared.hearing.Step as code
use Rattle.lp_line.specs.declared.hearing.Step.TheVariants as step
use Rattle.lp_line.specs.declared.script.ScriptStage.{ScriptStage}
use Rattle.lp_line.specs.declared.script.ScriptStage.TheVariants as stage
use Rattle.lp_line.specs.Body.{BodySays, PassesTo}
use Rattle.lp_line.specs.Hearing.{LeadsOn, Leads}
use Rattle.lp_line.specs.Script.{NextAsk, behind_asks, script_step, TextFits, CertificateFits, Fits, ScriptSays}
use Rattle.lp_line.specs.Script.{lines_in, Begins, IsEndOf, verdict_said, judgement_said}
use Rattle.lp_line.specs.Stages.{NarrowRead, TextSays, CertificateSaid, certificate_step, CertificateSays}
use Rattle.lp_line.specs.Stages as stages

-- what lines say is one thing: two things that they say are equal
same_said : {A : Type 0} (a b : A) → ◌≡◌ {A = Option A} (Some a) (Some b) → a ≡ b
same_said a b e = cc

-- ---- where all lines of a text were read, its end says the verdict

-- the end of the input, in any state of a text, refuses the text as cut off
text_cut : (form : Style) (s : State) → text.step usual_limits form s line.End ≡ Err Cut
unfolding text.step
text_cut form s = refl

-- the lines of a text and then the end of the input say the verdict on these lines
text_judged : (form : Style) (s : State) (n : ℕ) (lines : List (Line (List ℕ))) →
    said_by (text_step usual_limits form) (record { state = s; lines = n }) (lines ++ line.End ∷ []) ≡
    Some (verdict_said (text.judge usual_limits form s (n + 1) lines))
unfolding text_step
text_judged form s n [] =
    ap (λ (o : text.Outcome). follow (behind_line (n + 1) o) (λ next. said_by (text_step usual_limits form) next []))
    (text_cut form s)
text_judged form s n (here ∷ lines) = by (text.step usual_limits form s here) (λ t. text_judged form t (n + 1) lines)
  where
    by : (o : text.Outcome)
        → ((t : State) → said_by (text_step usual_limits form) (record { state = t; lines = n + 1 })
        (lines ++ line.End ∷ []) ≡
        Some (verdict_said (text.judge usual_limits form t (n + 1 + 1) lines)))
        → follow (behind_line (n + 1) o) (λ next. said_by (text_step usual_limits form) next (lines ++ line.End ∷ []))
        ≡ Some (verdict_said (text.settled (n + 1) (λ t. text.judge usual_limits form t (n + 1 + 1) lines) o))
    by (Ok (text.More t)) rest = rest t
    by (Ok (text.Done m)) rest = refl
    by (Err code) rest = refl

-- the end of the input, in any state of a certificate, finds it unfit
certificate_cut : (raw : Option certificate.ExactRaw) → certificate.step raw line.End ≡ progress.Unfit
unfolding step_by
certificate_cut raw = refl

-- the lines of a certificate and then the end of the input say the judgement of these lines
certificate_judged : (raw : Option certificate.ExactRaw) (n : ℕ) (lines : List (Line (List ℕ))) →
    said_by certificate_step (record { raw = raw; lines = n }) (lines ++ line.End ∷ []) ≡
    Some (judgement_said (certificate.judge raw (n + 1) lines))
unfolding certificate_step
certificate_judged raw n [] =
    ap (λ (o : certificate.Outcome). follow (stages.behind_line (n + 1) o) (λ next. said_by certificate_step next []))
    (certificate_cut raw)
certificate_judged raw n (here ∷ lines) =
    by (certificate.step raw here) (λ t. certificate_judged (Some t) (n + 1) lines)
  where
    by : (o : certificate.Outcome)
        → ((t : certificate.ExactRaw) →
        said_by certificate_step (record { raw = Some t; lines = n + 1 }) (lines ++ line.End ∷ []) ≡
        Some (judgement_said (certificate.judge (Some t) (n + 1 + 1) lines)))
        → follow (stages.behind_line (n + 1) o) (λ next. said_by certificate_step next (lines ++ line.End ∷ []))
        ≡ Some (judgement_said (certificate.settled (n + 1) (λ t. certificate.judge (Some t) (n + 1 + 1) lines) o))
    by (progress.More t) rest = rest t
    by (progress.Done t) rest = refl
    by progress.Unfit rest = refl

-- ---- what is held of a body fits its lines

-- how many lines a reader of a model's text has read
abbrev lines_read : TextRead → ℕ
lines_read reader = reader.lines

-- how many lines a reader of a certificate has read
abbrev lines_of_certificate : NarrowRead → ℕ
lines_of_certificate reader = reader.lines

-- where the state of a text's reader fits lines, the state after one line more fits these lines and that one
text_passes : (form : Style) (lines : List (Line (List ℕ))) (held next : Body TextRead TextSaid)
    (here : Line (List ℕ)) →
    TextFits form lines held → PassesTo TextSays lines_read held here next → TextFits form (lines ++ here ∷ []) next
text_passes form lines held next here fits p = λ more answer h.
    ap (said_by (text_step usual_limits form) (record { state = start; lines = 0 })) (append_assoc lines (here ∷ [])
    more)
    ∙ fits (here ∷ more) answer (p.behind more answer h)

-- where the state of a text's reader fits lines, the result at the end of the input is the verdict on these lines
text_closes : (form : Style) (lines : List (Line (List ℕ))) (held : Body TextRead TextSaid) (what : TextSaid) →
    TextFits form lines held → BodySays TextSays held (line.End ∷ []) (Some what) →
    verdict_said (text.judge usual_limits form start 1 lines) ≡ what
text_closes form lines held what fits h =
    same_said _ what (sym (text_judged form start 0 lines) ∙ fits (line.End ∷ []) (Some what) h)

-- where the state of a certificate's reader fits lines, the state after one line more fits these lines and that one
certificate_passes : (lines : List (Line (List ℕ)))
    (held next : Body NarrowRead CertificateSaid) (here : Line (List ℕ)) →
    CertificateFits lines held → PassesTo CertificateSays lines_of_certificate held here next →
    CertificateFits (lines ++ here ∷ []) next
certificate_passes lines held next here fits p = λ more answer h.
    ap (said_by certificate_step (record { raw = None; lines = 0 })) (append_assoc lines (here ∷ []) more)
    ∙ fits (here ∷ more) answer (p.behind more answer h)

-- where the state of a certificate's reader fits lines, the result at the end of the input is the verdict on these
-- lines
certificate_closes : (lines : List (Line (List ℕ))) (held : Body NarrowRead CertificateSaid)
    (what : CertificateSaid) →
    CertificateFits lines held → BodySays CertificateSays held (line.End ∷ []) (Some what) →
    judgement_said (certificate.judge None 1 lines) ≡ what
certificate_closes lines held what fits h =
    same_said _ what (sym (certificate_judged None 0 lines) ∙ fits (line.End ∷ []) (Some what) h)

-- ---- steps

-- a line other than the end steps a script to what the requests say that it completes, or to the state behind it
step_given : (addressing : Addressing) (pending : Pending) (here : Line (List ℕ)) → here ≢ line.End →
    script_step addressing pending here ≡
    behind_asks (asks_of_line addressing pending here) (pending_after_line addressing pending here)
unfolding script_step
step_given addressing pending (line.Text bytes) no_end = refl
step_given addressing pending (line.Long len) no_end = refl
step_given addressing pending line.End no_end = absurd (no_end refl)
step_given addressing pending line.Over no_end = refl

pub behind_step : (addressing : Addressing) (pending : Pending) (here : Line (List ℕ)) (more : List (Line (List ℕ)))
    (asks : List (Asked ExactAsk)) →
    here ≢ line.End → asks_of_line addressing pending here ≡ asks →
    said_by (script_step addressing) pending (here ∷ more)
    ≡ follow (behind_asks asks (pending_after_line addressing pending here))
    (λ next. said_by (script_step addressing) next more)
behind_step addressing pending here more asks no_end e =
    ap (λ (st : Step Pending NextAsk). follow st (λ next. said_by (script_step addressing) next more))
    (step_given addressing pending here no_end
    ∙ ap (λ (zs : List (Asked ExactAsk)). behind_asks zs (pending_after_line addressing pending here)) e)

-- a line completes no ask, and leads to the next stage
record GoesTo (from : ScriptStage) (here : Line (List ℕ)) (next : ScriptStage) : Type 0 where
  no_asks : (addressing : Addressing) (pending : Pending) → Fits addressing pending from →
      asks_of_line addressing pending here ≡ []
  fits : (addressing : Addressing) (pending : Pending) → Fits addressing pending from →
      Fits addressing (pending_after_line addressing pending here) next

-- a line that completes no request leads a script on to the state of the reading that fits the script behind the line
leads_on : (from next : ScriptStage) (here : Line (List ℕ)) → here ≢ line.End → GoesTo from here next →
    lines_in next ≤ lines_in from + 1 →
    LeadsOn ScriptSays lines_in from here next
leads_on from next here no_end g few = record {
  behind = λ more answer h addressing pending fits.
      behind_step addressing pending here more [] no_end (g.no_asks addressing pending fits)
      ∙ h addressing (pending_after_line addressing pending here) (g.fits addressing pending fits);
  counts = few;
  no_end = no_end;
}

-- where a line completes one request in each script that fits a state of the reading, it leads from this state to the
-- request
leads_to_ask : (from : ScriptStage) (here : Line (List ℕ)) (asked : Asked ExactAsk) (what : NextAsk) → here ≢ line.End →
    ((addressing : Addressing) (pending : Pending) → Fits addressing pending from →
    asks_of_line addressing pending here ≡ asked ∷ []) →
    what ≡ Ok (Some asked) → Leads ScriptSays lines_in from here (step.Says what)
leads_to_ask from here asked what no_end asks is = λ more addressing pending fits.
    behind_step addressing pending here more (asked ∷ []) no_end (asks addressing pending fits) ∙ ap Some (sym is)

-- ---- a line between two commands

-- a property of the state between two commands holds of each script that fits the reading between two commands
fit_between : (P : Addressing → Pending → Type 0) (own : Addressing) → P own Between →
    (addressing : Addressing) (pending : Pending) → Fits addressing pending (stage.Between own) → P addressing pending
fit_between P own h addressing Between f = subst (λ (a : Addressing). P a Between) f h
fit_between P own h addressing (Text session form lines) f = absurd f
fit_between P own h addressing (Certificate session lines) f = absurd f

pub skips : (own : Addressing) (here : Line (List ℕ)) → here ≢ line.End → None ≡ addressed_in own here →
    Leads ScriptSays lines_in (stage.Between own) here (step.On (stage.Between own))
skips own here no_end e = leads_on (stage.Between own) (stage.Between own) here no_end
    (record {
      no_asks = fit_between (λ a p. asks_of_line a p here ≡ []) own (ap asks_by (sym e));
      fits = fit_between (λ a p. Fits a (pending_after_line a p here) (stage.Between own)) own
          (subst (λ (found : Option (Asked ExactCommand)). Fits own (begun_by found) (stage.Between own)) e refl);
    })
    (omega arith)

pub commands : (own : Addressing) (here : Line (List ℕ)) (addressed : Asked ExactCommand)
    (made : code.Step ScriptStage NextAsk) → here ≢ line.End →
    ◌≡◌ {A = Option (Asked ExactCommand)} (Some addressed) (addressed_in own here) →
    Begins addressed.session addressed.ask made → Leads ScriptSays lines_in (stage.Between own) here made
commands own here addressed (step.On next) no_end e b = leads_on (stage.Between own) next here no_end
    (record {
      no_asks = fit_between (λ a p. asks_of_line a p here ≡ []) own (ap asks_by (sym e) ∙ b.none);
      fits = fit_between (λ a p. Fits a (pending_after_line a p here) next) own
          (subst (λ (found : Option (Asked ExactCommand)). Fits own (begun_by found) next) e (b.fits own));
    })
    (omega (arith, b.counts))
commands own here addressed (step.Says what) no_end e b =
    leads_to_ask (stage.Between own) here b.0 what no_end
    (fit_between (λ a p. asks_of_line a p here ≡ b.0 ∷ []) own (ap asks_by (sym e) ∙ b.2)) b.1

-- ---- a line in the text of a model

-- a property of each text whose lines fit a reader's state holds of each script that fits the reading in that text
fit_text : (P : Addressing → Pending → Type 0) (own : ℕ) (held : Body TextRead TextSaid) →
    ((addressing : Addressing) (form : Style) (lines : List (Line (List ℕ))) → TextFits form lines held →
    P addressing (Text own form lines)) →
    (addressing : Addressing) (pending : Pending) → Fits addressing pending (stage.Text own held) → P addressing pending
fit_text P own held h addressing Between f = absurd f
fit_text P own held h addressing (Text session form lines) f =
    subst (λ (s : ℕ). P addressing (Text s form lines)) f.0 (h addressing form lines f.1)
fit_text P own held h addressing (Certificate session lines) f = absurd f

pub text_goes_on : (own : ℕ) (held next : Body TextRead TextSaid) (here : Line (List ℕ)) → here ≢ line.End →
    false ≡ ends_text here →
    PassesTo TextSays lines_read held here next →
    Leads ScriptSays lines_in (stage.Text own held) here (step.On (stage.Text own next))
text_goes_on own held next here no_end e p = leads_on (stage.Text own held) (stage.Text own next) here no_end
    (record {
      no_asks = fit_text (λ a p. asks_of_line a p here ≡ []) own held
          (λ addressing form lines fits.
          ap (λ (t : Bool). cond t
          (record {
            session = own;
            ask = ask_of_verdict (text.judge usual_limits form start 1
                (lines ++ here ∷ []));
          } ∷ []) [])
          (sym e));
      fits = fit_text (λ a p. Fits a (pending_after_line a p here) (stage.Text own next)) own held
          (λ addressing form lines fits.
          subst (λ (t : Bool). Fits addressing (cond t Between (Text own form (lines ++ here ∷ [])))
          (stage.Text own next)) e
          (refl, text_passes form lines held next here fits p));
    })
    (omega (arith, p.counts))

pub text_ends : (own : ℕ) (held next : Body TextRead TextSaid) (here : Line (List ℕ)) (said : TextSaid) (ask : ExactAsk)
    (what : NextAsk) → here ≢ line.End →
    true ≡ ends_text here → PassesTo TextSays lines_read held here next →
    BodySays TextSays next (line.End ∷ []) (Some said) →
    ((verdict : text.Verdict) → verdict_said verdict ≡ said → ask_of_verdict verdict ≡ ask) →
    what ≡ Ok (Some (record { session = own; ask = ask })) →
    Leads ScriptSays lines_in (stage.Text own held) here (step.Says what)
text_ends own held next here said ask what no_end e p closed asks is =
    leads_to_ask (stage.Text own held) here (record { session = own; ask = ask }) what no_end
    (fit_text (λ a p. asks_of_line a p here ≡ record { session = own; ask = ask } ∷ []) own held
    (λ addressing form lines fits.
    ap (λ (t : Bool). cond t
    (record { session = own; ask = ask_of_verdict (text.judge usual_limits form start 1 (lines ++ here ∷ [])) } ∷ [])
    []) (sym e)
    ∙ ap (λ (a : ExactAsk). record { session = own; ask = a } ∷ [])
    (asks _ (text_closes form (lines ++ here ∷ []) next said (text_passes form lines held next here fits p) closed))))
    is

-- ---- a line in a certificate

-- a property of each certificate whose lines fit a reader's state holds of each script that fits the reading in it
fit_certificate : (P : Addressing → Pending →
    Type 0) (own : ℕ) (held : Body NarrowRead CertificateSaid) →
    ((addressing : Addressing) (lines : List (Line (List ℕ))) → CertificateFits lines held →
    P addressing (Certificate own lines)) →
    (addressing : Addressing) (pending : Pending) → Fits addressing pending (stage.Certificate own held) →
    P addressing pending
fit_certificate P own held h addressing Between f = absurd f
fit_certificate P own held h addressing (Text session form lines) f = absurd f
fit_certificate P own held h addressing (Certificate session lines) f =
    subst (λ (s : ℕ). P addressing (Certificate s lines)) f.0 (h addressing lines f.1)

pub certificate_goes_on : (own : ℕ) (held next : Body NarrowRead CertificateSaid)
    (here : Line (List ℕ)) → here ≢ line.End →
    false ≡ ends_certificate here → PassesTo CertificateSays lines_of_certificate held here next →
    Leads ScriptSays lines_in (stage.Certificate own held) here (step.On (stage.Certificate own next))
certificate_goes_on own held next here no_end e p =
    leads_on (stage.Certificate own held) (stage.Certificate own next) here no_end
    (record {
      no_asks = fit_certificate (λ a p. asks_of_line a p here ≡ []) own held
          (λ addressing lines fits.
          ap (λ (t : Bool). cond t
          (record {
            session = own;
            ask = ask_of_judgement (certificate.judge None 1 (lines ++ here ∷ []));
          } ∷ []) []) (sym e));
      fits = fit_certificate (λ a p. Fits a (pending_after_line a p here) (stage.Certificate own next)) own held
          (λ addressing lines fits.
          subst (λ (t : Bool). Fits addressing (cond t Between (Certificate own (lines ++ here ∷ [])))
          (stage.Certificate own next)) e
          (refl, certificate_passes lines held next here fits p));
    })
    (omega (arith, p.counts))

pub certificate_ends : (own : ℕ) (held next : Body NarrowRead CertificateSaid)
    (here : Line (List ℕ)) (said : CertificateSaid) (ask : ExactAsk)
    (what : NextAsk) → here ≢ line.End → true ≡ ends_certificate here →
    PassesTo CertificateSays lines_of_certificate held here next →
    BodySays CertificateSays next (line.End ∷ []) (Some said) →
    ((judgement : certificate.Judgement) → judgement_said judgement ≡ said → ask_of_judgement judgement ≡ ask) →
    what ≡ Ok (Some (record { session = own; ask = ask })) →
    Leads ScriptSays lines_in (stage.Certificate own held) here (step.Says what)
certificate_ends own held next here said ask what no_end e p closed asks is =
    leads_to_ask (stage.Certificate own held) here (record { session = own; ask = ask }) what no_end
    (fit_certificate (λ a p. asks_of_line a p here ≡ record { session = own; ask = ask } ∷ []) own held
    (λ addressing lines fits.
    ap (λ (t : Bool). cond t
    (record { session = own; ask = ask_of_judgement (certificate.judge None 1 (lines ++ here ∷ [])) } ∷ []) [])
    (sym e)
    ∙ ap (λ (a : ExactAsk). record { session = own; ask = a } ∷ [])
    (asks _ (certificate_closes (lines ++ here ∷ []) next said
    (certificate_passes lines held next here fits p) closed))))
    is

-- ---- the end of the input

pub ends_so : (from : ScriptStage) (here : Line (List ℕ)) (end : NextAsk) → here ≡ line.End → IsEndOf from end →
    Leads ScriptSays lines_in from here (step.Says end)
unfolding script_step
ends_so from here end is e =
    subst (λ (h : Line (List ℕ)). Leads ScriptSays lines_in from h (step.Says end)) (sym is)
    (λ more addressing pending fits. ap Some (e addressing pending fits))

-- the same step
pub leads_as : (from : ScriptStage) (here : Line (List ℕ)) (made is : code.Step ScriptStage NextAsk) → made ≡ is →
    Leads ScriptSays lines_in from here is → Leads ScriptSays lines_in from here made
leads_as from here made is e h =
    subst (λ (m : code.Step ScriptStage NextAsk). Leads ScriptSays lines_in from here m) (sym e) h
