-- What is said of the lines of a text with a basis file behind it is what the readers of both judge these lines to be.
--
-- `said_handed`: where a model and a basis are said of lines, the lines spell a model and behind it no file or one of
--   this basis.
-- `handed_said`: where lines spell a model, and behind it no file or one of a basis, these are said of the lines.
-- `said_text_refused`: where a fault of the text is said of lines, the reader of texts refuses them at this line for
--   it.
-- `said_file_refused`: where a fault of the file is said of lines, a text is behind which the file is wrong at this
--   line.
-- `said_both_cut`: where nothing is said of lines, the text is cut off, or the file behind it is.
use Rattle.std.proofs.Common.{◌≡◌, ℕ, ◌+◌, List, [], ◌∷◌, ◌++◌, Option, Some, None, Result, Ok, Err, refl, sym, ◌∙◌, ap}
use Rattle.std.proofs.Common.{subst, ◌⊎◌, inl, inr}
use Rattle.spec_text.specs.declared.line.Line.{Line}
use Rattle.spec_exact.specs.Fraction.{ℚ}
use Rattle.spec_exact.specs.Narrow.{number_limit}
use Rattle.spec_model.specs.declared.parts.SizeLimits.{SizeLimits}
use Rattle.spec_model.specs.Model.{Model}
use Rattle.spec_mps.specs.declared.fault.Code.TheVariants as code
use Rattle.spec_mps.specs.declared.fault.MpsFault.{MpsFault}
use Rattle.spec_mps.specs.declared.style.Style.{Style}
use Rattle.spec_mps.specs.Reader.{State, start}
use Rattle.spec_mps.specs.Steps as text
use Rattle.spec_pivot.specs.declared.status.Status.{Status}
use Rattle.spec_simplex.specs.declared.ends.FormFault.{FormFault}
use Rattle.spec_simplex.specs.Form.{Form}
use Rattle.spec_bas.specs.declared.fault.BasCode.TheVariants as file_code
use Rattle.spec_bas.specs.declared.fault.BasFault.{BasFault}
use Rattle.spec_bas.specs.Steps as file
use Rattle.spec_bas.specs.Fits.{HasSizeOf}
use Rattle.spec_bas.proofs.Files.{gives_spells, spells_gives}
use Rattle.spec_bas.proofs.FormSizes.{sized}
use Rattle.spec_commands.specs.declared.basis.BasisFault.TheVariants as fault
use Rattle.spec_server.specs.Said.{follow, said_by}
use Rattle.spec_server.specs.TextSaid.{TextSaid, behind_line, text_step}
use Rattle.spec_commands.specs.BasisOut.{Handed, InText, InFile, BasisSaid, begun_file, behind_text, behind_file, basis_step}
use Rattle.spec_commands.specs.BasisOut.{basis_said_from, basis_said}
use Rattle.spec_text_truth.specs.SpelledBasis.{BeginsWithText, form_at_limit, IsFileOf, AreHanded, HaveWrongFile}
use Rattle.spec_text_truth.proofs.TextLemmas.{said_refused, said_cut}

abbrev Lines : Type 0
Lines = List (Line (List ℕ))

-- ---- in the text

-- what is said behind the text of a model
abbrev said_behind : SizeLimits → Model → Lines → Option BasisSaid
said_behind limits m behind = follow (begun_file m (form_at_limit m)) (λ stage. basis_said_from limits stage behind)

abbrev text_said_from : SizeLimits → Style → State → ℕ → Lines → Option TextSaid
text_said_from limits style s n lines = said_by (text_step limits style) (record { state = s; lines = n }) lines

-- the text is cut off, or refused; or it ends, and something is said behind it
data TextEnds (limits : SizeLimits) (style : Style) (s : State) (n : ℕ) (lines : Lines) : Type 0 where
  IsCut : text_said_from limits style s n lines ≡ None → basis_said_from limits (InText style s n) lines ≡ None →
      TextEnds limits style s n lines
  IsRefused : (why : MpsFault) → text_said_from limits style s n lines ≡ Some (Err why) →
      basis_said_from limits (InText style s n) lines ≡ Some (Err (fault.Text why)) → TextEnds limits style s n lines
  IsWhole : (front : Lines) → (last : Line (List ℕ)) → (behind : Lines) → (m : Model) →
      lines ≡ front ++ last ∷ behind → text_said_from limits style s n front ≡ None →
      text.judge limits style s (n + 1) (front ++ last ∷ []) ≡ text.Spelled m →
      basis_said_from limits (InText style s n) lines ≡ said_behind limits m behind → TextEnds limits style s n lines

-- lines of a text are cut off, or are refused, or lead through the text of a model to what is behind it
text_ends : (limits : SizeLimits) (style : Style) (s : State) (n : ℕ) (lines : Lines) → TextEnds limits style s n lines
unfolding basis_step text_step
text_ends limits style s n [] = IsCut refl refl
text_ends limits style s n (line ∷ lines) = by (text.step limits style s line) refl (λ t. text_ends limits style t (n + 1)
    lines)
  where
    on_text : text.Outcome → Lines → Option TextSaid
    on_text o ls = follow (behind_line (n + 1) o) (λ next. said_by (text_step limits style) next ls)

    on_basis : text.Outcome → Option BasisSaid
    on_basis o = follow (behind_text style (n + 1) o) (λ stage. basis_said_from limits stage lines)

    on_judge : text.Outcome → Lines → text.Verdict
    on_judge o ls = text.settled (n + 1) (λ t. text.judge limits style t (n + 1 + 1) ls) o

    go : (t : State) → text.step limits style s line ≡ Ok (text.More t) → TextEnds limits style t (n + 1) lines →
        TextEnds limits style s n (line ∷ lines)
    go t is (IsCut none nothing) = IsCut (ap (λ o. on_text o lines) is ∙ none) (ap on_basis is ∙ nothing)
    go t is (IsRefused why err said) =
        IsRefused why (ap (λ o. on_text o lines) is ∙ err) (ap on_basis is ∙ said)
    go t is (IsWhole front last behind m cut none spelled said) =
        IsWhole (line ∷ front) last behind m (ap (λ ls. line ∷ ls) cut) (ap (λ o. on_text o front) is ∙ none)
        (ap (λ o. on_judge o (front ++ last ∷ [])) is ∙ spelled) (ap on_basis is ∙ said)

    by : (o : text.Outcome) → text.step limits style s line ≡ o → ((t : State) → TextEnds limits style t (n + 1) lines) →
        TextEnds limits style s n (line ∷ lines)
    by (Ok (text.More t)) is more = go t is (more t)
    by (Ok (text.Done m)) is more =
        IsWhole [] line lines m refl refl (ap (λ o. on_judge o []) is) (ap on_basis is)
    by (Err why) is more =
        IsRefused (record { line = n + 1; code = why }) (ap (λ o. on_text o lines) is) (ap on_basis is)

-- After a text whose last line ends it as a model, the lines behind it say what they say as a basis file for that
-- model.
text_leads : (limits : SizeLimits) (style : Style) (s : State) (n : ℕ) (front : Lines) (last : Line (List ℕ)) (behind : Lines) (m : Model) →
    text_said_from limits style s n front ≡ None → text.judge limits style s (n + 1) (front ++ last ∷ []) ≡ text.Spelled
    m →
    basis_said_from limits (InText style s n) (front ++ last ∷ behind) ≡ said_behind limits m behind
unfolding basis_step text_step
text_leads limits style s n [] last behind m none spelled = by (text.step limits style s last) spelled
  where
    by : (o : text.Outcome) → text.settled (n + 1) (λ t. text.judge limits style t (n + 1 + 1) [])
        o ≡ text.Spelled m →
        follow (behind_text style (n + 1) o) (λ stage. basis_said_from limits stage behind) ≡ said_behind limits m behind
    by (Ok (text.More t)) e = cc
    by (Ok (text.Done d)) e = let same : d ≡ m = cc in ap (λ d. said_behind limits d behind) same
    by (Err why) e = cc
text_leads limits style s n (line ∷ front) last behind m none spelled =
    by (text.step limits style s line) none spelled (λ t. text_leads limits style t (n + 1) front last behind m)
  where
    by : (o : text.Outcome) →
        follow (behind_line (n + 1) o) (λ next. said_by (text_step limits style) next front) ≡ None →
        text.settled (n + 1) (λ t. text.judge limits style t (n + 1 + 1) (front ++ last ∷ [])) o ≡ text.Spelled
        m →
        ((t : State) → text_said_from limits style t (n + 1) front ≡ None →
        text.judge limits style t (n + 1 + 1) (front ++ last ∷ []) ≡ text.Spelled m →
        basis_said_from limits (InText style t (n + 1)) (front ++ last ∷ behind) ≡ said_behind limits m behind) →
        follow (behind_text style (n + 1) o) (λ stage. basis_said_from limits stage (front ++ last ∷ behind))
        ≡ said_behind limits m behind
    by (Ok (text.More t)) h e go = go t h e
    by (Ok (text.Done d)) h e go = cc
    by (Err why) h e go = cc

-- ---- in the file

-- where more lines are needed, the file is cut off
abbrev Agrees : Model → Option BasisSaid → file.Verdict → Type 0
Agrees m None verdict = (n : ℕ) × (verdict ≡ file.Refused n file_code.Cut)
Agrees m (Some (Ok handed)) verdict =
    (basis : List Status) × (handed ≡ record { model = m; basis = Some basis }) × (verdict ≡ file.Spelled basis)
Agrees m (Some (Err (fault.Text why))) verdict = ⊥
Agrees m (Some (Err (fault.File why))) verdict = verdict ≡ file.Refused why.line why.code

-- the result of the lines of a basis file, from a state on, agrees with the verdict of the reader of such files
agree : (limits : SizeLimits) (m : Model) (f : Form) (s : file.State) (n : ℕ) (lines : Lines) →
    Agrees m (basis_said_from limits (InFile m f s n) lines) (file.judge m f s (n + 1) lines)
unfolding basis_step
agree limits m f s n [] = (n + 1, refl)
agree limits m f s n (line ∷ lines) = by (file.step m f s line) (λ t. agree limits m f t (n + 1) lines)
  where
    by : (o : file.Outcome)
        → ((t : file.State) → Agrees m (basis_said_from limits (InFile m f t (n + 1)) lines)
        (file.judge m f t (n + 1 + 1) lines))
        → Agrees m (follow (behind_file m f (n + 1) o) (λ stage. basis_said_from limits stage lines))
        (file.settled (n + 1) (λ t. file.judge m f t (n + 1 + 1) lines) o)
    by (Ok (file.More t)) more = more t
    by (Ok (file.Done basis)) more = (basis, refl, refl)
    by (Err why) more = refl

-- ---- both

record EndsText (limits : SizeLimits) (style : Style) (lines : Lines) (what : Option BasisSaid) : Type 0 where
  model : Model
  behind : Lines
  begins : BeginsWithText limits style lines model behind
  said : said_behind limits model behind ≡ what

-- what is said is said of the text, or behind it
data SaidOf (limits : SizeLimits) (style : Style) (lines : Lines) (what : Option BasisSaid) : Type 0 where
  OfCut : (n : ℕ) → text.RefusesWithin limits style lines n code.Cut → what ≡ None → SaidOf limits style lines what
  OfText : (why : MpsFault) → text.RefusesWithin limits style lines why.line why.code → what ≡ Some (Err (fault.Text why)) →
      SaidOf limits style lines what
  Behind : EndsText limits style lines what → SaidOf limits style lines what

-- what is said of lines is said of a text that is cut off, or of one that is refused, or behind a text
said_of : (limits : SizeLimits) (style : Style) (lines : Lines) (what : Option BasisSaid) → basis_said limits style lines ≡ what →
    SaidOf limits style lines what
said_of limits style lines what is = by (text_ends limits style start 0 lines)
  where
    by : TextEnds limits style start 0 lines → SaidOf limits style lines what
    by (IsCut none nothing) =
        let c = said_cut limits style lines none in OfCut c.0 c.1 (sym is ∙ nothing)
    by (IsRefused why err said) = OfText why (said_refused limits style lines why err) (sym is ∙ said)
    by (IsWhole front last behind m cut none spelled said) =
        Behind
        (record {
          model = m;
          behind = behind;
          begins = record { front = front; last = last; cut = cut; undecided = none; spelled = spelled };
          said = sym said ∙ is;
        })

-- ---- what is handed

-- where lines behind a text hand on a model and a basis, the model is the text's and the lines are a file of the basis
file_handed : (limits : SizeLimits) (m : Model) (behind : Lines) (handed : Handed) (form : Result Form (FormFault ℚ)) →
    form_at_limit m ≡ form →
    follow (begun_file m form) (λ stage. basis_said_from limits stage behind) ≡ Some (Ok handed) →
    (m ≡ handed.model) × IsFileOf m form behind handed.basis
file_handed limits m behind handed (Ok f) formed e =
    by (subst (λ o. Agrees m o (file.judge m f (file.start f) 1 behind)) e (agree limits m f (file.start f) 0 behind))
  where
    by : Agrees m (Some (Ok handed)) (file.judge m f (file.start f) 1 behind) →
        (m ≡ handed.model) × IsFileOf m (Ok f) behind handed.basis
    by a =
        let size : HasSizeOf m f = sized (Some number_limit) m f formed in (
          ap (λ (h : Handed). h.model) (sym a.1),
          subst (λ (b : Option (List Status)). IsFileOf m (Ok f) behind b) (ap (λ (h : Handed). h.basis) (sym a.1))
              (gives_spells m f size behind a.0 a.2),
        )
file_handed limits m behind handed (Err why) formed e =
    let bare : Handed = record { model = m; basis = None } in
    let same : bare ≡ handed = cc in
    (ap (λ (h : Handed). h.model) same, ap (λ (h : Handed). h.basis) (sym same))

pub said_handed : (limits : SizeLimits) (style : Style) (lines : Lines) (handed : Handed) → basis_said limits style lines ≡ Some (Ok handed) →
    AreHanded limits style lines handed
said_handed limits style lines handed is = by (said_of limits style lines (Some (Ok handed)) is)
  where
    by : SaidOf limits style lines (Some (Ok handed)) → AreHanded limits style lines handed
    by (OfCut n refuses e) = cc
    by (OfText why refuses e) = cc
    by (Behind t) =
        let f = file_handed limits t.model t.behind handed (form_at_limit t.model) refl t.said in
        record {
          behind = t.behind;
          text = subst (λ (m : Model). BeginsWithText limits style lines m t.behind) f.0 t.begins;
          file =
              subst (λ (m : Model). IsFileOf m (form_at_limit m) t.behind handed.basis) f.0 f.1;
        }

-- where lines behind a text are a file of a basis, the text's model and the basis are said of them
file_says : (limits : SizeLimits) (m : Model) (basis : Option (List Status)) (behind : Lines) (form : Result Form (FormFault ℚ)) →
    form_at_limit m ≡ form → IsFileOf m form behind basis →
    follow (begun_file m form) (λ stage. basis_said_from limits stage behind) ≡ Some (Ok (record { model = m; basis = basis }))
file_says limits m (Some basis) behind (Ok f) formed spells =
    by (basis_said_from limits (InFile m f (file.start f) 0) behind) (agree limits m f (file.start f) 0 behind)
  where
    gives : file.Gives m f behind basis
    gives = spells_gives m f (sized (Some number_limit) m f formed) behind basis spells

    by : (o : Option BasisSaid) → Agrees m o (file.judge m f (file.start f) 1 behind) →
        o ≡ Some (Ok (record { model = m; basis = Some basis }))
    by None h = let e : file.Spelled basis ≡ file.Refused h.0 file_code.Cut = sym gives ∙ h.1 in cc
    by (Some (Ok handed)) h =
        let e : file.Spelled basis ≡ file.Spelled h.0 = sym gives ∙ h.2 in
        let same : h.0 ≡ basis = cc in
        ap (λ (x : Handed). let said : Option BasisSaid = Some (Ok x) in said)
        (h.1 ∙ ap (λ (b : List Status). let x : Handed = record { model = m; basis = Some b } in x) same)
    by (Some (Err (fault.Text why))) h = absurd h
    by (Some (Err (fault.File why))) h =
        let e : file.Spelled basis ≡ file.Refused why.line why.code = sym gives ∙ h in cc
file_says limits m None behind (Ok f) formed h = absurd h
file_says limits m basis behind (Err why) formed h =
    ap (λ (b : Option (List Status)).
    let said : Option BasisSaid = Some (Ok (record { model = m; basis = b })) in said) (sym h)

pub handed_said : (limits : SizeLimits) (style : Style) (lines : Lines) (handed : Handed) → AreHanded limits style lines handed →
    basis_said limits style lines ≡ Some (Ok handed)
handed_said limits style lines handed h =
    let t = h.text in
    ap (basis_said limits style) t.cut
    ∙ text_leads limits style start 0 t.front t.last h.behind handed.model t.undecided t.spelled
    ∙ file_says limits handed.model handed.basis h.behind (form_at_limit handed.model) refl h.file

-- ---- what is refused

pub said_text_refused : (limits : SizeLimits) (style : Style) (lines : Lines) (why : MpsFault) →
    basis_said limits style lines ≡ Some (Err (fault.Text why)) → text.RefusesWithin limits style lines why.line why.code
said_text_refused limits style lines why is = by (said_of limits style lines (Some (Err (fault.Text why))) is)
  where
    behind_none : (m : Model) (behind : Lines) (form : Result Form (FormFault ℚ)) →
        follow (begun_file m form) (λ stage. basis_said_from limits stage behind) ≡ Some (Err (fault.Text why)) → ⊥
    behind_none m behind (Ok f) e =
        subst (λ o. Agrees m o (file.judge m f (file.start f) 1 behind)) e (agree limits m f (file.start f) 0 behind)
    behind_none m behind (Err other) e = cc

    by : SaidOf limits style lines (Some (Err (fault.Text why))) → text.RefusesWithin limits style lines why.line why.code
    by (OfCut n refuses e) = cc
    by (OfText other refuses e) =
        let same : other ≡ why = cc in
        subst (λ (f : MpsFault). text.RefusesWithin limits style lines f.line f.code) same refuses
    by (Behind t) = absurd (behind_none t.model t.behind (form_at_limit t.model) t.said)

pub said_file_refused : (limits : SizeLimits) (style : Style) (lines : Lines) (why : BasFault) →
    basis_said limits style lines ≡ Some (Err (fault.File why)) → HaveWrongFile limits style lines why.line why.code
said_file_refused limits style lines why is = by (said_of limits style lines (Some (Err (fault.File why))) is)
  where
    wrong : (t : EndsText limits style lines (Some (Err (fault.File why)))) (form : Result Form (FormFault ℚ)) →
        form_at_limit t.model ≡ form →
        follow (begun_file t.model form) (λ stage. basis_said_from limits stage t.behind) ≡ Some (Err (fault.File why)) →
        HaveWrongFile limits style lines why.line why.code
    wrong t (Ok f) formed e =
        record {
          model = t.model;
          form = f;
          behind = t.behind;
          text = t.begins;
          formed = formed;
          refused =
              subst (λ o. Agrees t.model o (file.judge t.model f (file.start f) 1 t.behind)) e
              (agree limits t.model f (file.start f) 0 t.behind);
        }
    wrong t (Err other) formed e = cc

    by : SaidOf limits style lines (Some (Err (fault.File why))) → HaveWrongFile limits style lines why.line why.code
    by (OfCut n refuses e) = cc
    by (OfText other refuses e) = cc
    by (Behind t) = wrong t (form_at_limit t.model) refl t.said

pub said_both_cut : (limits : SizeLimits) (style : Style) (lines : Lines) → basis_said limits style lines ≡ None →
    ((n : ℕ) × text.RefusesWithin limits style lines n code.Cut) ⊎ ((n : ℕ) × HaveWrongFile limits style lines n file_code.Cut)
said_both_cut limits style lines is = by (said_of limits style lines None is)
  where
    cut_file : (t : EndsText limits style lines None) (form : Result Form (FormFault ℚ)) → form_at_limit t.model ≡ form →
        follow (begun_file t.model form) (λ stage. basis_said_from limits stage t.behind) ≡ None →
        (n : ℕ) × HaveWrongFile limits style lines n file_code.Cut
    cut_file t (Ok f) formed e =
        let c =
        subst (λ o. Agrees t.model o (file.judge t.model f (file.start f) 1 t.behind)) e
        (agree limits t.model f (file.start f) 0 t.behind) in (
          c.0,
          record {
            model = t.model;
            form = f;
            behind = t.behind;
            text = t.begins;
            formed = formed;
            refused = c.1;
          },
        )
    cut_file t (Err other) formed e = cc

    by : SaidOf limits style lines None →
        ((n : ℕ) × text.RefusesWithin limits style lines n code.Cut) ⊎ ((n : ℕ) × HaveWrongFile limits style lines n file_code.Cut)
    by (OfCut n refuses e) = inl (n, refuses)
    by (OfText other refuses e) = cc
    by (Behind t) = inr (cut_file t (form_at_limit t.model) refl t.said)
