-- What holds of each state with the cards so far holds of the last state with all cards of the text.
--
-- `both_kept`: where two properties are kept by each card and heading, both together are kept.
-- `stays`: a data card of any section leaves the section that is here and those that have begun.
-- `headed_leads`: the word behind a heading changes the state in nothing but the name and the sense.
-- `spelled_by`: a property that is kept holds of the state that the model is made of, with all cards of the text.
use Rattle.std.proofs.Common.{◌≡◌, ℕ, ◌+◌, true, false, not, ◌&&◌, Some, None, Ok, Err, List}
use Rattle.std.proofs.Common.{[], ◌∷◌, refl, sym, ap, ◌∙◌, subst, subst₂, is_some}
use Rattle.std.proofs.lemmas.Bool.{and_parts, not-true}
use Rattle.spec_text.specs.declared.line.Line.{Line}
use Rattle.spec_model.specs.declared.parts.SizeLimits.{SizeLimits}
use Rattle.spec_model.specs.Model.{Model, Name}
use Rattle.spec_model.specs.Kept.{is_model_name}
use Rattle.spec_mps.specs.declared.fault.Code.TheVariants as code
use Rattle.spec_mps.specs.declared.style.Style.{Style}
use Rattle.spec_mps.specs.declared.section.Section.{Section}
use Rattle.spec_mps.specs.declared.section.Section.TheVariants as section
use Rattle.spec_mps.specs.Fields.{Fields, word_fields, text_at}
use Rattle.spec_mps.specs.Shapes.{section_of}
use Rattle.spec_mps.specs.Reader.{State, start}
use Rattle.spec_mps.specs.Steps.{take_sense, has_begun, with_section, may_follow, begun, sense_beside}
use Rattle.spec_mps.specs.Steps.{headed, Progress, More, Done, Outcome, more, model_by, finished}
use Rattle.spec_mps.specs.Steps.{begin, section_card, data_card, step, Spelled, settled, judge, SpellsWithin}
use Rattle.spec_mps.proofs.CheckSteps.{step_ok, must_ok, need_ok, same_ok}
use Rattle.spec_mps.proofs.CardsDid.{sense_did}
use Rattle.spec_mps.proofs.SpelledKept.{same_spelled}
use Rattle.spec_mps.specs.TextCards.{Lines, bytes_of}
use Rattle.spec_mps.specs.TextCards.{fields_in}
use Rattle.spec_mps.proofs.Frames.{Leads, card_leads}
use Rattle.spec_mps.proofs.CardsSoFar.{is_section, SoFar}
use Rattle.spec_mps.proofs.CardsSoFar.{nothing}
use Rattle.spec_mps.proofs.CardsSoFar.{with_card, with_title}
use Rattle.spec_mps.proofs.CardsSoFar.{whole}
use Rattle.spec_mps.proofs.Headings.{heading_is}
use Rattle.spec_mps.proofs.Order.{IsOrdered, start_ordered, begun_ordered}
use Rattle.spec_mps.proofs.Order.{LineDid, Skipped, Data, Heading, step_did}
use Rattle.spec_mps.proofs.AllCards.{whole_skip, whole_data, whole_heading, whole_end, all_of, whole_is}

-- ---- a property of the cards so far and the state

-- a property of the cards so far and the reader's state holds at the start, and each heading and each data card that
-- the reader takes keeps it
pub record IsKept (limits : SizeLimits) (style : Style) (Inv : SoFar → State → Type 0) : Type 0 where
  pub at_start : Inv nothing start
  pub at_heading : (c : SoFar) (s t : State) (part : Section) (words : Fields) → IsOrdered s.part s.seen →
      has_begun s.seen part ≡ false → headed (begun s part) part (text_at 2 words) ≡ Ok t → Inv c s →
      Inv (with_title part words c) t
  pub at_card : (c : SoFar) (s t : State) (part : Section) (fields : Fields) → IsOrdered s.part s.seen →
      s.part ≡ Some part → data_card limits style (Some part) s fields ≡ Ok t → Inv c s →
      Inv (with_card part fields c) t

-- two properties together
pub both_kept : (limits : SizeLimits) (style : Style) (P Q : SoFar → State → Type 0) → IsKept limits style P →
    IsKept limits style Q →
    IsKept limits style (λ c s. P c s × Q c s)
both_kept limits style P Q p q =
    record {
      at_start = (p.at_start, q.at_start);
      at_heading =
          λ c s t part words o new h k.
          (p.at_heading c s t part words o new h k.0, q.at_heading c s t part words o new h k.1);
      at_card =
          λ c s t part fields o here h k.
          (p.at_card c s t part fields o here h k.0, q.at_card c s t part fields o here h k.1);
    }

-- the model is the one made of some last state, of which the property holds with these cards
pub record Ends (Inv : SoFar → State → Type 0) (c : SoFar) (m : Model) : Type 0 where
  pub last : State
  pub objective : Name
  pub holds : Inv c last
  pub objective_is : last.objective ≡ Some objective
  pub model_is : model_by last objective ≡ m

-- ---- parts of a state that a step leaves or sets

pub stays : (part : Section) (s t : State) → Leads part s t → (t.part ≡ s.part) × (t.seen ≡ s.seen)
stays section.Name s t h = (ap (λ (u : State). u.part) h, ap (λ (u : State). u.seen) h)
stays part s t h = (ap (λ (u : State). u.part) h, ap (λ (u : State). u.seen) h)

-- a state without its name and its sense
abbrev pub untitled : State → State
untitled s = record s { name = []; sense = None }

-- a sense that is taken leaves all of the state but its name and its sense
took : (s : State) (word : List ℕ) (t : State) → take_sense s word ≡ Ok t → untitled t ≡ untitled s
took s word t h = subst (λ u. untitled u ≡ untitled s) (sense_did s word t h).3 refl

-- a sense beside OBJSENSE, or none, leaves all of the state but its name and its sense
took_beside : (s : State) (word : List ℕ) (t : State) → sense_beside s word ≡ Ok t → untitled t ≡ untitled s
took_beside s [] t h = subst (λ u. untitled u ≡ untitled s) (same_ok s t h) refl
took_beside s (b ∷ bs) t h = took s (b ∷ bs) t h

pub headed_leads : (s : State) (part : Section) (word : List ℕ) (t : State) → headed s part word ≡ Ok t →
    untitled t ≡ untitled s
headed_leads s section.Name word t h =
    let a = must_ok (is_model_name word) code.Name _ t h in
    subst (λ u. untitled u ≡ untitled s) (same_ok _ t a.1) refl
headed_leads s section.Sense word t h = took_beside s word t h
headed_leads s section.Columns word t h =
    let a = must_ok (is_some s.objective) code.NoObjective _ t h in
    subst (λ u. untitled u ≡ untitled s) (same_ok s t a.1) refl
headed_leads s part word t h = subst (λ u. untitled u ≡ untitled s) (same_ok s t h) refl

-- ---- one line

-- two states with which reading goes on are the same where the two results are
same_more : (s t : State) → More s ≡ More t → s ≡ t
same_more s t h = cc

-- these words name this section, which may follow and has not begun, and its beginning leads to p
record HeadingDid (s : State) (words : Fields) (part : Section) (p : Progress) : Type 0 where
  part_is : section_of (text_at 1 words) ≡ Some part
  may : may_follow s.seen part ≡ true
  new : has_begun s.seen part ≡ false
  did : begin s part (text_at 2 words) ≡ Ok p

-- a heading without fault names a section that may follow and has not begun
heading_did : (s : State) (words : Fields) (p : Progress) → section_card s words ≡ Ok p →
    (part : Section) × HeadingDid s words part p
unfolding section_card
heading_did s words p h =
    let a = need_ok (section_of (text_at 1 words)) code.UnknownSection _ p h in
    let b = must_ok (may_follow s.seen a.0 && not (has_begun s.seen a.0)) code.SectionOrder _ p a.2 in
    let c = and_parts (may_follow s.seen a.0) (not (has_begun s.seen a.0)) b.0 in
    (a.0, record { part_is = a.1; may = c.0; new = not-true _ c.1; did = b.1 })

-- a heading is ENDATA and the text is finished, or it begins another section
data Begun (s : State) (part : Section) (word : List ℕ) (p : Progress) : Type 0 where
  Ended : (part_is : part ≡ section.End) → (did : finished s ≡ Ok p) → Begun s part word p
  Began : (other : is_section (Some part) section.End ≡ false) → (next : State) →
      (did : headed (begun s part) part word ≡ Ok next) → (goes : More next ≡ p) → Begun s part word p

-- after a heading without fault of another section than ENDATA, reading goes on
begins_by : (s : State) (part : Section) (word : List ℕ) (p : Progress) → is_section (Some part) section.End ≡ false →
    more (headed (begun s part) part word) ≡ Ok p → Begun s part word p
begins_by s part word p e h =
    let a = step_ok (headed (begun s part) part word) (λ t. Ok (More t)) p h in
    Began e a.0 a.1 (same_ok (More a.0) p a.2)

-- a section that begins without fault is ENDATA, or reading goes on
begin_did : (s : State) (part : Section) (word : List ℕ) (p : Progress) → begin s part word ≡ Ok p → Begun s part word p
begin_did s section.End word p h = Ended refl h
begin_did s section.Name word p h = begins_by s section.Name word p refl h
begin_did s section.Sense word p h = begins_by s section.Sense word p refl h
begin_did s section.Rows word p h = begins_by s section.Rows word p refl h
begin_did s section.Columns word p h = begins_by s section.Columns word p refl h
begin_did s section.RightSides word p h = begins_by s section.RightSides word p refl h
begin_did s section.Ranges word p h = begins_by s section.Ranges word p refl h
begin_did s section.Bounds word p h = begins_by s section.Bounds word p refl h

-- ---- the lines after a state

-- a text that finishes without fault has an objective, and its model is that of the state
finished_did : (s : State) (p : Progress) → finished s ≡ Ok p →
    (objective : Name) × (s.objective ≡ Some objective) × (Done (model_by s objective) ≡ p)
unfolding finished
finished_did s p h =
    let a = need_ok s.objective code.NoObjective _ p h in
    (a.0, a.1, same_ok (Done (model_by s a.0)) p a.2)

-- two models with which reading is done are the same where the two results are
same_done : (m o : Model) → Done m ≡ Done o → m ≡ o
same_done m o h = cc

module _ (limits : SizeLimits) (style : Style) (Inv : SoFar → State → Type 0) (kept : IsKept limits style Inv) where
  -- with the property, the lines after a state lead to the model
  abbrev Leads_on : Lines → Model → State → Type 0
  Leads_on lines m s = (d : SoFar) → IsOrdered s.part s.seen → Inv d s → Ends Inv (whole d style s.part s.seen lines) m

  line_goes : (c : SoFar) (s t : State) (l : Line (List ℕ)) (lines : Lines) (m : Model) →
      LineDid limits style s (bytes_of l) (More t) → IsOrdered s.part s.seen → Inv c s → Leads_on lines m t →
      Ends Inv (whole c style s.part s.seen (l ∷ lines)) m
  line_goes c s t l lines m (Skipped skipped same) o k f =
      subst (λ w. Ends Inv w m) (whole_skip c style s.part s.seen l lines skipped)
      (subst (Leads_on lines m) (sym (same_more s t same)) f c o k)
  line_goes c s t l lines m (Data not_skipped blank d) o k f =
      let st = stays d.part s d.next (card_leads limits style d.part s _ d.next d.did) in
      let g = subst (Leads_on lines m) (sym (same_more d.next t d.goes)) f in
      let ends =
      g _ (subst₂ IsOrdered (sym st.0) (sym st.1) o)
      (kept.at_card c s d.next d.part (fields_in style d.part (bytes_of l)) o d.here d.did k) in
      let to = (λ i. whole (with_card d.part (fields_in style d.part (bytes_of l)) c) style (st.0 i) (st.1 i) lines)
      ∙ ap (λ here. whole (with_card d.part (fields_in style d.part (bytes_of l)) c) style here s.seen lines) d.here
      ∙ whole_data c style d.part s.seen l lines not_skipped blank
      ∙ ap (λ here. whole c style here s.seen (l ∷ lines)) (sym d.here) in
      subst (λ w. Ends Inv w m) to ends
  line_goes c s t l lines m (Heading not_skipped filled did) o k f =
      let h = heading_did s (word_fields (bytes_of l)) (More t) did in
      go h.0 h.1 (begin_did s h.0 (text_at 2 (word_fields (bytes_of l))) (More t) h.1.did)
    where
      go : (part : Section) → HeadingDid s (word_fields (bytes_of l)) part (More t) →
          Begun s part (text_at 2 (word_fields (bytes_of l))) (More t) →
          Ends Inv (whole c style s.part s.seen (l ∷ lines)) m
      go part h (Ended part_is did) = let a = finished_did s (More t) did in absurd (never_more a.2)
        where
          never_more : {m : Model} → Done m ≡ More t → ⊥
          never_more e = cc
      go part h (Began other next did goes) =
          let u = headed_leads (begun s part) part (text_at 2 (word_fields (bytes_of l))) next did in
          let here : next.part ≡ Some part = ap (λ (x : State). x.part) u in
          let seen : next.seen ≡ with_section s.seen part = ap (λ (x : State). x.seen) u in
          let g = subst (Leads_on lines m) (sym (same_more next t goes)) f in
          let ordered = begun_ordered s.part part s.seen h.may h.new other o in
          let ends =
          g _ (subst₂ IsOrdered (sym here) (sym seen) ordered)
          (kept.at_heading c s next part (word_fields (bytes_of l)) o h.new did k) in
          let to = (λ i. whole (with_title part (word_fields (bytes_of l)) c) style (here i) (seen i) lines)
          ∙ whole_heading c style s.part part s.seen l lines
          (heading_is l part not_skipped filled h.part_is) other h.new o in
          subst (λ w. Ends Inv w m) to ends

  line_ends : (c : SoFar) (s : State) (l : Line (List ℕ)) (lines : Lines) (m d : Model) →
      LineDid limits style s (bytes_of l) (Done d) → d ≡ m → Inv c s →
      Ends Inv (whole c style s.part s.seen (l ∷ lines)) m
  line_ends c s l lines m d (Skipped skipped same) e k = absurd (cc)
  line_ends c s l lines m d (Data not_skipped blank did) e k = absurd (never_done did.goes)
    where
      never_done : More did.next ≡ Done d → ⊥
      never_done e = cc
  line_ends c s l lines m d (Heading not_skipped filled did) e k =
      let h = heading_did s (word_fields (bytes_of l)) (Done d) did in
      go h.0 h.1 (begin_did s h.0 (text_at 2 (word_fields (bytes_of l))) (Done d) h.1.did)
    where
      go : (part : Section) → HeadingDid s (word_fields (bytes_of l)) part (Done d) →
          Begun s part (text_at 2 (word_fields (bytes_of l))) (Done d) →
          Ends Inv (whole c style s.part s.seen (l ∷ lines)) m
      go part h (Ended part_is did) =
          let a = finished_did s (Done d) did in
          let heading = heading_is l section.End not_skipped filled (h.part_is ∙ ap (λ p. Some p) part_is) in
          record {
            last = s;
            objective = a.0;
            holds = subst (λ w. Inv w s) (whole_end c style s.part s.seen l lines heading) k;
            objective_is = a.1;
            model_is = same_done _ d a.2 ∙ e;
          }
      go part h (Began other next did goes) = absurd (never_done goes)
        where
          never_done : More next ≡ Done d → ⊥
          never_done e = cc

  settled_ends : (c : SoFar) (s : State) (l : Line (List ℕ)) (lines : Lines) (n : ℕ) (m : Model) (out : Outcome) →
      step limits style s l ≡ out → settled n (λ t. judge limits style t (n + 1) lines) out ≡ Spelled m →
      IsOrdered s.part s.seen →
      Inv c s → ((t : State) → judge limits style t (n + 1) lines ≡ Spelled m → Leads_on lines m t) →
      Ends Inv (whole c style s.part s.seen (l ∷ lines)) m
  settled_ends c s l lines n m (Ok (More t)) e h o k f =
      line_goes c s t l lines m (step_did limits style s l (More t) e) o k (f t h)
  settled_ends c s l lines n m (Ok (Done d)) e h o k f =
      line_ends c s l lines m d (step_did limits style s l (Done d) e) (same_spelled d m h) k
  settled_ends c s l lines n m (Err fault) e h o k f = absurd (cc)

  judged_ends : (lines : Lines) (s : State) (n : ℕ) (m : Model) → judge limits style s n lines ≡ Spelled m →
      Leads_on lines m s
  judged_ends [] s n m h c o k = absurd (cc)
  judged_ends (l ∷ lines) s n m h c o k =
      settled_ends c s l lines n m (step limits style s l) refl h o k (λ t e. judged_ends lines t (n + 1) m e)

  -- a property that is kept holds of the state that a spelled model is made of, with the cards that the reader has gone
  -- through
  pub spelled_ends : (lines : Lines) (m : Model) → SpellsWithin limits style lines m →
      Ends Inv (whole nothing style start.part start.seen lines) m
  spelled_ends lines m h = judged_ends lines start 1 m h nothing start_ordered kept.at_start

-- What is kept holds of the state that the model is made of, with the cards of the text.
pub spelled_by : (limits : SizeLimits) (style : Style) (Inv : SoFar → State → Type 0) → IsKept limits style Inv →
    (lines : Lines) (m : Model) →
    SpellsWithin limits style lines m → Ends Inv (all_of style lines) m
spelled_by limits style Inv kept lines m h =
    subst (λ c. Ends Inv c m) (whole_is style lines) (spelled_ends limits style Inv kept lines m h)
