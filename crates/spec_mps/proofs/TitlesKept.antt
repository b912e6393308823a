-- The name and the sense are what the lines of NAME and OBJSENSE say.
--
-- `name_said`: the name of a spelled model is the second word of its NAME line, and empty where there is none.
-- `sense_said`: the sense of a spelled model is that of the one word under or beside OBJSENSE, or MIN.
use Rattle.std.proofs.Common.{cond, ◌≡◌, ℕ, Bool, true, false, Option, Some, None, is_some, Ok, List, []}
use Rattle.std.proofs.Common.{◌∷◌, ◌++◌, map, refl, sym, ap, ◌∙◌, subst, subst₂, append_assoc, codes, inl, inr}
use Rattle.std.specs.List.{filter}
use Rattle.std.proofs.lemmas.List.{map-append}
use Rattle.std.proofs.lemmas.Option.{same_Some}
use Rattle.spec_text.specs.Words.{same, has_bytes}
use Rattle.spec_text.proofs.WordLemmas.{same_true}
use Rattle.spec_model.specs.declared.parts.SizeLimits.{SizeLimits}
use Rattle.spec_model.specs.declared.parts.Sense.{Sense}
use Rattle.spec_model.specs.declared.parts.Sense.TheVariants.{Min, Max}
use Rattle.spec_model.specs.Model.{Model, Name}
use Rattle.spec_model.specs.Kept.{is_model_name}
use Rattle.spec_mps.specs.declared.fault.Code.TheVariants as code
use Rattle.spec_mps.specs.declared.section.Section.{Section}
use Rattle.spec_mps.specs.declared.section.Section.TheVariants as section
use Rattle.spec_mps.specs.declared.section.Seen.{Seen}
use Rattle.spec_mps.specs.declared.style.Style.{Style}
use Rattle.spec_mps.specs.Fields.{Fields, text_at}
use Rattle.spec_mps.specs.Shapes.{look_up, sense_of, shaped}
use Rattle.spec_mps.specs.Reader.{State}
use Rattle.spec_mps.specs.Steps.{take_sense, sense_card, has_begun, with_section, begun}
use Rattle.spec_mps.specs.Steps.{sense_beside, headed, data_card, sense_or_min, model_by, SpellsWithin}
use Rattle.spec_mps.proofs.TwoPartTests.{none_if}
use Rattle.spec_mps.proofs.CardsDid.{sense_did}
use Rattle.spec_mps.proofs.CheckSteps.{step_ok, must_ok, same_ok}
use Rattle.spec_mps.specs.RowCards.{second_word, sense_words, IsSenseWord, IsSenseOf}
use Rattle.spec_mps.specs.TextCards.{Lines, cards_in, title_of}
use Rattle.spec_mps.proofs.Frames.{Leads, card_leads}
use Rattle.spec_mps.proofs.CardsSoFar.{is_section, SoFar, with_card, or_else, with_title}
use Rattle.spec_mps.proofs.Order.{IsOrdered, not_both}
use Rattle.spec_mps.proofs.CardRuns.{IsKept, spelled_by, stays, headed_leads}

-- a heading notes its section as begun, and no other
seen_stays : (s : State) (part : Section) (word : List ℕ) (t : State) → headed (begun s part) part word ≡ Ok t →
    t.seen ≡ with_section s.seen part
seen_stays s part word t h = ap (λ (u : State). u.seen) (headed_leads (begun s part) part word t h)

-- ---- NAME

-- the name is the second word of the heading NAME, if it came; before NAME begins there is no such heading
record NameSays (title : Option Fields) (begun : Bool) (name : Name) : Type 0 where
  none : begun ≡ false → title ≡ None
  name_is : name ≡ second_word title

-- a sense that is taken leaves the name
took_name : (s : State) (word : List ℕ) (t : State) → take_sense s word ≡ Ok t → t.name ≡ s.name
took_name s word t h = sym (ap (λ (u : State). u.name) (sense_did s word t h).3)

-- a sense beside OBJSENSE, or none, leaves the name
took_name_beside : (s : State) (word : List ℕ) (t : State) → sense_beside s word ≡ Ok t → t.name ≡ s.name
took_name_beside s [] t h = sym (ap (λ (u : State). u.name) (same_ok s t h))
took_name_beside s (b ∷ bs) t h = took_name s (b ∷ bs) t h

-- a heading of another section than NAME leaves the name
name_stays : (s : State) (part : Section) (word : List ℕ) (t : State) → is_section (Some part) section.Name ≡ false →
    headed s part word ≡ Ok t → t.name ≡ s.name
name_stays s section.Name word t e h = absurd (cc)
name_stays s section.Sense word t e h = took_name_beside s word t h
name_stays s section.Columns word t e h =
    let a = must_ok (is_some s.objective) code.NoObjective _ t h in sym (ap (λ (u : State). u.name) (same_ok s t a.1))
name_stays s part word t e h = sym (ap (λ (u : State). u.name) (same_ok s t h))

-- a heading NAME makes its second word the name
named : (s : State) (word : List ℕ) (t : State) → headed s section.Name word ≡ Ok t → t.name ≡ word
named s word t h =
    let a = must_ok (is_model_name word) code.Name _ t h in sym (ap (λ (u : State). u.name) (same_ok _ t a.1))

-- where the name stays, and whether NAME has begun, the name is still what the title says
name_same : (title : Option Fields) (s t : State) → t.seen.name ≡ s.seen.name → t.name ≡ s.name →
    NameSays title s.seen.name s.name → NameSays title t.seen.name t.name
name_same title s t e f k = record { none = λ h. k.none (sym e ∙ h); name_is = f ∙ k.name_is }

-- after a heading the state's name is still what the title says that was read
name_at_heading : (c : SoFar) (s t : State) (part : Section) (words : Fields) → has_begun s.seen part ≡ false →
    headed (begun s part) part (text_at 2 words) ≡ Ok t → NameSays c.name_title s.seen.name s.name →
    NameSays (with_title part words c).name_title t.seen.name t.name
name_at_heading c s t section.Name words new h k =
    let seen : t.seen.name ≡ true = ap (λ (x : Seen). x.name) (seen_stays s section.Name (text_at 2 words) t h) in
    subst (λ o. NameSays (or_else o (Some words)) t.seen.name t.name) (sym (k.none new))
    (record { none = λ f. not_both t.seen.name seen f; name_is = named (begun s section.Name) (text_at 2 words) t h })
name_at_heading c s t section.Sense words new h k =
    name_same c.name_title s t (ap (λ (x : Seen). x.name) (seen_stays s section.Sense (text_at 2 words) t h))
    (name_stays (begun s section.Sense) section.Sense (text_at 2 words) t refl h) k
name_at_heading c s t part words new h k =
    name_same c.name_title s t (ap (λ (x : Seen). x.name) (seen_stays s part (text_at 2 words) t h))
    (name_stays (begun s part) part (text_at 2 words) t refl h) k

-- a data card of any section leaves the name
card_keeps_name : (part : Section) (s t : State) → Leads part s t → t.name ≡ s.name
card_keeps_name section.Name s t h = ap (λ (u : State). u.name) h
card_keeps_name part s t h = ap (λ (u : State). u.name) h

-- each state of the reader has the name that the title says which was read
name_kept : (limits : SizeLimits) (style : Style) → IsKept limits style (λ c s. NameSays c.name_title s.seen.name
    s.name)
name_kept limits style =
    record {
      at_start = record { none = λ h. refl; name_is = refl };
      at_heading = λ c s t part words o new h k. name_at_heading c s t part words new h k;
      at_card =
          λ c s t part card o here h k. let leads = card_leads limits style part s card t h in
          name_same c.name_title s t (ap (λ (x : Seen). x.name) (stays part s t leads).1)
          (card_keeps_name part s t leads) k;
    }

pub name_said : (limits : SizeLimits) (style : Style) (lines : Lines) (m : Model) → SpellsWithin limits style lines m →
    m.name ≡ second_word (title_of section.Name lines)
unfolding model_by
name_said limits style lines m h =
    let e = spelled_by limits style _ (name_kept limits style) lines m h in
    sym (ap (λ (o : Model). o.name) e.model_is) ∙ e.holds.name_is

-- ---- OBJSENSE

-- the words and what a state has
abbrev SenseIs : List (List ℕ) → Option Sense → Type 0
SenseIs [] sense = sense ≡ None
SenseIs (word ∷ []) sense = (x : Sense) × (sense_of word ≡ Some x) × (sense ≡ Some x)
SenseIs (word ∷ other ∷ more) sense = ⊥

-- the sense that was read is what the words beside and under OBJSENSE say; before it begins there is no such heading
-- and no card
record SenseSays (title : Option Fields) (cards : List Fields) (begun : Bool) (sense : Option Sense) : Type 0 where
  none : begun ≡ false → (title ≡ None) × (cards ≡ [])
  sense_is : SenseIs (sense_words title cards) sense

-- a word that is taken says a sense, which is the state's first one
took_sense : (s : State) (word : List ℕ) (t : State) → take_sense s word ≡ Ok t →
    (x : Sense) × (sense_of word ≡ Some x) × (s.sense ≡ None) × (t.sense ≡ Some x)
took_sense s word t h =
    let d = sense_did s word t h in (d.0, d.1, none_if s.sense d.2, sym (ap (λ (u : State). u.sense) d.3))

-- where the state has no sense yet, no word has said one
unsaid : (words : List (List ℕ)) (sense : Option Sense) → sense ≡ None → SenseIs words sense → words ≡ []
unsaid [] sense e k = refl
unsaid (word ∷ []) sense e k = absurd (no_some (sym e ∙ k.2))
  where
    no_some : {x : Sense} → None ≡ Some x → ⊥
    no_some h = cc
unsaid (word ∷ other ∷ more) sense e k = absurd k

-- one more card of OBJSENSE adds its word to those of a sense
words_push : (title : Option Fields) (cards : List Fields) (card : Fields) →
    sense_words title (cards ++ card ∷ []) ≡ sense_words title cards ++ text_at 1 card ∷ []
unfolding sense_words
words_push title cards card =
    ap (λ words. filter has_bytes (second_word title ∷ []) ++ words) (map-append (text_at 1) cards (card ∷ []))
    ∙ sym (append_assoc (filter has_bytes (second_word title ∷ [])) (map (text_at 1) cards) (text_at 1 card ∷ []))

-- a card of OBJSENSE makes the state's sense what the words now say
sense_card_says : (style : Style) (title : Option Fields) (cards : List Fields) (s t : State) (card : Fields) →
    sense_card style s card ≡ Ok t → SenseIs (sense_words title cards) s.sense →
    SenseIs (sense_words title (cards ++ card ∷ [])) t.sense
unfolding sense_card
sense_card_says style title cards s t card h k =
    let a = step_ok (shaped style section.Sense card) _ t h in
    let b = took_sense s (text_at 1 card) t a.2 in
    subst (λ words. SenseIs words t.sense) (sym (words_push title cards card
    ∙ ap (λ words. words ++ text_at 1 card ∷ []) (unsaid (sense_words title cards) s.sense b.2 k)))
    (b.0, b.1, b.3)

-- with the same sense and mark the sense stays what the words say
sense_same : (title : Option Fields) (cards : List Fields) (s t : State) → t.seen.sense ≡ s.seen.sense →
    t.sense ≡ s.sense → SenseSays title cards s.seen.sense s.sense → SenseSays title cards t.seen.sense t.sense
sense_same title cards s t e f k =
    record { none = λ h. k.none (sym e ∙ h); sense_is = subst (SenseIs (sense_words title cards)) (sym f) k.sense_is }

-- after a data card the state's sense is still what the words say that were read
sense_at_card : (limits : SizeLimits) (style : Style) (c : SoFar) (s t : State) (part : Section) (card : Fields) →
    IsOrdered s.part s.seen →
    s.part ≡ Some part → data_card limits style (Some part) s card ≡ Ok t →
    SenseSays c.sense_title c.senses s.seen.sense s.sense →
    SenseSays (with_card part card c).sense_title (with_card part card c).senses t.seen.sense t.sense
sense_at_card limits style c s t section.Sense card o here h k =
    let seen : t.seen.sense ≡ true =
    ap (λ (x : Seen). x.sense) (stays section.Sense s t (card_leads limits style section.Sense s card t h)).1
    ∙ o.told.senses (ap (λ p. is_section p section.Sense) here) in
    record {
      none = λ f. not_both t.seen.sense seen f;
      sense_is = sense_card_says style c.sense_title c.senses s t card h k.sense_is;
    }
sense_at_card limits style c s t part card o here h k =
    let leads = card_leads limits style part s card t h in
    sense_same c.sense_title c.senses s t
    (ap (λ (x : Seen). x.sense) (stays part s t leads).1) (ap (λ (u : State). u.sense) leads) k

-- a heading of another section than OBJSENSE leaves the sense
sense_stays : (s : State) (part : Section) (word : List ℕ) (t : State) → is_section (Some part) section.Sense ≡ false →
    headed s part word ≡ Ok t → t.sense ≡ s.sense
sense_stays s section.Name word t e h =
    let a = must_ok (is_model_name word) code.Name _ t h in sym (ap (λ (u : State). u.sense) (same_ok _ t a.1))
sense_stays s section.Sense word t e h = absurd (cc)
sense_stays s section.Columns word t e h =
    let a = must_ok (is_some s.objective) code.NoObjective _ t h in sym (ap (λ (u : State). u.sense) (same_ok s t a.1))
sense_stays s part word t e h = sym (ap (λ (u : State). u.sense) (same_ok s t h))

-- a heading OBJSENSE sets the sense that the word beside it says, if any
sense_beside_says : (s t : State) (words : Fields) (word : List ℕ) → word ≡ text_at 2 words →
    sense_beside s word ≡ Ok t → s.sense ≡ None → SenseIs (sense_words (Some words) []) t.sense
unfolding sense_words
sense_beside_says s t words [] e h none =
    subst (λ word. SenseIs (filter has_bytes (word ∷ []) ++ []) t.sense) e
    (sym (ap (λ (u : State). u.sense) (same_ok s t h)) ∙ none)
sense_beside_says s t words (b ∷ bs) e h none =
    let a = took_sense s (b ∷ bs) t h in
    subst (λ word. SenseIs (filter has_bytes (word ∷ []) ++ []) t.sense) e (a.0, a.1, a.3)

-- where no words say a sense, the state has none
none_said : (sense : Option Sense) → SenseIs (sense_words None []) sense → sense ≡ None
unfolding sense_words
none_said sense k = k

-- after a heading the state's sense is still what the words say that were read
sense_at_heading : (c : SoFar) (s t : State) (part : Section) (words : Fields) → has_begun s.seen part ≡ false →
    headed (begun s part) part (text_at 2 words) ≡ Ok t → SenseSays c.sense_title c.senses s.seen.sense s.sense →
    SenseSays (with_title part words c).sense_title c.senses t.seen.sense t.sense
sense_at_heading c s t section.Sense words new h k =
    let seen : t.seen.sense ≡ true = ap (λ (x : Seen). x.sense) (seen_stays s section.Sense (text_at 2 words) t h) in
    let before = k.none new in
    let none : s.sense ≡ None =
    none_said s.sense
    (subst₂ (λ title cards. SenseIs (sense_words title cards) s.sense) before.0 before.1 k.sense_is) in
    subst₂ (λ o cards. SenseSays (or_else o (Some words)) cards t.seen.sense t.sense) (sym before.0) (sym before.1)
    (record {
      none = λ f. not_both t.seen.sense seen f;
      sense_is = sense_beside_says (begun s section.Sense) t words (text_at 2 words) refl h none;
    })
sense_at_heading c s t part words new h k =
    sense_same c.sense_title c.senses s t (ap (λ (x : Seen). x.sense) (seen_stays s part (text_at 2 words) t h))
    (sense_stays (begun s part) part (text_at 2 words) t refl h) k

-- without words that say a sense, the state has none
nothing_said : SenseIs (sense_words None []) None
unfolding sense_words
nothing_said = refl

-- each state of the reader has the sense that the words say which were read
sense_kept : (limits : SizeLimits) (style : Style) → IsKept limits style (λ c s. SenseSays c.sense_title c.senses
    s.seen.sense s.sense)
sense_kept limits style =
    record {
      at_start = record { none = λ h. (refl, refl); sense_is = nothing_said };
      at_heading = λ c s t part words o new h k. sense_at_heading c s t part words new h k;
      at_card = λ c s t part card o here h k. sense_at_card limits style c s t part card o here h k;
    }

-- the words of the two senses
abbrev AllSay : List (List ℕ × Sense) → Type 0
AllSay [] = Unit {0}
AllSay (x ∷ xs) = IsSenseWord x.1 x.0 × AllSay xs

-- a word that a table of senses knows is a word of the sense found
looked_up : (word : List ℕ) (sense : Sense) (table : List (List ℕ × Sense)) → AllSay table →
    look_up word table ≡ Some sense → IsSenseWord sense word
looked_up word sense [] a h = absurd (cc)
looked_up word sense (x ∷ xs) a h = go (same word x.0) refl (looked_up word sense xs a.1) h
  where
    go : (b : Bool) → same word x.0 ≡ b → (look_up word xs ≡ Some sense → IsSenseWord sense word) →
        cond b (Some x.1) (look_up word xs) ≡ Some sense → IsSenseWord sense word
    go true e f k = subst₂ IsSenseWord (same_Some x.1 sense k) (sym (same_true word x.0 e)) a.0
    go false e f k = f k

-- a table of the words for senses, each with its sense
abbrev senses : List (List ℕ × Sense)
senses = (codes "MIN", Min) ∷ (codes "MINIMIZE", Min) ∷ (codes "MAX", Max) ∷ (codes "MAXIMIZE", Max) ∷ []

-- a word that is read as a sense is one of that sense
sense_word : (word : List ℕ) (sense : Sense) → sense_of word ≡ Some sense → IsSenseWord sense word
unfolding sense_of
sense_word word sense h = looked_up word sense senses (inl refl, (inr refl, (inl refl, (inr refl, tt)))) h

-- the words that the reader takes as a sense, or as MIN, mean that sense
sense_of_words : (words : List (List ℕ)) (sense : Option Sense) → SenseIs words sense →
    IsSenseOf words (sense_or_min sense)
sense_of_words [] sense k = ap sense_or_min k
sense_of_words (word ∷ []) sense k =
    sense_word word (sense_or_min sense) (k.1 ∙ ap (λ o. Some (sense_or_min o)) (sym k.2))
sense_of_words (word ∷ other ∷ more) sense k = absurd k

pub sense_said : (limits : SizeLimits) (style : Style) (lines : Lines) (m : Model) → SpellsWithin limits style lines m →
    IsSenseOf (sense_words (title_of section.Sense lines) (cards_in style section.Sense lines)) m.sense
unfolding model_by
sense_said limits style lines m h =
    let e = spelled_by limits style _ (sense_kept limits style) lines m h in
    subst (IsSenseOf _) (ap (λ (o : Model). o.sense) e.model_is) (sense_of_words _ e.last.sense e.holds.sense_is)
