-- What a text spells is a model that may be kept.
use Rattle.std.proofs.Common.{◌≡◌, ℕ, ◌+◌, Option, Some, is_some, Ok, Err, List, []}
use Rattle.std.proofs.Common.{◌∷◌, length, map, All, IsTrue, refl, subst, arith, ◌&&◌, not}
use Rattle.std.proofs.lemmas.List.{length-map}
use Rattle.std.proofs.lemmas.List.Elements.{All-nil, All-cons, All-head, All-tail}
use Rattle.spec_text.specs.declared.line.Line.{Line}
use Rattle.spec_text.specs.declared.line.Line.TheVariants as line
use Rattle.spec_model.specs.declared.parts.SizeLimits.{SizeLimits}
use Rattle.spec_model.specs.Model.{Model, Name, ExactRow, ExactColumn}
use Rattle.spec_model.specs.Kept.{IsModelWithin, IsKeptColumn, is_row_name, is_model_name}
use Rattle.spec_mps.specs.declared.card.Card.{Card}
use Rattle.spec_mps.specs.declared.card.Card.TheVariants as card
use Rattle.spec_mps.specs.declared.fault.Code.TheVariants as code
use Rattle.spec_mps.specs.declared.section.Section.{Section}
use Rattle.spec_mps.specs.declared.section.Section.TheVariants as section
use Rattle.spec_mps.specs.declared.style.Style.{Style}
use Rattle.spec_mps.specs.Fields.{Fields, CardReading, Is, Misplaced, text_at}
use Rattle.spec_mps.specs.Checks.{Check}
use Rattle.spec_mps.specs.Shapes.{section_of, shaped}
use Rattle.spec_mps.specs.Reader.{State, start, whole_columns}
use Rattle.spec_mps.specs.Steps.{take_sense, sense_card, has_begun, may_follow, begun, sense_beside, headed, Progress}
use Rattle.spec_mps.specs.Steps.{More, Done, Outcome, more, model_by, finished, begin, section_card, data_card}
use Rattle.spec_mps.specs.Steps.{on_card, on_reading, reading_of, step, Verdict, Spelled, settled, judge, SpellsWithin}
use Rattle.spec_mps.proofs.CheckSteps.{step_ok, must_ok, need_ok, same_ok}
use Rattle.spec_mps.proofs.SoundRows.{SoundRows, no_rows, with_name}
use Rattle.spec_mps.proofs.SoundColumns.{no_columns, closed, close_column}
use Rattle.spec_mps.proofs.SoundCards.{IsSound, HasFitRange, row_names, rows_card_sound, columns_card_sound}
use Rattle.spec_mps.proofs.SoundCards.{rhs_card_sound, ranges_card_sound, bounds_card_sound}
use Rattle.spec_mps.proofs.NarrowSoFar.{none_narrow, closed_narrow}
use Rattle.spec_mps.proofs.CardsDid.{sense_did}

-- ---- sections

-- a sound state stays sound where a sense is taken
take_sense_sound : {limits : SizeLimits} (s : State) (text : List ℕ) (t : State) → take_sense s text ≡ Ok t →
    IsSound limits s → IsSound limits t
take_sense_sound s text t h sound =
    subst (IsSound _) (sense_did s text t h).3
    (record { rows = sound.rows; fit = sound.fit; columns = sound.columns; narrow = sound.narrow })

-- a sound state stays sound after a card of OBJSENSE
sense_card_sound : {limits : SizeLimits} (style : Style) (s : State) (fields : Fields) (t : State) →
    sense_card style s fields ≡ Ok t →
    IsSound limits s → IsSound limits t
unfolding sense_card
sense_card_sound style s fields t h sound =
    let a = step_ok (shaped style section.Sense fields) _ t h in
    take_sense_sound s (text_at 1 fields) t a.2 sound

-- a sound state stays sound where a section begins
begun_sound : {limits : SizeLimits} (s : State) (part : Section) → IsSound limits s → IsSound limits (begun s part)
begun_sound s part sound =
    record {
      rows = sound.rows;
      fit = sound.fit;
      columns = closed (length (row_names s.rows)) s.columns s.column s.paired sound.columns;
      narrow = closed_narrow s.offset s.rows s.columns s.column sound.narrow;
    }

-- a sound state stays sound with a sense beside OBJSENSE, or none
sense_beside_sound : {limits : SizeLimits} (s : State) (word : List ℕ) (t : State) → sense_beside s word ≡ Ok t →
    IsSound limits s → IsSound limits t
sense_beside_sound s [] t h sound = subst (IsSound _) (same_ok s t h) sound
sense_beside_sound s (b ∷ bs) t h sound = take_sense_sound s (b ∷ bs) t h sound

-- a sound state stays sound after a heading
headed_sound : {limits : SizeLimits} (s : State) (part : Section) (word : List ℕ) (t : State) →
    headed s part word ≡ Ok t → IsSound limits s →
    IsSound limits t
headed_sound s section.Name word t h sound =
    let a = must_ok (is_model_name word) code.Name _ t h in
    subst (IsSound _) (same_ok _ t a.1)
    (record {
      rows = with_name s.name s.objective (row_names s.rows) word a.0 sound.rows;
      fit = sound.fit;
      columns = sound.columns;
      narrow = sound.narrow;
    })
headed_sound s section.Sense word t h sound = sense_beside_sound s word t h sound
headed_sound s section.Columns word t h sound =
    let a = must_ok (is_some s.objective) code.NoObjective _ t h in subst (IsSound _) (same_ok s t a.1) sound
headed_sound s part word t h sound = subst (IsSound _) (same_ok s t h) sound

-- ---- the model

-- what holds of each element of a list's image holds of the image of each of the list's elements
All-unmap : {X Y : Type 0} (P : X → Type 0) (f : Y → X) (ys : List Y) → All P (map f ys) → All (λ y. P (f y)) ys
All-unmap P f [] h = All-nil (λ y. P (f y))
All-unmap P f (y ∷ ys) h =
    All-cons (λ y. P (f y)) y ys (All-head P (f y) (map f ys) h) (All-unmap P f ys (All-tail P (f y) (map f ys) h))

-- two models are the same where the verdicts that say that they are spelled are equal
pub same_spelled : (m o : Model) → Spelled m ≡ Spelled o → m ≡ o
same_spelled m o h = cc

-- ---- within limits of size

module _ (limits : SizeLimits) where
  abbrev IsKept : Model → Type 0
  IsKept m = IsModelWithin limits m

  model_kept : (s : State) (objective : Name) → s.objective ≡ Some objective → IsSound limits s →
      IsKept (model_by s objective)
  unfolding model_by
  model_kept s objective e sound =
      let r = subst (λ o. SoundRows limits s.name o (row_names s.rows)) e sound.rows in
      let c = sound.columns in
      let size : length (row_names s.rows) ≡ length s.rows = length-map s.rows (λ (r : ExactRow). r.name) in
      record {
        few =
            record {
              few_rows = omega (arith, r.few);
              few_columns = omega (arith, c.few, length-map (whole_columns s) (λ (c : ExactColumn). c.name));
            };
        name = r.model_name;
        objective = r.objective_name;
        rows = All-unmap (λ n. IsTrue (is_row_name n)) (λ (r : ExactRow). r.name) s.rows r.each_name;
        ranges = sound.fit;
        columns =
            subst (λ n. All (IsKeptColumn n) (whole_columns s)) size
            (close_column (length (row_names s.rows)) s.paired s.columns s.column c.each c.last);
        rows_distinct = r.distinct;
        columns_distinct = c.distinct;
        offset = sound.narrow.offset;
        narrow_rows = sound.narrow.rows;
        narrow_columns = (closed_narrow s.offset s.rows s.columns s.column sound.narrow).columns;
      }

  -- ---- one line

  abbrev IsSoundProgress : Progress → Type 0
  IsSoundProgress (More s) = IsSound limits s
  IsSoundProgress (Done m) = IsKept m

  more_sound : (check : Check State) (p : Progress) → more check ≡ Ok p → ((t : State) → check ≡ Ok t →
      IsSound limits t) →
      IsSoundProgress p
  more_sound check p h f =
      let a = step_ok check (λ s. Ok (More s)) p h in
      subst IsSoundProgress (same_ok (More a.0) p a.2) (f a.0 a.1)

  finished_sound : (s : State) (p : Progress) → finished s ≡ Ok p → IsSound limits s → IsSoundProgress p
  unfolding finished
  finished_sound s p h sound =
      let a = need_ok s.objective code.NoObjective _ p h in
      subst IsSoundProgress (same_ok (Done (model_by s a.0)) p a.2) (model_kept s a.0 a.1 sound)

  begin_sound : (s : State) (part : Section) (word : List ℕ) (p : Progress) → begin s part word ≡ Ok p →
      IsSound limits s →
      IsSoundProgress p
  begin_sound s section.End word p h sound = finished_sound s p h sound
  begin_sound s part word p h sound =
      more_sound _ p h (λ t k. headed_sound (begun s part) part word t k (begun_sound s part sound))

  section_card_sound : (s : State) (fields : Fields) (p : Progress) → section_card s fields ≡ Ok p → IsSound limits s →
      IsSoundProgress p
  unfolding section_card
  section_card_sound s fields p h sound =
      let a = need_ok (section_of (text_at 1 fields)) code.UnknownSection _ p h in
      let b = must_ok (may_follow s.seen a.0 && not (has_begun s.seen a.0)) code.SectionOrder _ p a.2 in
      begin_sound s a.0 (text_at 2 fields) p b.1 sound

  data_card_sound : (style : Style) (part : Option Section) (s : State) (fields : Fields) (t : State) →
      data_card limits style part s fields ≡ Ok t → IsSound limits s → IsSound limits t
  data_card_sound style (Some section.Sense) s fields t h sound = sense_card_sound style s fields t h sound
  data_card_sound style (Some section.Rows) s fields t h sound = rows_card_sound style s fields t h sound
  data_card_sound style (Some section.Columns) s fields t h sound = columns_card_sound style s fields t h sound
  data_card_sound style (Some section.RightSides) s fields t h sound = rhs_card_sound style s fields t h sound
  data_card_sound style (Some section.Ranges) s fields t h sound = ranges_card_sound style s fields t h sound
  data_card_sound style (Some section.Bounds) s fields t h sound = bounds_card_sound style s fields t h sound
  data_card_sound style part s fields t h sound = absurd (cc)

  card_sound : (style : Style) (s : State) (c : Card Fields) (p : Progress) → on_card limits style s c ≡ Ok p →
      IsSound limits s →
      IsSoundProgress p
  card_sound style s card.Skip p h sound = subst IsSoundProgress (same_ok (More s) p h) sound
  card_sound style s (card.Section fields) p h sound = section_card_sound s fields p h sound
  card_sound style s (card.Given fields) p h sound =
      more_sound _ p h (λ t k. data_card_sound style s.part s fields t k sound)

  reading_sound : (style : Style) (s : State) (reading : CardReading) (p : Progress) →
      on_reading limits style s reading ≡ Ok p →
      IsSound limits s → IsSoundProgress p
  reading_sound style s (Is c) p h sound = card_sound style s c p h sound
  reading_sound style s (Misplaced column) p h sound = absurd (cc)

  step_sound : (style : Style) (s : State) (l : Line (List ℕ)) (p : Progress) → step limits style s l ≡ Ok p →
      IsSound limits s →
      IsSoundProgress p
  unfolding step
  step_sound style s (line.Text bytes) p h sound = reading_sound style s (reading_of style s.part bytes) p h sound
  step_sound style s (line.Long len) p h sound = absurd (cc)
  step_sound style s line.End p h sound = absurd (cc)
  step_sound style s line.Over p h sound = absurd (cc)

  -- ---- a whole text

  start_sound : IsSound limits start
  start_sound = record { rows = no_rows; fit = All-nil HasFitRange; columns = no_columns; narrow = none_narrow }

  settled_kept : (n : ℕ) (next : State → Verdict) (o : Outcome) (m : Model) → settled n next o ≡ Spelled m →
      ((p : Progress) → o ≡ Ok p → IsSoundProgress p) → ((t : State) → next t ≡ Spelled m → IsSound limits t →
      IsKept m) →
      IsKept m
  settled_kept n next (Ok (More t)) m h f g = g t h (f (More t) refl)
  settled_kept n next (Ok (Done d)) m h f g = subst IsKept (same_spelled d m h) (f (Done d) refl)
  settled_kept n next (Err fault) m h f g = absurd (cc)

  judged_kept : (style : Style) (lines : List (Line (List ℕ))) (s : State) (n : ℕ) (m : Model) →
      judge limits style s n lines ≡ Spelled m → IsSound limits s → IsKept m
  judged_kept style [] s n m h sound = absurd (cc)
  judged_kept style (l ∷ lines) s n m h sound =
      settled_kept n (λ t. judge limits style t (n + 1) lines) (step limits style s l) m h
      (λ p k. step_sound style s l p k sound) (λ t k. judged_kept style lines t (n + 1) m k)

  -- a model that a text spells may be kept: it is valid, within the limits, and its numbers are within 127 bits
  pub spelled_kept : (style : Style) (lines : List (Line (List ℕ))) (m : Model) → SpellsWithin limits style lines m →
      IsKept m
  spelled_kept style lines m h = judged_kept style lines start 1 m h start_sound
