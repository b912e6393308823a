-- The objective and the rows are those that the cards of ROWS say.
--
-- `rows_kept`: after each card and heading the objective and the rows are what the cards of ROWS say that were read.
-- `rows_said`: the kinds and names of a spelled model's rows are those on the cards, without the first row of type N.
-- `objective_said`: the objective of a spelled model is the first row of type N on the cards.
-- `row_place`: in a state whose rows are placed, the name of row i stands for row i.
use Rattle.std.proofs.Common.{◌≡◌, ℕ, ◌<◌, ◌≤◌, Bool, true, false, ◌&&◌, cond, ltb, Some, None}
use Rattle.std.proofs.Common.{is_none, Ok, List, [], ◌∷◌, ◌++◌, length, map, refl, sym, ap, ◌∙◌}
use Rattle.std.proofs.Common.{subst, get_or, arith, length-append}
use borrow.Author.Tests.{ltb-true, ltb-false}
use Rattle.std.specs.List.{cons_option}
use Rattle.std.proofs.lemmas.Bool.{and_parts}
use Rattle.std.proofs.Math.ListN.{get_or-map}
use Rattle.std.proofs.Math.Seq.{get_or-append_seam}
use Rattle.std.proofs.lemmas.List.{map-append, get_or_append_left}
use Rattle.std.proofs.lemmas.List.Elements.{filter_map-append}
use Rattle.spec_model.specs.declared.parts.SizeLimits.{SizeLimits}
use Rattle.spec_model.specs.declared.parts.Kind.{Kind}
use Rattle.spec_model.specs.Model.{Model, Name, ExactRow, no_row, is_free}
use Rattle.spec_mps.specs.declared.section.Section.{Section}
use Rattle.spec_mps.specs.declared.section.Section.TheVariants as section
use Rattle.spec_mps.specs.declared.style.Style.{Style}
use Rattle.spec_mps.specs.declared.target.Target.TheVariants.{Row}
use Rattle.spec_mps.specs.Fields.{Fields, text_at}
use Rattle.spec_mps.specs.Shapes.{row_type_of}
use Rattle.spec_mps.specs.Reader.{State, new_row, is_first, with_row}
use Rattle.spec_mps.specs.Steps.{data_card, SpellsWithin, model_by}
use Rattle.spec_mps.proofs.TwoPartTests.{none_if}
use Rattle.spec_mps.specs.RowCards.{Labels, typed, typed_rows, first_free, but_first_free}
use Rattle.spec_mps.specs.TextCards.{Lines, cards_in}
use Rattle.spec_mps.proofs.CardsDid.{rows_did}
use Rattle.spec_mps.proofs.Frames.{card_leads}
use Rattle.spec_mps.proofs.CardsSoFar.{SoFar, with_card}
use Rattle.spec_mps.proofs.CardRuns.{IsKept, spelled_by}
use Rattle.spec_mps.proofs.RowViews.{RowView, labels, many_labels, row_view, rows_stay}
use Rattle.spec_mps.proofs.RowViews.{rows_stay_headed, place_in, place_by_view, no_label, IsPlaced}
use Rattle.spec_mps.proofs.RowViews.{placed_objective, placed_row, placed_new}

-- the objective is the first row of type N on these cards, the rows are all others, and each row's name stands for it
pub record RowsSay (cards : List Fields) (v : RowView) : Type 0 where
  pub objective_is : first_free (typed_rows cards) ≡ v.objective
  pub rows_are : but_first_free (typed_rows cards) ≡ v.rows
  pub placed : IsPlaced v

-- where there are no cards of ROWS, they say that there is no objective and no row
no_rows : RowsSay [] (record { objective = None; rows = [] })
unfolding typed_rows
no_rows =
    record { objective_is = refl; rows_are = refl; placed = record { place = λ i l. absurd (omega arith) } }

-- one more card of ROWS adds the row of its kind and name, which goes last
typed_push : (cards : List Fields) (card : Fields) (kind : Kind) → row_type_of (text_at 1 card) ≡ Some kind →
    typed_rows (cards ++ card ∷ []) ≡ typed_rows cards ++ (kind, text_at 2 card) ∷ []
unfolding typed_rows
typed_push cards card kind h =
    filter_map-append (λ (card : Fields). typed (row_type_of (text_at 1 card)) (text_at 2 card)) cards (card ∷ [])
    ∙ ap (λ t. typed_rows cards ++ cons_option (typed t (text_at 2 card)) []) h

-- ---- one more row

-- a free row behind rows of which none is free is the objective
first_push : (rows : Labels) (kind : Kind) (name : Name) → is_none (first_free rows) && is_free kind ≡ true →
    (first_free (rows ++ (kind, name) ∷ []) ≡ Some name)
    × (but_first_free (rows ++ (kind, name) ∷ []) ≡ but_first_free rows)
first_push [] kind name h = let e : is_free kind ≡ true = h in (rw e refl, rw e refl)
first_push (r ∷ rows) kind name h = go (is_free r.0) (first_push rows kind name) h
  where
    go : (b : Bool) → (is_none (first_free rows) && is_free kind ≡ true →
        (first_free (rows ++ (kind, name) ∷ []) ≡ Some name)
        × (but_first_free (rows ++ (kind, name) ∷ []) ≡ but_first_free rows)) →
        is_none (cond b (Some r.1) (first_free rows)) && is_free kind ≡ true →
        (cond b (Some r.1) (first_free (rows ++ (kind, name) ∷ [])) ≡ Some name)
        × (cond b (rows ++ (kind, name) ∷ []) (r ∷ but_first_free (rows ++ (kind, name) ∷ []))
        ≡ cond b rows (r ∷ but_first_free rows))
    go true f k = absurd (cc)
    go false f k = let g = f k in (g.0, ap (λ l. r ∷ l) g.1)

-- a row that is not free, or is behind a free one, goes last and leaves the objective
later_push : (rows : Labels) (kind : Kind) (name : Name) → is_none (first_free rows) && is_free kind ≡ false →
    (first_free (rows ++ (kind, name) ∷ []) ≡ first_free rows)
    × (but_first_free (rows ++ (kind, name) ∷ []) ≡ but_first_free rows ++ (kind, name) ∷ [])
later_push [] kind name h = let e : is_free kind ≡ false = h in (rw e refl, rw e refl)
later_push (r ∷ rows) kind name h = go (is_free r.0) (later_push rows kind name) h
  where
    go : (b : Bool) → (is_none (first_free rows) && is_free kind ≡ false →
        (first_free (rows ++ (kind, name) ∷ []) ≡ first_free rows)
        × (but_first_free (rows ++ (kind, name) ∷ []) ≡ but_first_free rows ++ (kind, name) ∷ [])) →
        is_none (cond b (Some r.1) (first_free rows)) && is_free kind ≡ false →
        (cond b (Some r.1) (first_free (rows ++ (kind, name) ∷ [])) ≡ cond b (Some r.1) (first_free rows))
        × (cond b (rows ++ (kind, name) ∷ []) (r ∷ but_first_free (rows ++ (kind, name) ∷ []))
        ≡ cond b rows (r ∷ but_first_free rows) ++ (kind, name) ∷ [])
    go true f k = (refl, refl)
    go false f k = let g = f k in (g.0, ap (λ l. r ∷ l) g.1)

-- a row of a new name leaves each row's name standing for that row
placed_push : (v : RowView) (kind : Kind) (name : Name) → place_in v name ≡ None → IsPlaced v →
    IsPlaced (record v { rows = v.rows ++ (kind, name) ∷ [] })
placed_push v kind name free p = record { place = λ i l. by i l (ltb i (length v.rows)) refl }
  where
    old : (i : ℕ) → i < length v.rows →
        place_in (record v { rows = v.rows ++ (kind, name) ∷ [] }) (get_or (v.rows ++ (kind, name) ∷ []) i no_label).1
        ≡ Some (Row i)
    old i l =
        rw (get_or_append_left v.rows ((kind, name) ∷ []) no_label i l)
        (placed_row v (kind, name) (get_or v.rows i no_label).1 (Row i) (p.place i l))

    new : (i : ℕ) → i ≡ length v.rows →
        place_in (record v { rows = v.rows ++ (kind, name) ∷ [] }) (get_or (v.rows ++ (kind, name) ∷ []) i no_label).1
        ≡ Some (Row i)
    new i e =
        subst (λ j. place_in (record v { rows = v.rows ++ (kind, name) ∷ [] })
        (get_or (v.rows ++ (kind, name) ∷ []) j no_label).1 ≡ Some (Row j)) (sym e)
        (rw (get_or-append_seam v.rows (kind, name) [] no_label) (placed_new v kind name free))

    by : (i : ℕ) → i < length (v.rows ++ (kind, name) ∷ []) → (b : Bool) → ltb i (length v.rows) ≡ b →
        place_in (record v { rows = v.rows ++ (kind, name) ∷ [] }) (get_or (v.rows ++ (kind, name) ∷ []) i no_label).1
        ≡ Some (Row i)
    by i l true e = old i (ltb-true i (length v.rows) e)
    by i l false e =
        let most : length v.rows ≤ i = ltb-false i (length v.rows) e in
        new i (omega (arith, length-append v.rows ((kind, name) ∷ [])))

-- after a card of ROWS puts its row, the state has the rows of the cards
row_push : (cards : List Fields) (card : Fields) (s : State) (kind : Kind) →
    row_type_of (text_at 1 card) ≡ Some kind → place_in (row_view s) (text_at 2 card) ≡ None →
    RowsSay cards (row_view s) → RowsSay (cards ++ card ∷ []) (row_view (with_row s kind (text_at 2 card)))
row_push cards card s kind e free k = go (is_first s kind) refl
  where
    name : Name
    name = text_at 2 card

    typed_are : typed_rows (cards ++ card ∷ []) ≡ typed_rows cards ++ (kind, name) ∷ []
    typed_are = typed_push cards card kind e

    test : (b : Bool) → is_first s kind ≡ b → is_none (first_free (typed_rows cards)) && is_free kind ≡ b
    test b h = ap (λ o. is_none o && is_free kind) k.objective_is ∙ h

    go : (b : Bool) → is_first s kind ≡ b →
        RowsSay (cards ++ card ∷ []) (row_view (cond b (record s { objective = Some name })
        (record s { rows = s.rows ++ new_row kind name ∷ [] })))
    go true h =
        let p = first_push (typed_rows cards) kind name (test true h) in
        let none : s.objective ≡ None = none_if s.objective (and_parts (is_none s.objective) (is_free kind) h).0 in
        record {
          objective_is = ap first_free typed_are ∙ p.0;
          rows_are = ap but_first_free typed_are ∙ p.1 ∙ k.rows_are;
          placed =
              record { place = λ i l. placed_objective (row_view s) name _ (Row i) none free (k.placed.place i l) };
        }
    go false h =
        let p = later_push (typed_rows cards) kind name (test false h) in
        let view =
        ap (λ rows. (let v : RowView = record { objective = s.objective; rows = rows } in v))
        (map-append (λ (r : ExactRow). (r.kind, r.name)) s.rows (new_row kind name ∷ [])) in
        subst (RowsSay (cards ++ card ∷ [])) (sym view)
        (record {
          objective_is = ap first_free typed_are ∙ p.0 ∙ k.objective_is;
          rows_are =
              ap but_first_free typed_are ∙ p.1 ∙ ap (λ rows. rows ++ (kind, name) ∷ []) k.rows_are;
          placed = placed_push (row_view s) kind name free k.placed;
        })

-- after a data card the state's rows are still what the cards that were read say
rows_card_kept : (limits : SizeLimits) (style : Style) (c : SoFar) (s t : State) (part : Section) (card : Fields) →
    data_card limits style (Some part) s card ≡ Ok t → RowsSay c.rows (row_view s) →
    RowsSay (with_card part card c).rows (row_view t)
rows_card_kept limits style c s t section.Rows card h k =
    let d = rows_did style s card t h in
    let free : place_in (row_view s) (text_at 2 card) ≡ None =
    sym (place_by_view s (text_at 2 card)) ∙ none_if _ d.free in
    subst (λ u. RowsSay (c.rows ++ card ∷ []) (row_view u)) d.new (row_push c.rows card s d.kind d.kind_is free k)
rows_card_kept limits style c s t part card h k =
    subst (RowsSay c.rows) (sym (rows_stay part s t refl (card_leads limits style part s card t h))) k

pub rows_kept : (limits : SizeLimits) (style : Style) → IsKept limits style (λ c s. RowsSay c.rows (row_view s))
rows_kept limits style =
    record {
      at_start = no_rows;
      at_heading =
          λ c s t part words o new h k. subst (RowsSay c.rows) (sym (rows_stay_headed s part (text_at 2 words) t h)) k;
      at_card = λ c s t part card o here h k. rows_card_kept limits style c s t part card h k;
    }

-- ---- the model's rows

pub rows_said : (limits : SizeLimits) (style : Style) (lines : Lines) (m : Model) → SpellsWithin limits style lines m →
    but_first_free (typed_rows (cards_in style section.Rows lines)) ≡ map (λ r. (r.kind, r.name)) m.rows
unfolding model_by
rows_said limits style lines m h =
    let e = spelled_by limits style _ (rows_kept limits style) lines m h in
    e.holds.rows_are ∙ ap (λ (o : Model). labels o.rows) e.model_is

pub objective_said : (limits : SizeLimits) (style : Style) (lines : Lines) (m : Model) →
    SpellsWithin limits style lines m →
    first_free (typed_rows (cards_in style section.Rows lines)) ≡ Some m.objective
unfolding model_by
objective_said limits style lines m h =
    let e = spelled_by limits style _ (rows_kept limits style) lines m h in
    e.holds.objective_is ∙ e.objective_is ∙ ap (λ (o : Model). Some o.objective) e.model_is

-- a row's name stands for it
pub row_place : (s : State) (i : ℕ) → IsPlaced (row_view s) → i < length s.rows →
    place_in (row_view s) (get_or s.rows i no_row).name ≡ Some (Row i)
row_place s i p l =
    ap (λ (x : Kind × Name). place_in (row_view s) x.1)
    (sym (get_or-map (λ (r : ExactRow). (r.kind, r.name)) s.rows i no_row))
    ∙ p.place i (omega (arith, many_labels s.rows))
