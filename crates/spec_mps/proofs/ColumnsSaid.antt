-- The columns of a model, and their numbers, are what the cards of COLUMNS say.
--
-- `columns_kept`: after each card and heading the state's columns are what the cards of COLUMNS say that were read.
-- `columns_named`: the columns of a spelled model are those that the cards name, in that order.
-- `coefficient_said`: each coefficient of a spelled model is the number that the cards give its column for its row.
-- `cost_said`: each cost of a spelled model is the number that the cards give its column for the objective.
use Rattle.std.proofs.Common.{◌≡◌, ℕ, ◌<◌, true, false, Some, None, Ok, List, [], ◌∷◌}
use Rattle.std.proofs.Common.{map, refl, sym, ap, ◌∙◌, subst, subst₂, get_or, All, IfSome}
use Rattle.std.proofs.lemmas.List.Elements.{All-nil, All-cons, All-head, All-tail, All-map}
use Rattle.spec_model.specs.declared.parts.SizeLimits.{SizeLimits}
use Rattle.spec_model.specs.Model.{Model, ExactColumn, no_row, no_column, row, column, height, width, cost, coefficient}
use Rattle.spec_mps.specs.declared.section.Section.{Section}
use Rattle.spec_mps.specs.declared.section.Section.TheVariants as section
use Rattle.spec_mps.specs.declared.section.Seen.{Seen}
use Rattle.spec_mps.specs.declared.style.Style.{Style}
use Rattle.spec_mps.specs.declared.target.Target.TheVariants.{Objective, Row}
use Rattle.spec_mps.specs.Fields.{Fields, text_at}
use Rattle.spec_mps.specs.Reader.{State, start, columns_with, whole_columns}
use Rattle.spec_mps.specs.Steps.{with_section, begun, headed, data_card, model_by, SpellsWithin}
use Rattle.spec_mps.specs.NumberCards.{IsTheNumber, texts_for}
use Rattle.spec_mps.specs.ColumnCards.{named_columns, pairs_of_column}
use Rattle.spec_mps.specs.TextCards.{Lines, cards_in}
use Rattle.spec_mps.proofs.Frames.{Leads, card_leads, without_bounds}
use Rattle.spec_mps.proofs.CardsSoFar.{is_section, SoFar, with_card}
use Rattle.spec_mps.proofs.Order.{IsOrdered}
use Rattle.spec_mps.proofs.CardRuns.{IsKept, both_kept, spelled_by, stays, headed_leads}
use Rattle.spec_mps.proofs.RowViews.{RowView, row_view, rows_stay, rows_stay_headed, objective_place}
use Rattle.spec_mps.proofs.RowsKept.{RowsSay, rows_kept, row_place}
use Rattle.spec_mps.proofs.ColumnLemmas.{none_named}
use Rattle.spec_mps.proofs.ColumnsKept.{IsSaid, IsOpenSaid, ColumnsSay, all_whole, columns_card_says}

-- ---- cards of other sections

-- a list is empty where its image under a function is empty
none_mapped : {A B : Type 0} (f : A → B) (xs : List A) → map f xs ≡ [] → xs ≡ []
none_mapped f [] h = refl
none_mapped f (x ∷ xs) h = absurd (cc)

-- ---- columns that are the same but for their bounds

-- columns have the same names without their bounds
names_beside : (columns : List ExactColumn) →
    map (λ (c : ExactColumn). c.name) (map without_bounds columns) ≡ map (λ (c : ExactColumn). c.name) columns
names_beside [] = refl
names_beside (c ∷ columns) = ap (λ names. c.name ∷ names) (names_beside columns)

-- what cards of COLUMNS say of columns, they say of them without their bounds
said_beside : (view : RowView) (cards : List Fields) (columns : List ExactColumn) → All (IsSaid view cards) columns →
    All (IsSaid view cards) (map without_bounds columns)
said_beside view cards columns h =
    All-map (IsSaid view cards) without_bounds columns (λ i d l. record { numbers = (h i d l).numbers })

-- what cards of COLUMNS say of columns without their bounds, they say of the columns
said_within : (view : RowView) (cards : List Fields) (columns : List ExactColumn) →
    All (IsSaid view cards) (map without_bounds columns) → All (IsSaid view cards) columns
said_within view cards [] h = All-nil (IsSaid view cards)
said_within view cards (c ∷ columns) h =
    let first = All-head (IsSaid view cards) (without_bounds c) (map without_bounds columns) h in
    All-cons (IsSaid view cards) c columns (record { numbers = first.numbers })
    (said_within view cards columns (All-tail (IsSaid view cards) (without_bounds c) (map without_bounds columns) h))

-- outside COLUMNS, a change of bounds alone leaves the columns what the cards say
columns_same : (cards : List Fields) (s t : State) → t.seen.columns ≡ s.seen.columns →
    is_section t.part section.Columns ≡ false → s.column ≡ None → t.column ≡ s.column →
    map without_bounds t.columns ≡ map without_bounds s.columns → row_view t ≡ row_view s → ColumnsSay cards s →
    ColumnsSay cards t
columns_same cards s t seen away shut column columns view k =
    let closed : t.column ≡ None = column ∙ shut in
    record {
      none = λ h.
          let n = k.none (sym seen ∙ h) in
          (n.0, none_mapped without_bounds t.columns (columns ∙ ap (map without_bounds) n.1), closed);
      shut = λ h. closed;
      names =
          ap (λ o. map (λ (c : ExactColumn). c.name) (columns_with t.columns o)) closed
          ∙ sym (names_beside t.columns)
          ∙ ap (map (λ (c : ExactColumn). c.name)) columns
          ∙ names_beside s.columns
          ∙ ap (λ o. map (λ (c : ExactColumn). c.name) (columns_with s.columns o)) (sym shut)
          ∙ k.names;
      whole =
          said_within (row_view t) cards t.columns (subst₂ (λ v cs. All (IsSaid v cards) cs)
          (sym view) (sym columns) (said_beside (row_view s) cards s.columns k.whole));
      last = subst (λ o. IfSome o (IsOpenSaid (row_view t) cards t.columns t.paired)) (sym closed) tt;
    }

-- before COLUMNS, a step that leaves the columns leaves them what the cards say
columns_before : (cards : List Fields) (s t : State) → s.seen.columns ≡ false → t.seen.columns ≡ s.seen.columns →
    t.columns ≡ s.columns → t.column ≡ s.column → ColumnsSay cards s → ColumnsSay cards t
columns_before cards s t new seen columns column k =
    let n = k.none new in
    let none : t.columns ≡ [] = columns ∙ n.1 in
    let closed : t.column ≡ None = column ∙ n.2 in
    record {
      none = λ h. (n.0, none, closed);
      shut = λ h. closed;
      names = (λ i. map (λ (c : ExactColumn). c.name) (columns_with (columns i) (column i))) ∙ k.names;
      whole = subst (All (IsSaid (row_view t) cards)) (sym none) (All-nil (IsSaid (row_view t) cards));
      last = subst (λ o. IfSome o (IsOpenSaid (row_view t) cards t.columns t.paired)) (sym closed) tt;
    }

-- from s to t the open column stays, and the whole columns stay but for their bounds
record ColumnsStay (s t : State) : Type 0 where
  column : t.column ≡ s.column
  columns : map without_bounds t.columns ≡ map without_bounds s.columns

-- a card of a section other than COLUMNS leaves the columns but for their bounds
columns_stay : (part : Section) (s t : State) → is_section (Some part) section.Columns ≡ false → Leads part s t →
    ColumnsStay s t
columns_stay section.Columns s t e h = absurd (cc)
columns_stay section.Bounds s t e h =
    record { column = ap (λ (u : State). u.column) h; columns = ap (λ (u : State). u.columns) h }
columns_stay section.Name s t e h =
    record { column = ap (λ (u : State). u.column) h; columns = ap (λ (u : State). map without_bounds u.columns) h }
columns_stay section.Sense s t e h =
    record { column = ap (λ (u : State). u.column) h; columns = ap (λ (u : State). map without_bounds u.columns) h }
columns_stay section.Rows s t e h =
    record { column = ap (λ (u : State). u.column) h; columns = ap (λ (u : State). map without_bounds u.columns) h }
columns_stay section.RightSides s t e h =
    record { column = ap (λ (u : State). u.column) h; columns = ap (λ (u : State). map without_bounds u.columns) h }
columns_stay section.Ranges s t e h =
    record { column = ap (λ (u : State). u.column) h; columns = ap (λ (u : State). map without_bounds u.columns) h }
columns_stay section.End s t e h =
    record { column = ap (λ (u : State). u.column) h; columns = ap (λ (u : State). map without_bounds u.columns) h }

-- after a data card the state's columns are still what the cards that were read say
columns_at_card : (limits : SizeLimits) (style : Style) (c : SoFar) (s t : State) (part : Section) (card : Fields) →
    IsOrdered s.part s.seen →
    s.part ≡ Some part → data_card limits style (Some part) s card ≡ Ok t → ColumnsSay c.columns s →
    ColumnsSay (with_card part card c).columns t
columns_at_card limits style c s t section.Columns card o here h k =
    let st = stays section.Columns s t (card_leads limits style section.Columns s card t h) in
    let at : is_section s.part section.Columns ≡ true = ap (λ p. is_section p section.Columns) here in
    columns_card_says limits style c.columns card s t (ap (λ (x : Seen). x.columns) st.1 ∙ o.told.columns at)
    (ap (λ p. is_section p section.Columns) st.0 ∙ at) h k
columns_at_card limits style c s t section.Rows card o here h k =
    let leads = card_leads limits style section.Rows s card t h in
    let st = stays section.Rows s t leads in
    columns_before c.columns s t (o.at_rows (ap (λ p. is_section p section.Rows) here))
    (ap (λ (x : Seen). x.columns) st.1) (ap (λ (u : State). u.columns) leads) (ap (λ (u : State). u.column) leads) k
columns_at_card limits style c s t part card o here h k =
    let leads = card_leads limits style part s card t h in
    let st = stays part s t leads in
    let cs = columns_stay part s t refl leads in
    let away : is_section s.part section.Columns ≡ false = ap (λ p. is_section p section.Columns) here in
    columns_same c.columns s t (ap (λ (x : Seen). x.columns) st.1) (ap (λ p. is_section p section.Columns) st.0 ∙ away)
    (k.shut away) cs.column cs.columns (rows_stay part s t refl leads) k

-- ---- sections that begin

-- COLUMNS has not begun before a section where it has not begun with that section
seen_before : (part : Section) (seen : Seen) → (with_section seen part).columns ≡ false → seen.columns ≡ false
seen_before section.Columns seen h = absurd (cc)
seen_before section.Name seen h = h
seen_before section.Sense seen h = h
seen_before section.Rows seen h = h
seen_before section.RightSides seen h = h
seen_before section.Ranges seen h = h
seen_before section.Bounds seen h = h
seen_before section.End seen h = h

-- after a heading the state's columns are still what the cards that were read say
columns_at_heading : (cards : List Fields) (s t : State) (part : Section) (word : List ℕ) →
    headed (begun s part) part word ≡ Ok t → ColumnsSay cards s → ColumnsSay cards t
columns_at_heading cards s t part word h k =
    let u = headed_leads (begun s part) part word t h in
    let columns : t.columns ≡ whole_columns s = ap (λ (x : State). x.columns) u in
    let closed : t.column ≡ None = ap (λ (x : State). x.column) u in
    record {
      none = λ f.
          let n = k.none (seen_before part s.seen (sym (ap (λ (x : State). x.seen.columns) u) ∙ f)) in
          (n.0, columns ∙ (λ i. columns_with (n.1 i) (n.2 i)), closed);
      shut = λ f. closed;
      names = (λ i. map (λ (c : ExactColumn). c.name) (columns_with (columns i) (closed i))) ∙ k.names;
      whole =
          subst₂ (λ v cs. All (IsSaid v cards) cs) (sym (rows_stay_headed s part word t h))
          (sym columns) (all_whole (row_view s) cards s.columns s.paired s.column k.whole k.last);
      last = subst (λ o. IfSome o (IsOpenSaid (row_view t) cards t.columns t.paired)) (sym closed) tt;
    }

pub columns_kept : (limits : SizeLimits) (style : Style) → IsKept limits style (λ c s. ColumnsSay c.columns s)
columns_kept limits style =
    record {
      at_start = record {
        none = λ h. (refl, refl, refl);
        shut = λ h. refl;
        names = sym none_named;
        whole = All-nil (IsSaid (row_view start) []);
        last = tt;
      };
      at_heading = λ c s t part words o new h k. columns_at_heading c.columns s t part (text_at 2 words) h k;
      at_card = λ c s t part card o here h k. columns_at_card limits style c s t part card o here h k;
    }

-- ---- the model

-- each state of the reader has the rows and the columns that the cards say which were read
rows_and_columns : (limits : SizeLimits) (style : Style) → IsKept limits style
    (λ c s. RowsSay c.rows (row_view s) × ColumnsSay c.columns s)
rows_and_columns limits style =
    both_kept limits style (λ c s. RowsSay c.rows (row_view s))
    (λ c s. ColumnsSay c.columns s) (rows_kept limits style) (columns_kept limits style)

pub columns_named : (limits : SizeLimits) (style : Style) (lines : Lines) (m : Model) →
    SpellsWithin limits style lines m →
    map (λ c. c.name) m.columns ≡ named_columns (cards_in style section.Columns lines)
unfolding model_by
columns_named limits style lines m h =
    let e = spelled_by limits style _ (columns_kept limits style) lines m h in
    sym (ap (λ (o : Model). map (λ (c : ExactColumn). c.name) o.columns) e.model_is) ∙ e.holds.names

pub coefficient_said : (limits : SizeLimits) (style : Style) (lines : Lines) (m : Model) →
    SpellsWithin limits style lines m → (i j : ℕ) → i < height m →
    j < width m →
    IsTheNumber (texts_for (row m i).name (pairs_of_column (column m j).name (cards_in style section.Columns lines)))
    (coefficient m i j)
unfolding model_by
coefficient_said limits style lines m h =
    let e = spelled_by limits style _ (rows_and_columns limits style) lines m h in
    let k = e.holds.1 in
    let all =
    all_whole (row_view e.last)
    (cards_in style section.Columns lines) e.last.columns e.last.paired e.last.column k.whole k.last in
    subst (λ (m : Model). (i j : ℕ) → i < height m → j < width m →
    IsTheNumber (texts_for (row m i).name (pairs_of_column (column m j).name (cards_in style section.Columns lines)))
    (coefficient m i j)) e.model_is
    (λ i j l k.
    (all j no_column k).numbers (get_or e.last.rows i no_row).name (Row i) (row_place e.last i e.holds.0.placed l))

pub cost_said : (limits : SizeLimits) (style : Style) (lines : Lines) (m : Model) → SpellsWithin limits style lines m →
    (j : ℕ) → j < width m →
    IsTheNumber (texts_for m.objective (pairs_of_column (column m j).name (cards_in style section.Columns lines)))
    (cost m j)
unfolding model_by
cost_said limits style lines m h =
    let e = spelled_by limits style _ (rows_and_columns limits style) lines m h in
    let k = e.holds.1 in
    let all =
    all_whole (row_view e.last)
    (cards_in style section.Columns lines) e.last.columns e.last.paired e.last.column k.whole k.last in
    subst (λ (m : Model). (j : ℕ) → j < width m → IsTheNumber (texts_for m.objective
    (pairs_of_column (column m j).name (cards_in style section.Columns lines))) (cost m j)) e.model_is
    (λ j k.
    (all j no_column k).numbers e.objective Objective (objective_place (row_view e.last) e.objective e.objective_is))
