-- The bounds of a model's columns are what BOUNDS says.
use Rattle.std.proofs.Common.{◌≡◌, ◌≢◌, ℕ, zero, suc, ◌+◌, ◌<◌, Bool, true, false, not, cond}
use Rattle.std.proofs.Common.{Option, Some, None, option_map, Ok, List, [], ◌∷◌, ◌++◌, length, refl}
use Rattle.std.proofs.Common.{sym, ap, ◌∙◌, subst, subst₂, get_or, arith, length-append, All}
use borrow.Author.Tests.{lt-ltb}
use Rattle.std.specs.List.{AllPairs, position, position_or_len}
use Rattle.std.proofs.lemmas.List.{length-map, get_or_append_left}
use Rattle.std.proofs.lemmas.List.Elements.{All-nil, All-push}
use Rattle.std.proofs.Math.ListN.{get_or-map}
use Rattle.std.proofs.Math.Seq.{get_or-append_seam}
use Rattle.spec_text.specs.Words.{same}
use Rattle.spec_text.proofs.WordLemmas.{same-refl, same_true}
use Rattle.spec_exact.specs.Fraction.{ℚ, 0ℚ, eq_ℚ}
use Rattle.spec_model.specs.declared.parts.SizeLimits.{SizeLimits}
use Rattle.spec_model.specs.Model.{Model, Name, ExactColumn, no_column, column, width}
use Rattle.spec_mps.specs.declared.fault.Code.TheVariants as code
use Rattle.spec_mps.specs.declared.section.Section.{Section}
use Rattle.spec_mps.specs.declared.section.Section.TheVariants as section
use Rattle.spec_mps.specs.declared.section.Seen.{Seen}
use Rattle.spec_mps.specs.declared.style.Style.{Style}
use Rattle.spec_mps.specs.declared.target.Target.{Target}
use Rattle.spec_mps.specs.declared.target.Target.TheVariants.{Objective, Row}
use Rattle.spec_mps.specs.Fields.{Fields, text_at}
use Rattle.spec_mps.specs.Reader.{State, is_among, new_column, columns_with, whole_columns}
use Rattle.spec_mps.specs.Reader.{put_entry, with_number, enter, pairs_of, columns_card}
use Rattle.spec_mps.specs.Steps.{has_begun, begun, headed, data_card, model_by, SpellsWithin}
use Rattle.spec_mps.proofs.CheckSteps.{must_ok, same_ok}
use Rattle.spec_mps.proofs.SpelledKept.{spelled_kept}
use Rattle.spec_mps.specs.TextCards.{Lines, cards_in}
use Rattle.spec_mps.specs.BoundCards.{bounds_of_column, upper_of, lower_of}
use Rattle.spec_mps.proofs.CardsDid.{pairs_keep, column_puts, Opens, Same, New, columns_did}
use Rattle.spec_mps.proofs.Frames.{Leads, card_leads}
use Rattle.spec_mps.proofs.CardsSoFar.{is_section, SoFar, with_card}
use Rattle.spec_mps.proofs.Order.{IsOrdered, not_both}
use Rattle.spec_mps.proofs.CardRuns.{IsKept, spelled_by, stays, headed_leads}
use Rattle.spec_mps.proofs.ColumnsKept.{ColumnsSay}
use Rattle.spec_mps.proofs.ColumnsSaid.{columns_kept}
use Rattle.spec_mps.proofs.BoundsKept.{first_bound, column_names, column_place, AreBounded}
use Rattle.spec_mps.proofs.BoundsKept.{AreNew, BoundsSay, new_bounded, bounds_card_says}

-- ---- columns before BOUNDS

-- the column has the usual bounds: 0 as the lower one and no upper one
abbrev IsNew : ExactColumn → Type 0
IsNew c = (c.lower ≡ Some 0ℚ) × (c.upper ≡ None)

-- where all columns of a list have the bounds of a new column, all but the last have them
without_last : (columns : List ExactColumn) (c : ExactColumn) → All IsNew (columns ++ c ∷ []) → All IsNew columns
without_last columns c h =
    λ i d l. subst IsNew (get_or_append_left columns (c ∷ []) d i l)
    (h i d (omega (arith, length-append columns (c ∷ []))))

-- where all columns of a list have the bounds of a new column, the last one has them
the_last : (columns : List ExactColumn) (c : ExactColumn) → All IsNew (columns ++ c ∷ []) → IsNew c
the_last columns c h =
    subst IsNew (get_or-append_seam columns c [] c)
    (h (length columns) c (omega (arith, length-append columns (c ∷ []))))

-- a column with the bounds of a new one keeps them where it gets a number
number_new : (c : ExactColumn) (x : Target) (v : ℚ) → IsNew c → IsNew (with_number c x v)
number_new c Objective v h = h
number_new c (Row i) v h = by (eq_ℚ v 0ℚ)
  where
    by : (b : Bool) → IsNew (cond b c (record c { entries = put_entry i v c.entries }))
    by true = h
    by false = h

-- columns with the bounds of new ones keep them where the last one gets a number
with_number_new : (columns : List ExactColumn) (column : Option ExactColumn) (x : Target) (v : ℚ) →
    All IsNew (columns_with columns column) →
    All IsNew (columns_with columns (option_map (λ c. with_number c x v) column))
with_number_new columns None x v h = h
with_number_new columns (Some c) x v h =
    All-push IsNew columns (with_number c x v) (without_last columns c h) (number_new c x v (the_last columns c h))

-- there are as many columns as before where the last one gets a number
with_number_many : (columns : List ExactColumn) (column : Option ExactColumn) (x : Target) (v : ℚ) →
    length (columns_with columns (option_map (λ c. with_number c x v) column)) ≡ length (columns_with columns column)
with_number_many columns None x v = refl
with_number_many columns (Some c) x v =
    length-append columns (with_number c x v ∷ []) ∙ sym (length-append columns (c ∷ []))

-- a number of a card of COLUMNS leaves all columns the bounds of new ones
enter_new : (s : State) (place : Target) (v : ℚ) (t : State) → enter s place v ≡ Ok t →
    AreNew (whole_columns s) s.lowered → AreNew (whole_columns t) t.lowered
unfolding enter
enter_new s x v t h k =
    let a = must_ok (not (is_among x s.paired)) code.EntryRepeated _ t h in
    subst (λ (u : State). AreNew (whole_columns u) u.lowered) (same_ok _ t a.1)
    (record {
      bounds = with_number_new s.columns s.column x v k.bounds;
      many = k.many ∙ sym (with_number_many s.columns s.column x v);
      unset = k.unset;
    })

-- a list of tests that are all false stays one with a further false test
unset_push : (lowered : List Bool) (j : ℕ) → ((i : ℕ) → get_or lowered i false ≡ false) →
    get_or (lowered ++ false ∷ []) j false ≡ false
unset_push [] zero h = refl
unset_push [] (suc j) h = h zero
unset_push (b ∷ lowered) zero h = h zero
unset_push (b ∷ lowered) (suc j) h = unset_push lowered j (λ i. h (suc i))

-- a card of COLUMNS that opens its column leaves all columns the bounds of new ones
opens_new : {limits : SizeLimits} (s : State) (name : Name) (t : State) → Opens limits s name t →
    AreNew (whole_columns s) s.lowered →
    AreNew (whole_columns t) t.lowered
opens_new s name t (Same known same) k = subst (λ (u : State). AreNew (whole_columns u) u.lowered) same k
opens_new s name t (New other free few new) k =
    subst (λ (u : State). AreNew (whole_columns u) u.lowered) new
    (record {
      bounds = All-push IsNew (whole_columns s) (new_column name) k.bounds (refl, refl);
      many =
          length-append s.lowered (false ∷ []) ∙ ap (λ n. n + 1) k.many
          ∙ sym (length-append (whole_columns s) (new_column name ∷ []));
      unset = λ j. unset_push s.lowered j k.unset;
    })

-- a card of COLUMNS leaves all columns the bounds of new ones
columns_new : (limits : SizeLimits) (style : Style) (s : State) (card : Fields) (t : State) →
    columns_card limits style s card ≡ Ok t →
    AreNew (whole_columns s) s.lowered → AreNew (whole_columns t) t.lowered
columns_new limits style s card t h k =
    let d = columns_did style s card t h in
    pairs_keep enter _ column_puts (λ done u. AreNew (whole_columns u) u.lowered)
    (λ done u pair w p n. enter_new u p.place p.value w p.did n)
    (pairs_of d.more) [] d.between t d.pairs (opens_new s d.name d.between d.opens k)

-- ---- cards of other sections

-- what a state keeps of columns: the whole ones, the open one, and of which a card has set the lower bound
abbrev bounds_view : State → List ExactColumn × Option ExactColumn × List Bool
bounds_view s = (s.columns, s.column, s.lowered)

-- a card of another section than COLUMNS and BOUNDS leaves columns and bounds
bounds_stay : (part : Section) (s t : State) → is_section (Some part) section.Columns ≡ false →
    is_section (Some part) section.Bounds ≡ false → Leads part s t → bounds_view t ≡ bounds_view s
bounds_stay section.Columns s t e f h = absurd (cc)
bounds_stay section.Bounds s t e f h = absurd (cc)
bounds_stay part s t e f h = ap bounds_view h

-- with the same columns, marks and set the bounds stay what the cards say
bounds_same : (style : Style) (cards : List Fields) (s t : State) → (t.seen.bounds ≡ false → s.seen.bounds ≡ false) →
    whole_columns t ≡ whole_columns s → t.lowered ≡ s.lowered →
    (is_section t.part section.Bounds ≡ true → t.set ≡ first_bound style cards) → BoundsSay style cards s →
    BoundsSay style cards t
bounds_same style cards s t seen columns lowered during k =
    record {
      none = λ h. let n = k.none (seen h) in (n.0, subst₂ AreNew (sym columns) (sym lowered) n.1);
      bounded = subst₂ (AreBounded style cards) (sym columns) (sym lowered) k.bounded;
      during = during;
    }

-- after a data card the state's bounds are still what the cards that were read say
bounds_at_card : (limits : SizeLimits) (style : Style) (c : SoFar) (s t : State) (part : Section) (card : Fields) →
    IsOrdered s.part s.seen →
    s.part ≡ Some part → data_card limits style (Some part) s card ≡ Ok t → ColumnsSay c.columns s →
    BoundsSay style c.bounds s → BoundsSay style (with_card part card c).bounds t
bounds_at_card limits style c s t section.Bounds card o here h columns k =
    let leads = card_leads limits style section.Bounds s card t h in
    let st = stays section.Bounds s t leads in
    let at : is_section s.part section.Bounds ≡ true = ap (λ p. is_section p section.Bounds) here in
    let away : is_section s.part section.Columns ≡ false = ap (λ p. is_section p section.Columns) here in
    bounds_card_says style c.bounds card s t (ap (λ (x : Seen). x.bounds) st.1 ∙ o.told.bounds at) at
    (columns.shut away) (ap (λ (u : State). u.column) leads) h k
bounds_at_card limits style c s t section.Columns card o here h columns k =
    let st = stays section.Columns s t (card_leads limits style section.Columns s card t h) in
    let before : s.seen.bounds ≡ false = (o.at_columns (ap (λ p. is_section p section.Columns) here)).bounds in
    let n = k.none before in
    let new = columns_new limits style s card t h n.1 in
    record {
      none = λ f. (n.0, new);
      bounded = new_bounded style c.bounds (whole_columns t) t.lowered n.0 new;
      during = λ f. not_both (is_section t.part section.Bounds) f (ap (λ p. is_section p section.Bounds) (st.0 ∙ here));
    }
bounds_at_card limits style c s t part card o here h columns k =
    let leads = card_leads limits style part s card t h in
    let st = stays part s t leads in
    let b = bounds_stay part s t refl refl leads in
    bounds_same style c.bounds s t (λ f. sym (ap (λ (x : Seen). x.bounds) st.1) ∙ f)
    (λ i. columns_with (b i).0 (b i).1) (λ i. (b i).2)
    (λ f. not_both (is_section t.part section.Bounds) f (ap (λ p. is_section p section.Bounds) (st.0 ∙ here))) k

-- ---- sections that begin

-- a heading leaves the columns
whole_headed : (s : State) (part : Section) (word : List ℕ) (t : State) → headed (begun s part) part word ≡ Ok t →
    whole_columns t ≡ whole_columns s
whole_headed s part word t h =
    let u = headed_leads (begun s part) part word t h in
    λ i. columns_with (ap (λ (x : State). x.columns) u i) (ap (λ (x : State). x.column) u i)

-- after a heading the state's bounds are still what the cards that were read say
bounds_at_heading : (style : Style) (cards : List Fields) (s t : State) (part : Section) (word : List ℕ) →
    has_begun s.seen part ≡ false → headed (begun s part) part word ≡ Ok t → BoundsSay style cards s →
    BoundsSay style cards t
bounds_at_heading style cards s t section.Bounds word new h k =
    let u = headed_leads (begun s section.Bounds) section.Bounds word t h in
    bounds_same style cards s t (λ f. new) (whole_headed s section.Bounds word t h) (ap (λ (x : State). x.lowered) u)
    (λ f. ap (λ (x : State). x.set) u ∙ ap (first_bound style) (sym (k.none new).0)) k
bounds_at_heading style cards s t part word new h k =
    let u = headed_leads (begun s part) part word t h in
    bounds_same style cards s t (λ f. sym (ap (λ (x : State). x.seen.bounds) u) ∙ f)
    (whole_headed s part word t h) (ap (λ (x : State). x.lowered) u)
    (λ f. not_both (is_section t.part section.Bounds) f (ap (λ (x : State). is_section x.part section.Bounds) u)) k

-- an empty list of columns has the bounds of new ones
none_new : AreNew [] []
none_new = record { bounds = All-nil IsNew; many = refl; unset = λ j. refl }

-- each state of the reader has the columns and the bounds that the cards say which were read
bounds_kept : (limits : SizeLimits) (style : Style) → IsKept limits style (λ c s. ColumnsSay c.columns s × BoundsSay
    style c.bounds s)
bounds_kept limits style =
    record {
      at_start = (
        (columns_kept limits style).at_start,
        record {
          none = λ h. (refl, none_new);
          bounded = new_bounded style [] [] [] refl none_new;
          during = λ h. absurd (cc);
        },
      );
      at_heading =
          λ c s t part words o new h k. (
            (columns_kept limits style).at_heading c s t part words o new h k.0,
            bounds_at_heading style c.bounds s t part (text_at 2 words) new h k.1,
          );
      at_card =
          λ c s t part card o here h k. (
            (columns_kept limits style).at_card c s t part card o here h k.0,
            bounds_at_card limits style c s t part card o here h k.0 k.1,
          );
    }

-- ---- the model

-- two different names are different by the test
differs : (name other : Name) → name ≢ other → (b : Bool) → same name other ≡ b → b ≡ false
differs name other h true e = absurd (h (same_true name other e))
differs name other h false e = refl

-- among distinct names, the first place of the name at a place is that place
own_first : (names : List Name) (j : ℕ) → AllPairs (λ x y. x ≢ y) names → j < length names →
    position_or_len (λ n. same n (get_or names j [])) names ≡ j
own_first [] j h l = absurd (omega arith)
own_first (x ∷ names) zero h l = ap (λ b. cond (not b) (1 + position_or_len (λ n. same n x) names) 0) (same-refl x)
own_first (x ∷ names) (suc j) h l =
    let less : j < length names = omega arith in
    let apart : x ≢ get_or names j [] = h 0 (suc j) [] (omega arith) l in
    ap (λ b. cond (not b) (1 + position_or_len (λ n. same n (get_or names j [])) names) 0)
    (differs x (get_or names j []) apart (same x (get_or names j [])) refl)
    ∙ ap (λ n. 1 + n) (own_first names j (λ i k d a b. h (suc i) (suc k) d (omega arith) (omega arith)) less)
    ∙ omega arith

-- among distinct names, a search for the name at a place finds that place
own_place : (names : List Name) (j : ℕ) → AllPairs (λ x y. x ≢ y) names → j < length names →
    position (λ n. same n (get_or names j [])) names ≡ Some j
own_place names j h l = rw (own_first names j h l, lt-ltb j (length names) l) refl

-- the bounds of each column of a spelled model are those that the cards of BOUNDS make that name it, in the set of the
-- first card
pub bounds_said : (limits : SizeLimits) (style : Style) (lines : Lines) (m : Model) →
    SpellsWithin limits style lines m → (j : ℕ) → j < width m →
    ((column m j).lower ≡ lower_of style
    (bounds_of_column style (column m j).name (cards_in style section.Bounds lines))) × ((column m j).upper
    ≡ upper_of style (bounds_of_column style (column m j).name (cards_in style section.Bounds lines)))
unfolding model_by
bounds_said limits style lines m h j l =
    let e = spelled_by limits style _ (bounds_kept limits style) lines m h in
    let columns : whole_columns e.last ≡ m.columns = ap (λ (o : Model). o.columns) e.model_is in
    let k =
    subst (λ cs. AreBounded style (cards_in style section.Bounds lines) cs e.last.lowered) columns e.holds.1.bounded in
    let name : get_or (column_names m.columns) j [] ≡ (column m j).name =
    get_or-map (λ (c : ExactColumn). c.name) m.columns j no_column in
    let inside : j < length (column_names m.columns) =
    omega (arith, length-map m.columns (λ (c : ExactColumn). c.name)) in
    let place : column_place (column m j).name m.columns ≡ Some j =
    subst (λ n. column_place n m.columns ≡ Some j) name
    (own_place (column_names m.columns) j (spelled_kept limits style lines m h).columns_distinct inside) in
    let b = k.said (column m j).name j place in
    (b.lower, b.upper)
