-- The bounds of columns, and what one more card of BOUNDS makes of them.
--
-- `new_bounded`: where there are no cards of BOUNDS, columns with a lower bound 0 and no upper one have the bounds
--   that the cards say.
-- `bounds_card_says`: where the state's bounds are what the cards that were read say, they still are after one more
--   card of BOUNDS.
use Rattle.std.proofs.Common.{◌≡◌, ◌≢◌, ℕ, zero, suc, ◌+◌, ◌<◌, Bool, true, false, not, ◌&&◌, ◌||◌}
use Rattle.std.proofs.Common.{cond, ltb, Option, Some, None, Ok, List, [], ◌∷◌, ◌++◌, length, map}
use Rattle.std.proofs.Common.{refl, sym, ap, ◌∙◌, subst, subst₂, get_or, arith, append-nil, All}
use Rattle.std.specs.List.{filter, position, position_or_len}
use Rattle.std.proofs.lemmas.List.{length-map}
use Rattle.std.proofs.lemmas.List.Elements.{filter-append}
use Rattle.std.proofs.lemmas.List.Quantifiers.{position-Some}
use Rattle.std.proofs.lemmas.Option.{same_Some}
use Rattle.spec_text.specs.Words.{same}
use Rattle.spec_text.proofs.WordLemmas.{same_true, same-refl}
use Rattle.spec_exact.specs.Fraction.{0ℚ}
use Rattle.spec_model.specs.Model.{Name, ExactColumn, no_column}
use Rattle.spec_mps.specs.declared.bound_kind.BoundKind.{BoundKind}
use Rattle.spec_mps.specs.declared.section.Section.TheVariants as section
use Rattle.spec_mps.specs.declared.style.Style.{Style}
use Rattle.spec_mps.specs.Fields.{Fields, text_at}
use Rattle.spec_mps.specs.Reader.{State, columns_with, whole_columns}
use Rattle.spec_mps.specs.Sides.{is_used, changed_at}
use Rattle.spec_mps.specs.Bounds.{BoundCard, BoundTexts, bounded, sets_lower, with_bound, bounds_card}
use Rattle.spec_mps.specs.NumberCards.{is_same_set}
use Rattle.spec_mps.specs.BoundCards.{kind_of, bound_by, bound_on, used_bounds, bounds_of_column}
use Rattle.spec_mps.proofs.CardsDid.{BoundDid, UsedBound, SkippedBound, BoundsDid, bounds_did}
use Rattle.spec_mps.proofs.SoundColumns.{bounded_name}
use Rattle.spec_mps.proofs.NarrowSoFar.{changed_length}
use Rattle.spec_mps.proofs.Frames.{changed_unseen}
use Rattle.spec_mps.proofs.CardsSoFar.{is_section}
use Rattle.spec_mps.proofs.Order.{not_both}
use Rattle.spec_mps.proofs.SetsKept.{same_set_itself, same_set_true, same_as}
use Rattle.spec_mps.proofs.BoundTextsRead.{kind_is, texts_are}
use Rattle.spec_mps.proofs.BoundEffects.{Effects, effects, IsBounded, bounded_push, none_bounded}

-- ---- the cards of a column

-- the set that a card of BOUNDS names; none if it names none
abbrev pub set_of : Style → Fields → Option Name
set_of style card = (bound_on style card).set

-- the set of the first of these cards of BOUNDS, which may be absent; none where there is no card
abbrev pub first_bound : Style → List Fields → Option (Option Name)
first_bound style [] = None
first_bound style (card ∷ cards) = Some (set_of style card)

-- one more card is among the used ones just where its set is in use
used_push : (style : Style) (cards : List Fields) (card : Fields) →
    used_bounds style (cards ++ card ∷ [])
    ≡ used_bounds style cards ++ cond (is_used (first_bound style cards) (set_of style card)) (card ∷ []) []
unfolding used_bounds
used_push style [] card =
    ap (λ b. cond b (card ∷ []) [])
    (same_as (set_of style card) (set_of style card) ∙ same_set_itself (set_of style card))
used_push style (first ∷ cards) card =
    filter-append (λ other. is_same_set (set_of style first) (set_of style other)) (first ∷ cards) (card ∷ [])
    ∙ ap (λ b. used_bounds style (first ∷ cards) ++ cond b (card ∷ []) [])
    (same_as (set_of style first) (set_of style card))

-- after a card whose set is in use, the set in use is that of the card
first_used : (style : Style) (cards : List Fields) (card : Fields) →
    is_used (first_bound style cards) (set_of style card) ≡ true →
    first_bound style (cards ++ card ∷ []) ≡ Some (set_of style card)
first_used style [] card h = refl
first_used style (first ∷ cards) card h =
    ap (λ set. Some set) (same_set_true (set_of style first) (set_of style card) h)

-- after a card whose set is not in use, the set in use is the one before
first_skipped : (style : Style) (cards : List Fields) (card : Fields) →
    is_used (first_bound style cards) (set_of style card) ≡ false →
    first_bound style (cards ++ card ∷ []) ≡ first_bound style cards
first_skipped style [] card h = absurd (cc)
first_skipped style (first ∷ cards) card h = refl

-- one more card is a column's just where its set is in use and its name fits
cards_push : (style : Style) (name : Name) (cards : List Fields) (card : Fields) →
    bounds_of_column style name (cards ++ card ∷ []) ≡ bounds_of_column style name cards ++ cond
    (is_used (first_bound style cards) (set_of style card) && same (bound_on style card).column name) (card ∷ []) []
unfolding bounds_of_column
cards_push style name cards card =
    ap (filter (λ other. same (bound_on style other).column name)) (used_push style cards card)
    ∙ filter-append (λ other. same (bound_on style other).column name) (used_bounds style cards)
    (cond (is_used (first_bound style cards) (set_of style card)) (card ∷ []) [])
    ∙ ap (λ more. bounds_of_column style name cards ++ more)
    (by (is_used (first_bound style cards) (set_of style card)))
  where
    by : (b : Bool) →
        filter (λ other. same (bound_on style other).column name) (cond b (card ∷ []) [])
        ≡ cond (b && same (bound_on style card).column name) (card ∷ []) []
    by true = refl
    by false = refl

-- where there are no cards, no column has one
no_cards : (style : Style) (name : Name) → bounds_of_column style name [] ≡ []
unfolding bounds_of_column used_bounds
no_cards style name = refl

-- ---- what the cards say of columns

-- the names of these columns, in order
abbrev pub column_names : List ExactColumn → List Name
column_names columns = map (λ c. c.name) columns

-- the number of the first column with this name; none if none has it
abbrev pub column_place : Name → List ExactColumn → Option ℕ
column_place name columns = position (λ n. same n name) (column_names columns)

-- each column has the bounds that the cards that name it make, and the flag at its place says whether one of them sets
-- its lower bound
pub record AreBounded (style : Style) (cards : List Fields)
    (columns : List ExactColumn) (lowered : List Bool) : Type 0 where
  pub said : (name : Name) (j : ℕ) → column_place name columns ≡ Some j →
      IsBounded style (bounds_of_column style name cards) (get_or columns j no_column) (get_or lowered j false)
  pub many : length lowered ≡ length columns

-- each column has the usual bounds, 0 and none, and no flag says that a card has set a lower bound
pub record AreNew (columns : List ExactColumn) (lowered : List Bool) : Type 0 where
  pub bounds : All (λ c. (c.lower ≡ Some 0ℚ) × (c.upper ≡ None)) columns
  pub many : length lowered ≡ length columns
  pub unset : (j : ℕ) → get_or lowered j false ≡ false

-- the bounds of the state's columns are what these cards of BOUNDS say; before BOUNDS begins there are no cards and no
-- bounds are set, and while it is read the set in use is that of its first card
pub record BoundsSay (style : Style) (cards : List Fields) (s : State) : Type 0 where
  pub none : s.seen.bounds ≡ false → (cards ≡ []) × AreNew (whole_columns s) s.lowered
  pub bounded : AreBounded style cards (whole_columns s) s.lowered
  pub during : is_section s.part section.Bounds ≡ true → s.set ≡ first_bound style cards

pub new_bounded : (style : Style) (cards : List Fields) (columns : List ExactColumn) (lowered : List Bool) →
    cards ≡ [] → AreNew columns lowered → AreBounded style cards columns lowered
new_bounded style cards columns lowered e new =
    record {
      said = λ name j h.
          let l : j < length columns = omega (
            arith,
            (position-Some (λ n. same n name) (column_names columns) j [] h).0,
            length-map columns (λ (c : ExactColumn). c.name),
          ) in
          let b = new.bounds j no_column l in
          subst₂ (λ cs low. IsBounded style cs (get_or columns j no_column) low)
          (sym (ap (bounds_of_column style name) e ∙ no_cards style name))
          (sym (new.unset j)) (none_bounded style (get_or columns j no_column) b.0 b.1);
      many = new.many;
    }

-- ---- a place that changes

-- a change at a place of a list changes the element there
changed_here : {A : Type 0} (i : ℕ) (change : A → A) (xs : List A) (d : A) → i < length xs →
    get_or (changed_at i change xs) i d ≡ change (get_or xs i d)
changed_here i change [] d h = absurd (omega arith)
changed_here zero change (x ∷ xs) d h = refl
changed_here (suc i) change (x ∷ xs) d h = changed_here i change xs d (omega arith)

-- a change at a place of a list leaves the elements at other places
changed_there : {A : Type 0} (i j : ℕ) (change : A → A) (xs : List A) (d : A) → j ≢ i →
    get_or (changed_at i change xs) j d ≡ get_or xs j d
changed_there i j change [] d h = refl
changed_there zero zero change (x ∷ xs) d h = absurd (h refl)
changed_there zero (suc j) change (x ∷ xs) d h = refl
changed_there (suc i) zero change (x ∷ xs) d h = refl
changed_there (suc i) (suc j) change (x ∷ xs) d h = changed_there i j change xs d (λ e. h (ap suc e))

-- ---- places of names

-- a column's first place by its name is the name's first place among all names
first_place : (name : Name) (columns : List ExactColumn) →
    position_or_len (λ c. same c.name name) columns ≡ position_or_len (λ n. same n name) (column_names columns)
first_place name [] = refl
first_place name (c ∷ columns) = ap (λ n. cond (not (same c.name name)) (1 + n) 0) (first_place name columns)

-- there are as many names of columns as columns
many_names : (columns : List ExactColumn) → length (column_names columns) ≡ length columns
many_names [] = refl
many_names (c ∷ columns) = ap suc (many_names columns)

-- a search for a column by its name finds that name's place among all names
place_by_names : (name : Name) (columns : List ExactColumn) →
    position (λ c. same c.name name) columns ≡ column_place name columns
place_by_names name columns =
    λ i. cond (ltb (first_place name columns i) (sym (many_names columns) i)) (Some (first_place name columns i)) None

-- the place of a name among columns is that of a column with the name
place_named : (name : Name) (columns : List ExactColumn) (j : ℕ) → column_place name columns ≡ Some j →
    (j < length columns) × (get_or (column_names columns) j [] ≡ name)
place_named name columns j h =
    let p = position-Some (λ n. same n name) (column_names columns) j [] h in
    (omega (arith, p.0, many_names columns), same_true _ name p.1)

-- ---- a card

module _ (style : Style) (cards : List Fields) (card : Fields) (columns : List ExactColumn) (lowered : List Bool)
    (place : ℕ) (does : BoundCard) (used : is_used (first_bound style cards) (set_of style card) ≡ true)
    (at : column_place (bound_on style card).column columns ≡ Some place)
    (e : Effects style card does) (k : AreBounded style cards columns lowered) where
  abbrev change : ExactColumn → ExactColumn
  change = bounded (get_or lowered place false) does

  abbrev lower : Bool → Bool
  lower b = b || sets_lower does

  names_same : column_names (changed_at place change columns) ≡ column_names columns
  names_same =
      changed_unseen (λ (c : ExactColumn). c.name) change place columns (bounded_name (get_or lowered place false) does)

  card_said : (name : Name) (j : ℕ) → column_place name columns ≡ Some j → (b : Bool) →
      same (bound_on style card).column name ≡ b →
      IsBounded style (bounds_of_column style name (cards ++ card ∷ []))
      (get_or (changed_at place change columns) j no_column) (get_or (changed_at place lower lowered) j false)
  card_said name j h true f =
      let same_name : (bound_on style card).column ≡ name = same_true (bound_on style card).column name f in
      let p : column_place name columns ≡ Some place = ap (λ n. column_place n columns) (sym same_name) ∙ at in
      let here : place ≡ j = same_Some place j (sym p ∙ h) in
      let inside : place < length columns = (place_named name columns place p).0 in
      let cs : bounds_of_column style name cards ++ card ∷ [] ≡ bounds_of_column style name (cards ++ card ∷ []) =
      (λ i. bounds_of_column style name cards ++ cond (sym used i && sym f i) (card ∷ []) [])
      ∙ sym (cards_push style name cards card) in
      let pushed =
      bounded_push style (bounds_of_column style name cards) card does
      (get_or columns place no_column) (get_or lowered place false) e (k.said name place p) in
      let columns_here = sym (changed_here place change columns no_column inside) in
      let lowered_here = sym (changed_here place lower lowered false (omega (arith, k.many))) in
      subst (λ i. IsBounded style (bounds_of_column style name (cards ++ card ∷ []))
      (get_or (changed_at place change columns) i no_column) (get_or (changed_at place lower lowered) i false)) here
      (subst₂ (λ c l. IsBounded style (bounds_of_column style name (cards ++ card ∷ [])) c l) columns_here lowered_here
      (subst (λ xs. IsBounded style xs (bounded (get_or lowered place false) does (get_or columns place no_column))
      (get_or lowered place false || sets_lower does)) cs pushed))
  card_said name j h false f =
      let cs : bounds_of_column style name cards ≡ bounds_of_column style name (cards ++ card ∷ []) =
      sym (cards_push style name cards card
      ∙ (λ i. bounds_of_column style name cards ++ cond (used i && f i) (card ∷ []) [])
      ∙ append-nil (bounds_of_column style name cards)) in
      let elsewhere : j ≢ place = λ here. name_differs here in
      subst (λ xs. IsBounded style xs (get_or (changed_at place change columns) j no_column)
      (get_or (changed_at place lower lowered) j false)) cs
      (subst₂ (λ c l. IsBounded style (bounds_of_column style name cards) c l)
      (sym (changed_there place j change columns no_column elsewhere))
      (sym (changed_there place j lower lowered false elsewhere)) (k.said name j h))
    where
      name_differs : j ≡ place → ⊥
      name_differs here =
          let a : get_or (column_names columns) j [] ≡ name = (place_named name columns j h).1 in
          let b : get_or (column_names columns) place [] ≡ (bound_on style card).column =
          (place_named (bound_on style card).column columns place at).1 in
          let c : (bound_on style card).column ≡ name =
          sym b ∙ ap (λ i. get_or (column_names columns) i []) (sym here) ∙ a in
          not_both (same (bound_on style card).column name) (ap (λ n. same n name) c ∙ same-refl name) f

  -- where the columns have the bounds that some cards say, and one more card changes the column that it names, they
  -- have those that all of these cards say
  pub card_bounded : AreBounded style (cards ++ card ∷ [])
      (changed_at place change columns) (changed_at place lower lowered)
  card_bounded =
      record {
        said =
            λ name j h. card_said name j (ap (position (λ n. same n name)) (sym names_same) ∙ h)
            (same (bound_on style card).column name) refl;
        many = changed_length place lower lowered ∙ k.many ∙ sym (changed_length place change columns);
      }

-- a card whose set is not in use leaves the bounds that the cards say
other_bounded : (style : Style) (cards : List Fields) (card : Fields)
    (columns : List ExactColumn) (lowered : List Bool) →
    is_used (first_bound style cards) (set_of style card) ≡ false → AreBounded style cards columns lowered →
    AreBounded style (cards ++ card ∷ []) columns lowered
other_bounded style cards card columns lowered skipped k =
    record {
      said = λ name j h.
          subst (λ xs. IsBounded style xs (get_or columns j no_column) (get_or lowered j false))
          (sym (cards_push style name cards card ∙ ap (λ b. bounds_of_column style name cards
          ++ cond (b && same (bound_on style card).column name) (card ∷ []) []) skipped
          ∙ append-nil (bounds_of_column style name cards)))
          (k.said name j h);
      many = k.many;
    }

-- the fields of a card are those that were read
fields_read : (style : Style) (s : State) (card : Fields) (t : State) (d : BoundsDid style s card t) →
    (kind_of (text_at 1 card) ≡ Some d.kind) × (bound_on style card ≡ d.texts)
unfolding bound_on
fields_read style s card t d =
    let kind = kind_is (text_at 1 card) d.kind d.kind_is in
    (kind, ap (λ o. bound_by style o card) kind ∙ texts_are style d.kind card d.texts d.texts_are)

-- a card that is read takes the state's bounds to those of one more card
card_says : (style : Style) (cards : List Fields) (card : Fields)
    (s t : State) (kind : BoundKind) (texts : BoundTexts) →
    t.seen.bounds ≡ true → is_section s.part section.Bounds ≡ true → s.column ≡ None → t.column ≡ s.column →
    kind_of (text_at 1 card) ≡ Some kind → bound_on style card ≡ texts → BoundDid s kind texts t →
    BoundsSay style cards s → BoundsSay style (cards ++ card ∷ []) t
unfolding with_bound
card_says style cards card s t kind texts seen here shut column k b
    (UsedBound place does used place_is card_is did) say =
    let set : set_of style card ≡ texts.set = ap (λ (x : BoundTexts). x.set) b in
    let is : is_used (first_bound style cards) (set_of style card) ≡ true =
    (λ i. is_used (sym (say.during here) i) (set i)) ∙ used in
    let at : column_place (bound_on style card).column s.columns ≡ Some place =
    ap (λ (x : BoundTexts). column_place x.column s.columns) b
    ∙ sym (place_by_names texts.column s.columns) ∙ place_is in
    let e = effects style card kind texts.value does k (ap (λ (x : BoundTexts). x.value) b) card_is in
    let before : AreBounded style cards s.columns s.lowered =
    subst (λ o. AreBounded style cards (columns_with s.columns o) s.lowered) shut say.bounded in
    let now = card_bounded style cards card s.columns s.lowered place does is at e before in
    record {
      none = λ f. not_both t.seen.bounds seen f;
      bounded =
          subst (λ o. AreBounded style (cards ++ card ∷ []) (columns_with t.columns o) t.lowered) (sym (column ∙ shut))
          (subst (λ (u : State). AreBounded style (cards ++ card ∷ []) u.columns u.lowered) did now);
      during =
          λ f. sym (ap (λ (u : State). u.set) did) ∙ ap (λ o. Some o) (sym set) ∙ sym (first_used style cards card is);
    }
card_says style cards card s t kind texts seen here shut column k b (SkippedBound other same) say =
    let set : set_of style card ≡ texts.set = ap (λ (x : BoundTexts). x.set) b in
    let is : is_used (first_bound style cards) (set_of style card) ≡ false =
    (λ i. is_used (sym (say.during here) i) (set i)) ∙ other in
    record {
      none = λ f. not_both t.seen.bounds seen f;
      bounded =
          subst (λ (u : State). AreBounded style (cards ++ card ∷ []) (whole_columns u) u.lowered) same
          (other_bounded style cards card (whole_columns s) s.lowered is say.bounded);
      during = λ f. sym (ap (λ (u : State). u.set) same) ∙ say.during here ∙ sym (first_skipped style cards card is);
    }

pub bounds_card_says : (style : Style) (cards : List Fields) (card : Fields) (s t : State) → t.seen.bounds ≡ true →
    is_section s.part section.Bounds ≡ true → s.column ≡ None → t.column ≡ s.column → bounds_card style s card ≡ Ok t →
    BoundsSay style cards s → BoundsSay style (cards ++ card ∷ []) t
bounds_card_says style cards card s t seen here shut column h say =
    let d = bounds_did style s card t h in
    let f = fields_read style s card t d in
    card_says style cards card s t d.kind d.texts seen here shut column f.0 f.1 d.did say
