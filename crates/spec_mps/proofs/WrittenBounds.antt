-- The cards of BOUNDS of a written text are read as a column's bounds.
use Rattle.std.proofs.Common.{◌≡◌, ℕ, ◌||◌, ◌&&◌, Bool, true, false, cond, Option, Some, None, Ok, List, []}
use Rattle.std.proofs.Common.{◌∷◌, ◌++◌, length, map, get_or, refl, sym, ap, ◌∙◌, subst, inl, inr, ◌⊎◌}
use Rattle.std.specs.Prelude.{codes, IfSome}
use Rattle.std.specs.List.{position}
use Rattle.std.proofs.lemmas.Bool.{and_parts, and_right}
use borrow.Author.Tests.{ltb-false}
use Rattle.spec_text.specs.Words.{same}
use Rattle.spec_exact.specs.Fraction.{ℚ, 0ℚ, eq_ℚ, lt_ℚ, ◌≤ℚ◌}
use Rattle.spec_exact.proofs.Same.{eq_if}
use Rattle.spec_exact.proofs.Order.{lt_if, not_lt_test, ≤ℚ_total}
use Rattle.spec_exact.proofs.Strict.{not_from_lt}
use Rattle.spec_model.specs.Model.{Name, ExactColumn}
use Rattle.spec_mps.specs.declared.style.Style.{Style}
use Rattle.spec_mps.specs.declared.style.Style.TheVariants.{Free, Fixed}
use Rattle.spec_mps.specs.declared.section.Section.TheVariants as section
use Rattle.spec_mps.specs.declared.bound_kind.BoundKind.{BoundKind}
use Rattle.spec_mps.specs.declared.bound_kind.BoundKind.TheVariants.{Up, Lo, Fx, Fr, Mi}
use Rattle.spec_mps.specs.NumberWritten.{number_text, IsWord}
use Rattle.spec_mps.specs.Shapes.{bound_kind_of}
use Rattle.spec_mps.specs.Fields.{Fields, text_at}
use Rattle.spec_mps.specs.Reader.{State}
use Rattle.spec_mps.specs.Sides.{is_used, changed_at}
use Rattle.spec_mps.specs.Bounds.{BoundCard, SetsUpper, BoundTexts}
use Rattle.spec_mps.specs.Bounds.{bound_texts, use_bound, takes_value}
use Rattle.spec_mps.specs.Bounds.{bounds_card, bounded, sets_lower, with_bound, bound_card as card_of}
use Rattle.spec_mps.specs.Steps.{more}
use Rattle.spec_mps.specs.Written.{WrittenCards, Data, field_at, bound_card, unbound_card, bound_cards, line_text}
use Rattle.spec_mps.proofs.WrittenCards.{HasRoom, IsItem, IsReadBack, read_as}
use Rattle.spec_mps.proofs.WrittenSteps.{Goes, bare_column}
use Rattle.spec_mps.proofs.WrittenBack.{cards_are_read_back}
use Rattle.spec_mps.proofs.WrittenNames.{field_narrow}
use Rattle.spec_mps.proofs.WrittenRows.{IsAbsent, goes_one, goes_none, goes_then}
use Rattle.spec_mps.proofs.WrittenBehind.{place_behind, changed_behind, there_behind}
use Rattle.spec_mps.proofs.WrittenParts.{given_step, number_item}
use Rattle.spec_mps.proofs.WrittenRoom.{RoomFor, room_front, room_back}
use Rattle.spec_mps.proofs.WrittenKinds.{bound_word, says, kind_item, number_fields, name_fields, IsBoundNumber}
use Rattle.spec_mps.proofs.WrittenKinds.{value_known, value_shape, value_is, name_known, name_shape, name_is}

-- ---- one card

-- the set BND, as that of the section's first card
abbrev pub used_set : Option (Option Name)
used_set = Some (Some (codes "BND"))

-- a card of BOUNDS whose texts are read gives its column the bounds that it says
bound_card_read : (style : Style) (s : State) (fields : Fields) (kind : BoundKind)
    (texts : BoundTexts) (place : ℕ) (card : BoundCard) → bound_kind_of (text_at 1 fields) ≡ Ok kind →
    bound_texts style kind fields ≡ Ok texts → is_used s.set texts.set ≡ true
    → position (λ c. same c.name texts.column) s.columns ≡ Some place → card_of kind texts.value ≡ Ok card →
    bounds_card style s fields ≡ Ok (with_bound (record s { set = Some texts.set }) place card)
unfolding bounds_card use_bound
bound_card_read style s fields kind texts place card known shape used there is = rw (known, shape, used, there, is) refl

-- a written card of BOUNDS that is read back gives its column the bounds that it says
bound_step : (style : Style) (s t : State) (fields : Fields) (kind : BoundKind)
    (texts : BoundTexts) (place : ℕ) (card : BoundCard) → s.part ≡ Some section.Bounds →
    IsReadBack style fields → bound_kind_of (text_at 1 (read_as style fields)) ≡ Ok kind
    → bound_texts style kind (read_as style fields) ≡ Ok texts → is_used s.set texts.set ≡ true →
    position (λ c. same c.name texts.column) s.columns ≡ Some place →
    card_of kind texts.value ≡ Ok card → with_bound (record s { set = Some texts.set }) place card ≡ t
    → Goes style s (Data fields ∷ []) t
bound_step style s t fields kind texts place card e back known shape used there is put =
    goes_one style s t (Data fields)
    (given_step style s section.Bounds (line_text style (Data fields)) (read_as style fields) e refl back.read
    ∙ ap more (bound_card_read style s (read_as style fields) kind texts place card known shape used there is
    ∙ ap (λ u. Ok u) put))

-- ---- where the column is

-- a state with these columns, these notes of lower bounds that cards have set, and this set
abbrev pub bounding : State → List ExactColumn → List Bool → Option (Option Name) → State
bounding s columns lowered set = record s { columns = columns; lowered = lowered; set = set }

-- the names of columns, in order
abbrev pub column_names : List ExactColumn → List Name
column_names columns = map (λ c. c.name) columns

-- none of the columns `done` has this name, and there is one flag for each of them
pub record AreBefore (name : Name) (done : List ExactColumn) (lowered : List Bool) : Type 0 where
  pub absent : IsAbsent name (column_names done)
  pub alike : length lowered ≡ length done

-- a card's bounds change the column behind those that are done, and its mark
put_behind : (s : State) (done : List ExactColumn) (c : ExactColumn) (more : List ExactColumn) (before : List Bool)
    (b : Bool) (after : List Bool) (set : Option (Option Name)) (card : BoundCard) → length before ≡ length done
    → with_bound (bounding s (done ++ c ∷ more) (before ++ b ∷ after) set) (length done) card
    ≡ bounding s (done ++ bounded b card c ∷ more) (before ++ (b || sets_lower card) ∷ after) set
unfolding with_bound
put_behind s done c more before b after set card e =
    let there : get_or (before ++ b ∷ after) (length done) false ≡ b =
    ap (λ n. get_or (before ++ b ∷ after) n false) (sym e) ∙ there_behind before b after false in
    let lowered : changed_at (length done) (λ l. l || sets_lower card) (before ++ b ∷ after)
    ≡ before ++ (b || sets_lower card) ∷ after =
    ap (λ n. changed_at n (λ l. l || sets_lower card) (before ++ b ∷ after)) (sym e)
    ∙ changed_behind (λ l. l || sets_lower card) before b after in
    ap (λ l. bounding s (changed_at (length done) (bounded l card) (done ++ c ∷ more))
    (changed_at (length done) (λ l. l || sets_lower card) (before ++ b ∷ after)) set) there
    ∙ ap (λ cs. bounding s cs (changed_at (length done) (λ l. l || sets_lower card) (before ++ b ∷ after)) set)
    (changed_behind (bounded b card) done c more)
    ∙ ap (λ ls. bounding s (done ++ bounded b card c ∷ more) ls set) lowered

-- ---- a card that is read where the column is

-- a state whose column c stands between those done and more, with the notes of lower bounds that cards have set, and
-- this set
abbrev pub spot : State → List ExactColumn → ExactColumn → List ExactColumn → List Bool → Bool → List Bool →
    Option (Option Name) → State
spot s done c more before b after set = bounding s (done ++ c ∷ more) (before ++ b ∷ after) set

-- a card's bounds that make c into d do so behind the columns that are done
set_there : (s : State) (done : List ExactColumn) (c d : ExactColumn) (more : List ExactColumn) (before : List Bool)
    (b : Bool) (after : List Bool) (card : BoundCard) → length before ≡ length done → bounded b card c ≡ d
    → with_bound (spot s done c more before b after used_set) (length done) card
    ≡ spot s done d more before (b || sets_lower card) after used_set
set_there s done c d more before b after card e change =
    put_behind s done c more before b after used_set card e
    ∙ ap (λ x. spot s done x more before (b || sets_lower card) after used_set) change

-- a written card with a value gives its column the bounds that it says
value_goes : (style : Style) (s : State) (done : List ExactColumn) (c d : ExactColumn)
    (more : List ExactColumn) (before : List Bool) (b : Bool) (after : List Bool)
    (set : Option (Option Name)) (kind : BoundKind) (q : ℚ) → s.part ≡ Some section.Bounds →
    AreBefore c.name done before → is_used set (Some (codes "BND")) ≡ true
    → takes_value kind ≡ true → IsItem style 8 c.name →
    IsItem style 12 (number_text q) → IsBoundNumber q → bounded b (says kind q) c ≡ d
    → Goes style (spot s done c more before b after set) (bound_card (bound_word kind) c.name q ∷ [])
    (spot s done d more before (b || sets_lower (says kind q)) after used_set)
value_goes style s done c d more before b after set kind q e place used takes name number h change =
    bound_step style (spot s done c more before b after set)
    (spot s done d more before (b || sets_lower (says kind q)) after used_set) (number_fields kind c.name q) kind
    (record { set = Some (codes "BND"); column = c.name; value = number_text q }) (length done) (says kind q) e
    ((cards_are_read_back style).bounds (bound_word kind) c.name (number_text q) (kind_item style kind) name number)
    (value_known style kind c.name q) (value_shape style kind c.name q takes) used
    (place_behind (λ x. x.name) c.name done c more place.absent refl) (value_is kind q takes h)
    (set_there s done c d more before b after (says kind q) place.alike change)

-- a written card without a value gives its column the bounds that it says
name_goes : (style : Style) (s : State) (done : List ExactColumn) (c d : ExactColumn)
    (more : List ExactColumn) (before : List Bool) (b : Bool) (after : List Bool)
    (set : Option (Option Name)) (kind : BoundKind) → s.part ≡ Some section.Bounds →
    AreBefore c.name done before → is_used set (Some (codes "BND")) ≡ true → takes_value kind ≡ false →
    IsItem style 8 c.name → bounded b (says kind 0ℚ) c ≡ d
    → Goes style (spot s done c more before b after set) (unbound_card (bound_word kind) c.name ∷ [])
    (spot s done d more before (b || sets_lower (says kind 0ℚ)) after used_set)
name_goes style s done c d more before b after set kind e place used takes name change =
    bound_step style (spot s done c more before b after set)
    (spot s done d more before (b || sets_lower (says kind 0ℚ)) after used_set) (name_fields kind c.name) kind
    (record { set = Some (codes "BND"); column = c.name; value = [] }) (length done) (says kind 0ℚ) e
    ((cards_are_read_back style).without_number (bound_word kind) c.name (kind_item style kind) name)
    (name_known style kind c.name) (name_shape style kind c.name takes) used
    (place_behind (λ x. x.name) c.name done c more place.absent refl) (name_is kind takes)
    (set_there s done c d more before b after (says kind 0ℚ) place.alike change)

-- ---- room

-- a card of BOUNDS that has room has room for its name and its number
value_room : (style : Style) (word : List ℕ) (name : Name) (q : ℚ) → RoomFor style (bound_card word name q ∷ []) →
    HasRoom style 8 name × HasRoom style 12 (number_text q)
value_room Free word name q h = (tt, tt)
value_room Fixed word name q h =
    let a =
    field_narrow (field_at 1 word) (field_at 2 (codes "BND") ∷ field_at 3 name ∷ field_at 4 (number_text q) ∷ []) h in
    let b = field_narrow (field_at 2 (codes "BND")) (field_at 3 name ∷ field_at 4 (number_text q) ∷ []) a.1 in
    let c = field_narrow (field_at 3 name) (field_at 4 (number_text q) ∷ []) b.1 in
    let d = field_narrow (field_at 4 (number_text q)) [] c.1 in
    (ltb-false 8 (length name) c.0, ltb-false 12 (length (number_text q)) d.0)

-- a card of BOUNDS without a value that has room has room for its name
name_room : (style : Style) (word : List ℕ) (name : Name) → RoomFor style (unbound_card word name ∷ []) →
    HasRoom style 8 name
name_room Free word name h = tt
name_room Fixed word name h =
    let a = field_narrow (field_at 1 word) (field_at 2 (codes "BND") ∷ field_at 3 name ∷ []) h in
    let b = field_narrow (field_at 2 (codes "BND")) (field_at 3 name ∷ []) a.1 in
    let c = field_narrow (field_at 3 name) [] b.1 in
    ltb-false 8 (length name) c.0

-- ---- the cards of one column

-- these cards lead from the state in which column c has the usual bounds to the one in which it has its own, and leave
-- all other columns
abbrev pub IsBounded : Style → State → List ExactColumn → ExactColumn → List ExactColumn → List Bool → List Bool →
    Option (Option Name) → WrittenCards → Type 0
IsBounded style s done c more before after set cards =
    (b : Bool) × (q : Option (Option Name))
    × Goes style (spot s done (bare_column c) more before false after set) cards (spot s done c more before b after q)
    × (is_used q (Some (codes "BND")) ≡ true)

-- ---- an upper bound where the lower one is set, or where it is not negative

-- where a card has set the lower bound, a card that sets the upper one leaves it
upper_lowered : (c : ExactColumn) (u : ℚ) → bounded true (SetsUpper (Some u)) c ≡ record c { upper = Some u }
upper_lowered c u = rw (and_right (lt_ℚ u 0ℚ) false refl) refl

-- a number that is above 0 by the test is not below 0 by the test
not_below : (u : ℚ) → lt_ℚ 0ℚ u ≡ true → lt_ℚ u 0ℚ ≡ false
not_below u h = not_lt_test u 0ℚ (by (≤ℚ_total 0ℚ u))
  where
    by : (0ℚ ≤ℚ u) ⊎ (u ≤ℚ 0ℚ) → 0ℚ ≤ℚ u
    by (inl k) = k
    by (inr k) = absurd (not_from_lt 0ℚ u (lt_if 0ℚ u h) k)

-- where no card has set the lower bound, a card that sets an upper one above 0 leaves it
upper_positive : (c : ExactColumn) (u : ℚ) → lt_ℚ 0ℚ u ≡ true →
    bounded false (SetsUpper (Some u)) c ≡ record c { upper = Some u }
upper_positive c u h = rw (not_below u h) refl

-- the written cards of a column's bounds are read as these bounds of the column
pub column_bounded : (style : Style) (s : State) (done : List ExactColumn) (c : ExactColumn)
    (more : List ExactColumn) (before after : List Bool) (set : Option (Option Name)) →
    s.part ≡ Some section.Bounds → AreBefore c.name done before
    → is_used set (Some (codes "BND")) ≡ true → IsWord c.name → (lower upper : Option ℚ) →
    IfSome lower IsBoundNumber → IfSome upper IsBoundNumber → RoomFor style (bound_cards c.name lower upper)
    → IsBounded style s done (record c { lower = lower; upper = upper }) more before after set
    (bound_cards c.name lower upper)
column_bounded style s done c more before after set e place used word None None hl hu room = (
  true,
  used_set,
  name_goes style s done (bare_column c) (record c { lower = None; upper = None }) more before false after set
      Fr e place used refl
      (record { word = word; room = name_room style (codes "FR") c.name room }) refl,
  refl,
)
column_bounded style s done c more before after set e place used word None (Some u) hl hu room =
    let back =
    value_room style (codes "UP") c.name u
    (room_back style (unbound_card (codes "MI") c.name ∷ []) (bound_card (codes "UP") c.name u ∷ []) room) in
    let name : IsItem style 8 c.name = record { word = word; room = back.0 } in
    let free : ExactColumn = record c { lower = None; upper = None } in
    let first =
    name_goes style s done (bare_column c) free more before false after set
    Mi e place used refl name refl in
    let second =
    value_goes style s done free (record c { lower = None; upper = Some u }) more before true after used_set
    Up u e
    (record { absent = place.absent; alike = place.alike }) refl refl name (number_item style u hu.narrow back.1) hu
    (upper_lowered free u) in (
      true,
      used_set,
      goes_then style (spot s done (bare_column c) more before false after set)
          (spot s done free more before true after used_set)
          (spot s done (record c { lower = None; upper = Some u }) more before true after used_set)
          (unbound_card (codes "MI") c.name) (bound_card (codes "UP") c.name u ∷ []) first second,
      refl,
    )
column_bounded style s done c more before after set e place used word (Some l) None hl hu room =
    by (eq_ℚ l 0ℚ) refl room
  where
    by : (t : Bool) → eq_ℚ l 0ℚ ≡ t → RoomFor style (cond t [] (bound_card (codes "LO") c.name l ∷ [])) →
        IsBounded style s done (record c { lower = Some l; upper = None }) more before after set
        (cond t [] (bound_card (codes "LO") c.name l ∷ []))
    by true z room =
        let same : bare_column c ≡ record c { lower = Some l; upper = None } =
        ap (λ x. record c { lower = Some x; upper = None }) (sym (eq_if l 0ℚ z)) in (
          false,
          set,
          subst (λ x. Goes style (spot s done (bare_column c) more before false after set) []
              (spot s done x more before false after set)) same
              (goes_none style (spot s done (bare_column c) more before false after set)),
          used,
        )
    by false z room =
        let r = value_room style (codes "LO") c.name l room in (
          true,
          used_set,
          value_goes style s done (bare_column c) (record c { lower = Some l; upper = None }) more
              before false after set Lo l e place used refl
              (record { word = word; room = r.0 }) (number_item style l hl.narrow r.1) hl refl,
          refl,
        )
column_bounded style s done c more before after set e place used word (Some l) (Some u) hl hu room =
    by (eq_ℚ l u) refl room
  where
    whole : ExactColumn
    whole = record c { lower = Some l; upper = Some u }

    lows : WrittenCards
    lows = bound_card (codes "LO") c.name l ∷ bound_card (codes "UP") c.name u ∷ []

    two : (t : Bool) → eq_ℚ l 0ℚ && lt_ℚ 0ℚ u ≡ t →
        RoomFor style (cond t (bound_card (codes "UP") c.name u ∷ []) lows) →
        IsBounded style s done whole more before after set (cond t (bound_card (codes "UP") c.name u ∷ []) lows)
    two true z room =
        let p = and_parts (eq_ℚ l 0ℚ) (lt_ℚ 0ℚ u) z in
        let r = value_room style (codes "UP") c.name u room in
        let same : record c { lower = Some 0ℚ; upper = Some u } ≡ whole =
        ap (λ x. record c { lower = Some x; upper = Some u }) (sym (eq_if l 0ℚ p.0)) in (
          false,
          used_set,
          value_goes style s done (bare_column c) whole more before false after set Up u e place used refl
              (record { word = word; room = r.0 }) (number_item style u hu.narrow r.1) hu
              (upper_positive (bare_column c) u p.1 ∙ same),
          refl,
        )
    two false z room =
        let front =
        value_room style (codes "LO") c.name l
        (room_front style (bound_card (codes "LO") c.name l ∷ []) (bound_card (codes "UP") c.name u ∷ []) room) in
        let back =
        value_room style (codes "UP") c.name u
        (room_back style (bound_card (codes "LO") c.name l ∷ []) (bound_card (codes "UP") c.name u ∷ []) room) in
        let name : IsItem style 8 c.name = record { word = word; room = front.0 } in
        let low : ExactColumn = record c { lower = Some l; upper = None } in
        let first =
        value_goes style s done (bare_column c) low more before false after set Lo l e place used refl name
        (number_item style l hl.narrow front.1) hl refl in
        let second =
        value_goes style s done low whole more before true after used_set Up u e
        (record { absent = place.absent; alike = place.alike }) refl refl name
        (number_item style u hu.narrow back.1) hu (upper_lowered low u) in (
          true,
          used_set,
          goes_then style (spot s done (bare_column c) more before false after set)
              (spot s done low more before true after used_set) (spot s done whole more before true after used_set)
              (bound_card (codes "LO") c.name l) (bound_card (codes "UP") c.name u ∷ []) first second,
          refl,
        )

    by : (t : Bool) → eq_ℚ l u ≡ t → RoomFor style (cond t (bound_card (codes "FX") c.name l ∷ [])
        (cond (eq_ℚ l 0ℚ && lt_ℚ 0ℚ u) (bound_card (codes "UP") c.name u ∷ []) lows))
        → IsBounded style s done whole more before after set (cond t (bound_card (codes "FX") c.name l ∷ [])
        (cond (eq_ℚ l 0ℚ && lt_ℚ 0ℚ u) (bound_card (codes "UP") c.name u ∷ []) lows))
    by true z room =
        let r = value_room style (codes "FX") c.name l room in
        let same : record c { lower = Some l; upper = Some l } ≡ whole =
        ap (λ x. record c { lower = Some l; upper = Some x }) (eq_if l u z) in (
          true,
          used_set,
          value_goes style s done (bare_column c) whole more before false after set
              Fx l e place used refl
              (record { word = word; room = r.0 }) (number_item style l hl.narrow r.1) hl same,
          refl,
        )
    by false z room = two (eq_ℚ l 0ℚ && lt_ℚ 0ℚ u) refl room
