-- What a data card of each section did to the reader's state.
--
-- `sense_did`: a word that the reader takes as the sense is a sense, is the first one, and is kept in the state.
-- `rows_did`: a card of ROWS that is taken has a known type and a valid name that is not taken; its row is added, for
--   which there is room, or is the objective where it is the first of type N.
-- `pairs_keep`: what each pair of a name and a number keeps, a list of pairs keeps when they are taken in turn.
-- `column_puts`: the pairs of a COLUMNS card are taken in turn, each as the open column's cost or entry.
-- `side_puts`: the pairs of an RHS card are taken in turn, each as a right side.
-- `put_range_did`: a range that is taken was dropped because its row is free, or was given to a row that had none.
-- `range_puts`: the pairs of a RANGES card are taken in turn, each as a range of a row.
-- `puts_of`: the pairs of a card of RHS or RANGES are taken in turn, each as its section says.
-- `columns_did`: a card of COLUMNS that is taken has a valid name, opens or continues that column, and enters its
--   pairs.
-- `card_did`: a card of RHS or RANGES that is taken uses its set's pairs, or is skipped because another set is used.
-- `rhs_did`: an RHS card that is accepted sets its right sides, or is skipped because another set is used.
-- `ranges_did`: a RANGES card that is accepted sets its ranges, or is skipped because another set is used.
-- `set_keeps`: what the choice of a set and each pair keep, a whole card of RHS or RANGES keeps.
-- `bounds_did`: a card of BOUNDS that is taken has a kind and texts, and sets a column's bounds or is of an unused set.
use Rattle.std.proofs.Common.{◌≡◌, ℕ, Bool, true, false, not, ◌||◌, cond, ltb, Option, Some, is_none, Ok, Err}
use Rattle.std.proofs.Common.{List, [], ◌∷◌, ◌++◌, length, get_or, refl, sym, ◌∙◌, subst, codes, append-nil, append_assoc}
use Rattle.std.specs.List.{list_any, position}
use Rattle.spec_text.specs.Words.{same}
use Rattle.spec_exact.specs.Fraction.{ℚ}
use Rattle.spec_model.specs.declared.parts.SizeLimits.{SizeLimits}
use Rattle.spec_model.specs.declared.parts.Sense.{Sense}
use Rattle.spec_model.specs.declared.parts.Kind.{Kind}
use Rattle.spec_model.specs.Model.{Name, no_row, is_free}
use Rattle.spec_model.specs.Kept.{is_name, is_row_name, usual_limits}
use Rattle.spec_mps.specs.declared.bound_kind.BoundKind.{BoundKind}
use Rattle.spec_mps.specs.declared.fault.Code.TheVariants as code
use Rattle.spec_mps.specs.declared.section.Section.{Section}
use Rattle.spec_mps.specs.declared.section.Section.TheVariants as section
use Rattle.spec_mps.specs.declared.style.Style.{Style}
use Rattle.spec_mps.specs.declared.target.Target.{Target}
use Rattle.spec_mps.specs.Fields.{Fields, text_at, texts_of}
use Rattle.spec_mps.specs.Checks.{Check, ◌>>=◌, must, need}
use Rattle.spec_mps.specs.Shapes.{sense_of, row_type_of, bound_kind_of, has_shape, shapes_of, shaped}
use Rattle.spec_mps.specs.Reader.{State, place_of, number_in, is_first, with_row, add_row, rows_card, new_column}
use Rattle.spec_mps.specs.Reader.{whole_columns, is_open, opened, enter, column_pair, pairs_of, in_turn, column_pairs}
use Rattle.spec_mps.specs.Reader.{column_by, marker_field, columns_card}
use Rattle.spec_mps.specs.Sides.{SetAndPairs, set_and_pairs, is_used, put_side, side_pair, side_pairs, rhs_card}
use Rattle.spec_mps.specs.Sides.{ranged_row, new_range, put_range, range_pair, range_pairs, ranges_card}
use Rattle.spec_mps.specs.Bounds.{BoundCard, bound_card, BoundTexts, bound_texts, with_bound, use_bound, bounds_card}
use Rattle.spec_mps.specs.Steps.{take_sense, data_card}
use Rattle.spec_mps.proofs.CheckSteps.{step_ok, must_ok, need_ok, same_ok}
use Rattle.spec_mps.proofs.Sets.{Sets, Sides, Ranges, part_of, pair_of, card_is}

-- a card that has a shape of its section gives the texts of its fields
shaped_texts : (style : Style) (part : Section) (fields : Fields) (texts : List (List ℕ)) →
    shaped style part fields ≡ Ok texts → texts_of fields ≡ texts
unfolding shaped
shaped_texts style part fields texts h = go (has_shape (shapes_of style part) fields) h
  where
    go : (b : Bool) → cond b (Ok (texts_of fields)) (Err code.CardShape) ≡ Ok texts → texts_of fields ≡ texts
    go true k = same_ok _ texts k
    go false k = absurd (cc)

-- ---- OBJSENSE

-- the sense is that of its word
pub sense_did : (s : State) (word : List ℕ) (t : State) → take_sense s word ≡ Ok t →
    (sense : Sense) × (sense_of word ≡ Some sense) × (is_none s.sense ≡ true) × (record s { sense = Some sense } ≡ t)
unfolding take_sense
sense_did s word t h =
    let a = need_ok (sense_of word) code.CardShape _ t h in
    let b = must_ok (is_none s.sense) code.CardShape _ t a.2 in
    (a.0, a.1, b.0, same_ok _ t b.1)

-- ---- ROWS

-- what a card of ROWS that leads from s to t had: a known type, a valid name that is not taken, and room, unless it is
-- the objective; t is s with this row or objective
pub record RowsDid (limits : SizeLimits) (s : State) (fields : Fields) (t : State) : Type 0 where
  pub kind : Kind
  pub kind_is : row_type_of (text_at 1 fields) ≡ Some kind
  pub name : is_row_name (text_at 2 fields) ≡ true
  pub free : is_none (place_of s (text_at 2 fields)) ≡ true
  pub few : (is_first s kind || ltb (length s.rows) limits.rows) ≡ true
  pub new : with_row s kind (text_at 2 fields) ≡ t

-- a row that is added without fault did what a card of ROWS does
add_row_did : {limits : SizeLimits} (s : State) (kind : Kind) (fields : Fields) (t : State) →
    row_type_of (text_at 1 fields) ≡ Some kind →
    add_row limits s kind (text_at 2 fields) ≡ Ok t → RowsDid limits s fields t
unfolding add_row
add_row_did {limits = limits} s kind fields t e h =
    let name = text_at 2 fields in
    let a = must_ok (is_row_name name) code.Name _ t h in
    let b = must_ok (is_none (place_of s name)) code.RowTaken _ t a.1 in
    let c = must_ok (is_first s kind || ltb (length s.rows) limits.rows) code.Limit _ t b.1 in
    record { kind = kind; kind_is = e; name = a.0; free = b.0; few = c.0; new = same_ok _ t c.1 }

pub rows_did : {limits : SizeLimits} (style : Style) (s : State) (fields : Fields) (t : State) →
    rows_card limits style s fields ≡ Ok t →
    RowsDid limits s fields t
unfolding rows_card
rows_did style s fields t h =
    let a = step_ok (shaped style section.Rows fields) _ t h in
    let b = need_ok (row_type_of (text_at 1 fields)) code.RowType _ t a.2 in
    add_row_did s b.0 fields t b.1 b.2

-- ---- pairs of a row's name and a number

-- a pair leads from s to t: `put` put its number at the target that its name stands for
pub record PairDid (put : State → Target → ℚ → Check State)
    (s : State) (pair : List ℕ × List ℕ) (t : State) : Type 0 where
  pub place : Target
  pub value : ℚ
  pub place_is : place_of s pair.0 ≡ Some place
  pub number_is : number_in pair.1 ≡ Ok value
  pub did : put s place value ≡ Ok t

-- `run` takes pairs in turn: of none it leaves the state, and of more it puts the first one's number at its target by
-- `put` and then takes the others
pub record PutsPairs (put : State → Target → ℚ → Check State)
    (run : State → List (List ℕ × List ℕ) → Check State) : Type 0 where
  pub none : (s t : State) → run s [] ≡ Ok t → s ≡ t
  pub one : (s t : State) (pair : List ℕ × List ℕ) (pairs : List (List ℕ × List ℕ)) → run s (pair ∷ pairs) ≡ Ok t →
      (u : State) × PairDid put s pair u × (run u pairs ≡ Ok t)

-- what each pair keeps, all of them keep
pub pairs_keep : (put : State → Target → ℚ → Check State) (run : State → List (List ℕ × List ℕ) → Check State) →
    PutsPairs put run → (K : List (List ℕ × List ℕ) → State → Type 0) →
    ((done : List (List ℕ × List ℕ)) (s : State) (pair : List ℕ × List ℕ) (t : State) → PairDid put s pair t →
    K done s → K (done ++ pair ∷ []) t) →
    (pairs done : List (List ℕ × List ℕ)) (s t : State) → run s pairs ≡ Ok t → K done s → K (done ++ pairs) t
pairs_keep put run puts K f [] done s t h k =
    subst (λ l. K l t) (sym (append-nil done)) (subst (K done) (puts.none s t h) k)
pairs_keep put run puts K f (pair ∷ pairs) done s t h k =
    let a = puts.one s t pair pairs h in
    subst (λ l. K l t) (append_assoc done (pair ∷ []) pairs)
    (pairs_keep put run puts K f pairs (done ++ pair ∷ []) a.0 t a.2 (f done s pair a.0 a.1 k))

-- a pair that is accepted sets the number of its text at the row or the objective that its name stands for
pair_did : (put : State → Target → ℚ → Check State) (s : State) (pair : List ℕ × List ℕ) (t : State) →
    (need (place_of s pair.0) code.UnknownRow >>= λ place. number_in pair.1 >>= λ v. put s place v) ≡ Ok t →
    PairDid put s pair t
pair_did put s pair t h =
    let a = need_ok (place_of s pair.0) code.UnknownRow _ t h in
    let b = step_ok (number_in pair.1) _ t a.2 in
    record { place = a.0; value = b.0; place_is = a.1; number_is = b.1; did = b.2 }

-- a run that takes one step for each pair puts all pairs, where each step puts its own
puts_by : (put : State → Target → ℚ → Check State) (step : State → List ℕ × List ℕ → Check State)
    (run : State → List (List ℕ × List ℕ) → Check State) → ((s t : State) → run s [] ≡ Ok t → s ≡ t) →
    ((s : State) (pair : List ℕ × List ℕ) (pairs : List (List ℕ × List ℕ)) →
    run s (pair ∷ pairs) ≡ (step s pair >>= λ u. run u pairs)) →
    ((s : State) (pair : List ℕ × List ℕ) (t : State) → step s pair ≡ Ok t → PairDid put s pair t) → PutsPairs put run
puts_by put step run none next did =
    record {
      none = none;
      one =
          λ s t pair pairs h.
          let a = step_ok (step s pair) (λ u. run u pairs) t (sym (next s pair pairs) ∙ h) in
          (a.0, did s pair a.0 a.1, a.2);
    }

pub column_puts : PutsPairs enter column_pairs
unfolding column_pair
column_puts =
    puts_by enter (λ s pair. column_pair s pair.0 pair.1) column_pairs same_ok (λ s pair pairs. refl) (pair_did enter)

pub side_puts : PutsPairs put_side side_pairs
unfolding side_pair
side_puts =
    puts_by put_side (λ s pair. side_pair s pair.0 pair.1) side_pairs same_ok (λ s pair pairs. refl) (pair_did put_side)

-- the state with a range at a target, unchanged for a free row; a fault for the objective
abbrev pub put_ranged : State → Target → ℚ → Check State
put_ranged s place v = ranged_row place >>= λ row. put_range s row v

-- a pair of RANGES that is accepted sets its number as the range of the row that its name stands for
range_did : (s : State) (pair : List ℕ × List ℕ) (t : State) → range_pair s pair.0 pair.1 ≡ Ok t →
    PairDid put_ranged s pair t
unfolding range_pair
range_did s pair t h =
    let a = need_ok (place_of s pair.0) code.UnknownRow _ t h in
    let b = step_ok (ranged_row a.0) _ t a.2 in
    let c = step_ok (number_in pair.1) _ t b.2 in
    let put : put_ranged s a.0 c.0 ≡ Ok t =
    subst (λ (r : Check ℕ). (r >>= λ row. put_range s row c.0) ≡ Ok t) (sym b.1) c.2 in
    record { place = a.0; value = c.0; place_is = a.1; number_is = c.1; did = put }

-- what a range for row i did from s to t: nothing, as the row is free; or the row, which had none, has it now
pub data RangeDid (s : State) (i : ℕ) (v : ℚ) (t : State) : Type 0 where
  Forgotten : (free : is_free (get_or s.rows i no_row).kind ≡ true) → (same : s ≡ t) → RangeDid s i v t
  Kept : (limited : is_free (get_or s.rows i no_row).kind ≡ false) → (did : new_range s i v ≡ Ok t) → RangeDid s i v t

pub put_range_did : (s : State) (i : ℕ) (v : ℚ) (t : State) → put_range s i v ≡ Ok t → RangeDid s i v t
unfolding put_range
put_range_did s i v t h = go (is_free (get_or s.rows i no_row).kind) refl h
  where
    go : (b : Bool) → is_free (get_or s.rows i no_row).kind ≡ b → cond b (Ok s) (new_range s i v) ≡ Ok t →
        RangeDid s i v t
    go true e k = Forgotten e (same_ok s t k)
    go false e k = Kept e k

pub range_puts : PutsPairs put_ranged range_pairs
range_puts =
    puts_by put_ranged (λ s pair. range_pair s pair.0 pair.1) range_pairs same_ok (λ s pair pairs. refl) range_did

-- the state with a number at a target: as its right side in RHS, as its range in RANGES
abbrev pub put_of : Sets → State → Target → ℚ → Check State
put_of Sides = put_side
put_of Ranges = put_ranged

pub puts_of : (sets : Sets) → PutsPairs (put_of sets) (in_turn (pair_of sets))
puts_of Sides = side_puts
puts_of Ranges = range_puts

-- ---- COLUMNS

-- how the column of this name was opened from s to t: it was open already; or it is new, with a free name and room, and
-- the old open one is whole
pub data Opens (limits : SizeLimits) (s : State) (name : Name) (t : State) : Type 0 where
  Same : (known : is_open s.column name ≡ true) → (same : s ≡ t) → Opens limits s name t
  New : (other : is_open s.column name ≡ false) →
      (free : not (list_any (λ c. same c.name name) (whole_columns s)) ≡ true) →
      (few : ltb (length (whole_columns s)) limits.columns ≡ true) →
      (new : record s {
        columns = whole_columns s;
        column = Some (new_column name);
        lowered = s.lowered ++ false ∷ [];
        paired = [];
      } ≡ t) →
      Opens limits s name t

-- a column that is opened without fault is the open one again, or a new one
opened_did : {limits : SizeLimits} (s : State) (name : Name) (t : State) → opened limits s name ≡ Ok t →
    Opens limits s name t
unfolding opened
opened_did {limits = limits} s name t h = go (is_open s.column name) refl h
  where
    go : (b : Bool) → is_open s.column name ≡ b →
        cond b (Ok s) (must (not (list_any (λ c. same c.name name) (whole_columns s))) code.ColumnTaken >>=
        λ _. must (ltb (length (whole_columns s)) limits.columns) code.Limit >>= λ _. Ok (record s {
          columns = whole_columns s;
          column = Some (new_column name);
          lowered = s.lowered ++ false ∷ [];
          paired = [];
        })) ≡ Ok t →
        Opens limits s name t
    go true e k = Same e (same_ok s t k)
    go false e k =
        let a = must_ok (not (list_any (λ c. same c.name name) (whole_columns s))) code.ColumnTaken _ t k in
        let b = must_ok (ltb (length (whole_columns s)) limits.columns) code.Limit _ t a.1 in
        New e a.0 b.0 (same_ok _ t b.1)

-- what the texts of a card of COLUMNS that leads from s to t had: a valid name, whose column is opened or goes on, and
-- pairs, which lead on to t
pub record ColumnsDid (limits : SizeLimits) (s : State) (texts : List (List ℕ)) (t : State) : Type 0 where
  pub name : List ℕ
  pub more : List (List ℕ)
  pub texts_are : texts ≡ name ∷ more
  pub name_is : is_name name ≡ true
  pub between : State
  pub opens : Opens limits s name between
  pub pairs : column_pairs between (pairs_of more) ≡ Ok t

-- the texts of a card of COLUMNS without fault did what such a card does
column_by_did : {limits : SizeLimits} (s : State) (texts : List (List ℕ)) (t : State) →
    column_by limits s texts ≡ Ok t → ColumnsDid limits s texts t
column_by_did s [] t h = absurd (cc)
column_by_did {limits = limits} s (name ∷ texts) t h =
    let a = must_ok (is_name name) code.Name _ t h in
    let b = step_ok (opened limits s name) _ t a.1 in
    record {
      name = name;
      more = texts;
      texts_are = refl;
      name_is = a.0;
      between = b.0;
      opens = opened_did s name b.0 b.1;
      pairs = b.2;
    }

pub columns_did : {limits : SizeLimits} (style : Style) (s : State) (fields : Fields) (t : State) →
    columns_card limits style s fields ≡ Ok t →
    ColumnsDid limits s (texts_of fields) t
unfolding columns_card
columns_did {limits = limits} style s fields t h =
    let a = must_ok (not (same (text_at (marker_field style) fields) (codes "'MARKER'"))) code.Integer _ t h in
    let b = step_ok (shaped style section.Columns fields) _ t a.1 in
    column_by_did s (texts_of fields) t
    (subst (λ x. column_by limits s x ≡ Ok t) (sym (shaped_texts style section.Columns fields b.0 b.1)) b.2)

-- ---- RHS and RANGES

-- what a card of RHS or RANGES did from s to t: its set is in use, and `does` took its pairs; or it is another set, and
-- nothing changed
pub data SetDid (s : State) (card : SetAndPairs)
    (does : State → List (List ℕ × List ℕ) → Check State) (t : State) : Type 0 where
  Used : (used : is_used s.set card.set ≡ true) → (did : does (record s { set = Some card.set }) card.pairs ≡ Ok t) →
      SetDid s card does t
  Skipped : (other : is_used s.set card.set ≡ false) → (same : s ≡ t) → SetDid s card does t

-- a card of RHS or RANGES does its pairs where its set is in use
set_did : (s : State) (card : SetAndPairs) (does : State → List (List ℕ × List ℕ) → Check State) (t : State) →
    cond (is_used s.set card.set) (does (record s { set = Some card.set }) card.pairs) (Ok s) ≡ Ok t →
    SetDid s card does t
set_did s card does t h = go (is_used s.set card.set) refl h
  where
    go : (b : Bool) → is_used s.set card.set ≡ b →
        cond b (does (record s { set = Some card.set }) card.pairs) (Ok s) ≡ Ok t → SetDid s card does t
    go true e k = Used e k
    go false e k = Skipped e (same_ok s t k)

pub card_did : (limits : SizeLimits) (sets : Sets) (style : Style) (s : State) (fields : Fields) (t : State) →
    data_card limits style (Some (part_of sets)) s fields ≡ Ok t →
    SetDid s (set_and_pairs (texts_of fields)) (in_turn (pair_of sets)) t
card_did limits sets style s fields t h =
    let a = step_ok (shaped style (part_of sets) fields) _ t (sym (card_is limits sets style s fields) ∙ h) in
    subst (λ x. SetDid s (set_and_pairs x) (in_turn (pair_of sets)) t)
    (sym (shaped_texts style (part_of sets) fields a.0 a.1))
    (set_did s (set_and_pairs a.0) (in_turn (pair_of sets)) t a.2)

pub rhs_did : (style : Style) (s : State) (fields : Fields) (t : State) → rhs_card style s fields ≡ Ok t →
    SetDid s (set_and_pairs (texts_of fields)) side_pairs t
rhs_did = card_did usual_limits Sides

pub ranges_did : (style : Style) (s : State) (fields : Fields) (t : State) → ranges_card style s fields ≡ Ok t →
    SetDid s (set_and_pairs (texts_of fields)) range_pairs t
ranges_did = card_did usual_limits Ranges

-- what a card's set and each of its pairs keep, the card keeps
pub set_keeps : (put : State → Target → ℚ → Check State) (run : State → List (List ℕ × List ℕ) → Check State) →
    PutsPairs put run → (K : State → Type 0) →
    ((s : State) (set : Option Name) → K s → K (record s { set = Some set })) →
    ((s : State) (pair : List ℕ × List ℕ) (t : State) → PairDid put s pair t → K s → K t) →
    (s : State) (card : SetAndPairs) (t : State) → SetDid s card run t → K s → K t
set_keeps put run puts K of_set of_pair s card t (Used used did) k =
    pairs_keep put run puts (λ done u. K u)
    (λ done u pair v d h. of_pair u pair v d h) card.pairs [] _ t did (of_set s card.set k)
set_keeps put run puts K of_set of_pair s card t (Skipped other same) k = subst K same k

-- ---- BOUNDS

-- what a card of BOUNDS of this kind and with these texts did from s to t: it bounded a column of the state, or was
-- skipped, as its set is another than the one in use
pub data BoundDid (s : State) (kind : BoundKind) (texts : BoundTexts) (t : State) : Type 0 where
  UsedBound : (place : ℕ) → (card : BoundCard) → (used : is_used s.set texts.set ≡ true) →
      (place_is : position (λ c. same c.name texts.column) s.columns ≡ Some place) →
      (card_is : bound_card kind texts.value ≡ Ok card) →
      (did : with_bound (record s { set = Some texts.set }) place card ≡ t) → BoundDid s kind texts t
  SkippedBound : (other : is_used s.set texts.set ≡ false) → (same : s ≡ t) → BoundDid s kind texts t

-- a card of BOUNDS that leads from s to t has a known kind and the texts of a shape of it, and did what these say
pub record BoundsDid (style : Style) (s : State) (fields : Fields) (t : State) : Type 0 where
  pub kind : BoundKind
  pub texts : BoundTexts
  pub kind_is : bound_kind_of (text_at 1 fields) ≡ Ok kind
  pub texts_are : bound_texts style kind fields ≡ Ok texts
  pub did : BoundDid s kind texts t

pub bounds_did : (style : Style) (s : State) (fields : Fields) (t : State) → bounds_card style s fields ≡ Ok t →
    BoundsDid style s fields t
unfolding bounds_card use_bound
bounds_did style s fields t h =
    let a = step_ok (bound_kind_of (text_at 1 fields)) _ t h in
    let b = step_ok (bound_texts style a.0 fields) _ t a.2 in
    record {
      kind = a.0;
      texts = b.0;
      kind_is = a.1;
      texts_are = b.1;
      did = go a.0 b.0 (is_used s.set b.0.set) refl b.2;
    }
  where
    go : (kind : BoundKind) (texts : BoundTexts) (b : Bool) → is_used s.set texts.set ≡ b →
        cond b (use_bound s kind texts) (Ok s) ≡ Ok t → BoundDid s kind texts t
    go kind texts true e k =
        let c = need_ok (position (λ c. same c.name texts.column) s.columns) code.UnknownColumn _ t k in
        let d = step_ok (bound_card kind texts.value) _ t c.2 in
        UsedBound c.0 d.0 e c.1 d.1 (same_ok _ t d.2)
    go kind texts false e k = SkippedBound e (same_ok s t k)
