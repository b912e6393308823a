-- Each data card keeps the reader's state sound: rows, columns and numbers as a kept model has them.
--
-- `rows_card_sound`: a card of ROWS that is taken keeps the state sound.
-- `columns_card_sound`: a card of COLUMNS that is taken keeps the state sound.
-- `rhs_card_sound`: a card of RHS that is taken keeps the state sound.
-- `ranges_card_sound`: a card of RANGES that is taken keeps the state sound.
-- `bounds_card_sound`: a card of BOUNDS that is taken keeps the state sound.
use Rattle.std.proofs.Common.{◌≡◌, ◌≢◌, ℕ, zero, suc, ◌<◌, ◌≤◌, Bool, true, false, ◌||◌, not}
use Rattle.std.proofs.Common.{cond, ltb, Option, Some, None, is_none, Ok, List, [], ◌∷◌, ◌++◌, length}
use Rattle.std.proofs.Common.{map, All, refl, sym, ap, subst, arith, get_or, length-append}
use borrow.Author.Tests.{ltb-true}
use Rattle.std.specs.List.{position}
use Rattle.std.specs.Option.{option_to_list}
use Rattle.std.proofs.lemmas.List.{map-append, length-map}
use Rattle.std.proofs.lemmas.Bool.{and_parts, not-true}
use Rattle.std.proofs.lemmas.List.Elements.{All-cons, All-head, All-tail, All-push}
use Rattle.std.proofs.lemmas.List.Quantifiers.{position-Some}
use Rattle.std.proofs.lemmas.Option.{same_Some}
use Rattle.spec_text.specs.Words.{same}
use Rattle.spec_text.proofs.WordLemmas.{same_false}
use Rattle.spec_exact.specs.Fraction.{ℚ, abs_ℚ, ◌<ℚ◌}
use Rattle.spec_exact.specs.Narrow.{IsNarrow}
use Rattle.spec_exact.proofs.Narrow.{neg_narrow}
use Rattle.spec_model.specs.declared.parts.SizeLimits.{SizeLimits}
use Rattle.spec_model.specs.declared.parts.Kind.{Kind}
use Rattle.spec_model.specs.Model.{Name, ExactRow, ExactColumn, no_row, is_free}
use Rattle.spec_model.specs.Kept.{IsNarrowRow, FitsKind, is_name, is_row_name}
use Rattle.spec_mps.specs.declared.fault.Code.TheVariants as code
use Rattle.spec_mps.specs.declared.bound_kind.BoundKind.{BoundKind}
use Rattle.spec_mps.specs.declared.style.Style.{Style}
use Rattle.spec_mps.specs.declared.target.Target.{Target}
use Rattle.spec_mps.specs.declared.target.Target.TheVariants.{Objective, Row}
use Rattle.spec_mps.specs.BoundText.{infinite}
use Rattle.spec_mps.specs.Fields.{Fields, text_at}
use Rattle.spec_mps.specs.Checks.{Check}
use Rattle.spec_mps.specs.Reader.{State, is_objective, row_at, place_of, is_among, new_row, is_first, with_row}
use Rattle.spec_mps.specs.Reader.{rows_card, whole_columns, enter, columns_card, pairs_of}
use Rattle.spec_mps.specs.Sides.{changed_at, put_side, rhs_card, new_range, ranges_card}
use Rattle.spec_mps.specs.Bounds.{BoundCard, BoundTexts, with_bound, bounds_card}
use Rattle.spec_mps.proofs.BoundLemmas.{bound_is_within, abs_from_within}
use Rattle.spec_mps.proofs.TwoPartTests.{none_if}
use Rattle.spec_mps.proofs.Names.{none_pass, nowhere, others}
use Rattle.spec_mps.proofs.CheckSteps.{must_ok, same_ok}
use Rattle.spec_mps.proofs.CardsDid.{rows_did, PairDid, pairs_keep, column_puts, side_puts, put_ranged, range_puts}
use Rattle.spec_mps.proofs.CardsDid.{RangeDid, Forgotten, Kept, put_range_did}
use Rattle.spec_mps.proofs.CardsDid.{Opens, Same, New, columns_did, rhs_did, ranges_did, set_keeps}
use Rattle.spec_mps.proofs.CardsDid.{BoundDid, UsedBound, SkippedBound, bounds_did}
use Rattle.spec_mps.proofs.BoundsSet.{SetsAll, card_sets}
use Rattle.spec_mps.proofs.NarrowNumbers.{bound_narrow}
use Rattle.spec_mps.proofs.NarrowSoFar.{AreNarrow, changed_all, in_narrow, more_narrow, new_narrow, entered_narrow}
use Rattle.spec_mps.proofs.NarrowSoFar.{offset_narrow, row_narrow, bounds_narrow}
use Rattle.spec_mps.proofs.SoundRows.{SoundRows, with_objective, push_row}
use Rattle.spec_mps.proofs.SoundColumns.{SoundColumns, IsInside, more_rows}
use Rattle.spec_mps.proofs.SoundColumns.{more_paired, closed, with_new, with_pair, with_bounds}

-- the names of rows, in order
abbrev pub row_names : List ExactRow → List Name
row_names rows = map (λ r. r.name) rows

-- a free row has no range
abbrev pub HasFitRange : ExactRow → Type 0
HasFitRange r = FitsKind r.kind r.range

-- what was read is as a model has it that may be kept within the limits: its names, rows and columns, and numbers
-- within 127 bits
pub record IsSound (limits : SizeLimits) (s : State) : Type 0 where
  pub rows : SoundRows limits s.name s.objective (row_names s.rows)
  pub fit : All HasFitRange s.rows
  pub columns : SoundColumns limits (length (row_names s.rows)) s.columns s.column s.paired
  pub narrow : AreNarrow s.offset s.rows s.columns s.column

-- ---- names of rows

-- a name for which a search finds no target is neither the objective's nor a row's
untaken : (t : Bool) (o : Option ℕ) → cond t (Some Objective) (row_at o) ≡ None → (t ≡ false) × (o ≡ None)
untaken true o h = cc
untaken false None h = (refl, refl)
untaken false (Some i) h = cc

-- a name that is neither the objective's nor one of others is none of all these
beside_objective : (o : Option Name) (names : List Name) (name : Name) → is_objective o name ≡ false →
    All (λ n. n ≢ name) names → All (λ n. n ≢ name) (option_to_list o ++ names)
beside_objective None names name f h = h
beside_objective (Some x) names name f h = All-cons (λ n. n ≢ name) x names (same_false x name f) h

-- a name that stands for nothing is no row's and not the objective's
free_name : (s : State) (name : Name) → place_of s name ≡ None →
    All (λ n. n ≢ name) (option_to_list s.objective ++ row_names s.rows)
unfolding place_of
free_name s name h =
    let u = untaken (is_objective s.objective name) (position (λ r. same r.name name) s.rows) h in
    beside_objective s.objective (row_names s.rows) name u.0
    (others (λ (r : ExactRow). r.name) name s.rows (nowhere (λ (r : ExactRow). same r.name name) s.rows u.1))

-- a name stands for the objective or for a row that there is
place_inside : (s : State) (name : Name) (place : Target) → place_of s name ≡ Some place →
    IsInside (length (row_names s.rows)) place
unfolding place_of
place_inside s name place h =
    go (is_objective s.objective name) (position (λ r. same r.name name) s.rows) (λ i k. omega (
      arith,
      (position-Some (λ (r : ExactRow). same r.name name) s.rows i no_row k).0,
      length-map s.rows (λ (r : ExactRow). r.name),
    )) h
  where
    go : (t : Bool) (o : Option ℕ) → ((i : ℕ) → o ≡ Some i → i < length (row_names s.rows)) →
        cond t (Some Objective) (row_at o) ≡ Some place → IsInside (length (row_names s.rows)) place
    go true o f k = subst (IsInside (length (row_names s.rows))) (same_Some Objective place k) tt
    go false None f k = absurd (cc)
    go false (Some i) f k = subst (IsInside (length (row_names s.rows))) (same_Some (Row i) place k) (f i refl)

-- ---- ROWS

-- a row of a new name leaves a sound state sound where there is room
with_row_sound : {limits : SizeLimits} (s : State) (kind : Kind) (name : Name) → is_row_name name ≡ true →
    place_of s name ≡ None →
    (is_first s kind || ltb (length s.rows) limits.rows) ≡ true → IsSound limits s →
    IsSound limits (with_row s kind name)
with_row_sound {limits = limits} s kind name t n few sound = go (is_first s kind) refl few
  where
    go : (b : Bool) → is_first s kind ≡ b → (b || ltb (length s.rows) limits.rows) ≡ true →
        IsSound limits (cond b (record s { objective = Some name }) (record s {
          rows = s.rows ++ new_row kind name ∷ [];
        }))
    go true e k =
        let none : s.objective ≡ None = none_if s.objective (and_parts (is_none s.objective) (is_free kind) e).0 in
        let f = subst (λ o. All (λ n. n ≢ name) (option_to_list o ++ row_names s.rows)) none (free_name s name n) in
        record {
          rows =
              with_objective s.name (row_names s.rows) name t f
              (subst (λ o. SoundRows limits s.name o (row_names s.rows)) none sound.rows);
          fit = sound.fit;
          columns = sound.columns;
          narrow = sound.narrow;
        }
    go false e k =
        let less : length (row_names s.rows) < limits.rows =
        omega (arith, ltb-true _ _ k, length-map s.rows (λ (r : ExactRow). r.name)) in
        let e : row_names (s.rows ++ new_row kind name ∷ []) ≡ row_names s.rows ++ name ∷ [] =
        map-append (λ (r : ExactRow). r.name) s.rows (new_row kind name ∷ []) in
        let longer : length (row_names s.rows) ≤ length (row_names (s.rows ++ new_row kind name ∷ [])) =
        omega (arith, ap length e, length-append (row_names s.rows) (name ∷ [])) in
        record {
          rows =
              subst (SoundRows limits s.name s.objective) (sym e)
              (push_row s.name s.objective (row_names s.rows) name t less (free_name s name n) sound.rows);
          fit = All-push HasFitRange s.rows (new_row kind name) sound.fit tt;
          columns = more_rows _ _ s.columns s.column s.paired longer sound.columns;
          narrow = more_narrow s.offset s.rows s.columns s.column sound.narrow kind name;
        }

pub rows_card_sound : {limits : SizeLimits} (style : Style) (s : State) (fields : Fields) (t : State) →
    rows_card limits style s fields ≡ Ok t →
    IsSound limits s → IsSound limits t
rows_card_sound style s fields t h sound =
    let d = rows_did style s fields t h in
    subst (IsSound _) d.new
    (with_row_sound s d.kind (text_at 2 fields) d.name (none_if (place_of s (text_at 2 fields)) d.free) d.few sound)

-- ---- COLUMNS

-- a sound state stays sound where a column of a valid name is opened
opens_sound : {limits : SizeLimits} (s : State) (name : Name) (t : State) → is_name name ≡ true →
    Opens limits s name t → IsSound limits s → IsSound limits t
opens_sound s name t named (Same known same) sound = subst (IsSound _) same sound
opens_sound s name t named (New other free few new) sound =
    let f =
    others (λ (c : ExactColumn). c.name) name (whole_columns s)
    (none_pass (λ (c : ExactColumn). same c.name name) (whole_columns s) (not-true _ free)) in
    subst (IsSound _) new
    (record {
      rows = sound.rows;
      fit = sound.fit;
      columns =
          with_new (length (row_names s.rows)) (whole_columns s) name named f (ltb-true _ _ few)
          (closed (length (row_names s.rows)) s.columns s.column s.paired sound.columns);
      narrow = new_narrow s.offset s.rows s.columns s.column sound.narrow name;
    })

-- the number of a pair that is accepted has at most 127 bits
pair_narrow : {put : State → Target → ℚ → Check State} {s : State} {pair : List ℕ × List ℕ} {t : State} →
    (p : PairDid put s pair t) → IsNarrow p.value
pair_narrow {pair = pair} p = in_narrow pair.1 p.value p.number_is

-- a sound state stays sound where a pair of COLUMNS is entered
entered_sound : {limits : SizeLimits} (s : State) (pair : List ℕ × List ℕ) (t : State) → PairDid enter s pair t →
    IsSound limits s → IsSound limits t
unfolding enter
entered_sound s pair t p sound =
    let a = must_ok (not (is_among p.place s.paired)) code.EntryRepeated _ t p.did in
    subst (IsSound _) (same_ok _ t a.1)
    (record {
      rows = sound.rows;
      fit = sound.fit;
      columns =
          with_pair (length (row_names s.rows)) s.columns s.column s.paired p.place p.value
          (place_inside s pair.0 p.place p.place_is) (not-true _ a.0) sound.columns;
      narrow = entered_narrow s.offset s.rows s.columns s.column sound.narrow p.place p.value (pair_narrow p);
    })

pub columns_card_sound : {limits : SizeLimits} (style : Style) (s : State) (fields : Fields) (t : State) →
    columns_card limits style s fields ≡ Ok t → IsSound limits s → IsSound limits t
columns_card_sound {limits = limits} style s fields t h sound =
    let d = columns_did style s fields t h in
    pairs_keep enter _ column_puts (λ done u. IsSound limits u) (λ done u pair v p k. entered_sound u pair v p k)
    (pairs_of d.more) [] d.between t d.pairs (opens_sound s d.name d.between d.name_is d.opens sound)

-- ---- RHS and RANGES

-- a change of one row that leaves each row's name leaves the names of all rows
changed_rows : (i : ℕ) (change : ExactRow → ExactRow) (rows : List ExactRow) →
    ((r : ExactRow) → (change r).name ≡ r.name) → row_names (changed_at i change rows) ≡ row_names rows
changed_rows i change [] same_name = refl
changed_rows zero change (r ∷ rows) same_name = ap (λ name. name ∷ row_names rows) (same_name r)
changed_rows (suc i) change (r ∷ rows) same_name = ap (λ names. r.name ∷ names) (changed_rows i change rows same_name)

-- a number of 127 bits at a row, which keeps its name, leaves a sound state sound
row_sound : {limits : SizeLimits} (s : State) (t : Target) (i : ℕ) (change : ExactRow → ExactRow) →
    ((r : ExactRow) → (change r).name ≡ r.name) → ((r : ExactRow) → IsNarrowRow r → IsNarrowRow (change r)) →
    All HasFitRange (changed_at i change s.rows) → IsSound limits s →
    IsSound limits (record s { rows = changed_at i change s.rows; paired = t ∷ s.paired })
row_sound {limits = limits} s t i change same_name small fit sound =
    let e = changed_rows i change s.rows same_name in
    record {
      rows = subst (SoundRows limits s.name s.objective) (sym e) sound.rows;
      fit = fit;
      columns =
          subst (λ names. SoundColumns limits (length names) s.columns s.column (t ∷ s.paired)) (sym e)
          (more_paired (length (row_names s.rows)) t s.columns s.column s.paired sound.columns);
      narrow = row_narrow s.offset s.rows s.columns s.column sound.narrow i change small;
    }

-- a sound state stays sound after a pair of RHS
put_side_sound : {limits : SizeLimits} (s : State) (pair : List ℕ × List ℕ) (t : State) → PairDid put_side s pair t →
    IsSound limits s → IsSound limits t
unfolding put_side
put_side_sound {limits = limits} s pair t p sound = by p.place p.did
  where
    by : (place : Target) → put_side s place p.value ≡ Ok t → IsSound limits t
    by Objective h =
        let a = must_ok (not (is_among Objective s.paired)) code.EntryRepeated _ t h in
        subst (IsSound _) (same_ok _ t a.1)
        (record {
          rows = sound.rows;
          fit = sound.fit;
          columns = more_paired (length (row_names s.rows)) Objective s.columns s.column s.paired sound.columns;
          narrow = offset_narrow s.offset s.rows s.columns s.column sound.narrow _ (neg_narrow p.value (pair_narrow p));
        })
    by (Row i) h =
        let a = must_ok (not (is_among (Row i) s.paired)) code.EntryRepeated _ t h in
        subst (IsSound _) (same_ok _ t a.1)
        (row_sound s (Row i) i (λ r. record r { rhs = p.value }) (λ r. refl)
        (λ r k. record { rhs = pair_narrow p; range = k.range })
        (changed_all HasFitRange i (λ r. record r { rhs = p.value }) s.rows (λ r k. k) sound.fit) sound)

-- a range of a row that is not free leaves all rows with ranges that fit their kinds
ranged_fit : (i : ℕ) (v : ℚ) (rows : List ExactRow) → is_free (get_or rows i no_row).kind ≡ false →
    All HasFitRange rows → All HasFitRange (changed_at i (λ r. record r { range = Some v }) rows)
ranged_fit i v [] f h = h
ranged_fit zero v (r ∷ rows) f h =
    All-cons HasFitRange (record r { range = Some v }) rows f (All-tail HasFitRange r rows h)
ranged_fit (suc i) v (r ∷ rows) f h =
    All-cons HasFitRange r (changed_at i (λ r. record r { range = Some v }) rows) (All-head HasFitRange r rows h)
    (ranged_fit i v rows f (All-tail HasFitRange r rows h))

-- a sound state stays sound after a pair of RANGES
put_range_sound : {limits : SizeLimits} (s : State) (pair : List ℕ × List ℕ) (t : State) → PairDid put_ranged s pair t →
    IsSound limits s → IsSound limits t
unfolding new_range
put_range_sound {limits = limits} s pair t p sound = by p.place p.did
  where
    new : (i : ℕ) → RangeDid s i p.value t → IsSound limits t
    new i (Forgotten free same) = subst (IsSound _) same sound
    new i (Kept limited did) =
        let a = must_ok (not (is_among (Row i) s.paired)) code.EntryRepeated _ t did in
        subst (IsSound _) (same_ok _ t a.1)
        (row_sound s (Row i) i (λ r. record r { range = Some p.value }) (λ r. refl)
        (λ r k. record { rhs = k.rhs; range = pair_narrow p }) (ranged_fit i p.value s.rows limited sound.fit) sound)

    by : (place : Target) → put_ranged s place p.value ≡ Ok t → IsSound limits t
    by Objective h = absurd (cc)
    by (Row i) h = new i (put_range_did s i p.value t h)

-- a sound state stays sound with a set in use
with_set : {limits : SizeLimits} (s : State) (set : Option Name) → IsSound limits s →
    IsSound limits (record s { set = Some set })
with_set s set sound = record { rows = sound.rows; fit = sound.fit; columns = sound.columns; narrow = sound.narrow }

pub rhs_card_sound : {limits : SizeLimits} (style : Style) (s : State) (fields : Fields) (t : State) →
    rhs_card style s fields ≡ Ok t →
    IsSound limits s → IsSound limits t
rhs_card_sound style s fields t h sound =
    set_keeps put_side _ side_puts (IsSound _) with_set put_side_sound s _ t (rhs_did style s fields t h) sound

pub ranges_card_sound : {limits : SizeLimits} (style : Style) (s : State) (fields : Fields) (t : State) →
    ranges_card style s fields ≡ Ok t →
    IsSound limits s → IsSound limits t
ranges_card_sound style s fields t h sound =
    set_keeps put_ranged _ range_puts (IsSound _) with_set put_range_sound s _ t (ranges_did style s fields t h) sound

-- ---- BOUNDS

-- bounds of 127 bits, less than 10 ^ 20 from 0, leave a sound state sound
with_bound_sound : {limits : SizeLimits} (s : State) (place : ℕ) (card : BoundCard) →
    SetsAll (λ q. abs_ℚ q <ℚ infinite) card →
    SetsAll IsNarrow card → IsSound limits s → IsSound limits (with_bound s place card)
unfolding with_bound
with_bound_sound s place card small narrow sound =
    record {
      rows = sound.rows;
      fit = sound.fit;
      columns =
          with_bounds (length (row_names s.rows)) place
          (get_or s.lowered place false) card s.columns s.column s.paired small sound.columns;
      narrow =
          bounds_narrow s.offset s.rows s.columns s.column sound.narrow place
          (get_or s.lowered place false) card narrow;
    }

-- a sound state stays sound after a card of BOUNDS
bound_sound : {limits : SizeLimits} (s : State) (kind : BoundKind) (texts : BoundTexts) (t : State) →
    BoundDid s kind texts t → IsSound limits s →
    IsSound limits t
bound_sound s kind texts t (UsedBound place card used place_is card_is did) sound =
    let small =
    card_sets (λ q. abs_ℚ q <ℚ infinite) (λ text q e. abs_from_within infinite q (bound_is_within text q e))
    kind texts.value card card_is in
    subst (IsSound _) did
    (with_bound_sound _ place card small
    (card_sets IsNarrow bound_narrow kind texts.value card card_is) (with_set s texts.set sound))
bound_sound s kind texts t (SkippedBound other same) sound = subst (IsSound _) same sound

pub bounds_card_sound : {limits : SizeLimits} (style : Style) (s : State) (fields : Fields) (t : State) →
    bounds_card style s fields ≡ Ok t →
    IsSound limits s → IsSound limits t
bounds_card_sound style s fields t h sound =
    let d = bounds_did style s fields t h in bound_sound s d.kind d.texts t d.did sound
