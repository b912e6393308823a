-- What a data card of a section leaves in the state as it was.
--
-- `changed_unseen`: where a change of an element does not alter what a function gives for it, what it gives for a
--   list's elements stays.
-- `card_leads`: a data card that the reader takes changes nothing but what belongs to its section.
use Rattle.std.proofs.Common.{◌≡◌, ℕ, zero, suc, Bool, true, false, not, ◌&&◌, cond}
use Rattle.std.proofs.Common.{Some, None, Ok, List, [], ◌∷◌, ◌++◌, map, refl}
use Rattle.std.proofs.Common.{ap, ◌∙◌, subst, get_or}
use Rattle.spec_text.specs.Words.{same}
use Rattle.spec_exact.specs.Fraction.{ℚ, 0ℚ}
use Rattle.spec_model.specs.declared.parts.SizeLimits.{SizeLimits}
use Rattle.spec_model.specs.declared.parts.Kind.{Kind}
use Rattle.spec_model.specs.Model.{Name, ExactRow, ExactColumn}
use Rattle.spec_mps.specs.declared.fault.Code.TheVariants as code
use Rattle.spec_mps.specs.declared.style.Style.{Style}
use Rattle.spec_mps.specs.declared.section.Section.{Section}
use Rattle.spec_mps.specs.declared.section.Section.TheVariants as section
use Rattle.spec_mps.specs.declared.bound_kind.BoundKind.{BoundKind}
use Rattle.spec_mps.specs.declared.target.Target.{Target}
use Rattle.spec_mps.specs.declared.target.Target.TheVariants.{Objective, Row}
use Rattle.spec_mps.specs.Fields.{Fields, text_at}
use Rattle.spec_mps.specs.Shapes.{shaped}
use Rattle.spec_mps.specs.Reader.{State, is_among, new_row, is_first, with_row}
use Rattle.spec_mps.specs.Reader.{rows_card, enter}
use Rattle.spec_mps.specs.Reader.{pairs_of, columns_card}
use Rattle.spec_mps.specs.Sides.{SetAndPairs, changed_at, put_side}
use Rattle.spec_mps.specs.Sides.{side_pairs}
use Rattle.spec_mps.specs.Sides.{new_range, range_pairs}
use Rattle.spec_mps.specs.Bounds.{BoundCard, SetsUpper, SetsLower, SetsBoth, is_negative, bounded}
use Rattle.spec_mps.specs.Bounds.{BoundTexts, with_bound}
use Rattle.spec_mps.specs.Steps.{take_sense, sense_card, data_card}
use Rattle.spec_mps.proofs.CheckSteps.{step_ok, must_ok, same_ok}
use Rattle.spec_mps.proofs.CardsDid.{sense_did, rows_did, pairs_keep, column_puts, side_puts}
use Rattle.spec_mps.proofs.CardsDid.{put_ranged, RangeDid, Forgotten, Kept, put_range_did, range_puts, Opens, Same, New, columns_did, SetDid, rhs_did}
use Rattle.spec_mps.proofs.CardsDid.{ranges_did, set_keeps, BoundDid, UsedBound, SkippedBound, bounds_did}

-- ---- what is left of a state without what the cards of a section change

-- a row with the right side 0 in place of its own
abbrev pub without_side : ExactRow → ExactRow
without_side r = record r { rhs = 0ℚ }

-- a row without its range
abbrev pub without_range : ExactRow → ExactRow
without_range r = record r { range = None }

-- a column without its bounds
abbrev pub without_bounds : ExactColumn → ExactColumn
without_bounds c = record c { lower = None; upper = None }

-- a state without what the cards of this section may change: two states agree beside the section where these are the
-- same
abbrev pub beside : Section → State → State
beside section.Name s = s
beside section.Sense s = record s { sense = None }
beside section.Rows s = record s { objective = None; rows = [] }
beside section.Columns s = record s { columns = []; column = None; lowered = []; paired = [] }
beside section.RightSides s = record s { offset = 0ℚ; rows = map without_side s.rows; paired = []; set = None }
beside section.Ranges s = record s { rows = map without_range s.rows; paired = []; set = None }
beside section.Bounds s = record s { columns = map without_bounds s.columns; lowered = []; set = None }
beside section.End s = s

-- t is s but for what the data cards of this section may change
abbrev pub Leads : Section → State → State → Type 0
Leads part s t = beside part t ≡ beside part s

-- ---- OBJSENSE and ROWS

-- a sense that is taken changes only what a card of OBJSENSE may change
take_sense_leads : (s : State) (text : List ℕ) (t : State) → take_sense s text ≡ Ok t → Leads section.Sense s t
take_sense_leads s text t h = subst (Leads section.Sense s) (sense_did s text t h).3 refl

-- a card of OBJSENSE changes only what such a card may change
sense_leads : (style : Style) (s : State) (fields : Fields) (t : State) → sense_card style s fields ≡ Ok t →
    Leads section.Sense s t
unfolding sense_card
sense_leads style s fields t h =
    let a = step_ok (shaped style section.Sense fields) _ t h in
    take_sense_leads s (text_at 1 fields) t a.2

-- one more row, or the objective, changes only what a card of ROWS may change
with_row_leads : (s : State) (kind : Kind) (name : Name) → Leads section.Rows s (with_row s kind name)
with_row_leads s kind name = go (is_first s kind)
  where
    go : (b : Bool) →
        Leads section.Rows s
        (cond b (record s { objective = Some name }) (record s { rows = s.rows ++ new_row kind name ∷ [] }))
    go true = refl
    go false = refl

-- a card of ROWS changes only what such a card may change
rows_leads : (limits : SizeLimits) (style : Style) (s : State) (fields : Fields) (t : State) →
    rows_card limits style s fields ≡ Ok t →
    Leads section.Rows s t
rows_leads limits style s fields t h =
    let d = rows_did style s fields t h in
    subst (Leads section.Rows s) d.new (with_row_leads s d.kind (text_at 2 fields))

-- ---- COLUMNS

-- a number of the open column changes only what a card of COLUMNS may change
enter_leads : (s : State) (place : Target) (v : ℚ) (t : State) → enter s place v ≡ Ok t → Leads section.Columns s t
unfolding enter
enter_leads s x v t h =
    let a = must_ok (not (is_among x s.paired)) code.EntryRepeated _ t h in
    subst (Leads section.Columns s) (same_ok _ t a.1) refl

-- a column that is opened changes only what a card of COLUMNS may change
opens_leads : {limits : SizeLimits} (s : State) (name : Name) (t : State) → Opens limits s name t →
    Leads section.Columns s t
opens_leads s name t (Same known same) = subst (Leads section.Columns s) same refl
opens_leads s name t (New other free few new) = subst (Leads section.Columns s) new refl

-- a card of COLUMNS changes only what such a card may change
columns_leads : (limits : SizeLimits) (style : Style) (s : State) (fields : Fields) (t : State) →
    columns_card limits style s fields ≡ Ok t →
    Leads section.Columns s t
columns_leads limits style s fields t h =
    let d = columns_did style s fields t h in
    pairs_keep enter _ column_puts (λ done u. Leads section.Columns s u)
    (λ done u pair w p k. enter_leads u p.place p.value w p.did ∙ k)
    (pairs_of d.more) [] d.between t d.pairs (opens_leads s d.name d.between d.opens)

-- ---- RHS and RANGES

-- a change that a view does not see
pub changed_unseen : {A B : Type 0} (view : A → B) (change : A → A) (i : ℕ) (xs : List A) →
    ((x : A) → view (change x) ≡ view x) → map view (changed_at i change xs) ≡ map view xs
changed_unseen view change i [] h = refl
changed_unseen view change zero (x ∷ xs) h = ap (λ y. y ∷ map view xs) (h x)
changed_unseen view change (suc i) (x ∷ xs) h = ap (λ ys. view x ∷ ys) (changed_unseen view change i xs h)

-- a right side at a target changes only what a card of RHS may change
put_side_leads : (s : State) (place : Target) (v : ℚ) (t : State) → put_side s place v ≡ Ok t →
    Leads section.RightSides s t
unfolding put_side
put_side_leads s Objective v t h =
    let a = must_ok (not (is_among Objective s.paired)) code.EntryRepeated _ t h in
    subst (Leads section.RightSides s) (same_ok _ t a.1) refl
put_side_leads s (Row i) v t h =
    let a = must_ok (not (is_among (Row i) s.paired)) code.EntryRepeated _ t h in
    subst (Leads section.RightSides s) (same_ok _ t a.1)
    (ap (λ (rows : List ExactRow). record s { offset = 0ℚ; rows = rows; paired = []; set = None })
    (changed_unseen without_side (λ r. record r { rhs = v }) i s.rows (λ r. refl)))

-- a card of RHS changes only what such a card may change
rhs_leads : (s : State) (card : SetAndPairs) (t : State) → SetDid s card side_pairs t → Leads section.RightSides s t
rhs_leads s card t d =
    set_keeps put_side _ side_puts (Leads section.RightSides s) (λ u set k. k)
    (λ u pair w p k. put_side_leads u p.place p.value w p.did ∙ k) s card t d refl

-- a range of a row changes only what a card of RANGES may change
new_range_leads : (s : State) (i : ℕ) (v : ℚ) (t : State) → RangeDid s i v t → Leads section.Ranges s t
unfolding new_range
new_range_leads s i v t (Forgotten free same) = subst (Leads section.Ranges s) same refl
new_range_leads s i v t (Kept limited did) =
    let a = must_ok (not (is_among (Row i) s.paired)) code.EntryRepeated _ t did in
    subst (Leads section.Ranges s) (same_ok _ t a.1)
    (ap (λ (rows : List ExactRow). record s { rows = rows; paired = []; set = None })
    (changed_unseen without_range (λ r. record r { range = Some v }) i s.rows (λ r. refl)))

-- a range at a target changes only what a card of RANGES may change
put_range_leads : (s : State) (place : Target) (v : ℚ) (t : State) → put_ranged s place v ≡ Ok t →
    Leads section.Ranges s t
put_range_leads s Objective v t h = absurd (cc)
put_range_leads s (Row i) v t h = new_range_leads s i v t (put_range_did s i v t h)

-- a card of RANGES changes only what such a card may change
ranges_leads : (s : State) (card : SetAndPairs) (t : State) → SetDid s card range_pairs t → Leads section.Ranges s t
ranges_leads s card t d =
    set_keeps put_ranged _ range_puts (Leads section.Ranges s) (λ u set k. k)
    (λ u pair w p k. put_range_leads u p.place p.value w p.did ∙ k) s card t d refl

-- ---- BOUNDS

-- a column with the bounds of a card is, without its bounds, the column as it was
bounded_unseen : (lowered : Bool) (card : BoundCard) (c : ExactColumn) →
    without_bounds (bounded lowered card c) ≡ without_bounds c
bounded_unseen lowered (SetsUpper u) c = go (is_negative u && not lowered)
  where
    go : (b : Bool) →
        without_bounds (cond b (record c { lower = None; upper = u }) (record c { upper = u })) ≡ without_bounds c
    go true = refl
    go false = refl
bounded_unseen lowered (SetsLower l) c = refl
bounded_unseen lowered (SetsBoth l u) c = refl

-- bounds of the column at a place change only what a card of BOUNDS may change
with_bound_leads : (s : State) (place : ℕ) (card : BoundCard) → Leads section.Bounds s (with_bound s place card)
unfolding with_bound
with_bound_leads s place card =
    ap (λ (columns : List ExactColumn). record s { columns = columns; lowered = []; set = None })
    (changed_unseen without_bounds (bounded (get_or s.lowered place false) card) place s.columns
    (bounded_unseen (get_or s.lowered place false) card))

-- a card of BOUNDS changes only what such a card may change
bound_leads : (s : State) (kind : BoundKind) (texts : BoundTexts) (t : State) → BoundDid s kind texts t →
    Leads section.Bounds s t
bound_leads s kind texts t (UsedBound place card used place_is card_is did) =
    subst (Leads section.Bounds s) did (with_bound_leads (record s { set = Some texts.set }) place card)
bound_leads s kind texts t (SkippedBound other same) = subst (Leads section.Bounds s) same refl

-- ---- a data card of any section

pub card_leads : (limits : SizeLimits) (style : Style) (part : Section) (s : State) (fields : Fields) (t : State) →
    data_card limits style (Some part) s fields ≡ Ok t → Leads part s t
card_leads limits style section.Sense s fields t h = sense_leads style s fields t h
card_leads limits style section.Rows s fields t h = rows_leads limits style s fields t h
card_leads limits style section.Columns s fields t h = columns_leads limits style s fields t h
card_leads limits style section.RightSides s fields t h = rhs_leads s _ t (rhs_did style s fields t h)
card_leads limits style section.Ranges s fields t h = ranges_leads s _ t (ranges_did style s fields t h)
card_leads limits style section.Bounds s fields t h =
    let d = bounds_did style s fields t h in bound_leads s d.kind d.texts t d.did
card_leads limits style part s fields t h = absurd (cc)
