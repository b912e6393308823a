-- The cards of RHS and RANGES.
use Rattle.std.specs.Prelude.{ℕ, zero, suc, Bool, true, false, not, Option}
use Rattle.std.specs.Prelude.{Some, None, Ok, Err, List, [], ◌∷◌, get_or, if◌then◌else◌}
use Rattle.spec_text.specs.Words.{same}
use Rattle.spec_exact.specs.Fraction.{ℚ, neg_ℚ}
use Rattle.spec_model.specs.Model.{Name, no_row, is_free}
use Rattle.spec_mps.specs.declared.fault.Code.TheVariants as code
use Rattle.spec_mps.specs.declared.style.Style.{Style}
use Rattle.spec_mps.specs.declared.section.Section.{Section}
use Rattle.spec_mps.specs.declared.section.Section.TheVariants as section
use Rattle.spec_mps.specs.declared.target.Target.{Target}
use Rattle.spec_mps.specs.declared.target.Target.TheVariants.{Objective, Row}
use Rattle.spec_mps.specs.Fields.{Fields}
use Rattle.spec_mps.specs.Checks.{Check, ◌>>=◌, must, need}
use Rattle.spec_mps.specs.Shapes.{shaped}
use Rattle.spec_mps.specs.Reader.{State, place_of, number_in, is_among, pairs_of, in_turn}

-- ---- sets: the set of a section's first card is used, and cards of other sets are skipped

-- whether there is an odd number of texts
abbrev pub is_odd : List (List ℕ) → Bool
is_odd [] = false
is_odd (t ∷ ts) = not (is_odd ts)

-- what a card of RHS or RANGES says: the name of a set, or none, and pairs of a row's name and a number's text
pub record SetAndPairs : Type 0 where
  pub set : Option Name
  pub pairs : List (List ℕ × List ℕ)

-- the set and the pairs among texts: the first one is the set's name where the flag says that they are odd in number
abbrev pub set_and_pairs_by : Bool → List (List ℕ) → SetAndPairs
set_and_pairs_by true (set ∷ texts) = record { set = Some set; pairs = pairs_of texts }
set_and_pairs_by odd texts = record { set = None; pairs = pairs_of texts }

-- the set's name and the pairs of a card of RHS or RANGES: an odd number of texts has a name first
unfoldable pub set_and_pairs : List (List ℕ) → SetAndPairs
set_and_pairs texts = set_and_pairs_by (is_odd texts) texts

-- whether two sets have the same name, or are both absent
abbrev pub same_set : Option Name → Option Name → Bool
same_set None None = true
same_set None (Some b) = false
same_set (Some a) None = false
same_set (Some a) (Some b) = same a b

-- whether a card with the second set, which may be absent, is used: the set of the section's first card, which is given
-- first, is the same one, or there was no card before
abbrev pub is_used : Option (Option Name) → Option Name → Bool
is_used None set = true
is_used (Some first) set = same_set first set

-- the list with the item at a place changed; the same list where the place is past its end
abbrev pub changed_at : {A : Type 0} → ℕ → (A → A) → List A → List A
changed_at i change [] = []
changed_at zero change (x ∷ xs) = change x ∷ xs
changed_at (suc i) change (x ∷ xs) = x ∷ changed_at i change xs

-- The state after a card of RHS or RANGES. Where its set is that of the section's first card, or it is the first card,
-- the state notes its set and `take` takes its pairs, or gives its fault; else the card changes nothing.
abbrev pub if_used : (State → List (List ℕ × List ℕ) → Check State) → State → SetAndPairs → Check State
if_used take s card = if is_used s.set card.set then take (record s { set = Some card.set }) card.pairs else Ok s

-- the state after a card of this section, RHS or RANGES: what `take` makes of the state, given the card's set and
-- pairs; a fault where the card's shape is wrong
abbrev pub set_card : Section → (State → SetAndPairs → Check State) → Style → State → Fields → Check State
set_card part take style s fields = do
  texts ← shaped style part fields
  take s (set_and_pairs texts)

-- ---- a pair of RHS: the row, the number, a number that is there already

-- the state with this number as the right side of a target: a row takes it as its right side; for the objective, the
-- offset becomes its negative
abbrev pub with_side : State → Target → ℚ → State
with_side s Objective b = record s { offset = neg_ℚ b }
with_side s (Row i) b = record s { rows = changed_at i (λ r. record r { rhs = b }) s.rows }

-- the state with a right side at a target; a fault where the target had one in this section
unfoldable pub put_side : State → Target → ℚ → Check State
put_side s t b = do
  _ ← must (not (is_among t s.paired)) code.EntryRepeated
  Ok (record (with_side s t b) { paired = t ∷ s.paired })

-- the state with the right side that a pair of RHS, a row's name and a number's text, gives the row or the objective;
-- or the code of its fault, an unknown row, a wrong number or a second one
unfoldable pub side_pair : State → Name → List ℕ → Check State
side_pair s name text = do
  t ← need (place_of s name) code.UnknownRow
  b ← number_in text
  put_side s t b

-- ---- a pair of RANGES: the row, a range of the objective, the number, a range that is there already

-- the number of the row that a range is for; a range for the objective is a fault
abbrev pub ranged_row : Target → Check ℕ
ranged_row Objective = Err code.RangeOnObjective
ranged_row (Row i) = Ok i

-- the state with a range for row i; a fault where the row had one already
unfoldable pub new_range : State → ℕ → ℚ → Check State
new_range s i v = do
  _ ← must (not (is_among (Row i) s.paired)) code.EntryRepeated
  Ok (record s { rows = changed_at i (λ r. record r { range = Some v }) s.rows; paired = Row i ∷ s.paired })

-- the state with a range for row i, or a fault where it had one; a range of a free row changes nothing
unfoldable pub put_range : State → ℕ → ℚ → Check State
put_range s i v = if is_free (get_or s.rows i no_row).kind then Ok s else new_range s i v

-- the state with the range that a pair of RANGES, a row's name and a number's text, gives the row; unchanged for a free
-- row. Or the code of its fault: an unknown row, the objective, a wrong or a second number.
unfoldable pub range_pair : State → Name → List ℕ → Check State
range_pair s name text = do
  t ← need (place_of s name) code.UnknownRow
  row ← ranged_row t
  v ← number_in text
  put_range s row v

-- ---- the cards of both

-- the state with the right sides that all pairs of a card of RHS give, or the code of the first fault
abbrev pub side_pairs : State → List (List ℕ × List ℕ) → Check State
side_pairs = in_turn side_pair

-- the state with the ranges that all pairs of a card of RANGES give, or the code of the first fault
abbrev pub range_pairs : State → List (List ℕ × List ℕ) → Check State
range_pairs = in_turn range_pair

-- the state with the right sides that a card of RHS, by its set and pairs, gives; unchanged where its set is another
-- than that of the section's first card; or the code of a fault
unfoldable pub rhs_by : State → SetAndPairs → Check State
rhs_by s card = if_used side_pairs s card

-- the state with the ranges that a card of RANGES, by its set and pairs, gives; unchanged where its set is another than
-- that of the section's first card; or the code of a fault
unfoldable pub ranges_by : State → SetAndPairs → Check State
ranges_by s card = if_used range_pairs s card

-- the state with the right sides that a card of RHS gives, unchanged by a card of another set than the first card's; or
-- the code of the card's fault
unfoldable pub rhs_card : Style → State → Fields → Check State
rhs_card style s fields = set_card section.RightSides rhs_by style s fields

-- the state with the ranges that a card of RANGES gives, unchanged by a card of another set than the first card's; or
-- the code of the card's fault
unfoldable pub ranges_card : Style → State → Fields → Check State
ranges_card style s fields = set_card section.Ranges ranges_by style s fields
