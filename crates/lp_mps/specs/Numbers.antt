-- The numbers that cards give rows: those of a column, right sides, and ranges. Said once for all three.
use Rattle.std.specs.Prelude.{ℕ, not, Option, Some, None, Ok, Err, List, [], ◌∷◌, get_or, option_map, if◌then◌else◌}
use Rattle.spec_exact.specs.Fraction.{ℚ}
use Rattle.spec_model.specs.Model.{Name, no_row, is_free}
use Rattle.spec_mps.specs.declared.fault.Code.TheVariants as code
use Rattle.spec_mps.specs.declared.style.Style.{Style}
use Rattle.spec_mps.specs.declared.section.Section.{Section}
use Rattle.spec_mps.specs.declared.section.Section.TheVariants as section
use Rattle.spec_mps.specs.declared.target.Target.{Target}
use Rattle.spec_mps.specs.declared.target.Target.TheVariants.{Objective, Row}
use Rattle.spec_mps.specs.Fields.{Fields}
use Rattle.spec_mps.specs.Checks.{Check, ◌>>=◌, must, need}
use Rattle.spec_mps.specs.Shapes.{shaped}
use Rattle.spec_mps.specs.Reader.{State, place_of, number_in, is_among, with_number}
use Rattle.spec_mps.specs.Sides.{SetAndPairs, set_and_pairs, is_used, changed_at, with_side}
use Rattle.lp_mps.specs.declared.read.numbers.Numbers.{Numbers}
use Rattle.lp_mps.specs.declared.read.numbers.Numbers.TheVariants.{Entries, Sides, Ranges}

-- the section whose cards give these numbers: COLUMNS, RHS or RANGES
abbrev pub section_of : Numbers → Section
section_of Entries = section.Columns
section_of Sides = section.RightSides
section_of Ranges = section.Ranges

-- what a number of this kind is for, by the target that its name means: a range for the objective is a fault, and one
-- for a free row is for none; any other number is for the target
abbrev pub target_of : Numbers → State → Target → Check (Option Target)
target_of Entries s t = Ok (Some t)
target_of Sides s t = Ok (Some t)
target_of Ranges s Objective = Err code.RangeOnObjective
target_of Ranges s (Row i) = Ok (if is_free (get_or s.rows i no_row).kind then None else Some (Row i))

-- the state with v as a row's range; unchanged for the objective
abbrev pub with_range : State → Target → ℚ → State
with_range s Objective v = s
with_range s (Row i) v = record s { rows = changed_at i (λ r. record r { range = Some v }) s.rows }

-- the state with v, by its kind, at a target: a cost or coefficient of the column that is open, if one is; a right
-- side; or a range, which the objective does not get
abbrev pub with_by : Numbers → State → Target → ℚ → State
with_by Entries s t v = record s { column = option_map (λ c. with_number c t v) s.column }
with_by Sides s t v = with_side s t v
with_by Ranges s t v = with_range s t v

-- the state with v, by its kind, at a target, which is noted to have one then; a fault where it has one already
abbrev pub put_by : Numbers → State → Target → ℚ → Check State
put_by numbers s t v = do
  _ ← must (not (is_among t s.paired)) code.EntryRepeated
  Ok (with_by numbers (record s { paired = t ∷ s.paired }) t v)

-- the state with v, by its kind, at a target, if there is one, or a fault where that has one already; else unchanged
abbrev pub put_if : Numbers → State → Option Target → ℚ → Check State
put_if numbers s None v = Ok s
put_if numbers s (Some t) v = put_by numbers s t v

-- the state with the number that a text spells, by its kind, at a target, but unchanged for a range of a free row; or
-- the code of the first fault
abbrev pub place_by : Numbers → State → List ℕ → Target → Check State
place_by numbers s text t = do
  target ← target_of numbers s t
  v ← number_in text
  put_if numbers s target v

-- the state after the name of a row or the objective and the text of its number: an entry or cost, a right side or a
-- range, which a free row does not get; or the code of their fault
abbrev pub pair_by : Numbers → State → Name → List ℕ → Check State
pair_by numbers s name text = need (place_of s name) code.UnknownRow >>= place_by numbers s text

-- the state after pairs of a name, of a row or the objective, and the text of a number, taken in turn; or the code of
-- the first fault
abbrev pub pairs_by : Numbers → State → List (List ℕ × List ℕ) → Check State
pairs_by numbers s [] = Ok s
pairs_by numbers s (pair ∷ pairs) = pair_by numbers s pair.0 pair.1 >>= λ t. pairs_by numbers t pairs

-- ---- with a set, or none, before them

-- The state after the pairs of a card, whose set is in use then; or the code of the first fault. It is unchanged where
-- the card is of another set than the one in use.
abbrev pub set_by : Numbers → State → SetAndPairs → Check State
set_by numbers s card =
    if is_used s.set card.set then pairs_by numbers (record s { set = Some card.set }) card.pairs else Ok s

-- the state after the fields of a card with numbers of this kind, with a set or none before them;
-- or the code of the first fault
abbrev pub set_card : Numbers → Style → State → Fields → Check State
set_card numbers style s fields = do
  texts ← shaped style (section_of numbers) fields
  set_by numbers s (set_and_pairs texts)
