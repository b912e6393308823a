-- What a basis file is: one basis of the form of a model, or one line with one fault. Each line is a step from what was
-- read before it.
use Rattle.std.specs.Prelude.{ℕ, ◌+◌, ◌≡◌, ◌||◌, ⊤, Bool, true, false, not, Option, Some, None, is_some}
use Rattle.std.specs.Prelude.{Result, Ok, Err, List, [], ◌∷◌, get_or, slice_set, replicate, nat_lt, if◌then◌else◌}
use Rattle.spec_text.specs.declared.line.Line.{Line}
use Rattle.spec_exact.specs.Fraction.{ℚ}
use Rattle.spec_model.specs.Model.{Model, Name}
use Rattle.spec_model.specs.Kept.{row_place, column_place}
use Rattle.spec_pivot.specs.declared.status.Status.{Status}
use Rattle.spec_pivot.specs.declared.status.Status.TheVariants.{Basic, AtLower, AtUpper, AtZero}
use Rattle.spec_simplex.specs.Form.{Form, form_lower, form_upper}
use Rattle.spec_exact.specs.Run.{◌>>=◌, made}
use Rattle.spec_simplex.specs.Start.{first_status}
use Rattle.spec_bas.specs.declared.fault.BasCode.{BasCode}
use Rattle.spec_bas.specs.declared.fault.BasCode.TheVariants as code
use Rattle.spec_bas.specs.declared.card.Card.TheVariants.{Xu, Xl, Ul, Ll}
use Rattle.spec_bas.specs.declared.card.Reading.TheVariants.{Skipped, Named, Ends, Says, Wrong}
use Rattle.spec_bas.specs.Cards.{ExactCard, ExactReading, reading_of}

-- ---- statuses

-- the status of a nonbasic column that no card sets otherwise: at its lower bound, else at its upper one, else at 0
abbrev pub lower_first : Form → ℕ → Status
lower_first f k = first_status (form_lower f k) (form_upper f k)

-- the status of a row that is to be at its upper limit: there if it has one, else at its lower one, else at 0
abbrev pub upper_status : Option ℚ → Option ℚ → Status
upper_status lower (Some u) = AtUpper
upper_status (Some l) None = AtLower
upper_status None None = AtZero

-- the status of the logical column k of a row that is to be at its upper limit: there, else at the lower one, else at 0
abbrev pub upper_first : Form → ℕ → Status
upper_first f k = upper_status (form_lower f k) (form_upper f k)

-- the status of column k without a card: a structural column is at its lower bound, else at its upper one, else at 0,
-- and a logical one is basic
abbrev pub usual_status : Form → ℕ → Status
usual_status f k = if nat_lt k f.cols then lower_first f k else Basic

-- ---- what was read so far

-- what the cards of a basis file that were read give: whether there was one, be it NAME or a data card, and the
-- statuses that they gave to columns
pub record State : Type 0 where
  pub begun : Bool  -- whether there was a card
  pub marks : List (Option Status)  -- of each structural and then each logical column, the status that a card gave it

-- the state before the first line of a basis file: no card was read, and no column has a status from a card
abbrev pub start : Form → State
start f = record { begun = false; marks = replicate (f.cols + f.rows) None }

-- whether a card has given column k a status
abbrev pub is_marked : State → ℕ → Bool
is_marked s k = is_some (get_or s.marks k None)

-- the state after a card has given column k this status
abbrev pub mark : ℕ → Status → State → State
mark k status s = record { begun = true; marks = slice_set s.marks k (Some status) }

-- the status that a card gave column k; without one the usual status
abbrev pub marked_status : Form → ℕ → Option Status → Status
marked_status f k None = usual_status f k
marked_status f k (Some status) = status

-- the status of column k after what was read: the one that a card gave it, or without a card the usual one
abbrev pub status_of : Form → State → ℕ → Status
status_of f s k = marked_status f k (get_or s.marks k None)

-- the basis that the cards read so far give: for each column the status of its card, or without one the usual status
unfoldable pub marked_basis : Form → State → List Status
marked_basis f s = made (f.cols + f.rows) (status_of f s)

-- ---- checks: a value, or what is wrong

-- a value, or the code of a basis file's fault
abbrev pub Check : Type 0 → Type 0
Check A = Result A BasCode

-- a check that goes on where the test holds, and else fails with this code
abbrev pub must : Bool → BasCode → Check ⊤
must true code = Ok tt
must false code = Err code

-- the value that was found, or the given fault where there is none
abbrev pub need : {A : Type 0} → Option A → BasCode → Check A
need None code = Err code
need (Some x) code = Ok x

-- ---- one line

-- the state after the card NAME; a fault where another card came before
abbrev pub named_step : State → Check State
named_step s = must (not s.begun) code.Section >>= λ _. Ok (record s { begun = true })

-- The state after a card XU or XL: the named column is basic, and the named row's logical gets the status that `status`
-- gives for its number in the form. A fault where a name is unknown, or one has a status from an earlier card.
unfoldable pub pair_step : Model → Form → State → Name → Name → (ℕ → Status) → Check State
pair_step m f s column row status =
    need (column_place m column) code.UnknownColumn >>= λ j.
    need (row_place m row) code.UnknownRow >>= λ i.
    must (not (is_marked s j || is_marked s (f.cols + i))) code.Repeated >>= λ _.
    Ok (mark (f.cols + i) (status (f.cols + i)) (mark j Basic s))

-- the state after a card UL: the named column is at its upper bound. A fault where the name is unknown, the column has
-- a status from an earlier card, or it has no upper bound
unfoldable pub upper_step : Model → Form → State → Name → Check State
upper_step m f s column =
    need (column_place m column) code.UnknownColumn >>= λ j.
    must (not (is_marked s j)) code.Repeated >>= λ _.
    must (is_some (form_upper f j)) code.NoUpperBound >>= λ _.
    Ok (mark j AtUpper s)

-- the state after a card LL: the named column is at its lower bound, else at its upper one, else at 0. A fault where
-- the name is unknown, or the column has a status from an earlier card
unfoldable pub usual_step : Model → Form → State → Name → Check State
usual_step m f s column =
    need (column_place m column) code.UnknownColumn >>= λ j.
    must (not (is_marked s j)) code.Repeated >>= λ _.
    Ok (mark j (lower_first f j) s)

-- the state after a data card of a basis file, or the code of the card's fault
abbrev pub card_step : Model → Form → State → ExactCard → Check State
card_step m f s (Xu column row) = pair_step m f s column row (upper_first f)
card_step m f s (Xl column row) = pair_step m f s column row (lower_first f)
card_step m f s (Ul column) = upper_step m f s column
card_step m f s (Ll column) = usual_step m f s column

-- what a line leads to: a further state, or the end with a basis
pub data Progress : Type 0 where
  More : (state : State) → Progress
  Done : (basis : List Status) → Progress

-- what a line of a basis file leads to: the progress of the reading, or the code of the line's fault
abbrev pub Outcome : Type 0
Outcome = Check Progress

-- a checked state as an outcome: it goes on, or fails with the code
abbrev pub more : Check State → Outcome
more check = check >>= λ t. Ok (More t)

-- The outcome of a line by what it is read as: a comment changes nothing, NAME and data cards change the state, ENDATA
-- ends the file with its basis, and a fault fails.
abbrev pub on_reading : Model → Form → State → ExactReading → Outcome
on_reading m f s Skipped = Ok (More s)
on_reading m f s Named = more (named_step s)
on_reading m f s Ends = Ok (Done (marked_basis f s))
on_reading m f s (Says card) = more (card_step m f s card)
on_reading m f s (Wrong code) = Err code

-- what a line of a basis file leads to from a state: the progress of the reading, or the code of the line's fault
unfoldable pub step : Model → Form → State → Line (List ℕ) → Outcome
step m f s line = on_reading m f s (reading_of line)

-- ---- a whole file

-- what a whole file is: the basis that it gives, or the first wrong line with its fault
pub data Verdict : Type 0 where
  Spelled : (basis : List Status) → Verdict
  Refused : (line : ℕ) → (code : BasCode) → Verdict

-- the verdict after the outcome of line n: that of `next` on a further state, or the basis, or line n with its fault
abbrev pub settled : ℕ → (State → Verdict) → Outcome → Verdict
settled n next (Ok (More s)) = next s
settled n next (Ok (Done basis)) = Spelled basis
settled n next (Err code) = Refused n code

-- the verdict on lines, of which the first is line n, from a state. Where none is wrong and they end before ENDATA, the
-- line that would come next is refused as cut off.
abbrev pub judge : Model → Form → State → ℕ → List (Line (List ℕ)) → Verdict
judge m f s n [] = Refused n code.Cut
judge m f s n (line ∷ lines) = settled n (λ t. judge m f t (n + 1) lines) (step m f s line)

-- no line up to the first ENDATA is wrong, and the cards before it give this basis; the lines behind it may be any
abbrev pub Gives : Model → Form → List (Line (List ℕ)) → List Status → Type 0
Gives m f lines basis = judge m f (start f) 1 lines ≡ Spelled basis

-- line n, counted from 1, is the first that is wrong, with this fault, and no ENDATA is before it. Where no line is
-- wrong and none is ENDATA, n is the line past the last.
abbrev pub Refuses : Model → Form → List (Line (List ℕ)) → ℕ → BasCode → Type 0
Refuses m f lines n fault = judge m f (start f) 1 lines ≡ Refused n fault

-- the number of a code, as replies write it
abbrev pub code_number : BasCode → ℕ
code_number code.Section = 1
code_number code.Card = 2
code_number code.UnknownColumn = 3
code_number code.UnknownRow = 4
code_number code.Repeated = 5
code_number code.NoUpperBound = 6
code_number code.Cut = 7
