-- The model after an edit, or why the edit is refused.
use Rattle.std.specs.Prelude.{ℕ, ◌||◌, ◌&&◌, Bool, true, false, not, is_some, Option, Some, None, IfSome}
use Rattle.std.specs.Prelude.{Result, Ok, Err, List, [], ◌∷◌, ◌++◌, All, nat_le, if◌then◌else◌}
use Rattle.std.specs.List.{list_any}
use Rattle.spec_text.specs.Words.{same}
use Rattle.spec_exact.specs.Fraction.{ℚ, 0ℚ, neg_ℚ}
use Rattle.spec_exact.specs.Narrow.{IsNarrow}
use Rattle.spec_model.specs.declared.parts.Kind.{Kind}
use Rattle.spec_model.specs.Model.{Model, Name, Limits, ExactRow, ExactColumn, width, height, row, is_free}
use Rattle.spec_model.specs.Kept.{IsBound, is_name, is_row_name, row_limit, column_limit, row_place, column_place}
use Rattle.spec_edit.specs.declared.edit.Edit.{Edit}
use Rattle.spec_edit.specs.declared.edit.Edit.TheVariants.{AddRow, DelRow, AddCol, DelCol, SetCost}
use Rattle.spec_edit.specs.declared.edit.Edit.TheVariants.{SetCoef, SetRhs, SetRange, SetBound, SetSense}
use Rattle.spec_edit.specs.declared.edit.EditFault.{EditFault}
use Rattle.spec_edit.specs.declared.edit.EditFault.TheVariants.{UnknownName, Taken, Limit, BadName, Repeated, FreeRow}
use Rattle.spec_edit.specs.declared.edit.Which.TheVariants.{Rows, Columns}
use Rattle.spec_edit.specs.Changes.{with_row, without_row, with_column, without_column, with_entry, with_cost}
use Rattle.spec_edit.specs.Changes.{with_coefficient, with_bounds, with_rhs, with_range, with_offset, with_sense}

-- what a new column is given: pairs of a row's name and a number
abbrev pub Pairs : Type 0
Pairs = List (Name × ℚ)

-- an edit: names are bytes, and numbers are fractions
abbrev pub ExactEdit : Type 0
ExactEdit = Edit Name ℚ Pairs Limits

-- a result of an edit, or why the edit is refused
abbrev pub OrFault : Type 0 → Type 0
OrFault A = Result A (EditFault Name)

infixl 1 ◌>>=◌
-- the next step goes on with a result; a fault ends the edit
abbrev pub ◌>>=◌ : {A B : Type 0} → OrFault A → (A → OrFault B) → OrFault B
(Ok a) >>= next = next a
(Err fault) >>= next = Err fault

-- the number of what has a name, if it was found; else the fault that the name is unknown
abbrev pub known : Option ℕ → Name → OrFault ℕ
known None name = Err (UnknownName name)
known (Some k) name = Ok k

-- the number of the row with a name, or the fault that the name is unknown; the objective is no row
abbrev pub row_named : Model → Name → OrFault ℕ
row_named m name = known (row_place m name) name

-- the number of the column with a name, or the fault that the name is unknown
abbrev pub column_named : Model → Name → OrFault ℕ
column_named m name = known (column_place m name) name

-- ---- new rows and columns

-- whether the objective or a row has this name, so that a new row may not have it
abbrev pub is_row_taken : Model → Name → Bool
is_row_taken m name = same m.objective name || is_some (row_place m name)

-- whether a column has this name, so that a new column may not have it
abbrev pub is_column_taken : Model → Name → Bool
is_column_taken m name = is_some (column_place m name)

-- whether a row of this kind is free although it is to have a range, which is a fault
abbrev pub is_ranged_free : Kind → Option ℚ → Bool
is_ranged_free kind range = is_some range && is_free kind

-- the model with this new row; or why it is refused: a bad or taken name, too many rows, or a free row with a range
unfoldable pub new_row : Model → ExactRow → OrFault Model
new_row m r =
    if not (is_row_name r.name) then Err BadName
    else if is_row_taken m r.name then Err (Taken r.name)
    else if nat_le row_limit (height m) then Err (Limit Rows row_limit)
    else if is_ranged_free r.kind r.range then Err (FreeRow r.name)
    else Ok (with_row m r)

-- whether one of these pairs has this name
abbrev pub is_given : Name → Pairs → Bool
is_given name pairs = list_any (λ p. same p.0 name) pairs

-- The entries of a column: these, where each of the pairs puts its number as the entry in the row that it names; a
-- number 0 leaves none there. Or it is the fault of the first pair whose name is no row's or stands in a pair before
-- it; `before` are the pairs that were taken already.
abbrev pub entries_of : Model → Pairs → Pairs → List (ℕ × ℚ) → OrFault (List (ℕ × ℚ))
entries_of m before [] entries = Ok entries
entries_of m before (p ∷ pairs) entries =
    row_named m p.0 >>= λ i.
    if is_given p.0 before then Err (Repeated p.0) else entries_of m (before ++ p ∷ []) pairs (with_entry i p.1 entries)

-- a new column with this cost and these entries, whose lower bound is 0, without an upper one
abbrev pub column_of : Name → ℚ → List (ℕ × ℚ) → ExactColumn
column_of name cost entries = record { name = name; cost = cost; lower = Some 0ℚ; upper = None; entries = entries }

-- the model with a new column of this cost and these pairs; or why it is refused: a bad or taken name, too many
-- columns, or a wrong pair
unfoldable pub new_column : Model → Name → ℚ → Pairs → OrFault Model
new_column m name cost pairs =
    if not (is_name name) then Err BadName
    else if is_column_taken m name then Err (Taken name)
    else if nat_le column_limit (width m) then Err (Limit Columns column_limit)
    else (entries_of m [] pairs [] >>= λ entries. Ok (with_column m (column_of name cost entries)))

-- ---- edits

-- The model with v as the right side of a named row, or the fault that the name is unknown. For the objective's name
-- the offset becomes the negative of v.
unfoldable pub with_right_side : Model → Name → ℚ → OrFault Model
with_right_side m name v =
    if same m.objective name then Ok (with_offset m (neg_ℚ v))
    else (row_named m name >>= λ i. Ok (with_rhs m i v))

-- the model in which a named row has this range; or why it is refused: an unknown name, or a free row with a range
unfoldable pub with_new_range : Model → Name → Option ℚ → OrFault Model
with_new_range m name range =
    row_named m name >>= λ i.
    if is_ranged_free (row m i).kind range then Err (FreeRow name) else Ok (with_range m i range)

-- The model after an edit, or why the edit is refused. The edit's rows and columns are found by their names; new ones
-- go last.
unfoldable pub edited : Model → ExactEdit → OrFault Model
edited m (AddRow name kind rhs range) = new_row m (record { name = name; kind = kind; rhs = rhs; range = range })
edited m (DelRow name) = row_named m name >>= λ i. Ok (without_row m i)
edited m (AddCol name cost pairs) = new_column m name cost pairs
edited m (DelCol name) = column_named m name >>= λ j. Ok (without_column m j)
edited m (SetCost name v) = column_named m name >>= λ j. Ok (with_cost m j v)
edited m (SetCoef row column v) = row_named m row >>= λ i. column_named m column >>= λ j. Ok (with_coefficient m i j v)
edited m (SetRhs name v) = with_right_side m name v
edited m (SetRange name range) = with_new_range m name range
edited m (SetBound name bounds) = column_named m name >>= λ j. Ok (with_bounds m j bounds)
edited m (SetSense sense) = Ok (with_sense m sense)

-- ---- what an edit may hold, and what it takes

-- the bound is absent, or it has at most 127 bits and is less than 10 ^ 20 from 0
abbrev pub IsKeptBound : Option ℚ → Type 0
IsKeptBound bound = IsBound bound × IfSome bound IsNarrow

-- each number of the edit has at most 127 bits, and each of its bounds is less than 10 ^ 20 from 0
abbrev pub IsKeptEdit : ExactEdit → Type 0
IsKeptEdit (AddRow name kind rhs range) = IsNarrow rhs × IfSome range IsNarrow
IsKeptEdit (DelRow name) = Unit {0}
IsKeptEdit (AddCol name cost pairs) = IsNarrow cost × All (λ p. IsNarrow p.1) pairs
IsKeptEdit (DelCol name) = Unit {0}
IsKeptEdit (SetCost name v) = IsNarrow v
IsKeptEdit (SetCoef row column v) = IsNarrow v
IsKeptEdit (SetRhs name v) = IsNarrow v
IsKeptEdit (SetRange name range) = IfSome range IsNarrow
IsKeptEdit (SetBound name bounds) = IsKeptBound bounds.lower × IsKeptBound bounds.upper
IsKeptEdit (SetSense sense) = Unit {0}

-- whether memory may run out for an edit: where it adds a row or a column, or sets a coefficient,
-- which may add an entry
abbrev pub takes_memory : ExactEdit → Bool
takes_memory (AddRow name kind rhs range) = true
takes_memory (AddCol name cost pairs) = true
takes_memory (SetCoef row column v) = true
takes_memory other = false
