-- Checks: a value, or what is wrong. Of several checks in a row the first that fails counts.
use Rattle.std.specs.Prelude.{ℕ, ⊤, Bool, true, false, Option, Some, None, Result, Ok, Err}
use Rattle.spec_mps.specs.declared.fault.Code.{Code}
use Rattle.spec_mps.specs.declared.fault.Code.TheVariants as code
use Rattle.spec_mps.specs.declared.number.NumFault.{NumFault}
use Rattle.spec_mps.specs.declared.number.NumFault.TheVariants as fault

-- a value, or the code of what is wrong with a line of a model's text
abbrev pub Check : Type 0 → Type 0
Check A = Result A Code

infixl 10 ◌>>=◌
-- the check that `next` makes of this one's value; where this one has a fault, that fault, and `next` is left out
abbrev pub ◌>>=◌ : {A B : Type 0} → Check A → (A → Check B) → Check B
(Ok x) >>= next = next x
(Err code) >>= next = Err code

-- a check that goes on where the test holds, and else fails with this code
abbrev pub must : Bool → Code → Check ⊤
must true code = Ok tt
must false code = Err code

-- the value that was found, or the given fault where there is none
abbrev pub need : {A : Type 0} → Option A → Code → Check A
need None code = Err code
need (Some x) code = Ok x

-- the code for a text that should be a number, by what is wrong with it
abbrev pub fault_code : NumFault → Code
fault_code fault.Shape = code.NumberShape
fault_code fault.Wide = code.NumberWide

-- a result of reading a number as a check: its value, or the code for the fault
abbrev pub coded : {A : Type 0} → Result A NumFault → Check A
coded (Ok x) = Ok x
coded (Err fault) = Err (fault_code fault)

-- the number of a code in replies
abbrev pub code_number : Code → ℕ
code_number code.SectionOrder = 1
code_number code.UnknownSection = 2
code_number code.CardShape = 3
code_number code.RowType = 4
code_number code.RowTaken = 5
code_number code.UnknownRow = 6
code_number code.ColumnTaken = 7
code_number code.EntryRepeated = 8
code_number code.NumberShape = 9
code_number code.NumberWide = 10
code_number code.BoundKind = 11
code_number code.Integer = 12
code_number code.SemiContinuous = 13
code_number code.UnknownColumn = 14
code_number code.NoObjective = 15
code_number code.Limit = 16
code_number code.Name = 17
code_number code.RangeOnObjective = 18
code_number code.Cut = 19
