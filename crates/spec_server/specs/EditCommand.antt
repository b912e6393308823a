-- The edits of command lines, by the words after the command word.
use Rattle.std.specs.Prelude.{ℕ, Option, Some, None, option_map, Result, Ok, Err, List, [], ◌∷◌, codes, if◌then◌else◌}
use Rattle.spec_text.specs.Words.{same}
use Rattle.spec_exact.specs.Fraction.{ℚ}
use Rattle.spec_model.specs.declared.parts.Kind.{Kind}
use Rattle.spec_model.specs.declared.parts.Kind.TheVariants.{L, G, E, N}
use Rattle.spec_model.specs.declared.parts.Sense.{Sense}
use Rattle.spec_model.specs.declared.parts.Sense.TheVariants.{Min, Max}
use Rattle.spec_model.specs.Model.{Name, is_free}
use Rattle.spec_edit.specs.declared.edit.Edit.TheVariants as edit
use Rattle.spec_edit.specs.Edited.{ExactEdit, Pairs}
use Rattle.spec_mps.specs.declared.number.NumFault.{NumFault}
use Rattle.spec_mps.specs.declared.number.NumFault.TheVariants as number
use Rattle.spec_mps.specs.declared.number.BoundValue.{BoundValue}
use Rattle.spec_mps.specs.declared.number.BoundValue.TheVariants.{Finite, PlusInf, MinusInf}
use Rattle.spec_mps.specs.NumberText.{answer, number_of}
use Rattle.spec_mps.specs.BoundText.{bound_answer, bound_of}
use Rattle.spec_mps.specs.Shapes.{look_up}
use Rattle.spec_server.specs.declared.command.EditWord.{EditWord}
use Rattle.spec_server.specs.declared.command.EditWord.TheVariants.{AddRow, DelRow, AddCol, DelCol, SetCost, SetCoef}
use Rattle.spec_server.specs.declared.command.EditWord.TheVariants.{SetRhs, SetRange, SetBound, Sense as SenseWord}
use Rattle.spec_server.specs.declared.command.LineFault.{LineFault}
use Rattle.spec_server.specs.declared.command.LineFault.TheVariants as fault

-- what words of a line are read as, or the fault of the line
abbrev pub Reads : Type 0 → Type 0
Reads A = Result A LineFault

infixl 1 ◌>>=◌
-- reads on from a value, or passes on the fault
abbrev pub ◌>>=◌ : {A B : Type 0} → Reads A → (A → Reads B) → Reads B
(Ok x) >>= next = next x
(Err why) >>= next = Err why

-- ---- one word

-- the fault of a line in which the text of a number has this fault: no number, or one past 127 bits
abbrev pub number_fault : NumFault → LineFault
number_fault number.Shape = fault.Number
number_fault number.Wide = fault.Wide

-- a result of reading a number as one of reading a line: its value, or its fault as the line's
abbrev pub as_read : {A : Type 0} → Result A NumFault → Reads A
as_read (Ok x) = Ok x
as_read (Err why) = Err (number_fault why)

-- the number that a word spells, or the line's fault
unfoldable pub number_in : List ℕ → Reads ℚ
number_in text = as_read (answer (number_of text))

-- what a word of a fixed list means, if it is one of them; else the fault `Word`
abbrev pub keyword : {A : Type 0} → Option A → Reads A
keyword None = Err fault.Word
keyword (Some x) = Ok x

-- the kind of a row that a word spells, or the fault `Word`
unfoldable pub kind_in : List ℕ → Reads Kind
kind_in text = keyword (look_up text ((codes "L", L) ∷ (codes "G", G) ∷ (codes "E", E) ∷ (codes "N", N) ∷ []))

-- the sense of the objective that a word spells, or the fault `Word`
unfoldable pub sense_in : List ℕ → Reads Sense
sense_in text = keyword (look_up text ((codes "MIN", Min) ∷ (codes "MAX", Max) ∷ []))

-- the range of a row that a word spells: none for the word `NONE`, else its number; or the line's fault
unfoldable pub range_in : List ℕ → Reads (Option ℚ)
range_in text = if same text (codes "NONE") then Ok None else (number_in text >>= λ v. Ok (Some v))

-- the range of a new row of this kind that a word spells, or the line's fault;
-- for a free row each word is the fault `Word`
unfoldable pub new_range_in : Kind → List ℕ → Reads ℚ
new_range_in kind text = if is_free kind then Err fault.Word else number_in text

-- A spelled value as a lower bound: a finite value is the bound, minus infinity is none, and plus infinity is refused.
abbrev pub lower_by : BoundValue ℚ → Reads (Option ℚ)
lower_by (Finite v) = Ok (Some v)
lower_by MinusInf = Ok None
lower_by PlusInf = Err fault.Number

-- A spelled value as an upper bound: a finite value is the bound, plus infinity is none, and minus infinity is refused.
abbrev pub upper_by : BoundValue ℚ → Reads (Option ℚ)
upper_by (Finite v) = Ok (Some v)
upper_by PlusInf = Ok None
upper_by MinusInf = Err fault.Number

-- the lower bound that a word spells, or none for minus infinity; or the line's fault
unfoldable pub lower_in : List ℕ → Reads (Option ℚ)
lower_in text = as_read (bound_answer (bound_of text)) >>= lower_by

-- the upper bound that a word spells, or none for plus infinity; or the line's fault
unfoldable pub upper_in : List ℕ → Reads (Option ℚ)
upper_in text = as_read (bound_answer (bound_of text)) >>= upper_by

-- ---- pairs

-- the words in pairs, in order; none where one is left over
unfoldable pub two_by_two : List (List ℕ) → Option (List (List ℕ × List ℕ))
two_by_two [] = Some []
two_by_two (name ∷ []) = None
two_by_two (name ∷ value ∷ words) = option_map (λ pairs. (name, value) ∷ pairs) (two_by_two words)

-- names with the numbers that their texts spell, or the first fault of a number's text
unfoldable pub numbers_in : List (List ℕ × List ℕ) → Reads Pairs
numbers_in [] = Ok []
numbers_in (p ∷ pairs) = number_in p.1 >>= λ v. numbers_in pairs >>= λ rest. Ok ((p.0, v) ∷ rest)

-- the edit that adds a column of this name, with the cost and the pairs that these words spell; or the line's fault. A
-- word left over from the pairs is found before any number is read.
abbrev pub column_in : Name → List ℕ → Option (List (List ℕ × List ℕ)) → Reads ExactEdit
column_in name cost None = Err fault.Word
column_in name cost (Some pairs) = number_in cost >>= λ c. numbers_in pairs >>= λ ps. Ok (edit.AddCol name c ps)

-- ---- edits: the count of words, and then the words from left to right

-- the edit that a command word and the words behind it spell, or the line's fault: first their number must be right,
-- then each from left to right
unfoldable pub edit_by : EditWord → List (List ℕ) → Reads ExactEdit
edit_by AddRow (name ∷ kind ∷ rhs ∷ []) = kind_in kind >>= λ k. number_in rhs >>= λ b. Ok (edit.AddRow name k b None)
edit_by AddRow (name ∷ kind ∷ rhs ∷ range ∷ []) =
    kind_in kind >>= λ k. number_in rhs >>= λ b. new_range_in k range >>= λ r. Ok (edit.AddRow name k b (Some r))
edit_by DelRow (name ∷ []) = Ok (edit.DelRow name)
edit_by AddCol (name ∷ cost ∷ pairs) = column_in name cost (two_by_two pairs)
edit_by DelCol (name ∷ []) = Ok (edit.DelCol name)
edit_by SetCost (name ∷ value ∷ []) = number_in value >>= λ v. Ok (edit.SetCost name v)
edit_by SetCoef (row ∷ column ∷ value ∷ []) = number_in value >>= λ v. Ok (edit.SetCoef row column v)
edit_by SetRhs (name ∷ value ∷ []) = number_in value >>= λ v. Ok (edit.SetRhs name v)
edit_by SetRange (name ∷ value ∷ []) = range_in value >>= λ r. Ok (edit.SetRange name r)
edit_by SetBound (name ∷ lower ∷ upper ∷ []) =
    lower_in lower >>= λ l. upper_in upper >>= λ u. Ok (edit.SetBound name (record { lower = l; upper = u }))
edit_by SenseWord (sense ∷ []) = sense_in sense >>= λ s. Ok (edit.SetSense s)
edit_by other words = Err fault.Word
