-- What the words of a line ask, after the number of its session.
use Rattle.std.specs.Prelude.{ℕ, ◌==◌, ◌&&◌, Bool, false, not, Option, Some, None, Ok, Err, List, [], ◌∷◌, length}
use Rattle.std.specs.Prelude.{nat_lt, nat_le, codes, if◌then◌else◌}
use Rattle.std.specs.List.{list_all}
use Rattle.spec_mps.specs.NumberText.{spelled_from}
use Rattle.spec_mps.specs.Shapes.{look_up}
use Rattle.spec_mps.specs.declared.style.Style.{Style}
use Rattle.spec_mps.specs.declared.style.Style.TheVariants as style
use Rattle.spec_edit.specs.Edited.{ExactEdit}
use Rattle.spec_server.specs.declared.command.Command.{Command}
use Rattle.spec_server.specs.declared.command.Command.TheVariants.{Load, Check, Plain, Bad}
use Rattle.spec_server.specs.declared.command.CommandWord.{CommandWord}
use Rattle.spec_server.specs.declared.command.CommandWord.TheVariants as word
use Rattle.spec_server.specs.declared.command.EditWord.TheVariants as edit
use Rattle.spec_server.specs.declared.command.LineFault.TheVariants as fault
use Rattle.spec_server.specs.declared.command.Plain.TheVariants as plain_command
use Rattle.spec_server.specs.EditCommand.{Reads, edit_by}

-- a command with exact numbers
abbrev pub ExactCommand : Type 0
ExactCommand = Command ExactEdit

-- ---- words

-- whether a byte is a digit
abbrev pub is_digit : ℕ → Bool
is_digit b = nat_le 48 b && nat_le b 57

-- whether a numeral begins with 0
abbrev pub begins_with_zero : List ℕ → Bool
begins_with_zero [] = false
begins_with_zero (b ∷ bs) = b == 48

-- the number from 1 to `last` that a text spells in at most this many digits, without a leading zero;
-- none for each other text
abbrev pub number_to : ℕ → ℕ → List ℕ → Option ℕ
number_to last digits text =
    if nat_lt 0 (length text) && nat_le (length text) digits && list_all is_digit text
    && not (begins_with_zero text) && nat_le (spelled_from 0 text) last
    then Some (spelled_from 0 text) else None

-- the number of a session, 1 to 64, that a text spells; none for each other text
unfoldable pub session_of : List ℕ → Option ℕ
session_of text = number_to 64 2 text

-- the budget of pivots and flips, 1 to 1,000,000, that a text spells; none for each other text
unfoldable pub budget_of : List ℕ → Option ℕ
budget_of text = number_to 1000000 7 text

-- the form of a model's text that a word names, FREE or FIXED; none for any other word
unfoldable pub style_of : List ℕ → Option Style
style_of text = look_up text ((codes "FREE", style.Free) ∷ (codes "FIXED", style.Fixed) ∷ [])

-- the command word that these bytes spell; none where they spell no such word
unfoldable pub command_word_of : List ℕ → Option CommandWord
command_word_of text =
    look_up text
    ((codes "LOAD", word.Load)
    ∷ (codes "WRITE", word.Write)
    ∷ (codes "SOLVE", word.Solve)
    ∷ (codes "CERT", word.Cert)
    ∷ (codes "HOW", word.How)
    ∷ (codes "BUDGET", word.Budget)
    ∷ (codes "WIDE", word.Wide)
    ∷ (codes "CHECK", word.Check)
    ∷ (codes "QUIT", word.Quit)
    ∷ (codes "ADDROW", word.Edit edit.AddRow)
    ∷ (codes "DELROW", word.Edit edit.DelRow)
    ∷ (codes "ADDCOL", word.Edit edit.AddCol)
    ∷ (codes "DELCOL", word.Edit edit.DelCol)
    ∷ (codes "SETCOST", word.Edit edit.SetCost)
    ∷ (codes "SETCOEF", word.Edit edit.SetCoef)
    ∷ (codes "SETRHS", word.Edit edit.SetRhs)
    ∷ (codes "SETRANGE", word.Edit edit.SetRange)
    ∷ (codes "SETBOUND", word.Edit edit.SetBound)
    ∷ (codes "SENSE", word.Edit edit.Sense)
    ∷ [])

-- ---- commands

-- the command `LOAD` of a text in this form; a bad command where the word for the form is unknown
abbrev pub load_by : Option Style → ExactCommand
load_by None = Bad fault.Word
load_by (Some form) = Load form

-- the command `WRITE` of the model in this form; a bad command where the word for the form is unknown
abbrev pub write_by : Option Style → ExactCommand
write_by None = Bad fault.Word
write_by (Some form) = Plain (plain_command.Write form)

-- the command `BUDGET` of this number; a bad command where none was spelled
abbrev pub budget_by : Option ℕ → ExactCommand
budget_by None = Bad fault.Number
budget_by (Some n) = Plain (plain_command.Budget n)

-- the command of an edit; a bad command with the fault where the line is no edit
abbrev pub change_by : Reads ExactEdit → ExactCommand
change_by (Ok e) = Plain (plain_command.Change e)
change_by (Err why) = Bad why

-- the command of a command word and the words behind it; a bad command where their number or one of them is wrong
abbrev pub command_with : CommandWord → List (List ℕ) → ExactCommand
command_with word.Load (form ∷ []) = load_by (style_of form)
command_with word.Write (form ∷ []) = write_by (style_of form)
command_with word.Solve [] = Plain plain_command.Solve
command_with word.Cert [] = Plain plain_command.Cert
command_with word.How [] = Plain plain_command.How
command_with word.Budget (n ∷ []) = budget_by (budget_of n)
command_with word.Wide [] = Plain plain_command.Wide
command_with word.Check [] = Check
command_with word.Quit [] = Plain plain_command.Quit
command_with (word.Edit which) behind = change_by (edit_by which behind)
command_with other behind = Bad fault.Word

-- the command of a line, by its command word and the words behind it;
-- a bad command where the first word is no such word
abbrev pub command_at : Option CommandWord → List (List ℕ) → ExactCommand
command_at None behind = Bad fault.Word
command_at (Some which) behind = command_with which behind

-- the command that a line's words spell, or the fault why they spell none
abbrev pub command_of : List (List ℕ) → ExactCommand
command_of [] = Bad fault.Word
command_of (first ∷ behind) = command_at (command_word_of first) behind
