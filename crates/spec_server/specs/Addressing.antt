-- What a line between two commands is: a command of a session, or nothing.
use Rattle.std.specs.Prelude.{ℕ, ◌==◌, Bool, false, Option, Some, None, List, [], ◌∷◌, if◌then◌else◌}
use Rattle.spec_text.specs.declared.line.Line.{Line}
use Rattle.spec_text.specs.declared.line.Line.TheVariants as line
use Rattle.spec_text.specs.Words.{words_of}
use Rattle.spec_server.specs.declared.addressing.Addressing.{Addressing}
use Rattle.spec_server.specs.declared.addressing.Addressing.TheVariants.{Numbered, Alone}
use Rattle.spec_server.specs.declared.asks.Asked.{Asked}
use Rattle.spec_server.specs.declared.command.Command.TheVariants.{Bad}
use Rattle.spec_server.specs.declared.command.LineFault.TheVariants as fault
use Rattle.spec_server.specs.Command.{ExactCommand, session_of, command_of}

-- the command of these words for the session of this number; without a number it is a bad command of session 0
abbrev pub addressed_to : Option ℕ → List (List ℕ) → Asked ExactCommand
addressed_to None words = record { session = 0; ask = Bad fault.Word }
addressed_to (Some session) words = record { session = session; ask = command_of words }

-- A line's command with its session, by its first word and those behind it. Where sessions are numbered, the first word
-- is the session's number; if it is none, the command is a bad one of session 0. Else it is the command's word, and the
-- session is 0.
abbrev pub addressed_from : Addressing → List ℕ → List (List ℕ) → Asked ExactCommand
addressed_from Numbered first words = addressed_to (session_of first) words
addressed_from Alone first words = record { session = 0; ask = command_of (first ∷ words) }

-- a line's command with its session, by all its words; none where it has no words
abbrev pub addressed_by : Addressing → List (List ℕ) → Option (Asked ExactCommand)
addressed_by addressing [] = None
addressed_by addressing (first ∷ words) = Some (addressed_from addressing first words)

-- whether a line begins with `#`, which makes it a comment
abbrev pub begins_with_hash : List ℕ → Bool
begins_with_hash [] = false
begins_with_hash (b ∷ bs) = b == 35

-- The command of a line of a script, with its session. A line that is too long is a bad command of session 0. A
-- comment, a line without words and the ends of the input are no command.
unfoldable pub addressed_in : Addressing → Line (List ℕ) → Option (Asked ExactCommand)
addressed_in addressing (line.Text bytes) =
    if begins_with_hash bytes then None else addressed_by addressing (words_of bytes)
addressed_in addressing (line.Long len) = Some (record { session = 0; ask = Bad fault.Long })
addressed_in addressing line.End = None
addressed_in addressing line.Over = None
