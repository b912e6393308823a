-- What a script asks.
use Rattle.std.specs.Prelude.{ℕ, ◌&&◌, Bool, false, not, Option, Some, None, List, [], ◌∷◌, ◌++◌, length, take, nat_le}
use Rattle.std.specs.Prelude.{codes, if◌then◌else◌}
use Rattle.spec_text.specs.declared.line.Line.{Line}
use Rattle.spec_text.specs.declared.line.Line.TheVariants as line
use Rattle.spec_text.specs.Lines.{lines_of, ended_lines_of, input_limit}
use Rattle.spec_text.specs.Words.{same, words_of}
use Rattle.spec_mps.specs.Cards.{begins_with_blank}
use Rattle.spec_mps.specs.declared.style.Style.{Style}
use Rattle.spec_mps.specs.Reader.{start}
use Rattle.spec_model.specs.Kept.{usual_limits}
use Rattle.spec_mps.specs.Steps.{Verdict, Spelled, Refused, judge}
use Rattle.spec_certificate.specs.NarrowText.{is_end}
use Rattle.spec_certificate.specs.NarrowText as certificate
use Rattle.spec_server.specs.declared.asks.Ask.TheVariants as ask
use Rattle.spec_server.specs.declared.asks.Asked.{Asked}
use Rattle.spec_server.specs.declared.addressing.Addressing.{Addressing}
use Rattle.spec_server.specs.declared.command.Command.TheVariants.{Load, Check, Plain, Bad}
use Rattle.spec_server.specs.Addressing.{addressed_in}
use Rattle.spec_server.specs.Command.{ExactCommand}
use Rattle.spec_server.specs.Machine.{ExactAsk}

-- ---- bodies

-- whether a list of words begins with this word
abbrev pub begins_with_word : List ℕ → List (List ℕ) → Bool
begins_with_word word [] = false
begins_with_word word (w ∷ ws) = same w word

-- whether a line is the last one of a model's text: it begins in column 1 with the word ENDATA
unfoldable pub ends_text : Line (List ℕ) → Bool
ends_text (line.Text bytes) = not (begins_with_blank bytes) && begins_with_word (codes "ENDATA") (words_of bytes)
ends_text (line.Long len) = false
ends_text line.End = false
ends_text line.Over = false

-- whether a line is the last one of a certificate: the word END alone
unfoldable pub ends_certificate : Line (List ℕ) → Bool
ends_certificate (line.Text bytes) = is_end (words_of bytes)
ends_certificate (line.Long len) = false
ends_certificate line.End = false
ends_certificate line.Over = false

-- the request of a model's text that was read: to load its model, or to refuse it with its fault
abbrev pub ask_of_verdict : Verdict → ExactAsk
ask_of_verdict (Spelled m) = ask.Loaded m
ask_of_verdict (Refused n fault) = ask.Misspelled (record { line = n; code = fault })

-- the request of a certificate that was read: to check it, or to refuse it at its first wrong line
abbrev pub ask_of_judgement : certificate.Judgement → ExactAsk
ask_of_judgement (certificate.Spelled raw) = ask.Checked raw
ask_of_judgement (certificate.Refused n) = ask.Unfit n

-- ---- a script, line by line

-- whether a script is between two commands, or in the text or certificate of one, with the lines of that which were
-- read
pub data Pending : Type 0 where
  Between : Pending
  Text : (session : ℕ) → (form : Style) → (body : List (Line (List ℕ))) → Pending
  Certificate : (session : ℕ) → (body : List (Line (List ℕ))) → Pending

-- the text of a model or the certificate that begins behind a command; none behind another command
abbrev pub begun : ℕ → ExactCommand → Pending
begun session (Load form) = Text session form []
begun session Check = Certificate session []
begun session (Plain asked) = Between
begun session (Bad fault) = Between

-- the text of a model or the certificate that begins behind a line, if the line is a command that has one
abbrev pub begun_by : Option (Asked ExactCommand) → Pending
begun_by None = Between
begun_by (Some addressed) = begun addressed.session addressed.ask

-- the text of a model or the certificate that has begun and not ended, if any, after one more line
abbrev pub pending_after_line : Addressing → Pending → Line (List ℕ) → Pending
pending_after_line addressing Between next = begun_by (addressed_in addressing next)
pending_after_line addressing (Text session form body) next =
    if ends_text next then Between else Text session form (body ++ next ∷ [])
pending_after_line addressing (Certificate session body) next =
    if ends_certificate next then Between else Certificate session (body ++ next ∷ [])

-- the list of the request that a command alone makes; empty for a command behind which a text or a certificate follows
abbrev pub asks_of_command : ℕ → ExactCommand → List (Asked ExactAsk)
asks_of_command session (Load form) = []
asks_of_command session Check = []
asks_of_command session (Plain asked) = record { session = session; ask = ask.Plain asked } ∷ []
asks_of_command session (Bad fault) = record { session = session; ask = ask.Bad fault } ∷ []

-- the list of the request that a line's command makes; empty where the line has no command,
-- or one with a text or a certificate behind it
abbrev pub asks_by : Option (Asked ExactCommand) → List (Asked ExactAsk)
asks_by None = []
asks_by (Some addressed) = asks_of_command addressed.session addressed.ask

-- the list of the request that a line completes: its own command, or the text or certificate that it ends;
-- empty if none
abbrev pub asks_of_line : Addressing → Pending → Line (List ℕ) → List (Asked ExactAsk)
asks_of_line addressing Between next = asks_by (addressed_in addressing next)
asks_of_line addressing (Text session form body) next =
    if ends_text next
    then record { session = session; ask = ask_of_verdict (judge usual_limits form start 1 (body ++ next ∷ [])) } ∷ []
    else []
asks_of_line addressing (Certificate session body) next =
    if ends_certificate next
    then record { session = session; ask = ask_of_judgement (certificate.judge None 1 (body ++ next ∷ [])) } ∷ []
    else []

-- the requests that lines complete, from the text or certificate on that has begun before them, if any
abbrev pub asks_from : Addressing → Pending → List (Line (List ℕ)) → List (Asked ExactAsk)
asks_from addressing pending [] = []
asks_from addressing pending (next ∷ lines) =
    asks_of_line addressing pending next ++ asks_from addressing (pending_after_line addressing pending next) lines

-- the text of a model or the certificate that has begun and not ended, if any, after some lines
abbrev pub pending_after : Addressing → Pending → List (Line (List ℕ)) → Pending
pending_after addressing pending [] = pending
pending_after addressing pending (next ∷ lines) =
    pending_after addressing (pending_after_line addressing pending next) lines

-- ---- a whole script

-- how a script ends: between two commands, inside a text or certificate, or past the limit on its bytes
pub data Ending : Type 0 where
  Ended : Ending
  Cut : Ending
  Over : Ending

-- how a script ends: cut off, if a text or certificate has begun and not ended; else between two commands
abbrev pub ending_by : Pending → Ending
ending_by Between = Ended
ending_by (Text session form body) = Cut
ending_by (Certificate session body) = Cut

-- the requests that a script completes, in order, and how the script ends
pub record Script : Type 0 where
  pub asks : List (Asked ExactAsk)
  pub ending : Ending

-- the requests of the lines that end among these bytes, within the limit on a script's bytes
unfoldable pub ended_asks_of : Addressing → List ℕ → List (Asked ExactAsk)
ended_asks_of addressing bytes = asks_from addressing Between (ended_lines_of (take input_limit bytes))

-- the requests of a script's bytes, and how it ends. Past the limit on bytes, only lines that end within it count
unfoldable pub script_of : Addressing → List ℕ → Script
script_of addressing bytes =
    if nat_le (length bytes) input_limit
    then record {
      asks = asks_from addressing Between (lines_of bytes);
      ending = ending_by (pending_after addressing Between (lines_of bytes));
    }
    else record { asks = ended_asks_of addressing bytes; ending = Over }
