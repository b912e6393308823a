-- Lines that name no session ask session 0.
--
-- `asked_alone`: where lines that name no session give one request, it is one of session 0.
-- `script_alone`: all requests of bytes whose lines name no session are of session 0.
use Rattle.std.proofs.Common.{◌≡◌, ℕ, Bool, true, false, cond, Option, Some, None, List, [], ◌∷◌, ◌++◌, length, take}
use Rattle.std.proofs.Common.{refl, sym, subst}
use Rattle.std.specs.Prelude.{nat_le}
use Rattle.spec_text.specs.Lines.{lines_of, ended_lines_of, input_limit}
use Rattle.spec_text.specs.declared.line.Line.{Line}
use Rattle.spec_text.specs.declared.line.Line.TheVariants as line
use Rattle.spec_text.specs.Words.{words_of}
use Rattle.spec_server.specs.declared.asks.Asked.{Asked}
use Rattle.spec_server.specs.declared.addressing.Addressing.TheVariants.{Alone}
use Rattle.spec_server.specs.declared.command.Command.TheVariants.{Load, Check, Plain, Bad}
use Rattle.spec_server.specs.Command.{ExactCommand}
use Rattle.spec_server.specs.Machine.{ExactAsk}
use Rattle.spec_server.specs.Addressing.{addressed_by, addressed_in, begins_with_hash}
use Rattle.spec_server.specs.Script.{Pending, Between, Text, Certificate, ends_text, ends_certificate, begun, begun_by}
use Rattle.spec_server.specs.Script.{pending_after_line, asks_of_command, asks_by, asks_of_line, asks_from}
use Rattle.spec_server.specs.Script.{Script, ended_asks_of, script_of}
use Rattle.spec_server.proofs.ScriptBytes.{whole_script, long_script, script_by}

-- ---- what is session 0's

-- the request is one of session 0
abbrev IsAlone : Asked ExactAsk → Type 0
IsAlone asked = asked.session ≡ 0

-- each of these requests is one of session 0
abbrev pub AreAlone : List (Asked ExactAsk) → Type 0
AreAlone [] = Unit {0}
AreAlone (asked ∷ asks) = IsAlone asked × AreAlone asks

-- the text or certificate that has begun and not ended, if any, is of session 0
abbrev IsPendingAlone : Pending → Type 0
IsPendingAlone Between = Unit {0}
IsPendingAlone (Text session form body) = session ≡ 0
IsPendingAlone (Certificate session body) = session ≡ 0

-- the command of a line, if it has one, is for session 0
abbrev IsLineAlone : Option (Asked ExactCommand) → Type 0
IsLineAlone None = Unit {0}
IsLineAlone (Some addressed) = addressed.session ≡ 0

-- where the requests of two lists are of session 0, so are those of the one behind the other
AreAlone-append : (xs ys : List (Asked ExactAsk)) → AreAlone xs → AreAlone ys → AreAlone (xs ++ ys)
AreAlone-append [] ys h k = k
AreAlone-append (x ∷ xs) ys h k = (h.0, AreAlone-append xs ys h.1 k)

-- ---- a line between two commands

-- words that name no session are an addressed command for session 0, if they are one
words_alone : (words : List (List ℕ)) → IsLineAlone (addressed_by Alone words)
words_alone [] = tt
words_alone (word ∷ words) = refl

-- where an addressed command is for session 0, the command that a test keeps of it, if any, is for session 0
text_alone : (t : Bool) (found : Option (Asked ExactCommand)) → IsLineAlone found → IsLineAlone (cond t None found)
text_alone true found h = tt
text_alone false found h = h

-- a line that names no session is an addressed command for session 0, if it is one
line_alone : (next : Line (List ℕ)) → IsLineAlone (addressed_in Alone next)
unfolding addressed_in
line_alone (line.Text bytes) =
    text_alone (begins_with_hash bytes) (addressed_by Alone (words_of bytes)) (words_alone (words_of bytes))
line_alone (line.Long len) = refl
line_alone line.End = tt
line_alone line.Over = tt

-- the text or certificate that begins behind a command for session 0 is of session 0
begun_alone : (session : ℕ) (c : ExactCommand) → session ≡ 0 → IsPendingAlone (begun session c)
begun_alone session (Load form) h = h
begun_alone session Check h = h
begun_alone session (Plain asked) h = tt
begun_alone session (Bad fault) h = tt

-- the text or certificate that begins behind an addressed command for session 0, or behind none, is of session 0
begun_by_alone : (found : Option (Asked ExactCommand)) → IsLineAlone found → IsPendingAlone (begun_by found)
begun_by_alone None h = tt
begun_by_alone (Some addressed) h = begun_alone addressed.session addressed.ask h

-- the requests of a command for session 0 are of session 0
command_alone : (session : ℕ) (c : ExactCommand) → session ≡ 0 → AreAlone (asks_of_command session c)
command_alone session (Load form) h = tt
command_alone session Check h = tt
command_alone session (Plain asked) h = (h, tt)
command_alone session (Bad fault) h = (h, tt)

-- the requests of an addressed command for session 0 are of session 0
asks_by_alone : (found : Option (Asked ExactCommand)) → IsLineAlone found → AreAlone (asks_by found)
asks_by_alone None h = tt
asks_by_alone (Some addressed) h = command_alone addressed.session addressed.ask h

-- ---- any line

-- where the unfinished text or certificate is of session 0, what a test leaves of it is of session 0
pending_alone : (t : Bool) (p : Pending) → IsPendingAlone p → IsPendingAlone (cond t Between p)
pending_alone true p h = tt
pending_alone false p h = h

-- where a request is of session 0, the list of it alone, or of none, is of session 0 by a test
body_alone : (t : Bool) (asked : Asked ExactAsk) → IsAlone asked → AreAlone (cond t (asked ∷ []) [])
body_alone true asked h = (h, tt)
body_alone false asked h = tt

-- where the unfinished text or certificate is of session 0, so is that behind a line that names no session
after_line_alone : (p : Pending) (next : Line (List ℕ)) → IsPendingAlone p →
    IsPendingAlone (pending_after_line Alone p next)
after_line_alone Between next h = begun_by_alone (addressed_in Alone next) (line_alone next)
after_line_alone (Text session form body) next h =
    pending_alone (ends_text next) (Text session form (body ++ next ∷ [])) h
after_line_alone (Certificate session body) next h =
    pending_alone (ends_certificate next) (Certificate session (body ++ next ∷ [])) h

-- where the unfinished text or certificate is of session 0, so is the request of a line that names no session
of_line_alone : (p : Pending) (next : Line (List ℕ)) → IsPendingAlone p → AreAlone (asks_of_line Alone p next)
of_line_alone Between next h = asks_by_alone (addressed_in Alone next) (line_alone next)
of_line_alone (Text session form body) next h = body_alone (ends_text next) (record { session = session; ask = _ }) h
of_line_alone (Certificate session body) next h =
    body_alone (ends_certificate next) (record { session = session; ask = _ }) h

-- where the unfinished text or certificate is of session 0, so are the requests of lines that name no session
asks_alone : (p : Pending) (lines : List (Line (List ℕ))) → IsPendingAlone p → AreAlone (asks_from Alone p lines)
asks_alone p [] h = tt
asks_alone p (next ∷ lines) h =
    let after : Pending = pending_after_line Alone p next in
    AreAlone-append (asks_of_line Alone p next) (asks_from Alone after lines) (of_line_alone p next h)
    (asks_alone after lines (after_line_alone p next h))

-- the one ask of some lines
pub asked_alone : (lines : List (Line (List ℕ))) (asked : Asked ExactAsk) →
    asks_from Alone Between lines ≡ asked ∷ [] → asked.session ≡ 0
asked_alone lines asked e = (subst AreAlone e (asks_alone Between lines tt)).0

-- all asks of bytes
pub script_alone : (bytes : List ℕ) → AreAlone (script_of Alone bytes).asks
unfolding ended_asks_of
script_alone bytes =
    subst (λ (s : Script). AreAlone s.asks) (sym (script_by Alone bytes (nat_le (length bytes) input_limit) refl))
    (by (nat_le (length bytes) input_limit))
  where
    by : (t : Bool) → AreAlone (cond t (whole_script Alone bytes) (long_script Alone bytes)).asks
    by true = asks_alone Between (lines_of bytes) tt
    by false = asks_alone Between (ended_lines_of (take input_limit bytes)) tt
