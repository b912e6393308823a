-- A script's asks, line by line; its sessions have the numbers 0 to 64.
--
-- `asks_from-append`: the requests of two lists of lines are those of the first, and then those of the second from
--   where it ended.
-- `pending_after-append`: what is pending after two lists of lines is what is pending after the second from the first's
--   end.
-- `line_is_kept`: the command of any line is to a session of at most 64, and its numbers may be kept.
-- `asked_session`: the request that a line behind others completes is of a session of at most 64.
use Rattle.std.proofs.Common.{◌≡◌, ◌≤◌, ℕ, Bool, true, false, ◌&&◌, not, cond, Option, Some, None, Ok, Err, IfOk, List}
use Rattle.std.proofs.Common.{[], ◌∷◌, ◌++◌, length, nat_le, nat_lt, refl, sym, ap, ◌∙◌, subst, append_assoc, arith}
use Rattle.std.proofs.Common.{leb-true}
use Rattle.std.specs.List.{list_all}
use Rattle.spec_text.specs.declared.line.Line.{Line}
use Rattle.spec_text.specs.declared.line.Line.TheVariants as line
use Rattle.spec_text.specs.Words.{words_of}
use Rattle.spec_edit.specs.Edited.{ExactEdit, IsKeptEdit}
use Rattle.spec_mps.specs.declared.style.Style.{Style}
use Rattle.spec_mps.specs.NumberText.{spelled_from}
use Rattle.spec_server.specs.declared.asks.Asked.{Asked}
use Rattle.spec_server.specs.declared.addressing.Addressing.{Addressing}
use Rattle.spec_server.specs.declared.addressing.Addressing.TheVariants.{Numbered, Alone}
use Rattle.spec_server.specs.declared.command.Command.TheVariants.{Load, Check, Plain, Bad}
use Rattle.spec_server.specs.declared.command.CommandWord.{CommandWord}
use Rattle.spec_server.specs.declared.command.CommandWord.TheVariants as command_word
use Rattle.spec_server.specs.Machine.{ExactAsk, IsKeptPlain}
use Rattle.spec_server.specs.EditCommand.{Reads, edit_by}
use Rattle.spec_server.specs.Command.{ExactCommand, is_digit, begins_with_zero, session_of, budget_of, style_of}
use Rattle.spec_server.specs.Command.{command_word_of}
use Rattle.spec_server.specs.Command.{load_by, write_by, budget_by, change_by, command_with, command_at, command_of}
use Rattle.spec_server.specs.Addressing.{addressed_to, addressed_from, addressed_by, addressed_in, begins_with_hash}
use Rattle.spec_server.specs.Script.{Pending, Between, Text, Certificate, ends_text, ends_certificate, begun, begun_by}
use Rattle.spec_server.specs.Script.{pending_after_line, asks_of_command, asks_by, asks_of_line, asks_from}
use Rattle.spec_server.specs.Script.{pending_after}
use Rattle.spec_server.proofs.KeptEdits.{edit_kept}

pub asks_from-append : (addressing : Addressing) (p : Pending) (ls ms : List (Line (List ℕ))) →
    asks_from addressing p (ls ++ ms) ≡ asks_from addressing p ls ++ asks_from addressing
    (pending_after addressing p ls) ms
asks_from-append addressing p [] ms = refl
asks_from-append addressing p (l ∷ ls) ms =
    let after : Pending = pending_after_line addressing p l in
    ap (λ zs. asks_of_line addressing p l ++ zs) (asks_from-append addressing after ls ms)
    ∙ sym (append_assoc (asks_of_line addressing p l) (asks_from addressing after ls)
    (asks_from addressing (pending_after addressing after ls) ms))

pub pending_after-append : (addressing : Addressing) (p : Pending) (ls ms : List (Line (List ℕ))) →
    pending_after addressing p (ls ++ ms) ≡ pending_after addressing (pending_after addressing p ls) ms
pending_after-append addressing p [] ms = refl
pending_after-append addressing p (l ∷ ls) ms =
    pending_after-append addressing (pending_after_line addressing p l) ls ms

-- ---- sessions have the numbers 0 to 64, and edits have numbers that may be kept

-- a text or certificate that has begun is for a session of at most 64; between commands nothing is asked
abbrev pub IsNumbered : Pending → Type 0
IsNumbered Between = Unit {0}
IsNumbered (Text session form body) = session ≤ 64
IsNumbered (Certificate session body) = session ≤ 64

-- if the command is an edit, its numbers and bounds may be kept; of other commands nothing is asked
abbrev pub IsKeptCommand : ExactCommand → Type 0
IsKeptCommand (Load form) = Unit {0}
IsKeptCommand Check = Unit {0}
IsKeptCommand (Plain asked) = IsKeptPlain asked
IsKeptCommand (Bad fault) = Unit {0}

-- if a line has a command, its session is at most 64, and the command's numbers and bounds may be kept
abbrev pub IsKeptLine : Option (Asked ExactCommand) → Type 0
IsKeptLine None = Unit {0}
IsKeptLine (Some addressed) = (addressed.session ≤ 64) × IsKeptCommand addressed.ask

-- where five tests are all true, the last one is
last_test : (s t u v w : Bool) → s && t && u && v && w ≡ true → w ≡ true
last_test true true true true w e = e
last_test true true true false w e = cc
last_test true true false v w e = cc
last_test true false u v w e = cc
last_test false t u v w e = cc

-- where a number is given only if a test is true, and one is given, the test is true and both are the same
some_number : (t : Bool) (n session : ℕ) → cond t (Some n) None ≡ Some session → (t ≡ true) × (n ≡ session)
some_number true n session e = (refl, cc)
some_number false n session e = cc

-- a word that spells the number of a session spells one of at most 64
session_small : (word : List ℕ) (session : ℕ) → session_of word ≡ Some session → session ≤ 64
unfolding session_of
session_small word session e =
    let s = some_number _ (spelled_from 0 word) session e in
    subst (λ n. n ≤ 64) s.1
    (leb-true (spelled_from 0 word) 64 (last_test (nat_lt 0 (length word)) (nat_le (length word) 2)
    (list_all is_digit word) (not (begins_with_zero word)) (nat_le (spelled_from 0 word) 64) s.0))

-- a command LOAD, or the fault in its place, has no edit with numbers that may not be kept
load_kept : (form : Option Style) → IsKeptCommand (load_by form)
load_kept None = tt
load_kept (Some form) = tt

-- a command WRITE, or the fault in its place, has no edit with numbers that may not be kept
write_kept : (form : Option Style) → IsKeptCommand (write_by form)
write_kept None = tt
write_kept (Some form) = tt

-- a command BUDGET, or the fault in its place, has no edit with numbers that may not be kept
budget_kept : (n : Option ℕ) → IsKeptCommand (budget_by n)
budget_kept None = tt
budget_kept (Some n) = tt

-- where the numbers of an edit that was read may be kept, so may those of its command
change_kept : (read : Reads ExactEdit) → IfOk read IsKeptEdit → IsKeptCommand (change_by read)
change_kept (Ok e) kept = kept
change_kept (Err why) kept = tt

-- the command of a word with more words behind it has numbers that may be kept, if it is an edit
command_with_kept : (which : CommandWord) (behind : List (List ℕ)) → IsKeptCommand (command_with which behind)
command_with_kept command_word.Load [] = tt
command_with_kept command_word.Load (form ∷ []) = load_kept (style_of form)
command_with_kept command_word.Load (form ∷ other ∷ more) = tt
command_with_kept command_word.Write [] = tt
command_with_kept command_word.Write (form ∷ []) = write_kept (style_of form)
command_with_kept command_word.Write (form ∷ other ∷ more) = tt
command_with_kept command_word.Solve [] = tt
command_with_kept command_word.Solve (other ∷ more) = tt
command_with_kept command_word.Cert [] = tt
command_with_kept command_word.Cert (other ∷ more) = tt
command_with_kept command_word.How [] = tt
command_with_kept command_word.How (other ∷ more) = tt
command_with_kept command_word.Budget [] = tt
command_with_kept command_word.Budget (n ∷ []) = budget_kept (budget_of n)
command_with_kept command_word.Budget (n ∷ other ∷ more) = tt
command_with_kept command_word.Wide [] = tt
command_with_kept command_word.Wide (other ∷ more) = tt
command_with_kept command_word.Check [] = tt
command_with_kept command_word.Check (other ∷ more) = tt
command_with_kept command_word.Quit [] = tt
command_with_kept command_word.Quit (other ∷ more) = tt
command_with_kept (command_word.Edit which) behind = change_kept (edit_by which behind) (edit_kept which behind)

-- the command of a first word, known or not, has numbers that may be kept, if it is an edit
command_at_kept : (which : Option CommandWord) (behind : List (List ℕ)) → IsKeptCommand (command_at which behind)
command_at_kept None behind = tt
command_at_kept (Some which) behind = command_with_kept which behind

-- the command that words say has numbers that may be kept, if it is an edit
command_kept : (words : List (List ℕ)) → IsKeptCommand (command_of words)
command_kept [] = tt
command_kept (word ∷ behind) = command_at_kept (command_word_of word) behind

-- where the session that a word says is at most 64, so is that of the line's command, and its edit may be kept
addressed_to_kept : (found : Option ℕ) (words : List (List ℕ)) → ((session : ℕ) → found ≡ Some session → session ≤ 64) →
    IsKeptLine (Some (addressed_to found words))
addressed_to_kept None words h = (omega arith, tt)
addressed_to_kept (Some session) words h = (h session refl, command_kept words)

-- the words of a line address a session of at most 64 with an edit that may be kept
addressed_from_kept : (addressing : Addressing) (word : List ℕ) (words : List (List ℕ)) →
    IsKeptLine (Some (addressed_from addressing word words))
addressed_from_kept Numbered word words = addressed_to_kept (session_of word) words (session_small word)
addressed_from_kept Alone word words = (omega arith, command_kept (word ∷ words))

-- an addressed command that words say is for a session of at most 64, and its edit may be kept
words_kept : (addressing : Addressing) (words : List (List ℕ)) → IsKeptLine (addressed_by addressing words)
words_kept addressing [] = tt
words_kept addressing (word ∷ words) = addressed_from_kept addressing word words

-- of two addressed commands that a test chooses from, each for a session of at most 64 with an edit that may be kept,
-- the chosen one is such
choice : (t : Bool) (a b : Option (Asked ExactCommand)) → IsKeptLine a → IsKeptLine b → IsKeptLine (cond t a b)
choice true a b h k = h
choice false a b h k = k

pub line_is_kept : (addressing : Addressing) (next : Line (List ℕ)) → IsKeptLine (addressed_in addressing next)
unfolding addressed_in
line_is_kept addressing (line.Text bytes) =
    choice (begins_with_hash bytes) None (addressed_by addressing (words_of bytes)) tt
    (words_kept addressing (words_of bytes))
line_is_kept addressing (line.Long len) = (omega arith, tt)
line_is_kept addressing line.End = tt
line_is_kept addressing line.Over = tt

-- where the session of a command is at most 64, so is that of the text or certificate that is pending behind it
begun_numbered : (session : ℕ) (c : ExactCommand) → session ≤ 64 → IsNumbered (begun session c)
begun_numbered session (Load form) h = h
begun_numbered session Check h = h
begun_numbered session (Plain asked) h = tt
begun_numbered session (Bad fault) h = tt

-- where an addressed command is for a session of at most 64, the text that it begins, if any, is for a session of at
-- most 64
begun_by_numbered : (found : Option (Asked ExactCommand)) → IsKeptLine found → IsNumbered (begun_by found)
begun_by_numbered None h = tt
begun_by_numbered (Some addressed) h = begun_numbered addressed.session addressed.ask h.0

-- where two unfinished texts or certificates are of sessions of at most 64, so is the one that a test chooses
pending_choice : (t : Bool) (a b : Pending) → IsNumbered a → IsNumbered b → IsNumbered (cond t a b)
pending_choice true a b h k = h
pending_choice false a b h k = k

-- where the unfinished text or certificate is of a session of at most 64, so is the one behind one more line
line_numbered : (addressing : Addressing) (p : Pending) (next : Line (List ℕ)) → IsNumbered p →
    IsNumbered (pending_after_line addressing p next)
line_numbered addressing Between next h =
    begun_by_numbered (addressed_in addressing next) (line_is_kept addressing next)
line_numbered addressing (Text session form body) next h =
    pending_choice (ends_text next) Between (Text session form (body ++ next ∷ [])) tt h
line_numbered addressing (Certificate session body) next h =
    pending_choice (ends_certificate next) Between (Certificate session (body ++ next ∷ [])) tt h

-- where the unfinished text or certificate is of a session of at most 64, so is the one behind more lines
pending_numbered : (addressing : Addressing) (p : Pending) (lines : List (Line (List ℕ))) → IsNumbered p →
    IsNumbered (pending_after addressing p lines)
pending_numbered addressing p [] h = h
pending_numbered addressing p (l ∷ ls) h =
    pending_numbered addressing (pending_after_line addressing p l) ls (line_numbered addressing p l h)

-- two lists of one request are the same in this request
first_asked : (a b : Asked ExactAsk) → ◌≡◌ {A = List (Asked ExactAsk)} (a ∷ []) (b ∷ []) → a ≡ b
first_asked a b e = cc

-- the empty list of requests is no list of one request
none_asked : (a : Asked ExactAsk) → ◌≡◌ {A = List (Asked ExactAsk)} [] (a ∷ []) → ⊥
none_asked a e = cc

-- where a command for a session of at most 64 makes one request, the request is of such a session
command_asked : (session : ℕ) (c : ExactCommand) (a : Asked ExactAsk) → session ≤ 64 →
    asks_of_command session c ≡ a ∷ [] → a.session ≤ 64
command_asked session (Load form) a h e = absurd (none_asked a e)
command_asked session Check a h e = absurd (none_asked a e)
command_asked session (Plain asked) a h e = subst (λ (b : Asked ExactAsk). b.session ≤ 64) (first_asked _ a e) h
command_asked session (Bad fault) a h e = subst (λ (b : Asked ExactAsk). b.session ≤ 64) (first_asked _ a e) h

-- where an addressed command for a session of at most 64 makes one request, the request is of such a session
addressed_asked : (found : Option (Asked ExactCommand)) (a : Asked ExactAsk) → IsKeptLine found →
    asks_by found ≡ a ∷ [] → a.session ≤ 64
addressed_asked None a h e = absurd (none_asked a e)
addressed_asked (Some addressed) a h e = command_asked addressed.session addressed.ask a h.0 e

-- where a line of the body of a session of at most 64 makes one request, the request is of such a session
body_asked : (t : Bool) (session : ℕ) (asked : ExactAsk) (a : Asked ExactAsk) → session ≤ 64 →
    ◌≡◌ {A = List (Asked ExactAsk)} (cond t (record { session = session; ask = asked } ∷ []) []) (a ∷ []) → a.session ≤
    64
body_asked true session asked a h e = subst (λ (b : Asked ExactAsk). b.session ≤ 64) (first_asked _ a e) h
body_asked false session asked a h e = absurd (none_asked a e)

-- where what is pending is of a session of at most 64 and a line makes one request, the request is of such a session
line_asked : (addressing : Addressing) (p : Pending) (next : Line (List ℕ)) (a : Asked ExactAsk) → IsNumbered p →
    asks_of_line addressing p next ≡ a ∷ [] → a.session ≤ 64
line_asked addressing Between next a h e =
    addressed_asked (addressed_in addressing next) a (line_is_kept addressing next) e
line_asked addressing (Text session form body) next a h e = body_asked (ends_text next) session _ a h e
line_asked addressing (Certificate session body) next a h e = body_asked (ends_certificate next) session _ a h e

-- an ask is one of session 0 to 64
pub asked_session : (addressing : Addressing) (lines : List (Line (List ℕ))) (next : Line (List ℕ))
    (a : Asked ExactAsk) →
    asks_of_line addressing (pending_after addressing Between lines) next ≡ a ∷ [] → a.session ≤ 64
asked_session addressing lines next a e =
    line_asked addressing (pending_after addressing Between lines) next a
    (pending_numbered addressing Between lines tt) e
