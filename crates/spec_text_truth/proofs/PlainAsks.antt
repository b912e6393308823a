-- The names in what lines ask have no line feed.
use Rattle.std.proofs.Common.{ℕ, ◌+◌, Bool, true, false, cond, Option, Some, None, Ok, Err, IfOk, List, [], ◌∷◌, ◌++◌}
use Rattle.std.specs.Prelude.{All, IfSome, codes}
use Rattle.std.proofs.lemmas.List.Elements.{All-nil, All-cons, All-head, All-tail, All-append}
use Rattle.spec_text.specs.declared.line.Line.{Line}
use Rattle.spec_text.specs.declared.line.Line.TheVariants as line
use Rattle.spec_text.specs.Words.{same, words_of}
use Rattle.spec_exact.specs.Fraction.{ℚ}
use Rattle.spec_model.specs.Model.{Name}
use Rattle.spec_edit.specs.declared.edit.Edit.TheVariants as edit
use Rattle.spec_edit.specs.Edited.{ExactEdit, Pairs}
use Rattle.spec_model.specs.Kept.{usual_limits}
use Rattle.spec_mps.specs.declared.style.Style.{Style}
use Rattle.spec_mps.specs.Reader.{start}
use Rattle.spec_mps.specs.Shapes.{look_up}
use Rattle.spec_mps.specs.Steps.{Verdict, Spelled, Refused, judge}
use Rattle.spec_check.specs.declared.certificate.CertificateKind.TheVariants as kind
use Rattle.spec_check.specs.declared.certificate.Letter.{Letter}
use Rattle.spec_check.specs.Raw.{ExactRaw, ExactKind, ExactPart}
use Rattle.spec_certificate.specs.declared.progress.Progress.TheVariants as progress
use Rattle.spec_certificate.specs.Text.{letter_of, takes, kind_of, valued, lettered, part_by, is_end, opened, with_part}
use Rattle.spec_certificate.specs.Text.{words_step, step_by, settled, judge_by}
use Rattle.spec_certificate.specs.Text as certificate_text
use Rattle.spec_certificate.specs.NarrowText.{Outcome, Judgement, narrow}
use Rattle.spec_certificate.specs.NarrowText as certificate
use Rattle.spec_server.specs.declared.addressing.Addressing.{Addressing}
use Rattle.spec_server.specs.declared.addressing.Addressing.TheVariants.{Numbered, Alone}
use Rattle.spec_server.specs.declared.asks.Ask.TheVariants as ask
use Rattle.spec_server.specs.declared.asks.Asked.{Asked}
use Rattle.spec_server.specs.declared.command.Command.TheVariants.{Load, Check, Plain, Bad}
use Rattle.spec_server.specs.declared.command.CommandWord.{CommandWord}
use Rattle.spec_server.specs.declared.command.CommandWord.TheVariants as command_word
use Rattle.spec_server.specs.declared.command.EditWord.{EditWord}
use Rattle.spec_server.specs.declared.command.EditWord.TheVariants.{AddRow, DelRow, AddCol, DelCol, SetCost, SetCoef}
use Rattle.spec_server.specs.declared.command.EditWord.TheVariants.{SetRhs, SetRange, SetBound, Sense as SenseWord}
use Rattle.spec_server.specs.declared.command.Plain.{Plain as plain_of}
use Rattle.spec_server.specs.declared.command.Plain.TheVariants as command
use Rattle.spec_server.specs.EditCommand.{Reads, number_in, kind_in, new_range_in, sense_in, range_in, lower_in}
use Rattle.spec_server.specs.EditCommand.{upper_in, two_by_two, numbers_in, column_in, edit_by}
use Rattle.spec_server.specs.Addressing.{addressed_to, addressed_from, addressed_by, begins_with_hash, addressed_in}
use Rattle.spec_server.specs.Command.{ExactCommand, session_of, budget_of, style_of, command_word_of, load_by, write_by}
use Rattle.spec_server.specs.Command.{budget_by, change_by, command_with, command_at, command_of}
use Rattle.spec_server.specs.Machine.{ExactAsk}
use Rattle.spec_server.specs.Script.{Pending, Between, Text, Certificate, ends_text, ends_certificate, ask_of_verdict}
use Rattle.spec_server.specs.Script.{ask_of_judgement, begun, begun_by, pending_after_line, asks_of_command, asks_by}
use Rattle.spec_server.specs.Script.{asks_of_line, asks_from}
use Rattle.spec_server.proofs.KeptEdits.{any_kept, then_kept}
use Rattle.spec_text_truth.specs.TrueOutput.{HasNoFeed}
use Rattle.spec_text_truth.proofs.PlainWords.{words_plain, IsPlainText}

-- ---- what is asked

abbrev ArePlainPairs : Pairs → Type 0
ArePlainPairs pairs = All (λ p. HasNoFeed p.0) pairs

abbrev pub IsPlainEdit : ExactEdit → Type 0
IsPlainEdit (edit.AddRow name kind rhs range) = HasNoFeed name
IsPlainEdit (edit.DelRow name) = HasNoFeed name
IsPlainEdit (edit.AddCol name cost pairs) = HasNoFeed name × All (λ (p : Name × ℚ). HasNoFeed p.0) pairs
IsPlainEdit (edit.DelCol name) = HasNoFeed name
IsPlainEdit (edit.SetCost name v) = HasNoFeed name
IsPlainEdit (edit.SetCoef row column v) = HasNoFeed row × HasNoFeed column
IsPlainEdit (edit.SetRhs name v) = HasNoFeed name
IsPlainEdit (edit.SetRange name range) = HasNoFeed name
IsPlainEdit (edit.SetBound name bounds) = HasNoFeed name
IsPlainEdit (edit.SetSense sense) = Unit {0}

abbrev pub IsPlainKind : ExactKind → Type 0
IsPlainKind (kind.Clash name) = HasNoFeed name
IsPlainKind other = Unit {0}

abbrev pub IsPlainPart : ExactPart → Type 0
IsPlainPart p = HasNoFeed p.name

pub record IsPlainRaw (raw : ExactRaw) : Type 0 where
  pub kind : IsPlainKind raw.kind
  pub parts : All IsPlainPart raw.parts

abbrev pub IsPlainPlain : plain_of ExactEdit → Type 0
IsPlainPlain (command.Change e) = IsPlainEdit e
IsPlainPlain other = Unit {0}

abbrev pub IsPlainAsk : ExactAsk → Type 0
IsPlainAsk (ask.Plain asked) = IsPlainPlain asked
IsPlainAsk (ask.Checked raw) = IsPlainRaw raw
IsPlainAsk other = Unit {0}

abbrev pub ArePlainAsks : List (Asked ExactAsk) → Type 0
ArePlainAsks asks = All (λ a. IsPlainAsk a.ask) asks

-- ---- edits

abbrev ArePlainTwos : List (List ℕ × List ℕ) → Type 0
ArePlainTwos twos = All (λ two. HasNoFeed two.0) twos

-- where no word has a line feed, no name in the pairs of words has one
twos_plain : (words : List (List ℕ)) → All HasNoFeed words → IfSome (two_by_two words) ArePlainTwos
unfolding two_by_two
twos_plain [] h = All-nil (λ (two : List ℕ × List ℕ). HasNoFeed two.0)
twos_plain (name ∷ []) h = tt
twos_plain (name ∷ value ∷ words) h =
    by (two_by_two words)
    (twos_plain words (All-tail HasNoFeed value words (All-tail HasNoFeed name (value ∷ words) h)))
  where
    by : (twos : Option (List (List ℕ × List ℕ))) → IfSome twos ArePlainTwos →
        IfSome (Rattle.std.specs.Prelude.option_map (λ pairs. (name, value) ∷ pairs) twos) ArePlainTwos
    by None k = tt
    by (Some twos) k =
        All-cons (λ (two : List ℕ × List ℕ). HasNoFeed two.0) (name, value) twos (All-head HasNoFeed name (value ∷ words) h) k

-- where no name in pairs of words has a line feed, no name has one once the numbers are read
numbers_plain : (twos : List (List ℕ × List ℕ)) → ArePlainTwos twos → IfOk (numbers_in twos) ArePlainPairs
unfolding numbers_in
numbers_plain [] h = All-nil (λ (p : Name × ℚ). HasNoFeed p.0)
numbers_plain (two ∷ twos) h =
    any_kept ArePlainPairs (number_in two.1) _ λ v.
    then_kept ArePlainPairs ArePlainPairs (numbers_in twos) _
    (numbers_plain twos (All-tail (λ (two : List ℕ × List ℕ). HasNoFeed two.0) two twos h)) λ rest k.
    All-cons (λ (p : Name × ℚ). HasNoFeed p.0) (two.0, v) rest
    (All-head (λ (two : List ℕ × List ℕ). HasNoFeed two.0) two twos h) k

-- where no name of a new column and its entries has a line feed, the edit has no name with one
column_plain : (name : Name) (cost : List ℕ) (twos : Option (List (List ℕ × List ℕ))) → HasNoFeed name →
    IfSome twos ArePlainTwos → IfOk (column_in name cost twos) IsPlainEdit
column_plain name cost None h k = tt
column_plain name cost (Some twos) h k =
    any_kept IsPlainEdit (number_in cost) _ λ c.
    then_kept ArePlainPairs IsPlainEdit (numbers_in twos) _ (numbers_plain twos k) λ ps g. (h, g)

-- where no word has a line feed, the edit that the words say has no name with one
edit_plain : (which : EditWord) (words : List (List ℕ)) → All HasNoFeed words → IfOk (edit_by which words) IsPlainEdit
unfolding edit_by
edit_plain AddRow (name ∷ type ∷ rhs ∷ []) h =
    any_kept IsPlainEdit (kind_in type) _ λ k.
    any_kept IsPlainEdit (number_in rhs) _ λ b. All-head HasNoFeed name (type ∷ rhs ∷ []) h
edit_plain AddRow (name ∷ type ∷ rhs ∷ range ∷ []) h =
    any_kept IsPlainEdit (kind_in type) _ λ k.
    any_kept IsPlainEdit (number_in rhs) _ λ b.
    any_kept IsPlainEdit (new_range_in k range) _ λ r. All-head HasNoFeed name (type ∷ rhs ∷ range ∷ []) h
edit_plain DelRow (name ∷ []) h = All-head HasNoFeed name [] h
edit_plain AddCol (name ∷ cost ∷ pairs) h =
    column_plain name cost (two_by_two pairs) (All-head HasNoFeed name (cost ∷ pairs) h)
    (twos_plain pairs (All-tail HasNoFeed cost pairs (All-tail HasNoFeed name (cost ∷ pairs) h)))
edit_plain DelCol (name ∷ []) h = All-head HasNoFeed name [] h
edit_plain SetCost (name ∷ value ∷ []) h =
    any_kept IsPlainEdit (number_in value) _ λ v. All-head HasNoFeed name (value ∷ []) h
edit_plain SetCoef (row ∷ column ∷ value ∷ []) h =
    any_kept IsPlainEdit (number_in value) _ λ v. (
      All-head HasNoFeed row (column ∷ value ∷ []) h,
      All-head HasNoFeed column (value ∷ []) (All-tail HasNoFeed row (column ∷ value ∷ []) h),
    )
edit_plain SetRhs (name ∷ value ∷ []) h =
    any_kept IsPlainEdit (number_in value) _ λ v. All-head HasNoFeed name (value ∷ []) h
edit_plain SetRange (name ∷ value ∷ []) h =
    any_kept IsPlainEdit (range_in value) _ λ r. All-head HasNoFeed name (value ∷ []) h
edit_plain SetBound (name ∷ lower ∷ upper ∷ []) h =
    any_kept IsPlainEdit (lower_in lower) _ λ l.
    any_kept IsPlainEdit (upper_in upper) _ λ u. All-head HasNoFeed name (lower ∷ upper ∷ []) h
edit_plain SenseWord (sense ∷ []) h = any_kept IsPlainEdit (sense_in sense) _ λ s. tt
edit_plain other words h = tt

-- ---- commands

abbrev IsPlainCommand : ExactCommand → Type 0
IsPlainCommand (Plain asked) = IsPlainPlain asked
IsPlainCommand other = Unit {0}

-- a command LOAD, or the fault in its place, has no name with a line feed
load_plain : (form : Option Style) → IsPlainCommand (load_by form)
load_plain None = tt
load_plain (Some form) = tt

-- a command WRITE, or a fault in its place, has no name with a line feed
write_plain : (form : Option Style) → IsPlainCommand (write_by form)
write_plain None = tt
write_plain (Some form) = tt

-- a command BUDGET, or a fault in its place, has no name with a line feed
budget_plain : (n : Option ℕ) → IsPlainCommand (budget_by n)
budget_plain None = tt
budget_plain (Some n) = tt

-- where an edit that was read has no name with a line feed, the command of the edit has none
change_plain : (read : Reads ExactEdit) → IfOk read IsPlainEdit → IsPlainCommand (change_by read)
change_plain (Ok e) h = h
change_plain (Err why) h = tt

-- where no word behind a command's word has a line feed, the command has no name with one
command_with_plain : (which : CommandWord) (behind : List (List ℕ)) → All HasNoFeed behind →
    IsPlainCommand (command_with which behind)
command_with_plain command_word.Load [] h = tt
command_with_plain command_word.Load (form ∷ []) h = load_plain (style_of form)
command_with_plain command_word.Load (form ∷ other ∷ more) h = tt
command_with_plain command_word.Write [] h = tt
command_with_plain command_word.Write (form ∷ []) h = write_plain (style_of form)
command_with_plain command_word.Write (form ∷ other ∷ more) h = tt
command_with_plain command_word.Solve [] h = tt
command_with_plain command_word.Solve (other ∷ more) h = tt
command_with_plain command_word.Cert [] h = tt
command_with_plain command_word.Cert (other ∷ more) h = tt
command_with_plain command_word.How [] h = tt
command_with_plain command_word.How (other ∷ more) h = tt
command_with_plain command_word.Budget [] h = tt
command_with_plain command_word.Budget (n ∷ []) h = budget_plain (budget_of n)
command_with_plain command_word.Budget (n ∷ other ∷ more) h = tt
command_with_plain command_word.Wide [] h = tt
command_with_plain command_word.Wide (other ∷ more) h = tt
command_with_plain command_word.Check [] h = tt
command_with_plain command_word.Check (other ∷ more) h = tt
command_with_plain command_word.Quit [] h = tt
command_with_plain command_word.Quit (other ∷ more) h = tt
command_with_plain (command_word.Edit which) behind h = change_plain (edit_by which behind) (edit_plain which behind h)

-- where no word behind a first word has a line feed, the command has no name with one, if there is one
command_at_plain : (which : Option CommandWord) (behind : List (List ℕ)) → All HasNoFeed behind →
    IsPlainCommand (command_at which behind)
command_at_plain None behind h = tt
command_at_plain (Some which) behind h = command_with_plain which behind h

-- where no word has a line feed, the command that the words say has no name with one
command_plain : (words : List (List ℕ)) → All HasNoFeed words → IsPlainCommand (command_of words)
command_plain [] h = tt
command_plain (word ∷ behind) h = command_at_plain (command_word_of word) behind (All-tail HasNoFeed word behind h)

abbrev IsPlainLine : Option (Asked ExactCommand) → Type 0
IsPlainLine None = Unit {0}
IsPlainLine (Some addressed) = IsPlainCommand addressed.ask

-- where no word has a line feed, the command to a session that is known or not has no name with one
to_plain : (found : Option ℕ) (words : List (List ℕ)) → All HasNoFeed words → IsPlainLine (Some (addressed_to found words))
to_plain None words h = tt
to_plain (Some session) words h = command_plain words h

-- where no word has a line feed, the command behind a session's word, or without one, has no name with one
from_plain : (addressing : Addressing) (word : List ℕ) (words : List (List ℕ)) → All HasNoFeed (word ∷ words) →
    IsPlainLine (Some (addressed_from addressing word words))
from_plain Numbered word words h = to_plain (session_of word) words (All-tail HasNoFeed word words h)
from_plain Alone word words h = command_plain (word ∷ words) h

-- where no word has a line feed, the addressed command that the words say has no name with one
by_plain : (addressing : Addressing) (words : List (List ℕ)) → All HasNoFeed words →
    IsPlainLine (addressed_by addressing words)
by_plain addressing [] h = tt
by_plain addressing (word ∷ words) h = from_plain addressing word words h

-- where an addressed command has no name with a line feed, it has none, dropped or kept
choice_plain : (t : Bool) (found : Option (Asked ExactCommand)) → IsPlainLine found → IsPlainLine (cond t None found)
choice_plain true found h = tt
choice_plain false found h = h

-- where a line has no line feed in it, the addressed command that the line says has no name with one
addressed_plain : (addressing : Addressing) (next : Line (List ℕ)) → IsPlainText next →
    IsPlainLine (addressed_in addressing next)
unfolding addressed_in
addressed_plain addressing (line.Text bytes) h =
    choice_plain (begins_with_hash bytes) (addressed_by addressing (words_of bytes))
    (by_plain addressing (words_of bytes) (words_plain bytes h))
addressed_plain addressing (line.Long len) h = tt
addressed_plain addressing line.End h = tt
addressed_plain addressing line.Over h = tt

-- ---- certificates

abbrev IsPlainOutcome : Outcome → Type 0
IsPlainOutcome (progress.More raw) = IsPlainRaw raw
IsPlainOutcome (progress.Done raw) = IsPlainRaw raw
IsPlainOutcome progress.Unfit = Unit {0}

-- where each kind of certificate in a table has no name with a line feed, the one at a word has none
looked_up : (word : List ℕ) (lines : List (List ℕ × ExactKind)) → All (λ line. IsPlainKind line.1) lines →
    IfSome (look_up word lines) IsPlainKind
looked_up word [] h = tt
looked_up word (line ∷ lines) h =
    by (same word line.0) (looked_up word lines (All-tail (λ (line : List ℕ × ExactKind). IsPlainKind line.1) line lines h))
  where
    by : (t : Bool) → IfSome (look_up word lines) IsPlainKind →
        IfSome (cond t (Some line.1) (look_up word lines)) IsPlainKind
    by true k = All-head (λ (line : List ℕ × ExactKind). IsPlainKind line.1) line lines h
    by false k = k

-- where no word has a line feed, the kind of certificate that the words say has no name with one
kind_plain : (words : List (List ℕ)) → All HasNoFeed words → IfSome (kind_of words) IsPlainKind
unfolding kind_of
kind_plain [] h = tt
kind_plain (word ∷ []) h =
    let P : List ℕ × ExactKind → Type 0 = λ line. IsPlainKind line.1 in
    let last : List (List ℕ × ExactKind) = (codes "UNBOUNDED", kind.Unbounded) ∷ [] in
    let rest : List (List ℕ × ExactKind) = (codes "INFEASIBLE", kind.Infeasible) ∷ last in
    looked_up word ((codes "OPTIMAL", kind.Optimal) ∷ rest)
    (All-cons P (codes "OPTIMAL", kind.Optimal) rest tt
    (All-cons P (codes "INFEASIBLE", kind.Infeasible) last tt
    (All-cons P (codes "UNBOUNDED", kind.Unbounded) [] tt (All-nil P))))
kind_plain (word ∷ name ∷ []) h = by (same word (codes "CLASH"))
  where
    by : (t : Bool) → IfSome (cond {A = Option ExactKind} t (Some (kind.Clash name)) None) IsPlainKind
    by true = All-head HasNoFeed name [] (All-tail HasNoFeed word (name ∷ []) h)
    by false = tt
kind_plain (word ∷ name ∷ other ∷ more) h = tt

-- where a name has no line feed, the part of a certificate with this name has no name with one
valued_plain : (letter : Letter) (name : Name) (value : Option ℚ) → HasNoFeed name →
    IfSome (valued letter name value) IsPlainPart
valued_plain letter name None h = tt
valued_plain letter name (Some v) h = h

-- where a name has no line feed, the part of a certificate with a letter and this name has no name with one
lettered_plain : (of : ExactKind) (letter : Option Letter) (name : Name) (text : List ℕ) → HasNoFeed name →
    IfSome (lettered narrow of letter name text) IsPlainPart
lettered_plain of None name text h = tt
lettered_plain of (Some letter) name text h = by (takes of letter)
  where
    by : (t : Bool) → IfSome (cond t (valued letter name (narrow text)) None) IsPlainPart
    by true = valued_plain letter name (narrow text) h
    by false = tt

-- where no word has a line feed, the part of a certificate that the words say has no name with one
part_plain : (of : ExactKind) (words : List (List ℕ)) → All HasNoFeed words → IfSome (part_by narrow of words) IsPlainPart
unfolding part_by
part_plain of [] h = tt
part_plain of (word ∷ []) h = tt
part_plain of (word ∷ name ∷ []) h = tt
part_plain of (word ∷ name ∷ text ∷ []) h =
    lettered_plain of (letter_of word) name text
    (All-head HasNoFeed name (text ∷ []) (All-tail HasNoFeed word (name ∷ text ∷ []) h))
part_plain of (word ∷ name ∷ text ∷ other ∷ more) h = tt

-- where a kind has no name with a line feed, the certificate that is begun with it has none
opened_plain : (of : Option ExactKind) → IfSome of IsPlainKind → IsPlainOutcome (opened of)
opened_plain None h = tt
opened_plain (Some of) h = record { kind = h; parts = All-nil IsPlainPart }

-- where a certificate and a part have no name with a line feed, the certificate with the part has none
with_part_plain : (raw : ExactRaw) (part : Option ExactPart) → IsPlainRaw raw → IfSome part IsPlainPart →
    IsPlainOutcome (with_part raw part)
with_part_plain raw None h k = tt
with_part_plain raw (Some p) h k = record {
  kind = h.kind;
  parts = All-append IsPlainPart raw.parts (p ∷ []) h.parts (All-cons IsPlainPart p [] k (All-nil IsPlainPart));
}

-- where a certificate's read parts and a line's words have no line feed in a name, what the words lead to has none
words_step_plain : (so_far : Option ExactRaw) (words : List (List ℕ)) → IfSome so_far IsPlainRaw → All HasNoFeed words →
    IsPlainOutcome (words_step narrow so_far words)
words_step_plain None words h k = opened_plain (kind_of words) (kind_plain words k)
words_step_plain (Some raw) words h k = by (is_end words)
  where
    by : (t : Bool) → IsPlainOutcome (cond t (progress.Done raw) (with_part raw (part_by narrow raw.kind words)))
    by true = h
    by false = with_part_plain raw (part_by narrow raw.kind words) h (part_plain raw.kind words k)

-- where a certificate's read parts and a line have no line feed in a name, what the line leads to has none
certificate_step_plain : (so_far : Option ExactRaw) (next : Line (List ℕ)) → IfSome so_far IsPlainRaw → IsPlainText next →
    IsPlainOutcome (step_by narrow so_far next)
unfolding step_by
certificate_step_plain so_far (line.Text bytes) h k = words_step_plain so_far (words_of bytes) h (words_plain bytes k)
certificate_step_plain so_far (line.Long len) h k = tt
certificate_step_plain so_far line.End h k = tt
certificate_step_plain so_far line.Over h k = tt

abbrev IsPlainJudgement : Judgement → Type 0
IsPlainJudgement (certificate_text.Spelled raw) = IsPlainRaw raw
IsPlainJudgement (certificate_text.Refused n) = Unit {0}

-- where a certificate's read parts and further lines have no line feed in a name, the certificate that they spell has
-- none
judged_plain : (so_far : Option ExactRaw) (n : ℕ) (lines : List (Line (List ℕ))) → IfSome so_far IsPlainRaw →
    All IsPlainText lines → IsPlainJudgement (judge_by narrow so_far n lines)
judged_plain so_far n [] h k = tt
judged_plain so_far n (next ∷ lines) h k =
    by (step_by narrow so_far next) (certificate_step_plain so_far next h (All-head IsPlainText next lines k))
    (λ raw g. judged_plain (Some raw) (n + 1) lines g (All-tail IsPlainText next lines k))
  where
    by : (o : Outcome) → IsPlainOutcome o →
        ((raw : ExactRaw) → IsPlainRaw raw → IsPlainJudgement (judge_by narrow (Some raw) (n + 1) lines)) →
        IsPlainJudgement (settled n (λ raw. judge_by narrow (Some raw) (n + 1) lines) o)
    by (progress.More raw) g go = go raw g
    by (progress.Done raw) g go = g
    by progress.Unfit g go = tt

-- ---- line by line

-- where nothing is asked, no name has a line feed
none_plain : ArePlainAsks []
none_plain = All-nil (λ (a : Asked ExactAsk). IsPlainAsk a.ask)

-- where a request has no name with a line feed, the list of it alone has none
one_plain : (session : ℕ) (asked : ExactAsk) → IsPlainAsk asked →
    ArePlainAsks (record { session = session; ask = asked } ∷ [])
one_plain session asked h =
    All-cons (λ (a : Asked ExactAsk). IsPlainAsk a.ask) (record { session = session; ask = asked }) [] h none_plain

-- where a request has no name with a line feed, the list of it alone has none, nor has the empty list
if_plain : (t : Bool) (session : ℕ) (asked : ExactAsk) → IsPlainAsk asked →
    ArePlainAsks (cond t (record { session = session; ask = asked } ∷ []) [])
if_plain true session asked h = one_plain session asked h
if_plain false session asked h = none_plain

-- where a command has no name with a line feed, the requests that it makes have none
command_asks_plain : (session : ℕ) (c : ExactCommand) → IsPlainCommand c → ArePlainAsks (asks_of_command session c)
command_asks_plain session (Load form) h = none_plain
command_asks_plain session Check h = none_plain
command_asks_plain session (Plain asked) h = one_plain session (ask.Plain asked) h
command_asks_plain session (Bad fault) h = one_plain session (ask.Bad fault) tt

-- where an addressed command has no name with a line feed, the requests that it makes have none
asks_by_plain : (found : Option (Asked ExactCommand)) → IsPlainLine found → ArePlainAsks (asks_by found)
asks_by_plain None h = none_plain
asks_by_plain (Some addressed) h = command_asks_plain addressed.session addressed.ask h

-- the request that a text with a verdict makes has no name with a line feed
verdict_plain : (v : Verdict) → IsPlainAsk (ask_of_verdict v)
verdict_plain (Spelled m) = tt
verdict_plain (Refused n fault) = tt

-- where a judged certificate has no name with a line feed, the request that it makes has none
judgement_plain : (j : Judgement) → IsPlainJudgement j → IsPlainAsk (ask_of_judgement j)
judgement_plain (certificate_text.Spelled raw) h = h
judgement_plain (certificate_text.Refused n) h = tt

-- the lines of a certificate that is not whole yet
abbrev IsPlainPending : Pending → Type 0
IsPlainPending (Certificate session body) = All IsPlainText body
IsPlainPending other = Unit {0}

-- where no line of a body has a line feed and one more line has none, the body with this line has none
with_next : (body : List (Line (List ℕ))) (next : Line (List ℕ)) → All IsPlainText body → IsPlainText next →
    All IsPlainText (body ++ next ∷ [])
with_next body next h k =
    All-append IsPlainText body (next ∷ []) h (All-cons IsPlainText next [] k (All-nil IsPlainText))

-- where what is pending and a line have no line feed, the requests of the line have no name with one
line_asks_plain : (addressing : Addressing) (p : Pending) (next : Line (List ℕ)) → IsPlainPending p → IsPlainText next →
    ArePlainAsks (asks_of_line addressing p next)
line_asks_plain addressing Between next h k =
    asks_by_plain (addressed_in addressing next) (addressed_plain addressing next k)
line_asks_plain addressing (Text session form body) next h k =
    if_plain (ends_text next) session _ (verdict_plain (judge usual_limits form start 1 (body ++ next ∷ [])))
line_asks_plain addressing (Certificate session body) next h k =
    if_plain (ends_certificate next) session _
    (judgement_plain (certificate.judge None 1 (body ++ next ∷ []))
    (judged_plain None 1 (body ++ next ∷ []) tt (with_next body next h k)))

-- what is pending behind a command has no line with a line feed, as its body is empty
begun_plain : (session : ℕ) (c : ExactCommand) → IsPlainPending (begun session c)
begun_plain session (Load form) = tt
begun_plain session Check = All-nil IsPlainText
begun_plain session (Plain asked) = tt
begun_plain session (Bad fault) = tt

-- what is pending behind an addressed command, or behind none, has no line with a line feed
begun_by_plain : (found : Option (Asked ExactCommand)) → IsPlainPending (begun_by found)
begun_by_plain None = tt
begun_by_plain (Some addressed) = begun_plain addressed.session addressed.ask

-- where what is pending and a line have no line feed, what is pending behind the line has none
pending_plain : (addressing : Addressing) (p : Pending) (next : Line (List ℕ)) → IsPlainPending p → IsPlainText next →
    IsPlainPending (pending_after_line addressing p next)
pending_plain addressing Between next h k = begun_by_plain (addressed_in addressing next)
pending_plain addressing (Text session form body) next h k = by (ends_text next)
  where
    by : (t : Bool) → IsPlainPending (cond t Between (Text session form (body ++ next ∷ [])))
    by true = tt
    by false = tt
pending_plain addressing (Certificate session body) next h k = by (ends_certificate next)
  where
    by : (t : Bool) → IsPlainPending (cond t Between (Certificate session (body ++ next ∷ [])))
    by true = tt
    by false = with_next body next h k

-- where what is pending and all lines have no line feed, the requests of the lines have no name with one
from_lines : (addressing : Addressing) (p : Pending) (lines : List (Line (List ℕ))) → IsPlainPending p →
    All IsPlainText lines → ArePlainAsks (asks_from addressing p lines)
from_lines addressing p [] h k = none_plain
from_lines addressing p (next ∷ lines) h k =
    let first : IsPlainText next = All-head IsPlainText next lines k in
    All-append (λ (a : Asked ExactAsk). IsPlainAsk a.ask) (asks_of_line addressing p next)
    (asks_from addressing (pending_after_line addressing p next) lines)
    (line_asks_plain addressing p next h first)
    (from_lines addressing (pending_after_line addressing p next) lines (pending_plain addressing p next h first)
    (All-tail IsPlainText next lines k))

-- where no line has a line feed, the requests that the lines make from the beginning have no name with one
pub asks_plain : (addressing : Addressing) (lines : List (Line (List ℕ))) → All IsPlainText lines →
    ArePlainAsks (asks_from addressing Between lines)
asks_plain addressing lines h = from_lines addressing Between lines tt h
