-- The models that a script's asks hold may be kept, and so may the numbers of its edits.
--
-- `lines_kept`: the requests of lines, from any text or certificate that has begun, have models and edits that may be
--   kept.
-- `ended_kept`: the requests of the ended lines of bytes have models and edits that may be kept.
-- `script_kept`: the requests of a script's bytes have models and edits that may be kept.
use Rattle.std.proofs.Common.{◌≡◌, ℕ, Bool, true, false, cond, Option, Some, None, List, [], ◌∷◌, ◌++◌, length, take}
use Rattle.std.proofs.Common.{refl, sym, subst}
use Rattle.std.specs.Prelude.{nat_le}
use Rattle.std.proofs.lemmas.List.Elements.{All-nil, All-cons, All-append}
use Rattle.spec_text.specs.declared.line.Line.{Line}
use Rattle.spec_text.specs.Lines.{lines_of, ended_lines_of, input_limit}
use Rattle.spec_model.specs.Kept.{usual_limits}
use Rattle.spec_model.proofs.KeptModels.{usual_from_within}
use Rattle.spec_mps.specs.declared.style.Style.{Style}
use Rattle.spec_mps.specs.Reader.{start}
use Rattle.spec_mps.specs.Steps.{Verdict, Spelled, Refused, judge}
use Rattle.spec_mps.proofs.SpelledKept.{spelled_kept}
use Rattle.spec_certificate.specs.NarrowText as certificate
use Rattle.spec_server.specs.declared.asks.Ask.TheVariants as ask
use Rattle.spec_server.specs.declared.asks.Asked.{Asked}
use Rattle.spec_server.specs.declared.addressing.Addressing.{Addressing}
use Rattle.spec_server.specs.declared.command.Command.TheVariants.{Load, Check, Plain, Bad}
use Rattle.spec_server.specs.Addressing.{addressed_in}
use Rattle.spec_server.specs.Command.{ExactCommand}
use Rattle.spec_server.specs.Machine.{ExactAsk, IsKeptAsk, AreKept}
use Rattle.spec_server.specs.Script.{Pending, Between, Text, Certificate, Script, ends_text, ends_certificate}
use Rattle.spec_server.specs.Script.{ask_of_verdict, ask_of_judgement}
use Rattle.spec_server.specs.Script.{pending_after_line, asks_of_command, asks_by, asks_of_line, asks_from}
use Rattle.spec_server.specs.Script.{ended_asks_of, script_of}
use Rattle.spec_server.proofs.ScriptBytes.{whole_script, long_script, script_by}
use Rattle.spec_server.proofs.ScriptLemmas.{IsKeptCommand, IsKeptLine, line_is_kept}

-- where nothing is asked, all models and edits of the requests may be kept
none_kept : AreKept []
none_kept = All-nil (λ (a : Asked ExactAsk). IsKeptAsk a.ask)

-- where the model or the edit of a request may be kept, so may those of the list of this request alone
one_kept : (a : Asked ExactAsk) → IsKeptAsk a.ask → AreKept (a ∷ [])
one_kept a h = All-cons (λ (a : Asked ExactAsk). IsKeptAsk a.ask) a [] h none_kept

-- the request that a text with a verdict makes holds a usual model, or none
verdict_kept : (style : Style) (lines : List (Line (List ℕ))) (v : Verdict) →
    judge usual_limits style start 1 lines ≡ v →
    IsKeptAsk (ask_of_verdict v)
verdict_kept style lines (Spelled m) e = usual_from_within m (spelled_kept usual_limits style lines m e)
verdict_kept style lines (Refused n fault) e = tt

-- the request that a judged certificate makes holds no model or edit that may not be kept
judgement_kept : (j : certificate.Judgement) → IsKeptAsk (ask_of_judgement j)
judgement_kept (certificate.Spelled raw) = tt
judgement_kept (certificate.Refused n) = tt

-- where the numbers of a command's edit may be kept, so may those of the requests that the command makes
command_asks_kept : (session : ℕ) (c : ExactCommand) → IsKeptCommand c → AreKept (asks_of_command session c)
command_asks_kept session (Load form) h = none_kept
command_asks_kept session Check h = none_kept
command_asks_kept session (Plain asked) h = one_kept (record { session = session; ask = ask.Plain asked }) h
command_asks_kept session (Bad fault) h = one_kept (record { session = session; ask = ask.Bad fault }) tt

-- where the numbers of an addressed command's edit may be kept, so may those of the requests that it makes
asks_kept : (found : Option (Asked ExactCommand)) → IsKeptLine found → AreKept (asks_by found)
asks_kept None h = none_kept
asks_kept (Some addressed) h = command_asks_kept addressed.session addressed.ask h.1

-- where the model or the edit of a request may be kept, so may those of its list, or of the empty one, by a test
if_kept : (t : Bool) (session : ℕ) (asked : ExactAsk) → IsKeptAsk asked →
    AreKept (cond t (record { session = session; ask = asked } ∷ []) [])
if_kept true session asked h = one_kept (record { session = session; ask = asked }) h
if_kept false session asked h = none_kept

-- the requests that a line makes hold models and edits that may be kept
line_kept : (addressing : Addressing) (p : Pending) (next : Line (List ℕ)) → AreKept (asks_of_line addressing p next)
line_kept addressing Between next = asks_kept (addressed_in addressing next) (line_is_kept addressing next)
line_kept addressing (Text session form body) next =
    if_kept (ends_text next) session _ (verdict_kept form (body ++ next ∷ []) (judge usual_limits form start 1
    (body ++ next ∷ []))
    refl)
line_kept addressing (Certificate session body) next =
    if_kept (ends_certificate next) session _ (judgement_kept (certificate.judge None 1 (body ++ next ∷ [])))

pub lines_kept : (addressing : Addressing) (p : Pending) (lines : List (Line (List ℕ))) →
    AreKept (asks_from addressing p lines)
lines_kept addressing p [] = none_kept
lines_kept addressing p (next ∷ lines) =
    let after : Pending = pending_after_line addressing p next in
    All-append (λ (a : Asked ExactAsk). IsKeptAsk a.ask) (asks_of_line addressing p next)
    (asks_from addressing after lines)
    (line_kept addressing p next) (lines_kept addressing after lines)

pub ended_kept : (addressing : Addressing) (bytes : List ℕ) → AreKept (ended_asks_of addressing bytes)
unfolding ended_asks_of
ended_kept addressing bytes = lines_kept addressing Between (ended_lines_of (take input_limit bytes))

pub script_kept : (addressing : Addressing) (bytes : List ℕ) → AreKept (script_of addressing bytes).asks
script_kept addressing bytes =
    subst (λ (s : Script). AreKept s.asks)
    (sym (script_by addressing bytes (nat_le (length bytes) input_limit) refl))
    (by (nat_le (length bytes) input_limit))
  where
    by : (t : Bool) → AreKept (cond t (whole_script addressing bytes) (long_script addressing bytes)).asks
    by true = lines_kept addressing Between (lines_of bytes)
    by false = ended_kept addressing bytes
