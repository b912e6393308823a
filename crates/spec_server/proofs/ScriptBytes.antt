-- The asks and the ending of a script's bytes, by whether they are within the limit of input.
--
-- `script_by`: bytes are a whole script where the test of their length says yes, and one that is too long where it says
--   no.
-- `script_within`: at most 2 ^ 26 bytes are read whole.
-- `script_past`: more than 2 ^ 26 bytes give the requests of their ended lines, and the ending `Over`.
use Rattle.std.proofs.Common.{◌≡◌, ℕ, ◌^◌, ◌≤◌, ◌<◌, Bool, true, false, cond, nat_le, List, length, ap, le-leb}
use Rattle.std.proofs.lemmas.Bool.{lt-leb}
use Rattle.spec_text.specs.Lines.{lines_of, input_limit}
use Rattle.spec_server.specs.declared.addressing.Addressing.{Addressing}
use Rattle.spec_server.specs.declared.asks.Asked.{Asked}
use Rattle.spec_server.specs.Machine.{ExactAsk}
use Rattle.spec_server.specs.Script.{Between, Script, Over, asks_from, pending_after, ending_by}
use Rattle.spec_server.specs.Script.{ended_asks_of, script_of}

-- a script of these requests, with the ending that the lines of these bytes have
abbrev pub with_asks : Addressing → List ℕ → List (Asked ExactAsk) → Script
with_asks addressing bytes asks =
    record { asks = asks; ending = ending_by (pending_after addressing Between (lines_of bytes)) }

-- the requests of all lines of these bytes, and the ending that they have within the limit on bytes
abbrev pub whole_script : Addressing → List ℕ → Script
whole_script addressing bytes = with_asks addressing bytes (asks_from addressing Between (lines_of bytes))

-- a script past the limit on bytes: the requests of its lines that end within the limit, and the ending `Over`
abbrev pub long_script : Addressing → List ℕ → Script
long_script addressing bytes = record { asks = ended_asks_of addressing bytes; ending = Over }

pub script_by : (addressing : Addressing) (bytes : List ℕ) (t : Bool) → nat_le (length bytes) input_limit ≡ t →
    script_of addressing bytes ≡ cond t (whole_script addressing bytes) (long_script addressing bytes)
unfolding script_of
script_by addressing bytes t e =
    ap (λ (b : Bool). cond b (whole_script addressing bytes) (long_script addressing bytes)) e

pub script_within : (addressing : Addressing) (bytes : List ℕ) → length bytes ≤ 2 ^ 26 →
    script_of addressing bytes ≡ whole_script addressing bytes
script_within addressing bytes h = script_by addressing bytes true (le-leb (length bytes) input_limit h)

pub script_past : (addressing : Addressing) (bytes : List ℕ) → 2 ^ 26 < length bytes →
    script_of addressing bytes ≡ long_script addressing bytes
script_past addressing bytes h = script_by addressing bytes false (lt-leb (length bytes) input_limit h)
