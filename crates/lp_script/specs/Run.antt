-- What the run of a script reads and writes.
use Rattle.std.specs.Prelude.{ℕ, ◌≡◌, ◌⊎◌, List, map, Option, Result, Ok, Err}
use Rattle.std.specs.Io.KnownBytes.{Consumes, Appends, IsAtEnd}
use Rattle.spec_text.specs.Lines.{IsPrefixOf}
use Rattle.spec_server.specs.declared.addressing.Addressing.TheVariants.{Numbered}
use Rattle.spec_server.specs.declared.asks.Asked.{Asked}
use Rattle.spec_server.specs.Machine.{ExactAsk}
use Rattle.spec_server.specs.Exchanges.{Exchange, asked_in}
use Rattle.spec_server.specs.Script.{Ending, Ended, Cut, script_of, ended_asks_of}
use Rattle.spec_server.specs.Script as script
use Rattle.spec_server.specs.ScriptOut.{script_out}
pub use Rattle.spec_server.specs.Shared.{IsPlaces, IsWorkers}
use Rattle.spec_serve.specs.Workers.{RunsBy}
use Rattle.lp_line.specs.declared.halt.Halt.{Halt}
use Rattle.lp_line.specs.declared.halt.Halt.TheVariants as halts
use Rattle.spec_server.specs.Streams.{Streams}

-- the requests of the lines that end among the bytes; or all requests of the script, where the input has ended
abbrev pub AreAsked : Option (List ℕ) → List ℕ → List (Asked ExactAsk) → Type 0
AreAsked after read asks =
    (asks ≡ ended_asks_of Numbered read) ⊎ ((asks ≡ (script_of Numbered read).asks) × IsAtEnd after)

-- A run read these bytes, had these exchanges of their requests, by `workers` workers that share `places` places, in
-- which each session runs alone, and wrote a beginning of their output.
pub record Moves (workers places : ℕ) (s : Streams) : Type 0 where
  pub read : List ℕ
  pub exchanges : List Exchange
  pub written : List ℕ
  pub consumed : Consumes s.left_before s.left_after read
  pub appended : Appends s.taken_before s.taken_after written
  pub asks : AreAsked s.left_after read (map asked_in exchanges)
  pub runs : RunsBy workers places exchanges
  pub front : IsPrefixOf written (script_out exchanges)

-- the whole output was written
abbrev pub IsWhole : {workers places : ℕ} {s : Streams} → Moves workers places s → Type 0
IsWhole moves = moves.written ≡ script_out moves.exchanges

-- the bytes that the run read are a whole script with this end, its exchanges are of all its requests, and it wrote
-- their whole output
pub record EndsWith {workers places : ℕ} {s : Streams} (moves : Moves workers places s) (ending : Ending) : Type 0 where
  pub script : script_of Numbered moves.read ≡ record { asks = map asked_in moves.exchanges; ending = ending }
  pub whole : IsWhole moves

-- the run read a whole script with this end, wrote its whole output, and left nothing to be read
pub record EndsInput {workers places : ℕ} {s : Streams}
    (moves : Moves workers places s) (ending : Ending) : Type 0 where
  pub ends : EndsWith moves ending
  pub at_end : IsAtEnd s.left_after

-- the run's exchanges are of the requests in lines that end among the bytes read, and it wrote their whole output
pub record BreaksOff {workers places : ℕ} {s : Streams} (moves : Moves workers places s) : Type 0 where
  pub asks : map asked_in moves.exchanges ≡ ended_asks_of Numbered moves.read
  pub whole : IsWhole moves

-- What a run has done that ended with this result: all of the script, if it was read to its end, or was too long; all
-- of the lines that were read, if reading failed. If writing failed or memory ran out, nothing more is asked.
abbrev pub EndsSo : {workers places : ℕ} {s : Streams} → Moves workers places s → Result (Unit {0}) Halt → Type 0
EndsSo moves (Ok u) = EndsInput moves Ended
EndsSo moves (Err halts.Cut) = EndsInput moves Cut
EndsSo moves (Err halts.Over) = EndsWith moves script.Over
EndsSo moves (Err halts.Read) = BreaksOff moves
EndsSo moves (Err halts.Write) = Unit {0}
EndsSo moves (Err halts.NoMemory) = Unit {0}

-- what a run by so many workers, with so many places, reads, writes and ends with
abbrev pub Runs : ℕ → ℕ → Streams → Result (Unit {0}) Halt → Type 0
Runs workers places s result = (moves : Moves workers places s) × EndsSo moves result
