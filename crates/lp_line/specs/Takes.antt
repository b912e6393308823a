-- What `take` reads of an input.
use Rattle.std.specs.Prelude.{ℕ, ◌≡◌, ◌≤◌, ◌<◌, ◌^◌, List, [], ◌∷◌, ◌++◌, Option, Some, None, Result, Ok, Err}
use Rattle.spec_text.specs.declared.line.Line.{Line}
use Rattle.spec_text.specs.declared.line.Line.TheVariants as line
use Rattle.spec_server.specs.declared.asks.Asked.{Asked}
use Rattle.spec_server.specs.declared.addressing.Addressing.{Addressing}
use Rattle.spec_server.specs.Machine.{ExactAsk}
use Rattle.spec_server.specs.Script.{Between, Ending, Ended, Cut, ending_by, asks_from, pending_after}
use Rattle.lp_base.specs.LinesState.{LinesState}
use Rattle.lp_base.specs.Taking.{ReadsLines, ReadsUntil}
use Rattle.lp_base.specs.declared.lines.LineStop.{LineStop}
use Rattle.lp_base.specs.declared.lines.LineStop.TheVariants as stop
use Rattle.lp_line.specs.Hearing.{AreGiven, TakesPart}
use Rattle.lp_line.specs.declared.halt.Halt.TheVariants as halts
use Rattle.lp_line.specs.Script.{NextAsk}

-- Lines were read, of which the last one completes this request, and none before it completes one; behind it the script
-- is between two commands. The session is at most 64.
pub record TakesAsk (addressing : Addressing) (before after : Option (List ℕ)) (old new : LinesState)
    (asked : Asked ExactAsk) : Type 0 where
  pub passed : List (Line (List ℕ))
  pub reads : ReadsLines before after old new passed
  pub given : AreGiven passed
  pub asks : asks_from addressing Between passed ≡ asked ∷ []
  pub earlier : List (Line (List ℕ))
  pub last : Line (List ℕ)
  pub ends : passed ≡ earlier ++ last ∷ []
  pub none_earlier : asks_from addressing Between earlier ≡ []
  pub between : pending_after addressing Between passed ≡ Between
  pub numbered : asked.session ≤ 64

-- lines were read that complete no request, and behind them the reading gave this result: that the input ends, that it
-- is too long, or a failure
pub record TakesNone (addressing : Addressing) (before after : Option (List ℕ)) (old : LinesState)
    (result : Result (Line (List ℕ)) LineStop) : Type 0 where
  pub passed : List (Line (List ℕ))
  pub reads : ReadsUntil before after old passed result
  pub given : AreGiven passed
  pub asks : asks_from addressing Between passed ≡ []

-- the input ended behind lines that complete no request, and the script ends so
pub record TakesEnd (addressing : Addressing) (before after : Option (List ℕ)) (old : LinesState)
    (ending : Ending) : Type 0 where
  pub none : TakesNone addressing before after old (Ok line.End)
  pub ends : ending_by (pending_after addressing Between none.passed) ≡ ending

-- what reading the next request answers: the request, or none where the input ended before one, or why the reading
-- halted
abbrev pub TakesNext : Addressing → Option (List ℕ) → Option (List ℕ) → LinesState → LinesState →
    NextAsk → Type 0
TakesNext addressing before after old new (Ok (Some asked)) = TakesAsk addressing before after old new asked
TakesNext addressing before after old new (Ok None) = TakesEnd addressing before after old Ended
TakesNext addressing before after old new (Err halts.Cut) = TakesEnd addressing before after old Cut
TakesNext addressing before after old new (Err halts.Over) = TakesNone addressing before after old (Ok line.Over)
TakesNext addressing before after old new (Err halts.Read) = TakesNone addressing before after old (Err stop.Read)
TakesNext addressing before after old new (Err halts.NoMemory) = TakesPart before after old new
TakesNext addressing before after old new (Err halts.Write) = ⊥

-- if there is a request, at least one byte was taken for it, and no more than 2 ^ 26 in all; else nothing is asked
abbrev pub TakesMore : LinesState → LinesState → NextAsk → Type 0
TakesMore old new (Ok (Some asked)) = (old.given < new.given) × (new.given ≤ 2 ^ 26)
TakesMore old new (Ok None) = Unit {0}
TakesMore old new (Err why) = Unit {0}
