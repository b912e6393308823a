-- What a script is that was read to its end, or to what halted the reading.
use Rattle.std.specs.Prelude.{ℕ, ◌≡◌, ◌≤◌, ◌⊎◌, List, All, Option, Result, Ok, Err}
use Rattle.std.specs.declared.alloc.AllocError.{AllocError}
use Rattle.spec_text.specs.declared.line.Line.{Line}
use Rattle.spec_server.specs.declared.addressing.Addressing.TheVariants.{Numbered}
use Rattle.spec_server.specs.declared.asks.Asked.{Asked}
use Rattle.spec_server.specs.Machine.{ExactAsk}
use Rattle.spec_server.specs.Script.{Between, Ending, Ended, Cut, asks_from, pending_after, ending_by}
use Rattle.lp_base.specs.Taking.{ReadsAll, ReadsPart, ReadsPast, ReadsToFault}
use Rattle.lp_line.specs.declared.halt.Halt.{Halt}
use Rattle.lp_line.specs.declared.halt.Halt.TheVariants as halts
use Rattle.lp_script.specs.declared.script.Script.{Script}

-- all lines of a script were read, and it ends with this ending
pub record ReadsToEnd (before after : Option (List ℕ)) (lines : List (Line (List ℕ))) (ending : Ending) : Type 0 where
  pub all : ReadsAll before after lines
  pub ends : ending_by (pending_after Numbered Between lines) ≡ ending

-- these are the lines that were read: the whole script, if it ended or was cut off; those up to the limit on bytes; or
-- those up to a fault of the input. There is no other halt
abbrev pub ReadsTo : Option (List ℕ) → Option (List ℕ) → List (Line (List ℕ)) → Result (Unit {0}) Halt → Type 0
ReadsTo before after lines (Ok u) = ReadsToEnd before after lines Ended
ReadsTo before after lines (Err halts.Cut) = ReadsToEnd before after lines Cut
ReadsTo before after lines (Err halts.Over) = ReadsPast before after lines
ReadsTo before after lines (Err halts.Read) = ReadsToFault before after lines
ReadsTo before after lines (Err halts.Write) = ⊥
ReadsTo before after lines (Err halts.NoMemory) = ⊥

-- lines were read, of which these are the requests, each of a session up to 64, and the reading ended so
pub record IsRead (before after : Option (List ℕ)) (asks : List (Asked ExactAsk)) (end : Result (Unit {0}) Halt) :
    Type 0 where
  pub lines : List (Line (List ℕ))
  pub asked : asks ≡ asks_from Numbered Between lines
  pub reads : ReadsTo before after lines end
  pub numbered : All (λ (asked : Asked ExactAsk). asked.session ≤ 64) asks

-- some lines were read, or all
abbrev pub ReadsSome : Option (List ℕ) → Option (List ℕ) → Type 0
ReadsSome before after =
    (lines : List (Line (List ℕ))) × (ReadsPart before after lines ⊎ ReadsAll before after lines)

-- what was read: a script, or some lines where memory ran out
abbrev pub ReadsScript : Option (List ℕ) → Option (List ℕ) → Result Script AllocError → Type 0
ReadsScript before after (Ok script) = IsRead before after script.asks.items script.end
ReadsScript before after (Err why) = ReadsSome before after
