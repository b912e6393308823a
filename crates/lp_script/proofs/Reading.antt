-- The reading of a script, ask by ask.
--
-- `reading_start`: before anything was read, no lines and no requests were.
-- `reads_nothing`: reading nothing is reading some lines.
-- `takes_as`: where reading the next request has an outcome, it has any equal outcome.
-- `ends_early`: a reading that runs out of memory has read some lines.
use Rattle.std.proofs.Common.{◌≡◌, ◌≢◌, ℕ, ◌≤◌, List, [], ◌∷◌, ◌++◌, Option, Ok, Err, refl, sym, ap, ◌∙◌, inl}
use Rattle.std.proofs.Common.{⊎_elim, append-nil, Result, subst}
use Rattle.std.specs.Prelude.{All}
use Rattle.std.specs.declared.alloc.AllocError.{AllocError}
use Rattle.std.proofs.lemmas.List.Elements.{All-nil, All-push}
use Rattle.spec_text.specs.declared.line.Line.{Line}
use Rattle.spec_text.specs.declared.line.Line.TheVariants.{Over}
use Rattle.spec_server.specs.declared.addressing.Addressing.TheVariants.{Numbered}
use Rattle.spec_server.specs.declared.asks.Asked.{Asked}
use Rattle.spec_server.specs.Machine.{ExactAsk}
use Rattle.spec_server.specs.Script.{Between, Ending, Ended, Cut, asks_from, pending_after, ending_by}
use Rattle.lp_base.specs.LinesState.{LinesState, at_start}
use Rattle.lp_base.specs.Taking.{ReadsLines}
use Rattle.lp_base.proofs.TakingLemmas.{reads_start, ReadsLines-append, ReadsUntil-append, stops_at_end, stops_over}
use Rattle.lp_base.proofs.TakingLemmas.{stops_with, stops_now}
use Rattle.lp_base.specs.declared.lines.LineStop.TheVariants as line_stops
use Rattle.lp_line.specs.Hearing.{TakesPart}
use Rattle.lp_line.specs.Script.{NextAsk}
use Rattle.lp_line.specs.Takes.{TakesAsk, TakesNone, TakesEnd, TakesNext}
use Rattle.lp_line.specs.declared.halt.Halt.{Halt}
use Rattle.lp_line.specs.declared.halt.Halt.TheVariants as halts
use Rattle.lp_script.specs.declared.script.Script.{Script}
use Rattle.lp_script.specs.Script.{IsRead, ReadsSome, ReadsScript, ReadsToEnd}
use Rattle.lp_script.proofs.ExchangesSoFar.{asks_more, pending_more}

-- The lines that were read so far end between two commands, and these are their asks.
pub record Reading (before now : Option (List ℕ)) (reading : LinesState) (asks : List (Asked ExactAsk)) : Type 0 where
  pub lines : List (Line (List ℕ))
  pub reads : ReadsLines before now at_start reading lines
  pub between : pending_after Numbered Between lines ≡ Between
  pub asked : asks ≡ asks_from Numbered Between lines
  pub numbered : All (λ (a : Asked ExactAsk). a.session ≤ 64) asks

-- at the start
pub reading_start : (left : Option (List ℕ)) (reading : LinesState) → reading ≡ at_start → Reading left left reading []
reading_start left reading is_start = record {
  lines = [];
  reads = reads_start left reading is_start;
  between = refl;
  asked = refl;
  numbered = All-nil (λ (a : Asked ExactAsk). a.session ≤ 64);
}

-- nothing was read
pub reads_nothing : (left : Option (List ℕ)) → ReadsSome left left
reads_nothing left = ([], stops_now (reads_start left at_start refl))

module _ {before now : Option (List ℕ)} {reading : LinesState} {asks : List (Asked ExactAsk)}
    (r : Reading before now reading asks) where
  -- the asks, with those of more lines
  asks_with : (passed : List (Line (List ℕ))) (more : List (Asked ExactAsk)) →
      asks_from Numbered Between passed ≡ more → asks ++ more ≡ asks_from Numbered Between (r.lines ++ passed)
  asks_with passed more e =
      ap (λ zs. zs ++ more) r.asked
      ∙ ap (λ zs. asks_from Numbered Between r.lines ++ zs) (sym e)
      ∙ sym (asks_more r.lines passed r.between)

  -- lines that complete no ask leave the asks those of all lines
  asked_none : (passed : List (Line (List ℕ))) → asks_from Numbered Between passed ≡ [] →
      asks ≡ asks_from Numbered Between (r.lines ++ passed)
  asked_none passed none = sym (append-nil asks) ∙ asks_with passed [] none

  -- where memory runs out after this reading, some lines were read
  pub reads_till : ReadsSome before now
  reads_till = (r.lines, stops_now r.reads)

  module _ {after : Option (List ℕ)} where
    -- where one more request is read, the reading goes on with it behind those so far
    pub reading_on : (new : LinesState) (asked : Asked ExactAsk) → TakesAsk Numbered now after reading new asked →
        Reading before after new (asks ++ asked ∷ [])
    reading_on new asked k = record {
      lines = r.lines ++ k.passed;
      reads = ReadsLines-append r.reads k.reads;
      between = pending_more r.lines k.passed r.between ∙ k.between;
      asked = asks_with k.passed (asked ∷ []) k.asks;
      numbered = All-push (λ (a : Asked ExactAsk). a.session ≤ 64) asks asked r.numbered k.numbered;
    }

    -- where memory runs out as the next request is read, some lines were read
    pub reads_some : (new : LinesState) → TakesPart now after reading new → ReadsSome before after
    reads_some new k = (
      r.lines ++ k.passed,
      ⊎_elim
          (λ reads. stops_now (ReadsLines-append r.reads reads))
          (λ until. inl (stops_with line_stops.NoMemory (ReadsUntil-append r.reads until)))
          k.reads,
    )

    -- ---- no further ask came

    -- where the input ends, the script was read to that end, with the lines passed last
    to_end : (ending : Ending) → (k : TakesEnd Numbered now after reading ending) →
        ReadsToEnd before after (r.lines ++ k.none.passed) ending
    to_end ending k = record {
      all = stops_at_end (ReadsUntil-append r.reads k.none.reads);
      ends = ap ending_by (pending_more r.lines k.none.passed r.between) ∙ k.ends;
    }

    -- where the input ends after the asks that were read, the script is read with these asks
    pub read_ended : TakesEnd Numbered now after reading Ended → (u : Unit {0}) → IsRead before after asks (Ok u)
    read_ended k u = record {
      lines = r.lines ++ k.none.passed;
      asked = asked_none k.none.passed k.none.asks;
      reads = to_end Ended k;
      numbered = r.numbered;
    }

    -- where the input is cut off in a body, the script is read with the asks so far, and the halt `Cut`
    read_cut : TakesEnd Numbered now after reading Cut → IsRead before after asks (Err halts.Cut)
    read_cut k = record {
      lines = r.lines ++ k.none.passed;
      asked = asked_none k.none.passed k.none.asks;
      reads = to_end Cut k;
      numbered = r.numbered;
    }

    -- where the input is too long, the script is read with the asks so far, and the halt `Over`
    read_past : TakesNone Numbered now after reading (Ok Over) → IsRead before after asks (Err halts.Over)
    read_past k = record {
      lines = r.lines ++ k.passed;
      asked = asked_none k.passed k.asks;
      reads = stops_over (ReadsUntil-append r.reads k.reads);
      numbered = r.numbered;
    }

    -- where a read fails, the script is read with the asks so far, and the halt `Read`
    read_to_fault : TakesNone Numbered now after reading (Err line_stops.Read) →
        IsRead before after asks (Err halts.Read)
    read_to_fault k = record {
      lines = r.lines ++ k.passed;
      asked = asked_none k.passed k.asks;
      reads = stops_with line_stops.Read (ReadsUntil-append r.reads k.reads);
      numbered = r.numbered;
    }

    -- where something else than want of memory halts the reading, the script is read with the requests so far and that
    -- halt
    pub read_halted : (new : LinesState) (halt : Halt) → halt ≢ halts.NoMemory →
        TakesNext Numbered now after reading new (Err halt) → IsRead before after asks (Err halt)
    read_halted new halts.Cut other k = read_cut k
    read_halted new halts.Over other k = read_past k
    read_halted new halts.Read other k = read_to_fault k
    read_halted new halts.Write other k = absurd k
    read_halted new halts.NoMemory other k = absurd (other refl)

-- what the same answer says
pub takes_as : (before after : Option (List ℕ)) (old new : LinesState) (result is : NextAsk) →
    result ≡ is → TakesNext Numbered before after old new result → TakesNext Numbered before after old new is
takes_as before after old new result is same k =
    subst (λ (r : NextAsk). TakesNext Numbered before after old new r) same k

-- memory ran out
pub ends_early : {before after : Option (List ℕ)} (result : Result Script AllocError) (why : AllocError) →
    result ≡ Err why → ReadsSome before after → ReadsScript before after result
ends_early {before} {after} result why is some =
    subst (λ (r : Result Script AllocError). ReadsScript before after r) (sym is) some
