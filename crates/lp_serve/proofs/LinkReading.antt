-- What was read of a connection, and the asks that come first in all that it sends.
--
-- `holds_too`: where one property implies another, the other holds of all that is sent if the one does.
-- `fewer_first`: the first of requests that come first come first.
-- `reads_first`: the requests of lines that were read come first in all that is sent.
use Rattle.std.proofs.Common.{◌≡◌, ℕ, ◌≤◌, ◌^◌, List, ◌++◌, length, take, Bool, true, false, Option, Err, ap, sym}
use Rattle.std.proofs.Common.{◌∙◌, refl, subst, inl, inr, ⊎_elim, append_assoc, arith}
use Rattle.std.specs.Io.KnownBytes.{Consumes}
use Rattle.std.proofs.KnownBytes.{Consumes-trans}
use Rattle.spec_text.specs.Lines.{ended_lines_of, input_limit}
use Rattle.spec_text.specs.declared.line.Line.{Line}
use Rattle.spec_server.specs.declared.asks.Asked.{Asked}
use Rattle.spec_server.specs.Machine.{ExactAsk}
use Rattle.spec_server.specs.Script.{Script}
use Rattle.spec_serve.specs.Link.{HoldsOfAll}
use Rattle.spec_serve.proofs.LinkAsks.{AsksBegin, asks_of_lines, begins_whole, begins_part}
use Rattle.lp_base.specs.LinesState.{LinesState, at_start}
use Rattle.lp_base.specs.Taking.{BeginsWith, Tells, TakesLines, ReadsLines, ReadsUntil}
use Rattle.lp_base.specs.declared.lines.LineStop.{LineStop}
use Rattle.lp_base.specs.declared.lines.LineStop.TheVariants.{Read, NoMemory}
use Rattle.lp_base.proofs.TakingLemmas.{told_all, told_at_fault, from_start}

-- ---- what holds of all that a link sends

pub holds_too : (after : Option (List ℕ)) (read : List ℕ) (P Q : List ℕ → Type 0) →
    ((bytes : List ℕ) → P bytes → Q bytes) → HoldsOfAll after read P → HoldsOfAll after read Q
holds_too after read P Q leads holds =
    ⊎_elim (λ p. inl (p.0, leads read p.1)) (λ all. inr (λ more. leads (read ++ more) (all more))) holds

-- these requests come first in all that the link sends, of which the bytes `read` were read
abbrev pub ComeFirst : Option (List ℕ) → List ℕ → List (Asked ExactAsk) → Type 0
ComeFirst after read asks = HoldsOfAll after read (λ bytes. AsksBegin asks bytes)

-- so do the first ones of them
pub fewer_first : (after : Option (List ℕ)) (read : List ℕ) (xs ys : List (Asked ExactAsk)) →
    ComeFirst after read (xs ++ ys) → ComeFirst after read xs
fewer_first after read xs ys first =
    holds_too after read (λ bytes. AsksBegin (xs ++ ys) bytes) (λ bytes. AsksBegin xs bytes)
    (λ bytes b. record {
      rest = ys ++ b.rest;
      ending = b.ending;
      is = b.is
          ∙ ap (λ (zs : List (Asked ExactAsk)). let so : Script = record { asks = zs; ending = b.ending } in so)
          (append_assoc xs ys b.rest);
    })
    first

-- ---- lines that were taken from the start

-- where the input has not ended, what was read begins with the lines taken
begun : (ended : Bool) (after : Option (List ℕ)) (raw ahead : List ℕ) (lines : List (Line (List ℕ))) →
    ended ≡ false → Tells ended after raw ahead lines → BeginsWith raw lines
begun true after raw ahead lines live t = absurd (let e = live in cc)
begun false after raw ahead lines live t = t

module _ {after : Option (List ℕ)} {bytes : List ℕ} {new : LinesState} {lines : List (Line (List ℕ))}
    (t : TakesLines after at_start bytes new lines) where
  -- the requests of the lines taken come first in the bytes that were read and any more, where the input had not ended
  begin_live : new.ended ≡ false → (more : List ℕ) → AsksBegin (asks_of_lines lines) (bytes ++ more)
  begin_live live more =
      let b = begun new.ended after t.raw new.ahead lines live t.told in
      let bound = t.bound (omega arith) in
      let within : length t.raw ≤ 2 ^ 26 = omega (arith, t.count) in
      subst (λ (bs : List ℕ). AsksBegin (asks_of_lines lines) bs)
      (sym (ap (λ (bs : List ℕ). bs ++ more) t.cut ∙ append_assoc t.raw new.ahead more))
      (begins_part t.raw lines within b.all b.ended (new.ahead ++ more))

  -- the requests of the lines taken come first also where other bytes were read behind, and in any more, where the
  -- input had not ended
  begin_further : new.ended ≡ false → (others more : List ℕ) →
      AsksBegin (asks_of_lines lines) ((bytes ++ others) ++ more)
  begin_further live others more =
      subst (λ (bs : List ℕ). AsksBegin (asks_of_lines lines) bs) (sym (append_assoc bytes others more))
      (begin_live live (others ++ more))

  -- the requests of the lines taken come first in all that the link sends
  first_taken : ComeFirst after bytes (asks_of_lines lines)
  first_taken = by new.ended refl
    where
      by : (ended : Bool) → new.ended ≡ ended → ComeFirst after bytes (asks_of_lines lines)
      by true is = let all = told_all t is in inl (all.2, begins_whole bytes lines all.0 all.1)
      by false is = inr (begin_live is)

-- ---- lines that were read from the start

-- bytes were read of the link, and in all that it sends these requests come first
pub record ReadsFirst (before after : Option (List ℕ)) (asks : List (Asked ExactAsk)) : Type 0 where
  pub read : List ℕ
  pub moved : Consumes before after read
  pub first : ComeFirst after read asks

pub reads_first : {before after : Option (List ℕ)} {new : LinesState} {lines : List (Line (List ℕ))} →
    ReadsLines before after at_start new lines → ReadsFirst before after (asks_of_lines lines)
reads_first r = record { read = r.bytes; moved = r.moved; first = first_taken (from_start r.taken) }

-- and then the reading stopped
module _ {before after : Option (List ℕ)} {lines : List (Line (List ℕ))} where
  -- where reading stops and the input had not ended, the requests of the lines come first in all that the link sends
  stopped_first : (stop : LineStop) (u : ReadsUntil before after at_start lines (Err stop)) → u.old.ended ≡ false →
      (r : ReadsFirst before after (asks_of_lines lines)) × (r.read ≡ u.reads.bytes ++ u.gives.bytes)
  stopped_first stop u live = (
    record {
      read = u.reads.bytes ++ u.gives.bytes;
      moved = Consumes-trans before u.mid after u.reads.bytes u.gives.bytes u.reads.moved u.gives.moved;
      first = inr (begin_further (from_start u.reads.taken) live u.gives.bytes);
    },
    refl,
  )

  -- where memory runs out while lines are read, the requests of the lines come first in all that the link sends
  pub given_up_first : ReadsUntil before after at_start lines (Err NoMemory) →
      ReadsFirst before after (asks_of_lines lines)
  given_up_first u = (stopped_first NoMemory u u.gives.gives.live).0

  -- where a read fails, the requests of the lines come first in all that the link sends, and these are all lines that
  -- end among the bytes read
  pub broken_first : ReadsUntil before after at_start lines (Err Read) →
      (r : ReadsFirst before after (asks_of_lines lines)) × (ended_lines_of (take input_limit r.read) ≡ lines)
  broken_first u =
      let first = stopped_first Read u u.gives.gives.live in (
        first.0,
        ap (λ (bs : List ℕ). ended_lines_of (take input_limit bs)) first.1
            ∙ told_at_fault (from_start u.reads.taken) u.gives.gives,
      )
