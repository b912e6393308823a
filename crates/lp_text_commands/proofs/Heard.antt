-- What was heard of an input that was read from its start on, and where the reading stopped.
--
-- `reads_none`: a command that has no memory before it reads has heard nothing, and has left the input as it was.
-- `no_write`: what stops a reading is no failed write.
use Rattle.std.proofs.Common.{◌≡◌, ℕ, ◌+◌, ◌-◌, ◌^◌, ◌≤◌, List, [], ◌∷◌, ◌++◌, length, take, Option, Some, None}
use Rattle.std.proofs.Common.{Result, Ok, Err, Bool, true, false, arith, ap, sym, ◌∙◌, append_assoc, append-nil}
use Rattle.std.proofs.Common.{length-append, inl, inr, subst, ⊎_elim}
use Rattle.std.proofs.KnownBytes.{Consumes-nil, Consumes-trans}
use Rattle.spec_text.specs.Lines.{lines_of, ended_lines_of, input_limit}
use Rattle.spec_text.proofs.LineLemmas.{lines_of_none}
use Rattle.spec_text.specs.declared.line.Line.{Line}
use Rattle.spec_text.specs.declared.line.Line.TheVariants as line
use Rattle.spec_commands.specs.InputSaid.{IsSaid}
use Rattle.spec_commands.proofs.WrittenLengths.{take_behind}
use Rattle.lp_base.specs.LinesState.{LinesState, at_start}
use Rattle.lp_base.specs.NextLine.{IsOver}
use Rattle.lp_base.specs.Taking.{Tells, TakesLines}
use Rattle.lp_base.proofs.TakingLemmas.{stops_at_end, stops_with, told_over, from_start}
use Rattle.lp_base.specs.declared.lines.LineStop.{LineStop}
use Rattle.lp_base.specs.declared.lines.LineStop.TheVariants as line_stops
use Rattle.lp_line.specs.declared.hearing.Heard.{Heard}
use Rattle.lp_line.specs.declared.hearing.Heard.TheVariants as heard
use Rattle.lp_line.specs.Hearing.{HearsAt, HearsUntil, HearsAtEnd, TakesPart, HearsNext}
use Rattle.lp_line.specs.declared.halt.Halt.{Halt}
use Rattle.lp_line.specs.declared.halt.Halt.TheVariants as halts
use Rattle.lp_text_commands.specs.Hearing.{Agrees, StopsSoon, Hears, HearsNothing, HearsTooMuch, Reads, HearsSo}
use Rattle.lp_line.specs.Halt.{halt_of}

-- where the input is too long, no more than a buffer was read past the limit
within_buffer : {mid : Option (List ℕ)} {old : LinesState} {read bytes : List ℕ} {lines : List (Line (List ℕ))} →
    TakesLines mid at_start read old lines → IsOver old bytes → length (read ++ bytes) ≤ 2 ^ 26 + 4096
within_buffer {mid} {old} {read} {bytes} u over =
    let a = length-append read bytes in
    let b : length read ≡ length u.raw + length old.ahead = ap length u.cut ∙ length-append u.raw old.ahead in
    let c : length old.ahead + length bytes ≡ length over.raw + length over.rest =
    sym (length-append old.ahead bytes) ∙ ap length over.cut ∙ length-append over.raw over.rest in
    let d = u.count in
    let e = over.len in
    let f = over.near in
    omega arith

-- a list with an element at the end and more behind it is the list with the element and more behind it
append_one : {A : Type 0} (xs : List A) (x : A) (more : List A) → (xs ++ x ∷ []) ++ more ≡ xs ++ x ∷ more
append_one xs x more = append_assoc xs (x ∷ []) more

module _ {R : Type 0} {Say : List (Line (List ℕ)) → Option R → Type 0} (said : List (Line (List ℕ)) → Option R)
    (agrees : Agrees Say said) {before after : Option (List ℕ)} where
  -- what is said at a line, after lines read from the start of the input, is said of the bytes that were read
  hears_at : {new : LinesState} (what : R) → HearsAt Say before after at_start new what → Hears said before after what
  hears_at {new} what h = by (from_start h.reads.taken)
    where
      read : List ℕ
      read = h.reads.bytes

      lines : List (Line (List ℕ))
      lines = h.earlier ++ h.last ∷ []

      says : (more : List (Line (List ℕ))) → said (lines ++ more) ≡ Some what
      says more = ap said (append_one h.earlier h.last more)
          ∙ agrees (h.earlier ++ h.last ∷ more) (Some what) (h.says more)

      all : said lines ≡ Some what
      all = ap said (sym (append-nil lines)) ∙ says []

      -- the bytes of the lines that were read are those of just these lines
      raw_is : (u : TakesLines after at_start read new lines) (ended : Bool) → Tells ended after u.raw new.ahead lines →
          lines_of u.raw ≡ lines
      raw_is u true whole = whole.all
      raw_is u false begins =
          ap lines_of (sym (append-nil u.raw)) ∙ begins.all [] ∙ ap (λ ls. lines ++ ls) lines_of_none ∙ append-nil lines

      soon : TakesLines after at_start read new lines → StopsSoon said read what
      soon u = record {
        lines = h.earlier;
        last = h.last;
        undecided = agrees h.earlier None h.silent;
        decides = all;
        raw = u.raw;
        ahead = new.ahead;
        cut = u.cut;
        are_lines = raw_is u new.ended u.told;
        few = u.near (omega arith);
      }

      within : (u : TakesLines after at_start read new lines) → length u.raw ≤ 2 ^ 26
      within u = let c = u.count in let b = u.bound (omega arith) in omega arith

      is_said : (u : TakesLines after at_start read new lines) (ended : Bool) →
          Tells ended after u.raw new.ahead lines → IsSaid said after read what
      is_said u true whole =
          let same : read ≡ u.raw = u.cut ∙ ap (λ xs. u.raw ++ xs) whole.none ∙ append-nil u.raw in
          inr (record {
            all = ap (λ ls. said (ls ++ line.End ∷ [])) (ap lines_of same ∙ whole.all) ∙ says (line.End ∷ []);
            within = subst (λ (bs : List ℕ). length bs ≤ 2 ^ 26) (sym same) (within u);
            at_end = whole.at_end;
          })
      is_said u false begins = inl (λ more.
          ap (λ bs. said (ended_lines_of (take input_limit bs)))
          (ap (λ bs. bs ++ more) u.cut ∙ append_assoc u.raw new.ahead more)
          ∙ ap (λ bs. said (ended_lines_of bs)) (take_behind input_limit u.raw (new.ahead ++ more) (within u))
          ∙ ap said (begins.ended (take (input_limit - length u.raw) (new.ahead ++ more)))
          ∙ says (ended_lines_of (take (input_limit - length u.raw) (new.ahead ++ more))))

      by : TakesLines after at_start read new lines → Hears said before after what
      by u = record {
        read = read;
        consumed = h.reads.moved;
        is_said = is_said u new.ended u.told;
        soon = inl (soon u);
      }

  -- what is said at the end of the input, after lines read from its start, is said of the bytes that were read
  hears_end : (what : R) → HearsAtEnd Say before after at_start what → Hears said before after what
  hears_end what h =
      let all = stops_at_end h.until.reads in
      record {
        read = all.read;
        consumed = all.moved;
        is_said = inr (record {
          all = ap (λ ls. said (ls ++ line.End ∷ [])) all.all
              ∙ agrees (h.until.passed ++ line.End ∷ []) (Some what) h.says;
          within = all.bound;
          at_end = all.at_end;
        });
        soon = inr (ap said all.all ∙ agrees h.until.passed None h.until.silent);
      }

  -- where the lines from the start of the input are followed by too much, too much was read and nothing is said of it
  hears_over : HearsUntil Say before after at_start (Ok line.Over) → HearsTooMuch said before after
  hears_over h =
      let r = h.reads in
      let u = from_start r.reads.taken in
      let told = told_over u r.gives.gives in
      record {
        nothing = record {
          read = r.reads.bytes ++ r.gives.bytes;
          consumed =
              Consumes-trans before r.mid after r.reads.bytes r.gives.bytes r.reads.moved r.gives.moved;
          undecided = ap said told.0 ∙ agrees h.passed None h.silent;
        };
        over = told.1;
        soon = within_buffer u r.gives.gives;
      }

  -- where the source failed behind lines that say nothing, the bytes that were read do not decide what is said
  hears_fault : HearsUntil Say before after at_start (Err line_stops.Read) → HearsNothing said before after
  hears_fault h =
      let r = stops_with line_stops.Read h.reads in
      record {
        read = r.front.read;
        consumed = r.front.moved;
        undecided = ap said r.front.ended ∙ agrees h.passed None h.silent;
      }

  -- where memory ran out as lines were read from the start of the input, some bytes were read
  reads_part : {new : LinesState} → TakesPart before after at_start new → Reads before after
  reads_part h =
      ⊎_elim
      (λ r. record { read = r.bytes; consumed = r.moved })
      (λ r. record {
        read = r.reads.bytes ++ r.gives.bytes;
        consumed = Consumes-trans before r.mid after r.reads.bytes r.gives.bytes r.reads.moved r.gives.moved;
      })
      h.reads

-- ---- by what the loop over the lines heard

module _ {R : Type 0} {Say : List (Line (List ℕ)) → Option R → Type 0} (said : List (Line (List ℕ)) → Option R)
    (agrees : Agrees Say said) (before after : Option (List ℕ)) (old new : LinesState) (start : old ≡ at_start) where
  -- what was heard from lines of which none was read is what was heard from the start of an input
  from_first : (result : Result (Heard R) LineStop) → HearsNext Say before after old new result →
      HearsNext Say before after at_start new result
  from_first result h = subst (λ (st : LinesState). HearsNext Say before after st new result) start h

  -- where a failure stopped the reading, what was heard is what the halt by that failure tells
  next_so : (why : LineStop) → HearsNext Say before after at_start new (Err why) →
      HearsSo said before after (Err (halt_of why))
  next_so line_stops.Read h = hears_fault said agrees h
  next_so line_stops.NoMemory h = reads_part said agrees h

  -- where the lines were heard to say something, that is said of the bytes that were read
  pub says_so : (found : Heard R) (what : R) → found ≡ heard.Says what → HearsNext Say before after old new (Ok found) →
      Hears said before after what
  says_so found what is h =
      ⊎_elim (hears_at said agrees what) (hears_end said agrees what)
      (from_first (Ok (heard.Says what)) (subst (λ (f : Heard R). HearsNext Say before after old new (Ok f)) is h))

  -- where the input was heard to be too long, it is longer than may be read, and nothing is said of it
  pub too_long : (found : Heard R) → found ≡ heard.Over → HearsNext Say before after old new (Ok found) →
      HearsTooMuch said before after
  too_long found is h =
      hears_over said agrees
      (from_first (Ok heard.Over) (subst (λ (f : Heard R). HearsNext Say before after old new (Ok f)) is h))

  -- where a failure stopped the reading, the result that is the halt by it tells what was heard
  pub stopped : (why : LineStop) → HearsNext Say before after old new (Err why) →
      (result : Result R Halt) (got : Halt) → result ≡ Err got → got ≡ halt_of why → HearsSo said before after result
  stopped why h result got is same =
      subst (λ (r : Result R Halt). HearsSo said before after r) (sym (is ∙ ap Err same))
      (next_so why (from_first (Err why) h))

-- memory was wanting before anything was read
pub reads_none : {R : Type 0} (said : List (Line (List ℕ)) → Option R) (left : Option (List ℕ))
    (result : Result R Halt) (got : Halt) → result ≡ Err got → got ≡ halts.NoMemory → HearsSo said left left result
reads_none {R} said left result got is same =
    let none : Reads left left = record { read = []; consumed = Consumes-nil left } in
    subst (λ (r : Result R Halt). HearsSo said left left r) (sym (is ∙ ap Err same)) none

-- where the reading stops, nothing was to be written
pub no_write : {R P : Type 0} (why : LineStop) (result : Result R Halt) (got : Halt) → result ≡ Err got →
    got ≡ halt_of why → result ≡ Err halts.Write → P
no_write {R} why result got is same e = absurd (by why (sym (is ∙ ap Err same) ∙ e))
  where
    by : (why : LineStop) → ◌≡◌ {A = Result R Halt} (Err (halt_of why)) (Err halts.Write) → ⊥
    by line_stops.Read e = cc
    by line_stops.NoMemory e = cc
