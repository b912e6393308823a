-- The lines that were taken, call by call, and what they are where a reader stops.
--
-- A loop over `Lines::next` keeps `ReadsLines` in its invariant: `reads_start` or `reads_none` begins it, `reads_line`
-- adds a line, `ReadsLines-append` the lines of a call that reads several. At an exit `reads_until` joins the last
-- answer to it, and from the start of an input on `stops_at_end`, `stops_over`,
-- `stops_with` and `stops_now` say what was read in all.
--
-- `takes_end`: the end of the input adds no line to those that were taken.
-- `told_all`: from the start of the input to its end, the lines taken are all of its at most 2^26 bytes.
-- `told_at_fault`: where the source fails, all lines that end within the limit were taken.
-- `told_over`: past the limit, all lines that end within it were taken, and more than 2^26 bytes were read.
-- `gives_as`: `GivesNext` with a line that is equal to another, with the other put in.
-- `given_line`: an answer that is neither `End` nor `Over` gives a line.
-- `reads_none`: `ReadsLines` holds with no line where nothing was read.
-- `reads_start`: `ReadsLines` holds with no line for a reader that has just been made.
-- `ReadsLines-append`: lines read by one call and then by others are together the lines read.
-- `reads_line`: a line that `next` gives is added to the lines read.
-- `reads_end`: where `next` gives `End`, the lines read are as before, and the reader has ended.
-- `reads_until`: the lines read and the answer after them make `ReadsUntil`.
-- `ReadsUntil-append`: lines read before others come before them in `ReadsUntil` too.
-- `from_start`: a reader that began at the start had not ended then.
-- `stops_at_end`: a reader from the start that comes to `End` has read the whole input, and all its lines.
-- `stops_over`: a reader from the start that comes to `Over` has taken the lines that end within the limit, and read
--   past it.
-- `stops_with`: a reader from the start that comes to an error has read as `StopsWith` says for this error.
-- `stops_now`: a reader from the start that stops between calls has read a part of the input, or all of it.
use Rattle.std.proofs.Common.{◌≡◌, ◌≢◌, ℕ, ◌+◌, ◌-◌, ◌^◌, ◌≤◌, ◌<◌, ◌⊎◌, List, [], ◌∷◌, ◌++◌, All, length}
use Rattle.std.proofs.Common.{take, Option, Result, Ok, Err, Bool, true, false, arith, ap, sym, ◌∙◌}
use Rattle.std.proofs.Common.{append_assoc, length-append, append-nil, refl, inl, inr, ⊎_elim, subst}
use Rattle.std.specs.Io.KnownBytes.{IsAtEnd}
use Rattle.std.specs.Str.Lines.{strip_carriage_return}
use Rattle.std.proofs.KnownBytes.{Consumes-nil, Consumes-trans}
use Rattle.std.proofs.lemmas.List.{take_all}
use Rattle.std.proofs.Math.Seq.{take-append_seam}
use Rattle.std.proofs.lemmas.List.Elements.{All-nil, All-take}
use Rattle.spec_text.specs.Lines.{line_of, lines_of, ended_lines_of, input_limit}
use Rattle.spec_text.specs.declared.line.Line.{Line}
use Rattle.spec_text.specs.declared.line.Line.TheVariants.{Text, Long, End, Over}
use Rattle.spec_text.proofs.LineLemmas.{lines_of_none, lines_of_line, lines_of_last}
use Rattle.spec_text.proofs.LineLemmas.{ended_lines_of_line, ended_lines_of_last}
use Rattle.lp_base.specs.LinesState.{LinesState, at_start}
use Rattle.lp_base.specs.NextLine.{HasEnded, GivesLine, GivesEnd, IsOver}
use Rattle.lp_base.specs.NextLine.{IsBrokenOff, IsGivenUp, AnswersWith, GivesNext}
use Rattle.lp_base.specs.Taking.{BeginsWith, IsWhole, Tells, TakesLines, StaysEnded, ReadsLines}
use Rattle.lp_base.specs.Taking.{ReadsUntil, ReadsAll, ReadsLittleMore, ReadsPart, ReadsPast, StopsWith}
use Rattle.lp_base.specs.declared.lines.LineStop.{LineStop}
use Rattle.lp_base.specs.declared.lines.LineStop.TheVariants.{Read, NoMemory}
use Rattle.lp_base.proofs.KeptLemmas.{take-append}
use Rattle.lp_base.proofs.LineSoFar.{state_is}

-- ---- what a text begins with

-- a text without bytes begins with no lines
begins_with_none : BeginsWith [] []
begins_with_none = record { all = λ more. refl; ended = λ more. refl }

-- bytes without a line feed, and then a line feed, begin with the line of these bytes
begins_with_line : (raw : List ℕ) (line : Line (List ℕ)) → All (λ b. b ≢ 10) raw →
    line ≡ line_of (strip_carriage_return raw) → BeginsWith (raw ++ 10 ∷ []) (line ∷ [])
begins_with_line raw line plain is = record {
  all =
      λ more. ap lines_of (append_assoc raw (10 ∷ []) more) ∙ lines_of_line raw more plain
      ∙ ap (λ (l : Line (List ℕ)). l ∷ lines_of more) (sym is);
  ended =
      λ more. ap ended_lines_of (append_assoc raw (10 ∷ []) more) ∙ ended_lines_of_line raw more plain
      ∙ ap (λ (l : Line (List ℕ)). l ∷ ended_lines_of more) (sym is);
}

-- two texts that begin with lines, one behind the other, begin with the lines of both
BeginsWith-append : {raw : List ℕ} {lines : List (Line (List ℕ))} {more : List ℕ} {others : List (Line (List ℕ))} →
    BeginsWith raw lines → BeginsWith more others → BeginsWith (raw ++ more) (lines ++ others)
BeginsWith-append {raw} {lines} {more} {others} b d = record {
  all =
      λ rest. ap lines_of (append_assoc raw more rest) ∙ b.all (more ++ rest)
      ∙ ap (λ ls. lines ++ ls) (d.all rest) ∙ sym (append_assoc lines others (lines_of rest));
  ended =
      λ rest. ap ended_lines_of (append_assoc raw more rest) ∙ b.ended (more ++ rest)
      ∙ ap (λ ls. lines ++ ls) (d.ended rest) ∙ sym (append_assoc lines others (ended_lines_of rest));
}

-- the lines of a whole text that begins with lines are these lines
begins_whole : {raw : List ℕ} {lines : List (Line (List ℕ))} → BeginsWith raw lines → lines_of raw ≡ lines
begins_whole {raw} {lines} b =
    ap lines_of (sym (append-nil raw)) ∙ b.all [] ∙ ap (λ ls. lines ++ ls) lines_of_none ∙ append-nil lines

-- the ended lines of a text up to the limit are those that it begins with and those of the rest
ended_front : {raw : List ℕ} {lines : List (Line (List ℕ))} (limit : ℕ) (rest : List ℕ) → BeginsWith raw lines →
    length raw ≤ limit →
    ended_lines_of (take limit (raw ++ rest)) ≡ lines ++ ended_lines_of (take (limit - length raw) rest)
ended_front {raw} {lines} limit rest b within =
    let short : take limit raw ≡ raw = take_all limit raw within in
    ap ended_lines_of (take-append limit raw rest ∙ ap (λ (xs : List ℕ). xs ++ take (limit - length raw) rest) short)
    ∙ b.ended (take (limit - length raw) rest)

-- where no line ends in the rest, the ended lines up to the limit are those that the text begins with
plain_front : {raw : List ℕ} {lines : List (Line (List ℕ))} (limit : ℕ) (rest : List ℕ) → BeginsWith raw lines →
    length raw ≤ limit → All (λ b. b ≢ 10) rest → ended_lines_of (take limit (raw ++ rest)) ≡ lines
plain_front {raw} {lines} limit rest b within plain =
    ended_front limit rest b within
    ∙ ap (λ ls. lines ++ ls)
    (ended_lines_of_last (take (limit - length raw) rest) (All-take (λ b. b ≢ 10) (limit - length raw) rest plain))
    ∙ append-nil lines

-- where no line ends in the rest up to the limit, the ended lines are those that the text begins with
plain_to_limit : {raw : List ℕ} {lines : List (Line (List ℕ))} (limit : ℕ) (front rest : List ℕ) →
    BeginsWith raw lines → length raw + length front ≡ limit → All (λ b. b ≢ 10) front →
    ended_lines_of (take limit (raw ++ (front ++ rest))) ≡ lines
plain_to_limit {raw} {lines} limit front rest b len plain =
    let room : limit - length raw ≡ length front = omega arith in
    let all : take (limit - length raw) (front ++ rest) ≡ front =
    ap (λ (n : ℕ). take n (front ++ rest)) room ∙ take-append_seam front rest in
    ended_front limit (front ++ rest) b (omega arith)
    ∙ ap (λ (xs : List ℕ). lines ++ ended_lines_of xs) all
    ∙ ap (λ ls. lines ++ ls) (ended_lines_of_last front plain)
    ∙ append-nil lines

-- ---- lines, call by call

-- where the input has not ended, the bytes that lines are told of begin with these lines
tells_begun : (ended : Bool) (after : Option (List ℕ)) (raw ahead : List ℕ) (lines : List (Line (List ℕ))) →
    ended ≡ false → Tells ended after raw ahead lines → BeginsWith raw lines
tells_begun true after raw ahead lines live t = cc
tells_begun false after raw ahead lines live t = t

-- where the input has not ended, the bytes of the lines that were taken begin with these lines
begun : {after : Option (List ℕ)} {old new : LinesState} {bytes : List ℕ} {lines : List (Line (List ℕ))}
    (t : TakesLines after old bytes new lines) →
    new.ended ≡ false → BeginsWith t.raw lines
begun {after} {old} {new} {bytes} {lines} t live = tells_begun new.ended after t.raw new.ahead lines live t.told

-- where the input has not ended, no lines are taken where nothing is read
takes_none : (after : Option (List ℕ)) (state : LinesState) → state.ended ≡ false →
    TakesLines after state [] state []
takes_none after state live = record {
  live = live;
  raw = [];
  cut = append-nil state.ahead;
  count = omega arith;
  bound = λ b. b;
  near = λ n. n;
  told = subst (λ (b : Bool). Tells b after [] state.ahead []) (sym live) begins_with_none;
}

-- a line that a call gives is one line that was taken
takes_line : {after : Option (List ℕ)} {old : LinesState}
    {bytes : List ℕ} {new : LinesState} {line : Line (List ℕ)} →
    GivesLine after old bytes new line → TakesLines after old bytes new (line ∷ [])
takes_line {after} {old} {bytes} {new} {line} g =
    ⊎_elim
    (λ e.
    let raw = e.0.raw ++ 10 ∷ [] in
    let cut : old.ahead ++ bytes ≡ raw ++ new.ahead = e.0.cut ∙ sym (append_assoc e.0.raw (10 ∷ []) new.ahead) in
    record {
      live = g.live;
      raw = raw;
      cut = cut;
      count = omega (arith, g.count, ap length cut, length-append raw new.ahead);
      bound = λ b. g.bound;
      near = λ n. g.near;
      told =
          subst (λ (b : Bool). Tells b after raw new.ahead (line ∷ []))
          (sym e.1) (begins_with_line e.0.raw line e.0.plain e.0.is);
    })
    (λ l.
    let raw = old.ahead ++ bytes in
    let whole : IsWhole after raw new.ahead (line ∷ []) = record {
      all = lines_of_last raw l.0.plain l.0.some ∙ ap (λ (x : Line (List ℕ)). x ∷ []) (sym l.0.is);
      none = l.0.all;
      at_end = l.2;
    } in
    record {
      live = g.live;
      raw = raw;
      cut = sym (ap (λ xs. raw ++ xs) l.0.all ∙ append-nil raw);
      count = omega (arith, g.count, ap length l.0.all);
      bound = λ b. g.bound;
      near = λ n. g.near;
      told = subst (λ (b : Bool). Tells b after raw new.ahead (line ∷ [])) (sym l.1) whole;
    })
    g.taken

-- bytes that begin with lines, before bytes that others are told of, are told of by all these lines
Tells-append : (ended : Bool) (after : Option (List ℕ))
    (raw more ahead : List ℕ) (lines others : List (Line (List ℕ))) →
    BeginsWith raw lines → Tells ended after more ahead others → Tells ended after (raw ++ more) ahead (lines ++ others)
Tells-append true after raw more ahead lines others b t =
    record { all = b.all more ∙ ap (λ ls. lines ++ ls) t.all; none = t.none; at_end = t.at_end }
Tells-append false after raw more ahead lines others b t = BeginsWith-append b t

-- lines that were taken, and others taken after them, were taken together
TakesLines-append : {mid after : Option (List ℕ)} {first old new : LinesState}
    {bytes more : List ℕ} {lines others : List (Line (List ℕ))} →
    TakesLines mid first bytes old lines → TakesLines after old more new others →
    TakesLines after first (bytes ++ more) new (lines ++ others)
TakesLines-append {mid} {after} {first} {old} {new} {bytes} {more} {lines} {others} t u =
    record {
      live = t.live;
      raw = t.raw ++ u.raw;
      cut = sym (append_assoc first.ahead bytes more)
          ∙ ap (λ xs. xs ++ more) t.cut
          ∙ append_assoc t.raw old.ahead more
          ∙ ap (λ xs. t.raw ++ xs) u.cut
          ∙ sym (append_assoc t.raw u.raw new.ahead);
      count = omega (arith, t.count, u.count, length-append t.raw u.raw);
      bound = λ b. u.bound (t.bound b);
      near = λ n. u.near (t.near n);
      told = Tells-append new.ended after t.raw u.raw new.ahead lines others (begun t u.live) u.told;
    }

-- where the input has ended and nothing is ahead, the lines told of bytes are the lines of the whole input
tells_end : (ended : Bool) (mid after : Option (List ℕ)) (old : LinesState)
    (raw before ahead : List ℕ) (lines : List (Line (List ℕ))) →
    ended ≡ old.ended → ahead ≡ [] → HasEnded old mid after → Tells ended mid raw before lines →
    IsWhole after raw ahead lines
tells_end true mid after old raw before ahead lines same none (inl h) t =
    record { all = t.all; none = none; at_end = subst IsAtEnd (sym h.1) t.at_end }
tells_end true mid after old raw before ahead lines same none (inr h) t = absurd (let e = h.0 in cc)
tells_end false mid after old raw before ahead lines same none (inl h) t = absurd (let e = h.0 in cc)
tells_end false mid after old raw before ahead lines same none (inr h) t =
    record { all = begins_whole t; none = none; at_end = h.1 }

-- where lines were taken and then the end was given, the lines were taken up to the end
pub takes_end : {mid after : Option (List ℕ)} {first old new : LinesState}
    {bytes more : List ℕ} {lines : List (Line (List ℕ))} →
    TakesLines mid first bytes old lines → GivesEnd mid after old more new →
    TakesLines after first (bytes ++ more) new lines
takes_end {mid} {after} {first} {old} {new} {bytes} {more} {lines} t g =
    let stands : new ≡ record { ahead = []; given = old.given; ended = true } = g.stands in
    let none : new.ahead ≡ [] = ap (λ (r : LinesState). r.ahead) stands in
    record {
      live = t.live;
      raw = t.raw;
      cut = sym (append_assoc first.ahead bytes more)
          ∙ ap (λ xs. xs ++ more) t.cut
          ∙ append_assoc t.raw old.ahead more
          ∙ ap (λ xs. t.raw ++ xs) (g.none ∙ sym none);
      count = ap (λ (r : LinesState). r.given) stands ∙ t.count;
      bound = λ b. omega (arith, ap (λ (r : LinesState). r.given) stands, g.bound);
      near = λ n. omega (arith, ap length none);
      told =
          subst (λ (b : Bool). Tells b after t.raw new.ahead lines) (sym (ap (λ (r : LinesState). r.ended) stands))
          (tells_end old.ended mid after old t.raw old.ahead new.ahead lines refl none g.ended t.told);
    }

-- ---- where a reader stops that began at the start of its input

-- where the flag says that the input has ended, the lines told of bytes are those of the whole input
tells_whole : (ended : Bool) (after : Option (List ℕ)) (raw ahead : List ℕ) (lines : List (Line (List ℕ))) →
    ended ≡ true → Tells ended after raw ahead lines → IsWhole after raw ahead lines
tells_whole true after raw ahead lines e t = t
tells_whole false after raw ahead lines e t = cc

-- the lines that were taken from the start on have at most 2 ^ 26 bytes
raw_within : {after : Option (List ℕ)} {new : LinesState} {read : List ℕ} {lines : List (Line (List ℕ))}
    (t : TakesLines after at_start read new lines) →
    length t.raw ≤ 2 ^ 26
raw_within t = let bound = t.bound (omega arith) in omega (arith, t.count)

-- the bytes read from the start on, and more, are those of the lines taken, those ahead and the more
read_so_far : {mid : Option (List ℕ)} {old : LinesState} {read : List ℕ} {lines : List (Line (List ℕ))}
    (t : TakesLines mid at_start read old lines) (bytes : List ℕ) →
    read ++ bytes ≡ t.raw ++ (old.ahead ++ bytes)
read_so_far {old = old} t bytes = ap (λ xs. xs ++ bytes) t.cut ∙ append_assoc t.raw old.ahead bytes

-- at the end, these are all the lines
pub told_all : {after : Option (List ℕ)} {new : LinesState} {read : List ℕ} {lines : List (Line (List ℕ))} →
    TakesLines after at_start read new lines → new.ended ≡ true →
    (lines_of read ≡ lines) × (length read ≤ 2 ^ 26) × IsAtEnd after
told_all {after} {new} {read} {lines} t ended =
    let whole = tells_whole new.ended after t.raw new.ahead lines ended t.told in
    let same : read ≡ t.raw = t.cut ∙ ap (λ xs. t.raw ++ xs) whole.none ∙ append-nil t.raw in
    (ap lines_of same ∙ whole.all, omega (arith, raw_within t, ap length same), whole.at_end)

-- where the source fails, all lines that end were taken
pub told_at_fault : {mid : Option (List ℕ)} {old new : LinesState}
    {read bytes : List ℕ} {lines : List (Line (List ℕ))} →
    TakesLines mid at_start read old lines → IsBrokenOff old bytes new →
    ended_lines_of (take input_limit (read ++ bytes)) ≡ lines
told_at_fault {mid} {old} {new} {read} {bytes} {lines} t broken =
    ap (λ (xs : List ℕ). ended_lines_of (take input_limit xs)) (read_so_far t bytes)
    ∙ plain_front input_limit (old.ahead ++ bytes) (begun t broken.live) (raw_within t) broken.plain

-- past the limit, all lines that end within it were taken
pub told_over : {mid : Option (List ℕ)} {old : LinesState} {read bytes : List ℕ} {lines : List (Line (List ℕ))} →
    TakesLines mid at_start read old lines → IsOver old bytes →
    (ended_lines_of (take input_limit (read ++ bytes)) ≡ lines) × (2 ^ 26 < length (read ++ bytes))
told_over {mid} {old} {read} {bytes} {lines} t over =
    let same : read ++ bytes ≡ t.raw ++ (over.raw ++ over.rest) =
    read_so_far t bytes ∙ ap (λ xs. t.raw ++ xs) over.cut in (
      ap (λ (xs : List ℕ). ended_lines_of (take input_limit xs)) same
          ∙ plain_to_limit input_limit over.raw over.rest
          (begun t over.live) (omega (arith, t.count, over.len)) over.plain,
      omega (
        arith,
        ap length same,
        length-append t.raw (over.raw ++ over.rest),
        length-append over.raw over.rest,
        t.count,
        over.len,
        over.more,
      ),
    )

-- ---- how much more was read

-- where a part of a line and at most 4,096 bytes follow the lines taken, little more was read than these
more_behind : {mid : Option (List ℕ)} {old : LinesState} {read : List ℕ} {lines : List (Line (List ℕ))} →
    TakesLines mid at_start read old lines → old.ended ≡ false → (bytes part rest : List ℕ) →
    old.ahead ++ bytes ≡ part ++ rest → All (λ b. b ≢ 10) part → length rest ≤ 4096 →
    ReadsLittleMore (read ++ bytes) lines
more_behind t live bytes part rest cut plain near = record {
  raw = t.raw;
  part = part;
  ahead = rest;
  cut = read_so_far t bytes ∙ ap (λ xs. t.raw ++ xs) cut;
  taken = begins_whole (begun t live);
  plain = plain;
  near = near;
}

-- where the source fails, little more was read than the lines that were taken
more_at_fault : {mid : Option (List ℕ)} {old new : LinesState} {read bytes : List ℕ} {lines : List (Line (List ℕ))} →
    TakesLines mid at_start read old lines → IsBrokenOff old bytes new → ReadsLittleMore (read ++ bytes) lines
more_at_fault {old = old} {bytes = bytes} t broken =
    let part = old.ahead ++ bytes in
    more_behind t broken.live bytes part [] (sym (append-nil part)) broken.plain (omega arith)

-- past the limit, little more was read than the lines that were taken
more_at_over : {mid : Option (List ℕ)} {old : LinesState} {read bytes : List ℕ} {lines : List (Line (List ℕ))} →
    TakesLines mid at_start read old lines → IsOver old bytes → ReadsLittleMore (read ++ bytes) lines
more_at_over {bytes = bytes} t over = more_behind t over.live bytes over.raw over.rest over.cut over.plain over.near

-- where memory runs out, little more was read than the lines that were taken
more_at_want : {mid : Option (List ℕ)} {old : LinesState} {read bytes : List ℕ} {lines : List (Line (List ℕ))} →
    TakesLines mid at_start read old lines → IsGivenUp old bytes → ReadsLittleMore (read ++ bytes) lines
more_at_want {bytes = bytes} t given_up =
    more_behind t given_up.live bytes given_up.raw given_up.rest given_up.cut given_up.plain given_up.near

-- where the input has not ended, little more was read than the lines that were taken
more_now : {after : Option (List ℕ)} {new : LinesState} {read : List ℕ} {lines : List (Line (List ℕ))} →
    TakesLines after at_start read new lines → new.ended ≡ false → ReadsLittleMore read lines
more_now {new = new} t live =
    let ahead : length new.ahead < 4096 = t.near (omega arith) in
    record {
      raw = t.raw;
      part = [];
      ahead = new.ahead;
      cut = t.cut;
      taken = begins_whole (begun t live);
      plain = All-nil (λ b. b ≢ 10);
      near = omega arith;
    }

-- where the input has not ended, the lines that were taken are the first that end within the limit
told_in_part : {mid : Option (List ℕ)} {old : LinesState} {read : List ℕ} {lines : List (Line (List ℕ))} →
    TakesLines mid at_start read old lines → old.ended ≡ false → (bytes : List ℕ) →
    (more : List (Line (List ℕ))) × (ended_lines_of (take input_limit (read ++ bytes)) ≡ lines ++ more)
told_in_part {mid} {old} {read} {lines} t live bytes = (
  ended_lines_of (take (input_limit - length t.raw) (old.ahead ++ bytes)),
  ap (λ (xs : List ℕ). ended_lines_of (take input_limit xs)) (read_so_far t bytes)
      ∙ ended_front input_limit (old.ahead ++ bytes) (begun t live) (omega (arith, t.count, t.bound)),
)

-- after a call, the lines that were taken come first, or are all
told_now : {after : Option (List ℕ)} {new : LinesState} {read : List ℕ} {lines : List (Line (List ℕ))} →
    TakesLines after at_start read new lines →
    ((more : List (Line (List ℕ))) × (ended_lines_of (take input_limit read) ≡ lines ++ more)
    × ReadsLittleMore read lines) ⊎ ((lines_of read ≡ lines) × (length read ≤ 2 ^ 26) × IsAtEnd after)
told_now {after} {new} {read} {lines} t = by new.ended refl
  where
    by : (ended : Bool) → new.ended ≡ ended →
        ((more : List (Line (List ℕ))) × (ended_lines_of (take input_limit read) ≡ lines ++ more)
        × ReadsLittleMore read lines) ⊎ ((lines_of read ≡ lines) × (length read ≤ 2 ^ 26) × IsAtEnd after)
    by true is = inr (told_all t is)
    by false is =
        let part = told_in_part t is [] in
        inl (
          part.0,
          ap (λ (xs : List ℕ). ended_lines_of (take input_limit xs)) (sym (append-nil read)) ∙ part.1,
          more_now t is,
        )

-- ---- the same, with what was consumed of the source

-- an answer by its name
pub gives_as : {before after : Option (List ℕ)} {old new : LinesState} {line : Line (List ℕ)} (is : Line (List ℕ)) →
    line ≡ is → GivesNext before after old new (Ok line) → GivesNext before after old new (Ok is)
gives_as {before} {after} {old} {new} is same g =
    subst (λ (l : Line (List ℕ)). GivesNext before after old new (Ok l)) same g

-- a line that is given is no end
pub given_line : (before after : Option (List ℕ)) (old : LinesState)
    (bytes : List ℕ) (new : LinesState) (line : Line (List ℕ)) →
    line ≢ End → line ≢ Over → AnswersWith before after old bytes new (Ok line) → GivesLine after old bytes new line
given_line before after old bytes new (Text text) no_end no_over g = g
given_line before after old bytes new (Long len) no_end no_over g = g
given_line before after old bytes new End no_end no_over g = absurd (no_end refl)
given_line before after old bytes new Over no_end no_over g = absurd (no_over refl)

-- nothing was read
pub reads_none : (left : Option (List ℕ)) (state : LinesState) → ReadsLines left left state state []
reads_none left state = by state.ended refl
  where
    by : (ended : Bool) → state.ended ≡ ended → ReadsLines left left state state []
    by true is =
        record {
          bytes = [];
          moved = Consumes-nil left;
          taken = inr (record { ended = is; unread = refl; left = refl; stays = refl; none = refl });
        }
    by false is = record { bytes = []; moved = Consumes-nil left; taken = inl (takes_none left state is) }

pub reads_start : (left : Option (List ℕ)) (state : LinesState) → state ≡ at_start →
    ReadsLines left left at_start state []
reads_start left state is =
    subst (λ (r : LinesState). ReadsLines left left at_start r []) (sym is) (reads_none left at_start)

-- lines that were taken before an end that stays are all the lines taken behind it too
same_taken : {mid after : Option (List ℕ)} {first old new : LinesState}
    {bytes more : List ℕ} {lines others : List (Line (List ℕ))} →
    TakesLines mid first bytes old lines → StaysEnded mid after old more new others →
    TakesLines after first (bytes ++ more) new (lines ++ others)
same_taken {mid} {after} {first} {old} {new} {bytes} {more} {lines} {others} t u =
    subst (λ (r : LinesState). TakesLines after first (bytes ++ more) r (lines ++ others)) (sym u.stays)
    (subst (λ (left : Option (List ℕ)). TakesLines left first (bytes ++ more) old (lines ++ others)) (sym u.left)
    (subst (λ (ls : List (Line (List ℕ))). TakesLines mid first (bytes ++ more) old ls)
    (sym (ap (λ ls. lines ++ ls) u.none ∙ append-nil lines))
    (subst (λ (bs : List ℕ). TakesLines mid first bs old lines)
    (sym (ap (λ xs. bytes ++ xs) u.unread ∙ append-nil bytes)) t)))

-- two lists without items are together a list without items
both_none : {A : Type 0} {xs ys : List A} → xs ≡ [] → ys ≡ [] → xs ++ ys ≡ []
both_none {ys = ys} e f = ap (λ zs. zs ++ ys) e ∙ f

-- where a state has ended and is kept, it has ended
ended_still : {old new : LinesState} → old.ended ≡ true → new ≡ old → new.ended ≡ true
ended_still is same = ap (λ (r : LinesState). r.ended) same ∙ is

-- no flag is both true and false
true_is_not_false : {b : Bool} → b ≡ true → b ≡ false → ⊥
true_is_not_false t f = cc

-- more lines were read
pub ReadsLines-append : {before mid after : Option (List ℕ)}
    {first old new : LinesState} {lines others : List (Line (List ℕ))} →
    ReadsLines before mid first old lines → ReadsLines mid after old new others →
    ReadsLines before after first new (lines ++ others)
ReadsLines-append {before} {mid} {after} {first} {old} {new} {lines} {others} r s = record {
  bytes = r.bytes ++ s.bytes;
  moved = Consumes-trans before mid after r.bytes s.bytes r.moved s.moved;
  taken = by r.taken s.taken;
}
  where
    by : TakesLines mid first r.bytes old lines ⊎ StaysEnded before mid first r.bytes old lines →
        TakesLines after old s.bytes new others ⊎ StaysEnded mid after old s.bytes new others
        → TakesLines after first (r.bytes ++ s.bytes) new (lines ++ others)
        ⊎ StaysEnded before after first (r.bytes ++ s.bytes) new (lines ++ others)
    by (inl t) (inl u) = inl (TakesLines-append t u)
    by (inl t) (inr u) = inl (same_taken t u)
    by (inr t) (inl u) = absurd (true_is_not_false (ended_still t.ended t.stays) u.live)
    by (inr t) (inr u) =
        inr (record {
          ended = t.ended;
          unread = both_none t.unread u.unread;
          left = u.left ∙ t.left;
          stays = u.stays ∙ t.stays;
          none = both_none t.none u.none;
        })

-- one more line was read
pub reads_line : {before mid after : Option (List ℕ)} {first old new : LinesState}
    {lines : List (Line (List ℕ))} (line : Line (List ℕ)) →
    ReadsLines before mid first old lines → GivesNext mid after old new (Ok line) → line ≢ End → line ≢ Over →
    ReadsLines before after first new (lines ++ line ∷ [])
reads_line {mid = mid} {after = after} {old = old} {new = new} line r g no_end no_over =
    let given = given_line mid after old g.bytes new line no_end no_over g.gives in
    ReadsLines-append r (record { bytes = g.bytes; moved = g.moved; taken = inl (takes_line given) })

-- where the end is reported again, the source stays as it is
stays_left : {mid after : Option (List ℕ)} (old : LinesState) → old.ended ≡ true → HasEnded old mid after → after ≡ mid
stays_left old is (inl h) = h.1
stays_left old is (inr h) = absurd (true_is_not_false is h.0)

-- where two lists together have no items, neither has any
front_none : {A : Type 0} (xs ys : List A) → xs ++ ys ≡ [] → (xs ≡ []) × (ys ≡ [])
front_none [] ys e = (refl, e)
front_none (x ∷ xs) ys e = absurd (let h = e in cc)

-- an end that stays, and is given again, stays
ends_again : {before mid after : Option (List ℕ)} {first old new : LinesState}
    {bytes more : List ℕ} {lines : List (Line (List ℕ))} →
    StaysEnded before mid first bytes old lines → GivesEnd mid after old more new →
    StaysEnded before after first (bytes ++ more) new lines
ends_again {old = old} {more = more} t g =
    let none = front_none old.ahead more g.none in
    let ended = ended_still t.ended t.stays in
    record {
      ended = t.ended;
      unread = both_none t.unread none.1;
      left = stays_left old ended g.ended ∙ t.left;
      stays = g.stands ∙ sym (state_is old [] old.given true none.0 refl ended) ∙ t.stays;
      none = t.none;
    }

-- the end was read
pub reads_end : {before mid after : Option (List ℕ)} {first old new : LinesState} {lines : List (Line (List ℕ))} →
    ReadsLines before mid first old lines → GivesNext mid after old new (Ok End) →
    ReadsLines before after first new lines × (new.ended ≡ true)
reads_end {before} {mid} {after} {first} {old} {new} {lines} r g = (
  record {
    bytes = r.bytes ++ g.bytes;
    moved = Consumes-trans before mid after r.bytes g.bytes r.moved g.moved;
    taken = ⊎_elim (λ t. inl (takes_end t g.gives)) (λ t. inr (ends_again t g.gives)) r.taken;
  },
  ap (λ (x : LinesState). x.ended) g.gives.stands,
)

-- lines and a last answer
pub reads_until : {before mid after : Option (List ℕ)} {first old new : LinesState}
    {lines : List (Line (List ℕ))} {result : Result (Line (List ℕ)) LineStop} →
    ReadsLines before mid first old lines → GivesNext mid after old new result →
    ReadsUntil before after first lines result
reads_until {mid = mid} {old = old} {new = new} r g = record { mid = mid; old = old; new = new; reads = r; gives = g }

pub ReadsUntil-append : {before mid after : Option (List ℕ)} {first old : LinesState}
    {lines others : List (Line (List ℕ))} {result : Result (Line (List ℕ)) LineStop} →
    ReadsLines before mid first old lines → ReadsUntil mid after old others result →
    ReadsUntil before after first (lines ++ others) result
ReadsUntil-append r u =
    record { mid = u.mid; old = u.old; new = u.new; reads = ReadsLines-append r u.reads; gives = u.gives }

-- ---- where a reader stops that began at the start of its input

-- a reader that began there had not ended
pub from_start : {before after : Option (List ℕ)} {bytes : List ℕ} {new : LinesState} {lines : List (Line (List ℕ))} →
    TakesLines after at_start bytes new lines ⊎ StaysEnded before after at_start bytes new lines →
    TakesLines after at_start bytes new lines
from_start (inl t) = t
from_start (inr s) = absurd (true_is_not_false s.ended refl)

-- all lines were taken
pub stops_at_end : {before after : Option (List ℕ)} {lines : List (Line (List ℕ))} →
    ReadsUntil before after at_start lines (Ok End) → ReadsAll before after lines
stops_at_end u =
    let r = reads_end u.reads u.gives in
    let told = told_all (from_start r.0.taken) r.1 in
    record { read = r.0.bytes; moved = r.0.moved; all = told.0; bound = told.1; at_end = told.2 }

-- the lines that end within the limit were taken, and there are more bytes
pub stops_over : {before after : Option (List ℕ)} {lines : List (Line (List ℕ))} →
    ReadsUntil before after at_start lines (Ok Over) → ReadsPast before after lines
stops_over {before} {after} u =
    let told = told_over (from_start u.reads.taken) u.gives.gives in
    record {
      front = record {
        read = u.reads.bytes ++ u.gives.bytes;
        moved = Consumes-trans before u.mid after u.reads.bytes u.gives.bytes u.reads.moved u.gives.moved;
        ended = told.0;
      };
      past = told.1;
      near = more_at_over (from_start u.reads.taken) u.gives.gives;
    }

-- an error came
pub stops_with : {before after : Option (List ℕ)} {lines : List (Line (List ℕ))} (stop : LineStop) →
    ReadsUntil before after at_start lines (Err stop) → StopsWith stop before after lines
stops_with {before} {after} Read u = record {
  front = record {
    read = u.reads.bytes ++ u.gives.bytes;
    moved = Consumes-trans before u.mid after u.reads.bytes u.gives.bytes u.reads.moved u.gives.moved;
    ended = told_at_fault (from_start u.reads.taken) u.gives.gives;
  };
  near = more_at_fault (from_start u.reads.taken) u.gives.gives;
}
stops_with {before} {after} NoMemory u =
    let part = told_in_part (from_start u.reads.taken) u.gives.gives.live u.gives.bytes in
    record {
      more = part.0;
      front = record {
        read = u.reads.bytes ++ u.gives.bytes;
        moved = Consumes-trans before u.mid after u.reads.bytes u.gives.bytes u.reads.moved u.gives.moved;
        ended = part.1;
      };
      near = more_at_want (from_start u.reads.taken) u.gives.gives;
    }

-- a caller stops after a line
pub stops_now : {before after : Option (List ℕ)} {new : LinesState} {lines : List (Line (List ℕ))} →
    ReadsLines before after at_start new lines → ReadsPart before after lines ⊎ ReadsAll before after lines
stops_now r = ⊎_elim
    (λ part.
    inl (record { more = part.0; front = record { read = r.bytes; moved = r.moved; ended = part.1 }; near = part.2 }))
    (λ all. inr (record { read = r.bytes; moved = r.moved; all = all.0; bound = all.1; at_end = all.2 }))
    (told_now (from_start r.taken))
