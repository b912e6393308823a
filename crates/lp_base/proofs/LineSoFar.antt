-- The line as far as it was read. `SoFar` says which bytes the call read, and that those taken are kept in the part.
--
-- `SoFar-read`: `SoFar` holds on after a read of the source, whose bytes come behind those ahead.
-- `SoFar-run`: `SoFar` holds on after a run was taken that no line feed ends.
-- `gives_ended`: a run with a line feed behind it makes the answer of `next` the line that the part holds.
-- `gives_over`: where 2^26 bytes were given and more are ahead, `Over` is a right answer of `next`.
-- `none_left`: a list of length 0 is empty.
-- `state_is`: a state of a reader of lines is given by its three fields.
-- `breaks_off`: where the source fails with no byte ahead, the error `Read` is a right answer of `next`.
-- `gives_last`: at the end of the input the last line, or `End` where no byte is left, is a right answer of `next`.
-- `still_ahead`: while no line feed was taken, some byte is still ahead where a line feed was ahead at the start.
-- where a line feed was ahead, some byte is still ahead)
-- `has_some`: `HasMore` with an answer that is `true`, with `true` put in.
-- `has_none`: `HasMore` with an answer that is `false`, with `false` put in.
-- `gives_no_memory`: where memory runs out before the input ends, the error `NoMemory` is a right answer of `next`.
-- `gives_err`: what `GivesNext` says of an error holds of a result that is equal to it.
-- `stays`: two equations each hold over two steps where they hold over each.
-- `run_with`: `TakesRun` with the answer on the line feed put in.
use Rattle.std.proofs.Common.{◌≡◌, ◌≢◌, ℕ, ◌+◌, ◌^◌, ◌≤◌, ◌<◌, List, [], ◌∷◌, ◌++◌, All, length}
use Rattle.std.proofs.Common.{Option, Result, Ok, Err, arith, ap, sym, ◌∙◌, append_assoc, length-append}
use Rattle.std.proofs.Common.{append-nil, refl, inl, inr, ⊎_elim, Bool, true, false, subst}
use Rattle.std.specs.Io.KnownBytes.{Consumes, IsAtEnd, Keeps}
use Rattle.std.specs.List.{Contains}
use Rattle.std.specs.Str.Lines.{strip_carriage_return}
use Rattle.std.proofs.KnownBytes.{Consumes-trans, Consumes-kept}
use Rattle.std.proofs.lemmas.Bool.{cases_lt, false_from_ne_true}
use Rattle.std.proofs.lemmas.List.Elements.{All-append, All-same, All-contains, Contains-append_left}
use Rattle.spec_text.specs.Lines.{line_of}
use Rattle.spec_text.specs.declared.line.Line.{Line}
use Rattle.spec_text.specs.declared.line.Line.TheVariants.{Text, Long, End, Over}
use Rattle.spec_text.proofs.LineLemmas.{line_of_cases}
use Rattle.lp_base.specs.LinesState.{LinesState}
use Rattle.lp_base.specs.NextLine.{HasEnded, HasMore, IsKept, TakesRun, GivesLine, GivesEnd, AnswersWith, GivesNext}
use Rattle.lp_base.specs.declared.lines.LineStop.{LineStop}
use Rattle.lp_base.specs.declared.lines.LineStop.TheVariants.{Read, NoMemory}
use Rattle.lp_base.specs.declared.part.Part.{Part}

-- within a call of `next`: these bytes were read, those taken have no line feed and are kept in the part, and the rest
-- is unread
pub record SoFar (before after : Option (List ℕ)) (old new : LinesState) (part : Part) : Type 0 where
  pub bytes : List ℕ
  pub raw : List ℕ
  pub moved : Consumes before after bytes
  pub cut : old.ahead ++ bytes ≡ raw ++ new.ahead
  pub plain : All (λ b. b ≢ 10) raw
  pub kept : IsKept part raw
  pub given : new.given ≡ old.given + length raw
  pub ended : new.ended ≡ old.ended

-- more bytes come from the source
pub SoFar-read : {before mid after : Option (List ℕ)} {old cur new : LinesState} {part : Part} →
    SoFar before mid old cur part → (more : List ℕ) → Consumes mid after more → new.ahead ≡ cur.ahead ++ more →
    new.given ≡ cur.given → new.ended ≡ cur.ended → SoFar before after old new part
SoFar-read {before} {mid} {after} {old} {cur} {new} {part} s more moved ahead given ended = record {
  bytes = s.bytes ++ more;
  raw = s.raw;
  moved = Consumes-trans before mid after s.bytes more s.moved moved;
  cut =
      sym (append_assoc old.ahead s.bytes more) ∙ ap (λ xs. xs ++ more) s.cut
      ∙ append_assoc s.raw cur.ahead more ∙ ap (λ xs. s.raw ++ xs) (sym ahead);
  plain = s.plain;
  kept = s.kept;
  given = given ∙ s.given;
  ended = ended ∙ s.ended;
}

-- a run that ends no line is taken
pub SoFar-run : {before after : Option (List ℕ)} {old cur new : LinesState} {part next : Part} →
    SoFar before after old cur part → TakesRun cur new part next false → SoFar before after old new next
SoFar-run {before} {after} {old} {cur} {new} s r = record {
  bytes = s.bytes;
  raw = s.raw ++ r.run;
  moved = s.moved;
  cut = s.cut ∙ ap (λ xs. s.raw ++ xs) r.cut ∙ sym (append_assoc s.raw r.run new.ahead);
  plain = All-append (λ b. b ≢ 10) s.raw r.run s.plain r.plain;
  kept = r.kept s.raw s.kept;
  given = omega (arith, r.count, s.given, ap length r.cut, length-append r.run new.ahead, length-append s.raw r.run);
  ended = r.ended ∙ s.ended;
}

-- a call that gives the line of some bytes answers with that line
gives_line : (before after : Option (List ℕ)) (old : LinesState)
    (bytes : List ℕ) (new : LinesState) (raw : List ℕ) (line : Line (List ℕ)) →
    line ≡ line_of raw → GivesLine after old bytes new line → AnswersWith before after old bytes new (Ok line)
gives_line before after old bytes new raw (Text text) is g = g
gives_line before after old bytes new raw (Long len) is g = g
gives_line before after old bytes new raw End is g = let h = line_of_cases raw in absurd (⊎_elim (λ e. cc) (λ e. cc) h)
gives_line before after old bytes new raw Over is g = let h = line_of_cases raw in absurd (⊎_elim (λ e. cc) (λ e. cc) h)

-- the line that a line feed ends
pub gives_ended : {before after : Option (List ℕ)} {old cur new : LinesState} {part next : Part}
    (s : SoFar before after old cur part) (r : TakesRun cur new part next true) →
    cur.ended ≡ false → length cur.ahead ≤ 4096 → (line : Line (List ℕ)) →
    ((raw : List ℕ) → IsKept next raw → line ≡ line_of (strip_carriage_return raw)) →
    GivesNext before after old new (Ok line)
gives_ended {before} {after} {old} {cur} {new} s r live near line is =
    let raw = s.raw ++ r.run in
    let cut : old.ahead ++ s.bytes ≡ raw ++ 10 ∷ new.ahead =
    s.cut ∙ ap (λ xs. s.raw ++ xs) r.cut ∙ sym (append_assoc s.raw r.run (10 ∷ new.ahead)) in
    let line_is = is raw (r.kept s.raw s.kept) in
    record {
      bytes = s.bytes;
      moved = s.moved;
      gives = gives_line before after old s.bytes new _ line line_is (record {
        live = sym s.ended ∙ live;
        taken =
            inl (
              record {
                raw = raw;
                plain = All-append (λ b. b ≢ 10) s.raw r.run s.plain r.plain;
                cut = cut;
                is = line_is;
              },
              r.ended ∙ live,
            );
        count = omega (arith, r.count, ap length s.cut, length-append s.raw cur.ahead, s.given);
        bound = r.bound;
        near = omega (arith, near, ap length r.cut, length-append r.run (10 ∷ new.ahead));
      });
    }

-- no line ends within the first bytes
pub gives_over : {before after : Option (List ℕ)} {old new : LinesState} {part : Part} →
    SoFar before after old new part → new.ended ≡ false → new.given ≡ 2 ^ 26 → 0 < length new.ahead →
    length new.ahead ≤ 4096 → GivesNext before after old new (Ok Over)
gives_over {before} {after} {old} {new} s live full more near = record {
  bytes = s.bytes;
  moved = s.moved;
  gives = record {
    live = sym s.ended ∙ live;
    raw = s.raw;
    rest = new.ahead;
    plain = s.plain;
    cut = s.cut;
    len = omega (arith, s.given);
    more = more;
    near = near;
  };
}

pub none_left : (xs : List ℕ) → length xs ≤ 0 → xs ≡ []
none_left [] h = refl
none_left (x ∷ xs) h = absurd (omega arith)

pub state_is : (r : LinesState) (ahead : List ℕ) (given : ℕ) (ended : Bool) → r.ahead ≡ ahead → r.given ≡ given →
    r.ended ≡ ended → r ≡ record { ahead = ahead; given = given; ended = ended }
state_is r ahead given ended a g e =
    ap (λ (x : List ℕ). let w : LinesState = record { ahead = x; given = r.given; ended = r.ended } in w) a
    ∙ ap (λ (x : ℕ). let w : LinesState = record { ahead = ahead; given = x; ended = r.ended } in w) g
    ∙ ap (λ (x : Bool). let w : LinesState = record { ahead = ahead; given = given; ended = x } in w) e

-- where no byte of the buffer is unread, all bytes that were read belong to the line
all_raw : {before after : Option (List ℕ)} {old new : LinesState} {part : Part} (s : SoFar before after old new part) →
    new.ahead ≡ [] → old.ahead ++ s.bytes ≡ s.raw
all_raw s none = s.cut ∙ ap (λ xs. s.raw ++ xs) none ∙ append-nil s.raw

-- the source fails
pub breaks_off : {before mid : Option (List ℕ)} (after : Option (List ℕ)) {old cur new : LinesState} {part : Part} →
    SoFar before mid old cur part → Keeps mid after → cur.ahead ≡ [] → cur.ended ≡ false → new ≡ cur →
    cur.given ≤ 2 ^ 26 → GivesNext before after old new (Err Read)
breaks_off {before} {mid} after {old} {cur} {new} s kept none live same bound =
    let all = all_raw s none in
    let given : cur.given ≡ old.given + length (old.ahead ++ s.bytes) =
    s.given ∙ ap (λ (xs : List ℕ). old.given + length xs) (sym all) in
    record {
      bytes = s.bytes;
      moved = Consumes-kept before mid after s.bytes s.moved kept;
      gives = record {
        live = sym s.ended ∙ live;
        plain = All-same (λ b. b ≢ 10) (old.ahead ++ s.bytes) s.raw all s.plain;
        stands = same ∙ state_is cur [] _ false none given live;
        bound = omega arith;
      };
    }

-- where the input has ended for the state before the last read, it has ended for the state at the call
had_ended : {before mid : Option (List ℕ)} (after : Option (List ℕ)) (old cur : LinesState) → cur.ended ≡ old.ended →
    (old.ended ≡ true → mid ≡ before) → HasEnded cur mid after → HasEnded old before after
had_ended after old cur same idle (inl h) = inl (sym same ∙ h.0, h.1 ∙ idle (sym same ∙ h.0))
had_ended after old cur same idle (inr h) = inr (sym same ∙ h.0, h.1)

-- where the input had not ended before and has ended now, the source is at its end
at_end_now : {mid : Option (List ℕ)} (after : Option (List ℕ)) (cur : LinesState) → cur.ended ≡ false →
    HasEnded cur mid after → IsAtEnd after
at_end_now after cur live (inl h) = absurd (let e = h.0 in cc)
at_end_now after cur live (inr h) = h.1

-- the end of the input ends the line
pub gives_last : {before mid : Option (List ℕ)} (after : Option (List ℕ)) {old cur new : LinesState} {part : Part} →
    SoFar before mid old cur part → (more : List ℕ) → Consumes mid after more → new.ahead ≡ cur.ahead ++ more →
    new.given ≡ cur.given → HasMore false cur new mid after → cur.given ≤ 2 ^ 26
    → (old.ended ≡ true → (part.len ≡ 0) × (mid ≡ before)) → (line : Line (List ℕ)) →
    ((raw : List ℕ) → IsKept part raw → 0 < length raw → line ≡ line_of raw) →
    (IsKept part [] → line ≡ End) → GivesNext before after old new (Ok line)
gives_last {before} {mid} after {old} {cur} {new} {part} s more moved ahead given none bound idle line some empty =
    let bytes = s.bytes ++ more in
    let all : old.ahead ++ bytes ≡ s.raw =
    sym (append_assoc old.ahead s.bytes more) ∙ ap (λ xs. xs ++ more) s.cut
    ∙ append_assoc s.raw cur.ahead more ∙ ap (λ xs. s.raw ++ xs) (sym ahead ∙ none.0) ∙ append-nil s.raw in
    let taken = Consumes-trans before mid after s.bytes more s.moved moved in
    ⊎_elim
    (λ long.
    let live = false_from_ne_true old.ended (λ e. omega (arith, (idle e).0, s.kept.len)) in
    let line_is = some s.raw s.kept long in
    record {
      bytes = bytes;
      moved = taken;
      gives = gives_line before after old bytes new s.raw line line_is (record {
        live = live;
        taken = inr (
          record {
            some = subst (λ (xs : List ℕ). 0 < length xs) (sym all) long;
            plain = All-same (λ b. b ≢ 10) (old.ahead ++ bytes) s.raw all s.plain;
            all = none.0;
            is = line_is ∙ ap line_of (sym all);
          },
          none.1,
          at_end_now after cur (s.ended ∙ live) none.2,
        );
        count = omega (arith, given, s.given, ap length none.0, ap length all);
        bound = omega arith;
        near = omega (arith, ap length none.0);
      });
    })
    (λ short.
    let nil = none_left s.raw short in
    let is_end = empty (subst (IsKept part) nil s.kept) in
    let gives : GivesEnd before after old bytes new = record {
      none = all ∙ nil;
      stands = state_is new [] old.given true none.0 (omega (arith, given, s.given)) none.1;
      bound = omega (arith, s.given);
      ended = had_ended after old cur s.ended (λ e. (idle e).1) none.2;
    } in
    record {
      bytes = bytes;
      moved = taken;
      gives = subst (λ (l : Line (List ℕ)). AnswersWith before after old bytes new (Ok l)) (sym is_end) gives;
    })
    (cases_lt 0 (length s.raw))

-- a line feed that was ahead is still ahead
pub still_ahead : {before after : Option (List ℕ)} {old new : LinesState} {part : Part} →
    SoFar before after old new part → Contains old.ahead 10 → 0 < length new.ahead
still_ahead {old = old} {new = new} s has = ⊎_elim
    (λ some. some)
    (λ none.
    let plain = All-same (λ b. b ≢ 10) (old.ahead ++ s.bytes) s.raw (all_raw s (none_left new.ahead none)) s.plain in
    absurd
    (All-contains (λ b. b ≢ 10) (old.ahead ++ s.bytes) 10 plain (Contains-append_left old.ahead s.bytes 10 has) refl))
    (cases_lt 0 (length new.ahead))

-- how the answer tells of more bytes
pub has_some : (more : Bool) (old new : LinesState) (before after : Option (List ℕ)) → more ≡ true →
    HasMore more old new before after → HasMore true old new before after
has_some true old new before after e h = h
has_some false old new before after e h = cc

pub has_none : (more : Bool) (old new : LinesState) (before after : Option (List ℕ)) → more ≡ false →
    HasMore more old new before after → HasMore false old new before after
has_none true old new before after e h = cc
has_none false old new before after e h = h

-- memory runs out
pub gives_no_memory : {before after : Option (List ℕ)} {old cur : LinesState} {part : Part} (new : LinesState) →
    SoFar before after old cur part → cur.ended ≡ false → length cur.ahead ≤ 4096 →
    GivesNext before after old new (Err NoMemory)
gives_no_memory {cur = cur} new s live near = record {
  bytes = s.bytes;
  moved = s.moved;
  gives =
      record { live = sym s.ended ∙ live; raw = s.raw; rest = cur.ahead; plain = s.plain; cut = s.cut; near = near };
}

-- an error by its name
pub gives_err : {before after : Option (List ℕ)} {old new : LinesState} {stop : LineStop}
    (result : Result (Line (List ℕ)) LineStop) (e : LineStop) →
    result ≡ Err e → e ≡ stop → GivesNext before after old new (Err stop) → GivesNext before after old new result
gives_err {before} {after} {old} {new} result e is same g =
    subst (GivesNext before after old new) (sym (is ∙ ap (λ (x : LineStop). Err x) same)) g

-- what stays in two steps
pub stays : {A : Type 0} {a b c : A} {k m n : ℕ} → (b ≡ a) × (m ≡ k) → (c ≡ b) × (n ≡ m) → (c ≡ a) × (n ≡ k)
stays p q = (q.0 ∙ p.0, q.1 ∙ p.1)

-- a run by what was found after it
pub run_with : {old new : LinesState} {before after : Part} {found : Bool} (is : Bool) →
    TakesRun old new before after found → found ≡ is → TakesRun old new before after is
run_with {old} {new} {before} {after} is run same = subst (TakesRun old new before after) same run
