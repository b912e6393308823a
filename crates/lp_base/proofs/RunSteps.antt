-- A run of bytes with no line feed, at the start of the bytes ahead, is taken.
--
-- `run_found`: `TakesRun` holds with `true` where the bytes up to the first line feed are kept and it is passed over.
-- `run_plain`: `TakesRun` holds with `false` where no byte ahead is a line feed and all that may be given are kept.
use Rattle.std.proofs.Common.{◌≡◌, ◌≢◌, ℕ, ◌+◌, ◌-◌, ◌^◌, ◌<◌, ◌≤◌, List, ◌∷◌, ◌++◌, All}
use Rattle.std.proofs.Common.{length, take, drop, min, get_or, slice_index, true, false, arith}
use Rattle.std.proofs.Common.{ap, ap₂, sym, subst, ◌∙◌, length-take, length-drop, get_or-take}
use Rattle.std.proofs.lemmas.List.{take-append-drop, take_min, drop_more, take-take}
use Rattle.lp_base.specs.LinesState.{LinesState}
use Rattle.lp_base.specs.NextLine.{IsKept, TakesRun}
use Rattle.lp_base.specs.declared.part.Part.{Part}

-- the state of a reader of lines after it has given this many of its unread bytes
abbrev pub passed : LinesState → ℕ → LinesState
passed old count = record { ahead = drop count old.ahead; given = old.given + count; ended = old.ended }

-- a line feed found within the room parts all bytes into those before it, the line feed and those behind
cut_found : (room at : ℕ) (all : List ℕ) → at < length (take room all) → slice_index (take room all) at ≡ 10 →
    all ≡ take at (take room all) ++ 10 ∷ drop (at + 1) all
cut_found room at all within is =
    let inside : at < min room (length all) = omega (arith, length-take room all) in
    let byte : get_or all at 0 ≡ 10 = sym (get_or-take room all at 0 (omega arith)) ∙ is in
    sym (take-append-drop at all)
    ∙ ap₂ (λ (front back : List ℕ). front ++ back)
    (sym (take-take at room all (omega arith)))
    (drop_more all at 0 (omega arith) ∙ ap (λ (b : ℕ). b ∷ drop (at + 1) all) byte)

-- the bytes within the room and those behind are together all bytes
cut_plain : (room : ℕ) (all : List ℕ) → all ≡ take room all ++ drop (length (take room all)) all
cut_plain room all =
    sym (take-append-drop (length (take room all)) all)
    ∙ ap (λ (xs : List ℕ). xs ++ drop (length (take room all)) all)
    (ap (λ (n : ℕ). take n all) (length-take room all) ∙ take_min room all)

-- what was passed over is taken from what is ahead
passed_count : (old new : LinesState) (count : ℕ) → new ≡ passed old count → count ≤ length old.ahead →
    new.given + length new.ahead ≡ old.given + length old.ahead
passed_count old new count moved within =
    omega (
      arith,
      ap (λ (r : LinesState). r.given) moved,
      ap (λ (r : LinesState). length r.ahead) moved,
      length-drop count old.ahead,
    )

-- the bytes that are looked at, and a place in them
module _ (old : LinesState) (ahead : List ℕ) (is : ahead ≡ take (2 ^ 26 - old.given) old.ahead)
    (room : old.given < 2 ^ 26) where
  len_is : length ahead ≡ min (2 ^ 26 - old.given) (length old.ahead)
  len_is = ap length is ∙ length-take (2 ^ 26 - old.given) old.ahead

  -- the bytes that are looked at are no more than those unread
  pub ahead_some : length ahead ≤ length old.ahead
  ahead_some = omega (arith, len_is)

  -- with the bytes that are looked at, at most 2 ^ 26 bytes are given
  pub ahead_room : old.given + length ahead ≤ 2 ^ 26
  ahead_room = omega (arith, len_is, room)

  -- the bytes up to a place among those looked at, with the one there, are no more than those unread
  pub at_some : (at : ℕ) → at < length ahead → at + 1 ≤ length old.ahead
  at_some at h = omega (arith, ahead_some, h)

  -- with the bytes up to a place among those looked at, and the one there, at most 2 ^ 26 bytes are given
  pub at_room : (at : ℕ) → at < length ahead → old.given + (at + 1) ≤ 2 ^ 26
  at_room at h = omega (arith, ahead_room, h)

  -- a line no longer than the bytes given has, with the bytes that are looked at, a length below 2 ^ 64
  pub ahead_fits : (len : ℕ) → len ≤ old.given → len + length ahead < 2 ^ 64
  ahead_fits len h = omega (arith, ahead_room, h)

  -- a line no longer than the bytes given has, with the first `at` bytes that are looked at, a length below 2 ^ 64
  pub front_fits : (len at : ℕ) → len ≤ old.given → len + length (take at ahead) < 2 ^ 64
  front_fits len at h = omega (arith, ahead_room, length-take at ahead, h)

-- a line feed was found after the run
pub run_found : (old new : LinesState) (before after : Part) (ahead : List ℕ) (at : ℕ) →
    ahead ≡ take (2 ^ 26 - old.given) old.ahead → at < length ahead → slice_index ahead at ≡ 10 →
    All (λ b. b ≢ 10) (take at ahead) → new ≡ passed old (at + 1) →
    ((raw : List ℕ) → IsKept before raw → IsKept after (raw ++ take at ahead)) → TakesRun old new before after true
run_found old new before after ahead at is within found plain moved kept =
    let len : length ahead ≡ min (2 ^ 26 - old.given) (length old.ahead) =
    ap length is ∙ length-take (2 ^ 26 - old.given) old.ahead in
    let given : new.given ≡ old.given + (at + 1) = ap (λ (r : LinesState). r.given) moved in
    let cut : old.ahead ≡ take at ahead ++ 10 ∷ drop (at + 1) old.ahead =
    subst (λ (xs : List ℕ). old.ahead ≡ take at xs ++ 10 ∷ drop (at + 1) old.ahead) (sym is)
    (cut_found (2 ^ 26 - old.given) at old.ahead (subst (λ (xs : List ℕ). at < length xs) is within)
    (ap (λ (xs : List ℕ). slice_index xs at) (sym is) ∙ found)) in
    record {
      run = take at ahead;
      plain = plain;
      cut = cut ∙ ap (λ (r : LinesState). take at ahead ++ 10 ∷ r.ahead) (sym moved);
      count = passed_count old new (at + 1) moved (omega arith);
      some = omega arith;
      bound = omega arith;
      ended = ap (λ (r : LinesState). r.ended) moved;
      kept = kept;
    }

-- there was none
pub run_plain : (old new : LinesState) (before after : Part) (ahead : List ℕ) →
    ahead ≡ take (2 ^ 26 - old.given) old.ahead → 0 < length old.ahead → old.given < 2 ^ 26 → All (λ b. b ≢ 10) ahead →
    new ≡ passed old (length ahead) → ((raw : List ℕ) → IsKept before raw → IsKept after (raw ++ ahead)) →
    TakesRun old new before after false
run_plain old new before after ahead is some room plain moved kept =
    let len : length ahead ≡ min (2 ^ 26 - old.given) (length old.ahead) =
    ap length is ∙ length-take (2 ^ 26 - old.given) old.ahead in
    let given : new.given ≡ old.given + length ahead = ap (λ (r : LinesState). r.given) moved in
    let cut : old.ahead ≡ ahead ++ drop (length ahead) old.ahead =
    subst (λ (xs : List ℕ). old.ahead ≡ xs ++ drop (length xs) old.ahead)
    (sym is) (cut_plain (2 ^ 26 - old.given) old.ahead) in
    record {
      run = ahead;
      plain = plain;
      cut = cut ∙ ap (λ (r : LinesState). ahead ++ r.ahead) (sym moved);
      count = passed_count old new (length ahead) moved (omega arith);
      some = omega arith;
      bound = omega arith;
      ended = ap (λ (r : LinesState). r.ended) moved;
      kept = kept;
    }

-- end of RunSteps
