-- What is kept of a line, run by run.
--
-- `take-append`: the first `k` items of two lists are those of the first, and of the second as many as are wanting.
-- `run_kept`: the first `k` bytes of a line are kept, after a run too, of which those are added for which there is
--   room.
-- `last_of_run`: the last byte of a run that is not empty is the last of the line with the run.
-- `stripped`: without its last byte, which is a carriage return, a line is what `strip_carriage_return` gives.
-- `not_stripped`: where its last byte is no carriage return, `strip_carriage_return` leaves a line as it is.
-- `cut_kept`: the first `n` of the `k` bytes that were kept are the line's first `n`, where `n` is at most `k`.
use Rattle.std.proofs.Common.{◌≡◌, ℕ, ◌+◌, ◌-◌, ◌<◌, ◌≤◌, List, [], ◌∷◌, ◌++◌, length, take, min, get_or}
use Rattle.std.proofs.Common.{slice_index, Some, arith, refl, ap, sym, ◌∙◌, ⊎_elim, length-append, append-nil}
use Rattle.std.proofs.lemmas.List.{take_all, take_min, take-append-le, get_or-append_right}
use Rattle.std.proofs.Math.Seq.{take-append-add}
use Rattle.std.proofs.lemmas.Bool.{cases_lt}
use Rattle.std.proofs.lemmas.Grind.{common_steps}
use Rattle.std.proofs.lemmas.Bool.Decides.{nat_tests}
use Rattle.std.specs.List.{slice_get}
use Rattle.std.proofs.lemmas.Option.{get_or_from_slice_get}
use Rattle.std.specs.Str.Lines.{strip_carriage_return}

pub take-append : (k : ℕ) (raw run : List ℕ) → take k (raw ++ run) ≡ take k raw ++ take (k - length raw) run
take-append k raw run = ⊎_elim
    (λ lt. let none : 0 ≡ k - length raw = omega arith in
    take-append-le k raw run (omega arith) ∙ sym (append-nil (take k raw))
    ∙ ap (λ (n : ℕ). take k raw ++ take n run) none)
    (λ past. let all : k ≡ length raw + (k - length raw) = omega arith in
    ap (λ (n : ℕ). take n (raw ++ run)) all
    ∙ take-append-add raw run (k - length raw)
    ∙ ap (λ xs. xs ++ take (k - length raw) run) (sym (take_all k raw (omega arith))))
    (cases_lt k (length raw))

-- a run is kept as far as there is room
pub run_kept : (k len room count : ℕ) (kept new raw run : List ℕ) → kept ≡ take k raw → len ≡ length raw →
    room ≡ k - len → count ≡ min (length run) room → new ≡ kept ++ take count run → new ≡ take k (raw ++ run)
run_kept k len room count kept new raw run is len_is room_is count_is new_is =
    let front : count ≡ min (k - length raw) (length run) = omega arith in
    new_is
    ∙ ap (λ (xs : List ℕ). xs ++ take count run) is
    ∙ ap (λ (n : ℕ). take k raw ++ take n run) front
    ∙ ap (λ xs. take k raw ++ xs) (take_min (k - length raw) run)
    ∙ sym (take-append k raw run)

-- the last byte of a line with a run behind it is the last byte of the run
at_last : (raw run : List ℕ) → 0 < length run →
    get_or (raw ++ run) (length (raw ++ run) - 1) 0 ≡ get_or run (length run - 1) 0
at_last raw run some =
    let place : length (raw ++ run) - 1 - length raw ≡ length run - 1 = omega (arith, length-append raw run) in
    get_or-append_right raw run (length raw) (length (raw ++ run) - 1) 0 refl (omega (arith, length-append raw run))
    ∙ ap (λ n. get_or run n 0) place

pub last_of_run : (raw run : List ℕ) (last : ℕ) → Some last ≡ slice_get run (length run - 1) →
    last ≡ slice_index (raw ++ run) (length (raw ++ run) - 1)
last_of_run raw [] last is = cc
last_of_run raw (b ∷ run) last is =
    sym (at_last raw (b ∷ run) (omega arith) ∙ get_or_from_slice_get (b ∷ run) (length (b ∷ run) - 1) last 0 (sym is))

pub stripped : (raw : List ℕ) (last : ℕ) → last ≡ slice_index raw (length raw - 1) → last ≡ 13 →
    take (length raw - 1) raw ≡ strip_carriage_return raw
stripped raw last is cr = grind (arith, nat_tests)

pub not_stripped : (raw : List ℕ) (last : ℕ) → last ≡ slice_index raw (length raw - 1) → (last ≡ 13 → ⊥) →
    take (length raw) raw ≡ strip_carriage_return raw
not_stripped raw last is other = grind (arith, nat_tests, common_steps)

pub cut_kept : (kept raw : List ℕ) (n k : ℕ) → kept ≡ take k raw → n ≤ k → take n kept ≡ take n raw
cut_kept kept raw n k is le = ap (λ (xs : List ℕ). take n xs) is ∙ grind (arith, common_steps)
