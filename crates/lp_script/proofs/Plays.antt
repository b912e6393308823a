-- Reads of a pass that places which are all done answer one after the other.
--
-- `reads_since`: where a pass has noted more reads than before, its reads are those of before, and then the new ones in
--   their order.
-- `has_newest`: the newest read is among the reads put in order.
-- `played_on`: places that answer some reads and then others answer both, one after the other.
-- `played_each`: where the places answer each of these reads and stay as they are, they answer all of them one after
--   the other, and stay as they are.
use Rattle.std.proofs.Common.{◌≡◌, ℕ, List, [], ◌∷◌, ◌++◌, map, refl, sym, ap, ◌∙◌, subst, inl}
use Rattle.std.specs.Prelude.{reverse}
use Rattle.std.proofs.lemmas.List.{map-append, reverse-append, append_cancel_left}
use Rattle.spec_board.specs.Reads.{Words, ExactRead}
use Rattle.spec_board.specs.Places.{logged, Answers, Plays}
use Rattle.spec_server.proofs.RunLemmas.{Plays-append}
use Rattle.basis_board.specs.declared.seats.View.{View}
use Rattle.basis_board.specs.declared.seats.RawRead.{RawRead}
use Rattle.basis_board.specs.Board.{Each, Has}
use Rattle.basis_board.proofs.Totals.{has_right}
use Rattle.basis_board.specs.PassReads.{exact_read, reads_of}
use Rattle.lp_script.specs.Sharing.{as_places}

-- ---- reads of a pass, of which the newest stands first
-- these reads, which stand newest first, put in order with the first one first, as the places' definitions have them
abbrev pub in_turn : List RawRead → List ExactRead
in_turn reads = map exact_read (reverse reads)

-- two lists of reads in their order are the older one and then the newer one
in_turn-append : (more old : List RawRead) → in_turn (more ++ old) ≡ in_turn old ++ in_turn more
in_turn-append more old =
    ap (map exact_read) (reverse-append more old) ∙ map-append exact_read (reverse old) (reverse more)

-- what was read since
pub reads_since : (v u : View) (more : List RawRead) (reads : List ExactRead) → u.reads ≡ more ++ v.reads →
    reads_of u ≡ reads_of v ++ reads → in_turn more ≡ reads
reads_since v u more reads e all =
    append_cancel_left (reads_of v) (in_turn more) reads
    (sym (in_turn-append more v.reads) ∙ sym (ap in_turn e) ∙ all)

pub has_newest : (r : RawRead) (old : List RawRead) → Has (in_turn (r ∷ old)) (exact_read r)
has_newest r old =
    subst (λ reads. Has reads (exact_read r)) (sym (in_turn-append (r ∷ []) old))
    (has_right (in_turn old) (exact_read r ∷ []) (exact_read r) (inl refl))

-- ---- they are answered, whichever session makes them
-- whichever session makes them, places that are done with the words `done` answer these reads, the newest of which
-- stands first, and are then done with the words `next`
abbrev pub Played : ℕ → List Words → List RawRead → List Words → Type 0
Played places done reads next =
    (session : ℕ) → Plays places (as_places done) (logged session (in_turn reads)) (as_places next)

pub played_on : (places : ℕ) (done middle next : List Words) (old more : List RawRead) → Played places done old middle →
    Played places middle more next → Played places done (more ++ old) next
played_on places done middle next old more first second = λ session.
    subst (λ log. Plays places (as_places done) log (as_places next))
    (sym (ap (logged session) (in_turn-append more old) ∙ map-append _ (in_turn old) (in_turn more)))
    (Plays-append places (as_places done) (as_places middle) (as_places next) (logged session (in_turn old))
    (logged session (in_turn more)) (first session) (second session))

-- whichever session makes this read, places that are done with these words answer it and stay as they are
abbrev pub Stays : ℕ → List Words → RawRead → Type 0
Stays places done r = (session : ℕ) → Answers places (as_places done) session (exact_read r) (as_places done)

pub played_each : (places : ℕ) (done : List Words) (reads : List RawRead) → Each (Stays places done) reads →
    Played places done reads done
played_each places done [] each = λ session. refl
played_each places done (r ∷ reads) each =
    played_on places done done done reads (r ∷ []) (played_each places done reads each.1)
    (λ session. (as_places done, each.0 session, refl))
