-- What the only pass of a board reads of a put, and that places which are all done answer it.
--
-- `put_reads`: publishing adds to the reads of a pass those of its outcome, and nothing else.
-- `put_places`: publishing leaves the number of places that a pass knows.
use Rattle.std.proofs.Common.{◌≡◌, ℕ, ◌<◌, Some, List, [], ◌∷◌, ◌++◌, length, refl, sym, ap, ◌∙◌, subst}
use Rattle.std.proofs.lemmas.List.{length-map}
use Rattle.spec_board.specs.declared.place.Place.TheVariants as place
use Rattle.spec_board.specs.Reads.{Words, basis_words}
use Rattle.spec_board.specs.Places.{ExactPlace, place_at, with_place}
use Rattle.basis_board.specs.declared.seats.View.{View}
use Rattle.basis_board.specs.declared.seats.RawRead.{RawRead}
use Rattle.basis_board.specs.declared.seats.RawRead.TheVariants.{Count, Claim, Lost, Done}
use Rattle.spec_board.specs.declared.read.Put.{Put}
use Rattle.spec_board.specs.declared.read.Put.TheVariants.{Published, Full, Raced}
use Rattle.basis_board.specs.Calls.{Puts}
use Rattle.lp_script.specs.Only.{published_words, AreInOrder}
use Rattle.lp_script.specs.Sharing.{as_places}
use Rattle.lp_script.proofs.Plays.{Played, played_each}
use Rattle.lp_script.proofs.Only.{OwnsAll, all_published}

-- the place behind those that are done is found at their number
place_last : (done : List Words) (p : ExactPlace) → place_at (as_places done ++ p ∷ []) (length done) ≡ Some p
place_last [] p = refl
place_last (words ∷ done) p = place_last done p

-- words written at the place behind those that are done are one more done place
with_last : (done : List Words) (p : ExactPlace) (words : Words) →
    as_places (done ++ words ∷ []) ≡ with_place (as_places done ++ p ∷ []) (length done) (place.Done words)
with_last [] p words = refl
with_last (w ∷ done) p words = ap (λ ps. place.Done w ∷ ps) (with_last done p words)

-- the reads of a put that counts k places, claims place k and writes these words there, the newest first
abbrev pub publication : ℕ → Words → List RawRead
publication k words = Done k words ∷ Claim k ∷ Count k ∷ []

-- a publication at the first free place is answered, and then one place more is done
played_publication : (places k : ℕ) (done : List Words) (words : Words) → k ≡ length done → k < places →
    Played places done (publication k words) (done ++ words ∷ [])
played_publication places k done words e inside =
    subst (λ k. Played places done (publication k words) (done ++ words ∷ [])) (sym e) (λ session. (
      as_places done,
      (sym (length-map done place.Done), refl),
      (
        as_places done ++ place.Claimed session ∷ [],
        (sym (length-map done place.Done), subst (λ k. k < places) e inside, refl),
        (
          with_place (as_places done ++ place.Claimed session ∷ []) (length done) (place.Done words),
          (place_last done (place.Claimed session), refl),
          with_last done (place.Claimed session) words,
        ),
      ),
    ))

-- ---- what was read more

-- the reads that a put with this outcome adds to those of the pass, the newest first
abbrev pub tried : (v w : View) (words : Words) (put : Put) → Puts v words put w → List RawRead
tried v w words (Published k) p = publication k words
tried v w words (Full c) p = Count c ∷ []
tried v w words (Raced e) p = Lost e ∷ Count p.count ∷ []

pub put_reads : (v w : View) (words : Words) (put : Put) (p : Puts v words put w) →
    w.reads ≡ tried v w words put p ++ v.reads
put_reads v w words (Published k) p = ap (λ (x : View). x.reads) p.view
put_reads v w words (Full c) p = ap (λ (x : View). x.reads) p.view
put_reads v w words (Raced e) p = ap (λ (x : View). x.reads) p.view

pub put_places : (v w : View) (words : Words) (put : Put) → Puts v words put w → w.places ≡ v.places
put_places v w words (Published k) p = ap (λ (x : View). x.places) p.view
put_places v w words (Full c) p = ap (λ (x : View). x.places) p.view
put_places v w words (Raced e) p = ap (λ (x : View). x.places) p.view

module _ (v w : View) (words : Words) (all : OwnsAll v) (whole : v.share ≡ 64) where
  -- the places that are done answer the reads of a put by the whole pass, and then are those that are done with it
  pub put_played : (put : Put) (p : Puts v words put w) →
      Played v.places (published_words v.reads) (tried v w words put p) (published_words w.reads)
  put_played (Published k) p =
      subst (Played v.places (published_words v.reads) (publication k words))
      (sym (ap (λ (x : View). published_words x.reads) p.view))
      (played_publication v.places k (published_words v.reads) words (all_published v k all (p.tells.whole whole))
      p.inside)
  put_played (Full c) p =
      subst (Played v.places (published_words v.reads) (Count c ∷ []))
      (sym (ap (λ (x : View). published_words x.reads) p.view))
      (played_each v.places (published_words v.reads) (Count c ∷ []) (
        (λ session. (
          all_published v c all (p.tells.whole whole) ∙ sym (length-map (published_words v.reads) place.Done),
          refl,
        )),
        tt,
      ))
  put_played (Raced e) p = absurd (p.not_whole whole)

  -- where publications are in order, and what a put by the whole pass published has as many words as a basis, they are
  -- in order with that put
  pub put_order : (put : Put) (p : Puts v words put w) → AreInOrder v.reads →
      ((k : ℕ) → tried v w words put p ≡ publication k words → length words ≡ basis_words) → AreInOrder w.reads
  put_order (Published k) p order sized =
      subst (λ (x : View). AreInOrder x.reads) (sym p.view)
      (all_published v k all (p.tells.whole whole), sized k refl, order)
  put_order (Full c) p order sized = subst (λ (x : View). AreInOrder x.reads) (sym p.view) order
  put_order (Raced e) p order sized = absurd (p.not_whole whole)
