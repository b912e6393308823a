-- What the only pass of a board sees: what it published.
use Rattle.std.proofs.Common.{◌≡◌, ◌≢◌, ℕ, ◌+◌, ◌<◌, ◌≤◌, Some, List, [], ◌∷◌, ◌++◌, length, get_or, refl}
use Rattle.std.proofs.Common.{sym, ap, ◌∙◌, subst, inl, inr, zero, suc, arith}
use Rattle.std.specs.Prelude.{slice_index}
use Rattle.std.proofs.lemmas.List.{length-map, length-take, get_or-take, ext_get_or, append_assoc}
use Rattle.spec_board.specs.declared.place.Place.TheVariants as place
use Rattle.spec_board.specs.Reads.{Words, front}
use Rattle.spec_board.specs.Places.{place_at}
use Rattle.basis_board.specs.declared.seats.View.{View}
use Rattle.basis_board.specs.declared.seats.RawRead.{RawRead}
use Rattle.basis_board.specs.declared.seats.RawRead.TheVariants.{Count, Open, See, Claim, Lost, Done}
use Rattle.basis_board.specs.declared.board.Look.{Look}
use Rattle.basis_board.specs.declared.board.Look.TheVariants.{Found, NoneReady}
use Rattle.basis_board.specs.Board.{Each, Has}
use Rattle.basis_board.specs.Rule.{Agree, StandsIn, ReadAgrees, Consistent}
use Rattle.basis_board.specs.Calls.{SeesOther, Passed, OpenUnseen, Looks}
use Rattle.basis_board.proofs.Totals.{each_has, each_append, has_left, has_right}
use Rattle.lp_script.specs.Only.{published_words, AreInOrder}
use Rattle.lp_script.specs.Sharing.{as_places}
use Rattle.lp_script.proofs.Plays.{Stays}
use Rattle.lp_script.proofs.Only.{stands_at, owns_all, all_published}

-- a place below the number of done places is done, with its words
place_done : (done : List Words) (n : ℕ) → n < length done →
    place_at (as_places done) n ≡ Some (place.Done (get_or done n []))
place_done [] n l = absurd (omega (arith, l))
place_done (words ∷ done) zero l = refl
place_done (words ∷ done) (suc n) l = place_done done n (omega (arith, l))

-- what a pass had published when it looked, and what it has read later
module _ (v u : View) (now : Consistent v) (order : AreInOrder v.reads) (later : Consistent u)
    (stay : (r : RawRead) → Has v.reads r → Has u.reads r) where
  -- the words that the pass had published
  abbrev done : List Words
  done = published_words v.reads

  -- ---- one place
  module _ (k : ℕ) (inside : k < length (published_words v.reads)) where
    -- the words that the pass had published in place k
    abbrev here : Words
    here = get_or (published_words v.reads) k []

    -- the reads of the pass have the publication of place k with these words
    published : Has v.reads (Done k here)
    published = (stands_at v.reads order k inside).0

    -- the words published in place k are 49
    size : length here ≡ 49
    size = (stands_at v.reads order k inside).1

    -- a place that the pass had published was seen, so it is not among those that were not
    not_open : Each (λ p. p.0 ≢ k) v.seen → ⊥
    not_open unseen =
        let stands : StandsIn v.seen (Done k here) =
        each_has (StandsIn v.seen) v.reads (Done k here) now.neat.stands published in
        each_has (λ (p : ℕ × List ℕ). p.0 ≢ k) v.seen (k, stands.0) unseen stands.1 refl

    -- words that are seen of a published place agree with those that were published, as far as both go
    agrees : (words : Words) → Has u.reads (See k words) → (i : ℕ) → i < length words → i < length here →
        slice_index words i ≡ slice_index here i
    agrees words seen i l m =
        let again : Has u.reads (Done k here) = stay (Done k here) published in
        let stands : StandsIn u.seen (Done k here) =
        each_has (StandsIn u.seen) u.reads (Done k here) later.neat.stands again in
        let first : Each (Agree (k, words)) u.seen =
        each_has (ReadAgrees u.seen) u.reads (See k words) later.reads_agree seen in
        let second : Each (Agree (k, here)) u.seen =
        each_has (ReadAgrees u.seen) u.reads (Done k here) later.reads_agree again in
        let long : length here ≤ length stands.0 = stands.2 in
        each_has (Agree (k, words)) u.seen (k, stands.0) first stands.1 refl i l (omega (arith, m, long))
        ∙ sym (each_has (Agree (k, here)) u.seen (k, stands.0) second stands.1 refl i m (omega (arith, m, long)))

    -- 25 words that are seen of a published place are the first 25 of those that were published
    front_is : (words : Words) → length words ≡ 25 → Has u.reads (See k words) → words ≡ front here
    front_is words few seen =
        ext_get_or 0 words (front here) (omega (arith, few, size, length-take 25 here))
        (λ i l.
        let m : i < 25 = omega (arith, l, few) in
        agrees words seen i l (omega (arith, m, size)) ∙ sym (get_or-take 25 here i 0 m))

    -- 49 words that are seen of a published place are those that were published
    all_is : (words : Words) → length words ≡ 49 → Has u.reads (See k words) → words ≡ here
    all_is words all seen =
        ext_get_or 0 words here (omega (arith, all, size))
        (λ i l. agrees words seen i l (omega (arith, l, all, size)))

    -- the read by which a look passes over a published place is answered by the done places, which stay as they are
    stays_other : (shape : Words) (r : RawRead) → SeesOther shape k r → OpenUnseen v.seen r → Has u.reads r →
        Stays v.places done r
    stays_other shape (Open j) o unseen seen =
        absurd (not_open (subst (λ j. Each (λ (p : ℕ × List ℕ). p.0 ≢ j) v.seen) o unseen))
    stays_other shape (See j words) o unseen seen = λ session. (
      here,
      subst (λ j. place_at (as_places done) j ≡ Some (place.Done here)) (sym o.0) (place_done done k inside),
      inr (front_is words o.1 (subst (λ j. Has u.reads (See j words)) o.0 seen)),
      refl,
    )
    stays_other shape (Count c) o unseen seen = absurd o
    stays_other shape (Claim j) o unseen seen = absurd o
    stays_other shape (Lost c) o unseen seen = absurd o
    stays_other shape (Done j words) o unseen seen = absurd o

    -- the read of all 49 words of a published place is answered by the done places, which stay as they are
    stays_found : (words : Words) → length words ≡ 49 → Has u.reads (See k words) → Stays v.places done (See k words)
    stays_found words all seen = λ session. (here, place_done done k inside, inl (all_is words all seen), refl)

  -- ---- from the newest down
  -- where the places passed by on the way from c end at k, k is at most c
  down_inside : (shape : Words) (c k : ℕ) (added : List RawRead) → Passed shape c k added → k ≤ c
  down_inside shape c k [] p = omega (arith, p)
  down_inside shape c k (r ∷ added) p = omega (arith, down_inside shape c (k + 1) added p.1)

  -- the reads that pass by published places are answered by the done places, and leave them as they are
  stays_passed : (shape : Words) (c k : ℕ) (added : List RawRead) → c ≤ length (published_words v.reads) →
      Passed shape c k added → Each (OpenUnseen v.seen) added → ((r : RawRead) → Has added r → Has u.reads r) →
      Each (Stays v.places done) added
  stays_passed shape c k [] l p unseen into = tt
  stays_passed shape c k (r ∷ added) l p unseen into =
      let inside : k < length (published_words v.reads) = omega (arith, l, down_inside shape c (k + 1) added p.1) in (
        stays_other k inside shape r p.0 unseen.0 (into r (inl refl)),
        stays_passed shape c (k + 1) added l p.1 unseen.1 (λ s h. into s (inr h)),
      )

  -- the reads of a look down from the count are answered by the done places, and leave them as they are
  stays_down : (shape : Words) (c k : ℕ) (added : List RawRead) → c ≡ length (published_words v.reads) →
      Passed shape c k added → Each (OpenUnseen v.seen) added → ((r : RawRead) → Has added r → Has u.reads r) →
      Each (Stays v.places done) (added ++ Count c ∷ [])
  stays_down shape c k added all p unseen into =
      each_append (Stays v.places done) added (Count c ∷ [])
      (stays_passed shape c k added (omega (arith, all)) p unseen into)
      ((λ session. (all ∙ sym (length-map done place.Done), refl)), tt)

-- ---- a look

-- from v to w the pass noted more reads, each of which the places that it had published answer and stay as they are
pub record Sees (v w : View) : Type 0 where
  pub more : List RawRead
  pub reads : w.reads ≡ more ++ v.reads
  pub stays : Each (Stays v.places (published_words v.reads)) more

-- what a whole pass reads in a look changes nothing of what it published
pub look_sees : (shape : Words) (v w u : View) (look : Look) → Looks shape v look w → Consistent v → v.share ≡ 64 →
    AreInOrder v.reads → Consistent u → ((r : RawRead) → Has w.reads r → Has u.reads r) → Sees v w
look_sees shape v w u (NoneReady c) d now whole order later stay =
    let all : c ≡ length (published_words v.reads) = all_published v c (owns_all v now.neat) (d.tells.whole whole) in
    let reads : w.reads ≡ d.added ++ Count c ∷ v.reads = ap (λ (x : View). x.reads) d.view in
    let into : (r : RawRead) → Has (d.added ++ Count c ∷ v.reads) r → Has u.reads r =
    λ r h. stay r (subst (λ rs. Has rs r) (sym reads) h) in
    record {
      more = d.added ++ Count c ∷ [];
      reads = reads ∙ sym (append_assoc d.added (Count c ∷ []) v.reads);
      stays =
          stays_down v u now order later (λ r h. into r (has_right d.added (Count c ∷ v.reads) r (inr h))) shape c 0
          d.added all d.passed d.unseen (λ r h. into r (has_left d.added (Count c ∷ v.reads) r h));
    }
look_sees shape v w u (Found k words) f now whole order later stay =
    let c = f.count in
    let added = f.down.added in
    let all : c ≡ length (published_words v.reads) =
    all_published v c (owns_all v now.neat) (f.down.tells.whole whole) in
    let reads : w.reads ≡ See k words ∷ added ++ Count c ∷ v.reads =
    ap (λ (x : View). x.reads) f.finds.view ∙ ap (λ (x : View). See k words ∷ x.reads) f.down.view in
    let into : (r : RawRead) → Has (See k words ∷ added ++ Count c ∷ v.reads) r → Has u.reads r =
    λ r h. stay r (subst (λ rs. Has rs r) (sym reads) h) in
    let old : (r : RawRead) → Has v.reads r → Has u.reads r =
    λ r h. into r (inr (has_right added (Count c ∷ v.reads) r (inr h))) in
    let inside : k < length (published_words v.reads) =
    omega (arith, all, down_inside v u now order later old shape c (k + 1) added f.down.passed) in
    record {
      more = See k words ∷ added ++ Count c ∷ [];
      reads = reads ∙ ap (λ rs. See k words ∷ rs) (sym (append_assoc added (Count c ∷ []) v.reads));
      stays = (
        stays_found v u now order later old k inside words f.finds.formed.all (into (See k words) (inl refl)),
        stays_down v u now order later old shape c (k + 1) added all f.down.passed f.down.unseen
            (λ r h. into r (inr (has_left added (Count c ∷ v.reads) r h))),
      );
    }
