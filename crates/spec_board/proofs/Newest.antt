-- Where a place is done with the shape of a look when this begins, it finds that place or a newer one.
use Rattle.std.proofs.Common.{◌≡◌, ℕ, zero, suc, ◌<◌, ◌≤◌, Bool, true, false, List, [], ◌∷◌, ◌++◌, length, take, Option}
use Rattle.std.proofs.Common.{Some, nat_eq, eqb-true, cond, refl, sym, ap, ◌∙◌, subst, ⊎_elim, inl, inr, arith}
use Rattle.std.proofs.lemmas.Bool.{cases_eq}
use Rattle.spec_board.specs.declared.place.Place.TheVariants as place
use Rattle.spec_board.specs.declared.read.Read.TheVariants.{Count, NotDone, Seen, Claim, Lost, Done}
use Rattle.spec_board.specs.Reads.{Words, ExactRead, Looked, front, has_shape, SeenBy, SeesDown, LookReads}
use Rattle.spec_board.specs.Places.{ExactPlace, place_at, IsShown, Answers, Logged, reads_in, Plays}
use Rattle.spec_board.proofs.SharedPlaces.{some_same, place_below, answers_keep}
use Rattle.spec_text.specs.Words.{same}
use Rattle.spec_board.specs.Newest.{FindsFrom}

-- ---- words in front

-- the front of the front of some words is their front
front_twice : (words : Words) → front (front words) ≡ front words
front_twice words = take_twice 25 words
  where
    take_twice : (n : ℕ) (xs : List ℕ) → take n (take n xs) ≡ take n xs
    take_twice zero xs = refl
    take_twice (suc n) [] = refl
    take_twice (suc n) (x ∷ xs) = ap (λ ys. x ∷ ys) (take_twice n xs)

-- where words are shown of a payload, they have a shape exactly where the payload has it
shown_shape : (shape payload words : Words) → IsShown payload words → has_shape shape words ≡ has_shape shape payload
shown_shape shape payload words (inl e) = ap (has_shape shape) e
shown_shape shape payload words (inr e) =
    ap (λ ws. same (front ws) shape) e ∙ ap (λ ws. same ws shape) (front_twice payload)

-- no place is both done and claimed
not_both : (words : Words) (owner : ℕ) →
    ◌≡◌ {A = Option ExactPlace} (Some (place.Done words)) (Some (place.Claimed owner)) → ⊥
not_both words owner e = cc

-- a place that is done with a and with b has the same words a and b
done_same : (a b : Words) → ◌≡◌ {A = Option ExactPlace} (Some (place.Done a)) (Some (place.Done b)) → a ≡ b
done_same a b e =
    let z : ◌≡◌ {A = ExactPlace} (place.Done a) (place.Done b) = some_same (place.Done a) (place.Done b) e in cc

-- ---- one read after the other

module _ (places session : ℕ) (shape : Words) (k : ℕ) (words : Words) (shaped : has_shape shape words ≡ true) where
  -- among the claimed places `now`, place k is done with these words, which have the shape
  abbrev IsDone : List ExactPlace → Type 0
  IsDone now = place_at now k ≡ Some (place.Done words)

  -- after any session's read, place k is still done with these words
  stays_done : (now next : List ExactPlace) (x : Logged) → Answers places now x.session x.read next → IsDone now →
      IsDone next
  stays_done now next x a done = answers_keep places x.session now next x.read k (place.Done words) a (λ e. cc) done

  -- While place k is done with the shape, a look that sees place j done, with k at most j, finds place k or a newer
  -- one, if it does so from the places below j.
  by_seen : (j : ℕ) (seen : Words) (reads : List ExactRead) (found : Looked) (now next : List ExactPlace) (t : Bool) →
      has_shape shape seen ≡ t → k ≤ j → Answers places now session (Seen j seen) next → IsDone now →
      (k < j → SeesDown shape j reads found → FindsFrom k found) →
      SeenBy t j seen reads found (SeesDown shape j reads found) → FindsFrom k found
  by_seen j seen reads found now next true is l a done more s = (record { place = j; words = seen }, s.2, l)
  by_seen j seen reads found now next false is l a done more s =
      ⊎_elim
      (λ (e : k ≡ j).
      let payload : words ≡ a.0 =
      done_same words a.0 (sym done ∙ ap (place_at now) e ∙ a.1) in
      let z : true ≡ false =
      sym shaped ∙ ap (has_shape shape) payload ∙ sym (shown_shape shape a.0 seen a.2) ∙ is in cc)
      (λ (n : k ≡ j → ⊥). more (omega arith) s.1) (cases_eq k j)

  -- While place k is done with the shape, a look whose next read is that of place j, with k at most j, finds place k or
  -- a newer one, if it does so from the places below j.
  by_read : (r : ExactRead) (j : ℕ) (reads : List ExactRead) (found : Looked) (now next : List ExactPlace) → k < suc j →
      Answers places now session r next → IsDone now →
      (k < j → SeesDown shape j reads found → FindsFrom k found) → SeesDown shape (suc j) (r ∷ reads) found →
      FindsFrom k found
  by_read (NotDone i) j reads found now next l a done more s =
      ⊎_elim
      (λ (e : k ≡ i). absurd (not_both words a.0 (sym done ∙ ap (place_at now) e ∙ a.1)))
      (λ (n : k ≡ i → ⊥). let same : i ≡ j = s.0 in more (omega arith) s.1) (cases_eq k i)
  by_read (Seen i seen) j reads found now next l a done more s =
      by_seen j seen reads found now next (has_shape shape seen) refl (omega arith)
      (subst (λ n. Answers places now session (Seen n seen) next) s.0 a) done more s.1
  by_read (Count c) j reads found now next l a done more s = absurd s
  by_read (Claim i) j reads found now next l a done more s = absurd s
  by_read (Lost c) j reads found now next l a done more s = absurd s
  by_read (Done i done_words) j reads found now next l a done more s = absurd s

  -- while place k is done with the shape, a look that still has the places below c to see, k among them, finds place k
  -- or a newer one
  comes_down : (log : List Logged) (now last : List ExactPlace) (c : ℕ) (seen : List ExactRead) (found : Looked) →
      Plays places now log last → IsDone now → k < c → seen ≡ reads_in session log → SeesDown shape c seen found →
      FindsFrom k found
  comes_down log now last zero seen found p done l are s = absurd (omega arith)
  comes_down [] now last (suc j) seen found p done l are s =
      absurd (let q : SeesDown shape (suc j) [] found = subst (λ rs. SeesDown shape (suc j) rs found) are s in q)
  comes_down (x ∷ log) now last (suc j) seen found p done l are s =
      by (nat_eq x.session session) refl (stays_done now p.0 x p.1 done)
      (λ c more reads next lower same down. comes_down log p.0 last c reads found p.2 next lower same down)
    where
      by : (t : Bool) → nat_eq x.session session ≡ t → IsDone p.0 →
          ((c : ℕ) → Unit {0} → (reads : List ExactRead) → IsDone p.0 → k < c → reads ≡ reads_in session log →
          SeesDown shape c reads found → FindsFrom k found) → FindsFrom k found
      by true e next more =
          let is : seen ≡ x.read ∷ reads_in session log =
          are ∙ ap (λ b. cond b (x.read ∷ []) [] ++ reads_in session log) e in
          by_read x.read j (reads_in session log) found now p.0 l
          (subst (λ n. Answers places now n x.read p.0) (eqb-true x.session session e) p.1) done
          (λ lower down. more j tt (reads_in session log) next lower refl down)
          (subst (λ rs. SeesDown shape (suc j) rs found) is s)
      by false e next more =
          more (suc j) tt seen next l (are ∙ ap (λ b. cond b (x.read ∷ []) [] ++ reads_in session log) e) s

  -- a session's look that begins while place k is done with words of the shape finds place k or a newer one
  pub finds : (log : List Logged) (now last : List ExactPlace) (found : Looked) → Plays places now log last →
      IsDone now → LookReads shape (reads_in session log) found → FindsFrom k found
  finds [] now last found p done look =
      absurd (let z : ◌≡◌ {A = List ExactRead} [] (Count look.count ∷ look.seen) = look.all in cc)
  finds (x ∷ log) now last found p done look =
      by (nat_eq x.session session) refl look (finds log p.0 last found p.2 (stays_done now p.0 x p.1 done))
    where
      by : (t : Bool) → nat_eq x.session session ≡ t →
          LookReads shape (cond t (x.read ∷ []) [] ++ reads_in session log) found →
          (LookReads shape (reads_in session log) found → FindsFrom k found) → FindsFrom k found
      by true e its more =
          let all : x.read ∷ reads_in session log ≡ Count its.count ∷ its.seen = its.all in
          let first : x.read ≡ Count its.count = cc in
          let rest : its.seen ≡ reads_in session log = cc in
          let a : Answers places now x.session (Count its.count) p.0 =
          subst (λ r. Answers places now x.session r p.0) first p.1 in
          let below = place_below now k (place.Done words) done in
          let count : its.count ≡ length now = a.0 in
          comes_down log p.0 last its.count its.seen found p.2 (stays_done now p.0 x p.1 done) (omega arith) rest
          its.down
      by false e its more = more its
