-- What reads and writes leave of the places.
--
-- `place_some`: each number below that of the claimed places has a place.
-- `logged-append`: the log of two lists of reads of a session is that of the first and then that of the second.
-- `plays_keep_done`: a place that is done stays so, with its words, over all reads that the places answer.
-- `Plays-split`: where the places answer two lists of reads in order, they answer the first, and then the second.
use Rattle.std.proofs.Common.{◌≡◌, ℕ, zero, suc, ◌<◌, ◌≤◌, Bool, true, false, List, [], ◌∷◌, ◌++◌, length}
use Rattle.std.proofs.Common.{Some, refl, sym, ap, ◌∙◌, subst, ◌⊎◌, inl, inr, nat_eq, eqb-true, ◌+◌, arith}
use Rattle.std.proofs.lemmas.Bool.{eqb-false}
use Rattle.std.proofs.lemmas.List.{length_push, map-append}
use Rattle.spec_board.specs.declared.place.Place.TheVariants.{Claimed, Done}
use Rattle.spec_board.specs.declared.read.Read.TheVariants as read
use Rattle.spec_board.specs.Reads.{ExactRead}
use Rattle.spec_board.specs.Places.{ExactPlace, place_at, with_place, Answers, Logged, logged, Plays}
use Rattle.spec_board.proofs.SharedPlaces.{some_same, place_before, length_with, with_same, with_other, answers_keep}
pub use Rattle.spec_server.proofs.RunLemmas.{Plays-append}

-- ---- one more place

pub place_some : (ps : List ExactPlace) (k : ℕ) → k < length ps → (p : ExactPlace) × (place_at ps k ≡ Some p)
place_some [] k h = absurd (omega arith)
place_some (p ∷ ps) zero h = (p, refl)
place_some (p ∷ ps) (suc k) h = place_some ps k (omega arith)

-- ---- reads

module _ (places : ℕ) (session : ℕ) where
  -- a read that the places answer leaves at least as many claimed as before
  pub answers_grow : (now next : List ExactPlace) (r : ExactRead) → Answers places now session r next →
      length now ≤ length next
  answers_grow now next (read.Count c) a = let e : length next ≡ length now = ap length a.1 in omega arith
  answers_grow now next (read.NotDone j) a = let e : length next ≡ length now = ap length a.2 in omega arith
  answers_grow now next (read.Seen j words) a = let e : length next ≡ length now = ap length a.3 in omega arith
  answers_grow now next (read.Claim j) a = let e : length next ≡ length now + 1 =
      ap length a.2 ∙ length_push now (Claimed session) in omega arith
  answers_grow now next (read.Lost c) a = let e : length next ≡ length now = ap length a.1 in omega arith
  answers_grow now next (read.Done j words) a = let e : length next ≡ length now =
      ap length a.1 ∙ length_with now j (Done words) in omega arith

  -- a read that the places answer leaves at most all claimed, if at most all were claimed before
  pub answers_bounded : (now next : List ExactPlace) (r : ExactRead) → Answers places now session r next →
      length now ≤ places → length next ≤ places
  answers_bounded now next (read.Count c) a h = let e : length next ≡ length now = ap length a.1 in omega arith
  answers_bounded now next (read.NotDone j) a h = let e : length next ≡ length now = ap length a.2 in omega arith
  answers_bounded now next (read.Seen j words) a h = let e : length next ≡ length now = ap length a.3 in omega arith
  answers_bounded now next (read.Claim j) a h =
      let e : length next ≡ length now + 1 = ap length a.2 ∙ length_push now (Claimed session) in let f = a.0 in
      let g = a.1 in omega arith
  answers_bounded now next (read.Lost c) a h = let e : length next ≡ length now = ap length a.1 in omega arith
  answers_bounded now next (read.Done j words) a h = let e : length next ≡ length now =
      ap length a.1 ∙ length_with now j (Done words) in omega arith

  -- a place that is done after a read was done before with the same words, or the read published it
  pub answers_before : (now next : List ExactPlace) (r : ExactRead) (k : ℕ) (words : List ℕ) →
      Answers places now session r next → place_at next k ≡ Some (Done words) →
      (place_at now k ≡ Some (Done words)) ⊎ (r ≡ read.Done k words)
  answers_before now next (read.Count c) k words a h = inl (subst (λ ps. place_at ps k ≡ Some (Done words)) a.1 h)
  answers_before now next (read.NotDone j) k words a h = inl (subst (λ ps. place_at ps k ≡ Some (Done words)) a.2 h)
  answers_before now next (read.Seen j seen) k words a h = inl (subst (λ ps. place_at ps k ≡ Some (Done words)) a.3 h)
  answers_before now next (read.Claim j) k words a h =
      by (place_before now k (Done words) (Claimed session) (subst (λ ps. place_at ps k ≡ Some (Done words)) a.2 h))
    where
      by : (place_at now k ≡ Some (Done words)) ⊎ (Done words ≡ Claimed session) →
          (place_at now k ≡ Some (Done words)) ⊎ (read.Claim j ≡ read.Done k words)
      by (inl e) = inl e
      by (inr e) = cc
  answers_before now next (read.Lost c) k words a h = inl (subst (λ ps. place_at ps k ≡ Some (Done words)) a.1 h)
  answers_before now next (read.Done j done) k words a h = by (nat_eq j k) refl
    where
      after : place_at (with_place now j (Done done)) k ≡ Some (Done words)
      after = subst (λ ps. place_at ps k ≡ Some (Done words)) a.1 h

      by : (t : Bool) → nat_eq j k ≡ t → (place_at now k ≡ Some (Done words)) ⊎ (read.Done j done ≡ read.Done k words)
      by true e =
          let same : j ≡ k = eqb-true j k e in
          let there : place_at (with_place now j (Done done)) k ≡ Some (Done done) =
          subst (λ i. place_at (with_place now j (Done done)) i ≡ Some (Done done)) same
          (with_same now j (Claimed session) (Done done) a.0) in
          let words_same : ◌≡◌ {A = ExactPlace} (Done done) (Done words) =
          some_same (Done done) (Done words) (sym there ∙ after) in
          inr cc
      by false e = inl (sym (with_other now j k (Done done) (eqb-false j k e)) ∙ after)

-- ---- many of them

pub logged-append : (session : ℕ) (xs ys : List ExactRead) →
    logged session (xs ++ ys) ≡ logged session xs ++ logged session ys
logged-append session xs ys = map-append (λ (r : ExactRead). record { session = session; read = r }) xs ys

pub plays_keep_done : (places : ℕ) (now last : List ExactPlace) (log : List Logged) (k : ℕ) (words : List ℕ) →
    Plays places now log last → place_at now k ≡ Some (Done words) → place_at last k ≡ Some (Done words)
plays_keep_done places now last [] k words p h = subst (λ ps. place_at ps k ≡ Some (Done words)) (sym p) h
plays_keep_done places now last (x ∷ log) k words p h =
    plays_keep_done places p.0 last log k words p.2
    (answers_keep places x.session now p.0 x.read k (Done words) p.1 (λ e. cc) h)

pub Plays-split : (places : ℕ) (now last : List ExactPlace) (xs ys : List Logged) → Plays places now (xs ++ ys) last →
    (middle : List ExactPlace) × Plays places now xs middle × Plays places middle ys last
Plays-split places now last [] ys p = (now, refl, p)
Plays-split places now last (x ∷ xs) ys p = let r = Plays-split places p.0 last xs ys p.2 in (r.0, (p.0, p.1, r.1), r.2)
