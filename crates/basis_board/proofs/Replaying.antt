-- The notes of all passes, in the order of their numbers, are reads that places answer.
use Rattle.std.proofs.Common.{◌≡◌, ◌≢◌, ◌⊎◌, ℕ, zero, suc, ◌+◌, ◌<◌, ◌≤◌, List, [], ◌∷◌, ◌++◌, length, map, Some}
use Rattle.std.proofs.Common.{refl, sym, ap, ◌∙◌, subst, ⊎_elim, inl, inr, arith, Option}
use Rattle.std.specs.List.{AllByRecursion, Contains}
use Rattle.std.proofs.lemmas.Bool.{cases_eq, cases_lt}
use Rattle.std.proofs.lemmas.List.{length_push}
use Rattle.std.proofs.lemmas.List.Elements.{All-contains, All-from_recursion, Contains-append_left}
use Rattle.std.proofs.lemmas.List.Elements.{Contains-append_right}
use Rattle.spec_board.specs.declared.place.Place.TheVariants as place
use Rattle.spec_board.specs.declared.read.Read.TheVariants as read
use Rattle.spec_board.specs.Reads.{ExactRead}
use Rattle.spec_board.specs.Places.{ExactPlace, place_at, with_place, Answers, Plays}
use Rattle.spec_board.specs.Orders.{InPairs, published_by, published_in, IsBacked, AreBacked}
use Rattle.spec_board.proofs.SharedPlaces.{place_more, place_last, place_before, length_with, with_same, with_other}
use Rattle.basis_board.specs.declared.seats.RawRead.{RawRead}
use Rattle.basis_board.specs.declared.seats.RawRead.TheVariants.{Count, Open, See, Claim, Lost, Done}
use Rattle.basis_board.specs.Board.{Has, count, done}
use Rattle.basis_board.specs.Moments.{Turns, IsTrueOf, IsLike}
use Rattle.basis_board.specs.PassReads.{exact_read}
use Rattle.basis_board.proofs.Merging.{Mark, logged_of, CountsUp}

-- ---- a place is published with one list of words

-- a place that a read says is published is among the places published in the reads
published_of : (rs : List ExactRead) (k : ℕ) (words : List ℕ) → Contains rs (read.Done k words) →
    Contains (published_in rs) k
published_of [] k words (i, l, e) = absurd (omega arith)
published_of (r ∷ rs) k words (zero, l, e) =
    subst (λ q. Contains (published_by q ++ published_in rs) k) (sym e)
    (Contains-append_left (k ∷ []) (published_in rs) k (zero, omega arith, refl))
published_of (r ∷ rs) k words (suc i, l, e) =
    Contains-append_right (published_by r) (published_in rs) k (published_of rs k words (i, omega arith, e))

-- where no two of two lists together are equal, no two of the second are
pairs_rest : (xs ys : List ℕ) → InPairs (λ (j k : ℕ). j ≡ k → ⊥) (xs ++ ys) → InPairs (λ (j k : ℕ). j ≡ k → ⊥) ys
pairs_rest [] ys h = h
pairs_rest (x ∷ xs) ys h = pairs_rest xs ys h.1

-- where no place is published twice, a place that the first read publishes is published by no later one
not_again : (r : ExactRead) (rs : List ExactRead) (k : ℕ) (words other : List ℕ) →
    InPairs (λ (i j : ℕ). i ≡ j → ⊥) (published_in (r ∷ rs)) → r ≡ read.Done k words →
    Contains rs (read.Done k other) → ⊥
not_again r rs k words other once e c =
    let first : InPairs (λ (i j : ℕ). i ≡ j → ⊥) (k ∷ published_in rs) =
    subst (λ q. InPairs (λ (i j : ℕ). i ≡ j → ⊥) (published_by q ++ published_in rs)) e once in
    All-contains (λ (j : ℕ). k ≡ j → ⊥) (published_in rs) k
    (All-from_recursion (λ (j : ℕ). k ≡ j → ⊥) (published_in rs) first.0) (published_of rs k other c) refl

-- where no place is published twice, two publications of a place have the same words
done_alike : (rs : List ExactRead) → InPairs (λ (j k : ℕ). j ≡ k → ⊥) (published_in rs) → (k : ℕ) (a b : List ℕ) →
    Contains rs (read.Done k a) → Contains rs (read.Done k b) → a ≡ b
done_alike [] once k a b (i, l, e) c = absurd (omega arith)
done_alike (r ∷ rs) once k a b (zero, l, e) (zero, m, f) =
    let z : ◌≡◌ {A = ExactRead} (read.Done k a) (read.Done k b) = sym e ∙ f in cc
done_alike (r ∷ rs) once k a b (zero, l, e) (suc j, m, f) =
    absurd (not_again r rs k a b once e (j, omega arith, f))
done_alike (r ∷ rs) once k a b (suc i, l, e) (zero, m, f) =
    absurd (not_again r rs k b a once f (i, omega arith, e))
done_alike (r ∷ rs) once k a b (suc i, l, e) (suc j, m, f) =
    done_alike rs (pairs_rest (published_by r) (published_in rs) once) k a b (i, omega arith, e) (j, omega arith, f)

-- ---- the places as they are after some of the notes

-- What the read of note x rests on: a place read as not done is below the count of its words, a claim is of one of
-- `places` places, and a publication of place k has a claim of k by the same session before it, in `all`. Of each other
-- read nothing is asked.
abbrev pub IsFounded : ℕ → List Mark → Mark → RawRead → Type 0
IsFounded places all x (Open k) = k < count x.words
IsFounded places all x (Claim k) = k < places
IsFounded places all x (Done k words) =
    (y : Mark) × Has all y × (y.session ≡ x.session) × (y.read ≡ Claim k) × (y.number < x.number)
IsFounded places all x other = Unit {0}

module _ (places : ℕ) (rs : List ExactRead) (backed : AreBacked rs) (all : List Mark) where
  -- place k of these places is done, with some words
  abbrev IsDoneAt : List ExactPlace → ℕ → Type 0
  IsDoneAt now k = (words : List ℕ) × (place_at now k ≡ Some (place.Done words))

  -- the places `now` stand as the words ws have it, after the notes `made`: as many are claimed, and the same ones are
  -- done, with words published in rs
  record Stands (ws : List ℕ) (now : List ExactPlace) (made : List Mark) : Type 0 where
    long : length now ≡ count ws
    is_done : (k : ℕ) → done ws k ≡ 1 →
        (words : List ℕ) × (place_at now k ≡ Some (place.Done words)) × Contains rs (read.Done k words)
    undone : (k : ℕ) → done ws k ≡ 0 → k < length now →
        (owner : ℕ) × (place_at now k ≡ Some (place.Claimed owner))
    so_done : (k : ℕ) (words : List ℕ) → place_at now k ≡ Some (place.Done words) → done ws k ≡ 1
    claimed : (y : Mark) → Has made y → (k : ℕ) → y.read ≡ Claim k →
        (place_at now k ≡ Some (place.Claimed y.session)) ⊎ IsDoneAt now k

  -- the places `now` answer the read r of note x, and then stand as the words of x have it
  record Stepped (x : Mark) (r : RawRead) (now : List ExactPlace) (made : List Mark) : Type 0 where
    next : List ExactPlace
    answers : Answers places now x.session (exact_read r) next
    stands : Stands x.words next (x ∷ made)

  module _ (ws : List ℕ) (now : List ExactPlace) (made : List Mark) (x : Mark) (s : Stands ws now made) where
    -- where note x is no claim, and leaves the words alike, the places still stand as its words have it
    stays : IsLike ws x.words → ((k : ℕ) → x.read ≡ Claim k → ⊥) → Stands x.words now (x ∷ made)
    stays like other = record {
      long = s.long ∙ sym like.counted;
      is_done = λ k d. s.is_done k (sym (like.dones k) ∙ d);
      undone = λ k d l. s.undone k (sym (like.dones k) ∙ d) l;
      so_done = λ k words at. like.dones k ∙ s.so_done k words at;
      claimed = λ y h k c. ⊎_elim (λ (e : x ≡ y). absurd (other k (ap (λ (z : Mark). z.read) e ∙ c)))
          (λ (m : Has made y). s.claimed y m k c) h;
    }

    -- where the words spell the places, and are like those of a note, the count of these is the number of places
    by_count : (c : ℕ) → IsLike ws x.words → count x.words ≡ c → c ≡ length now
    by_count c like so = sym so ∙ like.counted ∙ sym s.long

    -- where place k is done, a read of words of it that is among the backed ones is answered, and the places stay
    by_seen : (k : ℕ) (words : List ℕ) → IsLike ws x.words → done x.words k ≡ 1 →
        Contains rs (read.Seen k words) → Answers places now x.session (read.Seen k words) now
    by_seen k words like so there =
        let d = s.is_done k (sym (like.dones k) ∙ so) in
        let b : IsBacked rs backed.claimed (read.Seen k words) =
        All-contains (IsBacked rs backed.claimed) rs (read.Seen k words)
        (All-from_recursion (IsBacked rs backed.claimed) rs backed.backed) there in
        let same : d.0 ≡ b.0 = done_alike rs backed.once k d.0 b.0 d.2 b.1 in
        (b.0, d.1 ∙ ap (λ ws. Some (place.Done ws)) same, b.2, refl)

    -- the claim of place k, below the number of places, takes the places and the words one note further
    by_claim : (k : ℕ) → x.read ≡ Claim k → Turns (Claim k) ws x.words → k < places → Stepped x (Claim k) now made
    by_claim k is t room =
        let new : ExactPlace = place.Claimed x.session in
        let one_more : length (now ++ new ∷ []) ≡ length now + 1 = length_push now new in
        let here : k ≡ length now = sym t.before ∙ sym s.long in
        let old = s.long in let was = t.before in let is_now = t.after in
        record {
          next = now ++ new ∷ [];
          answers = (here, room, refl);
          stands = record {
            long = omega arith;
            is_done = λ j d. (let q = s.is_done j (sym (t.dones j) ∙ d) in
                (q.0, place_more now j (place.Done q.0) new q.1, q.2));
            undone = λ j d l. ⊎_elim
                (λ (b : j < length now). let q = s.undone j (sym (t.dones j) ∙ d) b in
                (q.0, place_more now j (place.Claimed q.0) new q.1))
                (λ (b : length now ≤ j). let e : length now ≡ j = omega arith in
                (x.session, subst (λ i. place_at (now ++ new ∷ []) i ≡ Some new) e (place_last now new)))
                (cases_lt j (length now));
            so_done = λ j words at. ⊎_elim
                (λ (e : place_at now j ≡ Some (place.Done words)). t.dones j ∙ s.so_done j words e)
                (λ (e : place.Done words ≡ new). absurd (cc)) (place_before now j (place.Done words) new at);
            claimed = λ y h j c. ⊎_elim
                (λ (e : x ≡ y).
                let same : ◌≡◌ {A = RawRead} (Claim k) (Claim j) = sym is ∙ ap (λ (z : Mark). z.read) e ∙ c in
                let place_is : length now ≡ j = (let z : k ≡ j = cc in omega arith) in
                inl (subst (λ (z : Mark). place_at (now ++ new ∷ []) j ≡ Some (place.Claimed z.session)) e
                (subst (λ i. place_at (now ++ new ∷ []) i ≡ Some new) place_is (place_last now new))))
                (λ (m : Has made y). ⊎_elim
                (λ (a : place_at now j ≡ Some (place.Claimed y.session)).
                inl (place_more now j (place.Claimed y.session) new a))
                (λ (a : IsDoneAt now j). inr (a.0, place_more now j (place.Done a.0) new a.1))
                (s.claimed y m j c)) h;
          };
        }

    -- the publication of place k, which the session has claimed, takes the places and the words one note further
    by_done : (k : ℕ) (words : List ℕ) → x.read ≡ Done k words → Turns (Done k words) ws x.words →
        Contains rs (read.Done k words) → place_at now k ≡ Some (place.Claimed x.session) →
        Stepped x (Done k words) now made
    by_done k words is t there mine =
        let new : ExactPlace = place.Done words in
        let same_long : length (with_place now k new) ≡ length now = length_with now k new in
        let after : place_at (with_place now k new) k ≡ Some new =
        with_same now k (place.Claimed x.session) new mine in
        let apart : (j : ℕ) → (j ≡ k → ⊥) → place_at (with_place now k new) j ≡ place_at now j =
        λ j n. with_other now k j new (λ e. n (sym e)) in
        record {
          next = with_place now k new;
          answers = (mine, refl);
          stands = record {
            long = same_long ∙ s.long ∙ sym t.counted;
            is_done = λ j d. ⊎_elim
                (λ (e : j ≡ k). (
                  words,
                  ap (place_at (with_place now k new)) e ∙ after,
                  subst (λ i. Contains rs (read.Done i words)) (sym e) there,
                ))
                (λ (n : j ≡ k → ⊥). let q = s.is_done j (sym (t.others j n) ∙ d) in
                (q.0, apart j n ∙ q.1, q.2)) (cases_eq j k);
            undone = λ j d l. ⊎_elim
                (λ (e : j ≡ k). let one = ap (done x.words) e ∙ t.after in absurd (omega arith))
                (λ (n : j ≡ k → ⊥). let q = s.undone j (sym (t.others j n) ∙ d) (omega arith) in
                (q.0, apart j n ∙ q.1)) (cases_eq j k);
            so_done = λ j others at. ⊎_elim
                (λ (e : j ≡ k). ap (done x.words) e ∙ t.after)
                (λ (n : j ≡ k → ⊥). t.others j n ∙ s.so_done j others (sym (apart j n) ∙ at)) (cases_eq j k);
            claimed = λ y h j c. ⊎_elim
                (λ (e : x ≡ y).
                let same : ◌≡◌ {A = RawRead} (Done k words) (Claim j) = sym is ∙ ap (λ (z : Mark). z.read) e ∙ c in
                absurd (cc))
                (λ (m : Has made y). ⊎_elim
                (λ (e : j ≡ k). inr (words, ap (place_at (with_place now k new)) e ∙ after))
                (λ (n : j ≡ k → ⊥). ⊎_elim
                (λ (a : place_at now j ≡ Some (place.Claimed y.session)). inl (apart j n ∙ a))
                (λ (a : IsDoneAt now j). inr (a.0, apart j n ∙ a.1))
                (s.claimed y m j c)) (cases_eq j k)) h;
          };
        }

    -- a note whose read is no claim claims no place
    not_claim : (r : RawRead) → x.read ≡ r → ((k : ℕ) → r ≡ Claim k → ⊥) → (k : ℕ) → x.read ≡ Claim k → ⊥
    not_claim r is n k c = n k (sym is ∙ c)

    -- where every note with an earlier number has been made, the places answer note x, and then stand as its words
    -- have it
    stepped : (r : RawRead) → x.read ≡ r → Turns r ws x.words → IsTrueOf x.words r → IsFounded places all x r →
        Contains rs (exact_read r) → ((y : Mark) → Has all y → y.number < x.number → Has made y) →
        Stepped x r now made
    stepped (Count c) is t so f there before = record {
      next = now;
      answers = (by_count c t so, refl);
      stands = stays t (not_claim (Count c) is (λ k e. cc));
    }
    stepped (Lost c) is t so f there before = record {
      next = now;
      answers = (by_count c t so, refl);
      stands = stays t (not_claim (Lost c) is (λ k e. cc));
    }
    stepped (Open k) is t so f there before =
        let below : k < length now = (let l : k < count x.words = f in
        let a = t.counted in let b = s.long in omega arith) in
        let q = s.undone k (sym (t.dones k) ∙ so) below in record {
          next = now;
          answers = (q.0, q.1, refl);
          stands = stays t (not_claim (Open k) is (λ j e. cc));
        }
    stepped (See k words) is t so f there before = record {
      next = now;
      answers = by_seen k words t so there;
      stands = stays t (not_claim (See k words) is (λ j e. cc));
    }
    stepped (Claim k) is t so f there before = by_claim k is t f
    stepped (Done k words) is t so f there before =
        by_done k words is t there
        (⊎_elim
        (λ (a : place_at now k ≡ Some (place.Claimed f.0.session)).
        subst (λ (i : ℕ). place_at now k ≡ Some (place.Claimed i)) f.2 a)
        (λ (a : IsDoneAt now k). let one = s.so_done k a.0 a.1 in let none = t.before in absurd (omega arith))
        (s.claimed f.0 (before f.0 f.1 f.4) k f.3))

  -- ---- all notes

  module _ (first : (x : Mark) → Has all x → x.number ≡ 0 → Turns x.read [] x.words)
      (next : (x y : Mark) → Has all x → Has all y → y.number ≡ x.number + 1 → Turns y.read x.words y.words)
      (so : (x : Mark) → Has all x → IsTrueOf x.words x.read)
      (founded : (x : Mark) → Has all x → IsFounded places all x x.read)
      (there : (x : Mark) → Has all x → Contains rs (exact_read x.read)) where
    -- these words are those after the last note, whose number is one less; before the first note there is none
    abbrev IsLast : ℕ → List ℕ → Type 0
    IsLast t ws = ((t ≡ 0) × (ws ≡ [])) ⊎ ((y : Mark) × Has all y × (t ≡ y.number + 1) × (ws ≡ y.words))

    -- each note turns the words of the one before into its own
    turned : (t : ℕ) (ws : List ℕ) (x : Mark) → IsLast t ws → Has all x → x.number ≡ t → Turns x.read ws x.words
    turned t ws x (inl e) here is = subst (λ us. Turns x.read us x.words) (sym e.1) (first x here (is ∙ e.0))
    turned t ws x (inr e) here is =
        subst (λ us. Turns x.read us x.words) (sym e.3) (next e.0 x e.1 here (is ∙ e.2))

    -- in a list that counts up from t, each number is t or more
    later_number : (t : ℕ) (xs : List Mark) → CountsUp t xs → (y : Mark) → Has xs y → t ≤ y.number
    later_number t [] c y h = absurd h
    later_number t (x ∷ xs) c y h =
        let is = c.0 in
        ⊎_elim (λ (e : x ≡ y). let n : x.number ≡ y.number = ap (λ (z : Mark). z.number) e in omega arith)
        (λ (m : Has xs y). let l = later_number (t + 1) xs c.1 y m in omega arith) h

    -- where the notes up to t have been answered, the places answer the rest, in their order
    replay : (t : ℕ) (xs : List Mark) (ws : List ℕ) (now : List ExactPlace) (made : List Mark) → CountsUp t xs →
        ((y : Mark) → Has xs y → Has all y) → ((y : Mark) → Has all y → Has made y ⊎ Has xs y) → IsLast t ws →
        Stands ws now made → (last : List ExactPlace) × Plays places now (map logged_of xs) last
    replay t [] ws now made c inside covered is s = (now, refl)
    replay t (x ∷ xs) ws now made c inside covered is s =
        let here : Has all x = inside x (inl refl) in
        let number = c.0 in
        let step : Stepped x x.read now made =
        stepped ws now made x s x.read refl (turned t ws x is here number) (so x here) (founded x here) (there x here)
        (λ y h l. ⊎_elim (λ (m : Has made y). m)
        (λ (m : Has (x ∷ xs) y). let n = later_number t (x ∷ xs) c y m in absurd (omega arith)) (covered y h)) in
        let on = replay (t + 1) xs x.words step.next (x ∷ made) c.1 (λ y h. inside y (inr h))
        (λ y h. ⊎_elim (λ (m : Has made y). inl (inr m))
        (λ (m : Has (x ∷ xs) y). ⊎_elim (λ (e : x ≡ y). inl (inl e)) (λ (q : Has xs y). inr q) m) (covered y h))
        (inr (x, here, ap (λ n. n + 1) (sym number), refl)) step.stands in
        (on.0, (step.next, step.answers, on.1))

    -- where notes are numbered from 0 without a gap, each turns the words of the one before into its own, and each is
    -- founded, places answer all of them in this order
    pub replayed : CountsUp 0 all → (last : List ExactPlace) × Plays places [] (map logged_of all) last
    replayed c =
        replay 0 all [] [] [] c (λ y h. h) (λ y h. inr h) (inl (refl, refl)) (record {
          long = refl;
          is_done = λ k d. absurd (omega arith);
          undone = λ k d l. absurd (omega arith);
          so_done = λ k words at. cc;
          claimed = λ y h k c. absurd h;
        })
