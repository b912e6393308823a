-- What a whole pass read is backed.
use Rattle.std.proofs.Common.{◌≡◌, ◌⊎◌, ℕ, zero, suc, ◌<◌, ◌≤◌, List, [], ◌∷◌, ◌++◌, length, take, get_or}
use Rattle.std.proofs.Common.{refl, sym, ap, ◌∙◌, ⊎_elim, inl, inr, arith}
use Rattle.std.specs.List.{Contains, AllByRecursion}
use Rattle.std.proofs.lemmas.Bool.{cases_lt}
use Rattle.std.proofs.lemmas.Grind.{flat_map-append}
use Rattle.std.proofs.lemmas.List.{append-nil, same_lists, get_or_default, length-take, get_or-take}
use Rattle.std.proofs.lemmas.List.Elements.{All-contains, All-from_recursion}
use Rattle.std.proofs.lemmas.List.Elements.{Contains-append_right, Contains-append_cases}
use Rattle.spec_board.specs.declared.read.Read.TheVariants as read
use Rattle.spec_board.specs.Reads.{Words, ExactRead}
use Rattle.spec_board.specs.Places.{IsShown}
use Rattle.spec_board.specs.Orders.{published_by, published_in, IsBacked, AreBacked}
use Rattle.basis_board.specs.declared.seats.View.{View}
use Rattle.basis_board.specs.declared.seats.RawRead.{RawRead}
use Rattle.basis_board.specs.declared.seats.RawRead.TheVariants.{Count, Open, See, Claim, Lost, Done}
use Rattle.basis_board.specs.Board.{Each, Has, times, IsAtMost}
use Rattle.basis_board.specs.Rule.{Agree, published_places, StandsIn, ReadAgrees, Consistent, OwnsBelow}
use Rattle.basis_board.specs.Calls.{CountTells}
use Rattle.basis_board.proofs.Totals.{each_has}
use Rattle.basis_board.proofs.Looking.{each_both}
use Rattle.basis_board.specs.Orderly.{IsWhole}
use Rattle.basis_board.specs.PassReads.{exact_read, reads_of}
use Rattle.basis_board.proofs.ReadTying.{reads_more}
use Rattle.basis_board.proofs.Times.{times_contains, contains_times, times_once}
use Rattle.basis_board.proofs.Pushing.{in_turn, each_all, all_each}

-- ---- the published places

-- the places published in reads with one more are those before, and then that of the read
published_more : (r : RawRead) (reads : List RawRead) →
    published_in (in_turn (r ∷ reads)) ≡ published_in (in_turn reads) ++ published_by (exact_read r)
published_more r reads =
    ap published_in (reads_more (r ∷ []) reads)
    ∙ flat_map-append published_by (in_turn reads) (exact_read r ∷ [])
    ∙ ap (λ ks. published_in (in_turn reads) ++ ks) (append-nil (published_by (exact_read r)))

-- where a read publishes nothing, the places published with it are those published before
no_more : (r : RawRead) (reads : List RawRead) → published_by (exact_read r) ≡ [] →
    published_in (in_turn reads) ≡ published_places reads →
    published_in (in_turn (r ∷ reads)) ≡ published_places reads
no_more r reads none h =
    published_more r reads ∙ ap (λ ks. published_in (in_turn reads) ++ ks) none
    ∙ append-nil (published_in (in_turn reads)) ∙ h

-- the places published in reads put in order are the places of the publications
published_is : (reads : List RawRead) → published_in (in_turn reads) ≡ published_places reads
published_is [] = refl
published_is (Count c ∷ reads) = no_more (Count c) reads refl (published_is reads)
published_is (Open k ∷ reads) = no_more (Open k) reads refl (published_is reads)
published_is (See k words ∷ reads) = no_more (See k words) reads refl (published_is reads)
published_is (Claim k ∷ reads) = no_more (Claim k) reads refl (published_is reads)
published_is (Lost c ∷ reads) = no_more (Lost c) reads refl (published_is reads)
published_is (Done k words ∷ reads) =
    published_more (Done k words) reads ∙ ap (λ ks. ks ++ k ∷ []) (published_is reads)

-- the words of a published place

-- the first element of a list is in the list
here : (r q : ExactRead) (rs : List ExactRead) → r ≡ q → Contains (r ∷ rs) q
here r q rs e = (zero, omega arith, e)

-- what is in a list of one element is this element
alone : (j k : ℕ) → Contains (j ∷ []) k → j ≡ k
alone j k (zero, l, e) = e
alone j k (suc i, l, e) = absurd (omega arith)

-- nothing is in the empty list
nowhere : (k : ℕ) → Contains [] k → ⊥
nowhere k (i, l, e) = omega arith

-- a read that publishes a place is a publication of this place
by_one : (r : ExactRead) (k : ℕ) → Contains (published_by r) k → (payload : Words) × (r ≡ read.Done k payload)
by_one (read.Done j words) k h = (words, ap (λ i. read.Done i words) (alone j k h))
by_one (read.Count c) k h = absurd (nowhere k h)
by_one (read.NotDone j) k h = absurd (nowhere k h)
by_one (read.Seen j words) k h = absurd (nowhere k h)
by_one (read.Claim j) k h = absurd (nowhere k h)
by_one (read.Lost c) k h = absurd (nowhere k h)

-- a place published in reads is the place of one publication among the reads
published_with : (rs : List ExactRead) (k : ℕ) → Contains (published_in rs) k →
    (payload : Words) × Contains rs (read.Done k payload)
published_with [] k h = absurd (nowhere k h)
published_with (r ∷ rs) k h = ⊎_elim
    (λ (first : Contains (published_by r) k). let f = by_one r k first in
    (f.0, here r (read.Done k f.0) rs f.1))
    (λ (later : Contains (published_in rs) k). let f = published_with rs k later in
    (f.0, Contains-append_right (r ∷ []) rs (read.Done k f.0) f.1))
    (Contains-append_cases (published_by r) (published_in rs) k h)

-- ---- what was written, beside what was seen

-- if the read is a publication, its words agree with all words that were seen of its place, at least as many of which
-- were seen in one entry; of other reads nothing is asked
abbrev IsKept : List (ℕ × List ℕ) → ExactRead → Type 0
IsKept seen (read.Done k payload) =
    (words : List ℕ) × Has seen (k, words) × (length payload ≤ length words) × Each (Agree (k, payload)) seen
IsKept seen other = Unit {0}

-- a read whose words were seen, and agree with all that was seen of its place, has what `IsKept` asks
done_kept : (seen : List (ℕ × List ℕ)) (r : RawRead) → StandsIn seen r → ReadAgrees seen r → IsKept seen (exact_read r)
done_kept seen (Count c) s a = tt
done_kept seen (Open k) s a = tt
done_kept seen (See k words) s a = tt
done_kept seen (Claim k) s a = tt
done_kept seen (Lost c) s a = tt
done_kept seen (Done k words) s a = (s.0, s.1, s.2, a)

-- 25 or 49 words that are the same as a place's 49 words, up to their end, are what may be seen of the place
shown_of : (payload words : List ℕ) → length payload ≡ 49 →
    ((i : ℕ) → i < length words → i < length payload → get_or words i 0 ≡ get_or payload i 0) →
    (length words ≡ 49) ⊎ (length words ≡ 25) → IsShown payload words
shown_of payload words long agree (inl size) =
    inl (same_lists words payload (size ∙ sym long) (λ i d l. let m : i < length payload = omega arith in
    get_or_default words i d 0 l ∙ agree i l m ∙ sym (get_or_default payload i d 0 m)))
shown_of payload words long agree (inr size) =
    let front : length (take 25 payload) ≡ 25 = omega (arith, length-take 25 payload) in
    inr (same_lists words (take 25 payload) (size ∙ sym front) (λ i d l. let m : i < length payload = omega arith in
    let early : i < 25 = omega arith in
    get_or_default words i d 0 l ∙ agree i l m ∙ sym (get_or_default payload i d 0 m)
    ∙ sym (get_or-take 25 payload i d early)))

-- ---- all reads

module _ (v : View) (n : ℕ) (now : Consistent v) (owns : OwnsBelow v n) (tells : CountTells v n)
    (whole : AllByRecursion IsWhole (reads_of v)) where
  -- the places that a consistent pass published are those in its reads, in order
  published_own : v.own ≡ published_in (reads_of v)
  published_own = now.neat.published ∙ sym (published_is v.reads)

  -- a whole pass published each place as often as it owns it
  as_often : (k : ℕ) → times k (published_in (reads_of v)) ≡ times k v.own
  as_often k = ap (times k) (sym published_own)

  -- each place below n is published in the reads of a whole pass
  published_below : (k : ℕ) → k < n → Contains (published_in (reads_of v)) k
  published_below k l = times_contains k (published_in (reads_of v))
      (let same = as_often k in let one = (owns k).0 l in omega arith)

  -- each place that a whole pass published is below n
  below_published : (k : ℕ) → Contains (published_in (reads_of v)) k → k < n
  below_published k c = ⊎_elim (λ (l : k < n). l)
      (λ (l : n ≤ k). absurd (let some_time = contains_times k (published_in (reads_of v)) c in
      let same = as_often k in let none = (owns k).1 l in omega arith))
      (cases_lt k n)

  -- each publication of a consistent pass has words that agree with what the pass has seen, and were all seen
  kept : AllByRecursion (IsKept v.seen) (reads_of v)
  kept = each_all (IsKept v.seen) v.reads
      (each_both (StandsIn v.seen) (ReadAgrees v.seen) (λ r. IsKept v.seen (exact_read r)) (done_kept v.seen) v.reads
      now.neat.stands now.reads_agree)

  -- what holds of each read of the pass holds of a read that is among them
  of_all : (P : ExactRead → Type 0) (r : ExactRead) → AllByRecursion P (reads_of v) → Contains (reads_of v) r → P r
  of_all P r h there = All-contains P (reads_of v) r (All-from_recursion P (reads_of v) h) there

  -- words that a whole pass has read of a place are backed by its reads
  seen_backed : (k : ℕ) (words : List ℕ) → StandsIn v.seen (See k words) → ReadAgrees v.seen (See k words) →
      IsWhole (read.Seen k words) → IsBacked (reads_of v) n (read.Seen k words)
  seen_backed k words stands agrees size =
      let below : k < n = each_has (λ (p : ℕ × List ℕ). p.0 < n) v.seen (k, stands.0) tells.seen stands.1 in
      let done = published_with (reads_of v) k (published_below k below) in
      let payload : List ℕ = done.0 in
      let long : length payload ≡ 49 = of_all IsWhole (read.Done k payload) whole done.1 in
      let all = of_all (IsKept v.seen) (read.Done k payload) kept done.1 in
      let first = each_has (Agree (k, words)) v.seen (k, all.0) agrees all.1 in
      let other = each_has (Agree (k, payload)) v.seen (k, all.0) all.3 all.1 in
      let enough : length payload ≤ length all.0 = all.2 in (
        payload,
        done.1,
        shown_of payload words long
            (λ i l m. (let h : i < length all.0 = omega arith in first refl i l h ∙ sym (other refl i m h))) size,
      )

  -- each read of a whole pass that gives what it has seen, and no count above n, is backed by its reads
  one_backed : (r : RawRead) → StandsIn v.seen r × ReadAgrees v.seen r → IsAtMost n r × IsWhole (exact_read r) →
      IsBacked (reads_of v) n (exact_read r)
  one_backed (Count c) s a = a.0
  one_backed (Open k) s a = tt
  one_backed (See k words) s a = seen_backed k words s.0 s.1 a.1
  one_backed (Claim k) s a = tt
  one_backed (Lost c) s a = a.0
  one_backed (Done k words) s a = tt

  -- where a consistent pass owns just the places below n, and each of its reads is whole, its reads are backed
  pub whole_backed : AreBacked (reads_of v)
  whole_backed = record {
    once = times_once (published_in (reads_of v))
        (λ k. (let same = as_often k in let l = now.once k in omega arith));
    claimed = n;
    published = λ k. (below_published k, published_below k);
    backed = each_all (IsBacked (reads_of v) n) v.reads
        (each_both (λ r. StandsIn v.seen r × ReadAgrees v.seen r) (λ r. IsAtMost n r × IsWhole (exact_read r))
        (λ r. IsBacked (reads_of v) n (exact_read r)) one_backed v.reads
        (each_both (StandsIn v.seen) (ReadAgrees v.seen) (λ r. StandsIn v.seen r × ReadAgrees v.seen r)
        (λ r s a. (s, a)) v.reads now.neat.stands now.reads_agree)
        (each_both (IsAtMost n) (λ r. IsWhole (exact_read r)) (λ r. IsAtMost n r × IsWhole (exact_read r))
        (λ r m w. (m, w)) v.reads tells.reads (all_each IsWhole v.reads whole)));
  }
