-- Whatever sessions one worker serves, what it reads stays in order.
--
-- `served_in_order`: the reads of the sessions that one worker serves are in order, where the places answer all reads.
-- `published_once`: where the places answer all reads, no place is published twice.
use Rattle.std.proofs.Common.{◌≡◌, ℕ, ◌<◌, ◌≤◌, Bool, true, false, List, [], ◌∷◌, ◌++◌, length, map, Some}
use Rattle.std.proofs.Common.{sym, ap, ◌∙◌, subst, cond, arith}
use Rattle.std.specs.List.{filter, flat_map, AllByRecursion}
use Rattle.spec_board.specs.declared.place.Place.TheVariants as place
use Rattle.spec_board.specs.declared.read.Read.TheVariants.{Count, NotDone, Seen, Claim, Lost, Done}
use Rattle.spec_board.specs.Reads.{ExactRead}
use Rattle.spec_board.specs.Places.{ExactPlace, place_at, Answers, Logged, Plays}
use Rattle.spec_board.specs.Orders.{InPairs, AreInOrder, published_by}
use Rattle.spec_board.proofs.SharedPlaces.{with_same, some_same, place_below, answers_keep}
use Rattle.spec_serve.proofs.LeftPlaces.{answers_grow}

-- ---- what a later read is, once so many places are claimed

-- the read's count of claimed places, if it is a count or a lost claim, is n at least
abbrev IsFrom : ℕ → ExactRead → Type 0
IsFrom n (Count c) = n ≤ c
IsFrom n (Lost c) = n ≤ c
IsFrom n other = Unit {0}

-- A read that fits that place k was done before: a count is above k, and place k is neither read as not done nor
-- published again.
abbrev RespectsDone : ℕ → ExactRead → Type 0
RespectsDone k (Count c) = k < c
RespectsDone k (NotDone j) = k ≡ j → ⊥
RespectsDone k (Done j words) = k ≡ j → ⊥
RespectsDone k other = Unit {0}

-- P holds of each read of this log
abbrev HoldsOf : (ExactRead → Type 0) → List Logged → Type 0
HoldsOf P log = AllByRecursion (λ (x : Logged). P x.read) log

-- where the count of a read, if it has one, is at least n, it is at least each m up to n
from_less : (m n : ℕ) (r : ExactRead) → m ≤ n → IsFrom n r → IsFrom m r
from_less m n (Count c) l h = let g : n ≤ c = h in omega arith
from_less m n (Lost c) l h = let g : n ≤ c = h in omega arith
from_less m n (NotDone k) l h = tt
from_less m n (Seen k words) l h = tt
from_less m n (Claim k) l h = tt
from_less m n (Done k words) l h = tt

-- where the places answer a read with a count, this is at least the number of those claimed before
first_from : (places session : ℕ) (now next : List ExactPlace) (r : ExactRead) → Answers places now session r next →
    IsFrom (length now) r
first_from places session now next (Count c) a = let e : c ≡ length now = a.0 in omega arith
first_from places session now next (Lost c) a = let e : c ≡ length now = a.0 in omega arith
first_from places session now next (NotDone k) a = tt
first_from places session now next (Seen k words) a = tt
first_from places session now next (Claim k) a = tt
first_from places session now next (Done k words) a = tt

-- where n places or more are claimed, each count in a log that the places answer is at least n
log_from : (places : ℕ) (now last : List ExactPlace) (log : List Logged) (n : ℕ) → n ≤ length now →
    Plays places now log last → HoldsOf (IsFrom n) log
log_from places now last [] n l p = tt
log_from places now last (x ∷ log) n l p =
    let g = answers_grow places x.session now p.0 x.read p.1 in (
      from_less n (length now) x.read l (first_from places x.session now p.0 x.read p.1),
      log_from places p.0 last log n (omega arith) p.2,
    )

-- where a place is done, a read that the places answer does not leave it uncounted, find it undone or publish it
first_respects : (places session : ℕ) (now next : List ExactPlace) (r : ExactRead) (k : ℕ) (words : List ℕ) →
    place_at now k ≡ Some (place.Done words) → Answers places now session r next → RespectsDone k r
first_respects places session now next (Count c) k words at a = let l = place_below now k (place.Done words) at in
    let e : c ≡ length now = a.0 in omega arith
first_respects places session now next (Lost c) k words at a = tt
first_respects places session now next (NotDone j) k words at a =
    λ e. let z : place.Done words ≡ place.Claimed a.0 =
    some_same (place.Done words) (place.Claimed a.0) (sym at ∙ ap (place_at now) e ∙ a.1) in cc
first_respects places session now next (Seen j seen) k words at a = tt
first_respects places session now next (Claim j) k words at a = tt
first_respects places session now next (Done j done) k words at a =
    λ e. let z : place.Done words ≡ place.Claimed session =
    some_same (place.Done words) (place.Claimed session) (sym at ∙ ap (place_at now) e ∙ a.0) in cc

-- where a place is done, no read that the places answer leaves it uncounted, finds it undone or publishes it
log_respects : (places : ℕ) (now last : List ExactPlace) (log : List Logged) (k : ℕ) (words : List ℕ) →
    place_at now k ≡ Some (place.Done words) → Plays places now log last → HoldsOf (RespectsDone k) log
log_respects places now last [] k words at p = tt
log_respects places now last (x ∷ log) k words at p = (
  first_respects places x.session now p.0 x.read k words at p.1,
  log_respects places p.0 last log k words
      (answers_keep places x.session now p.0 x.read k (place.Done words) p.1 (λ e. cc) at) p.2,
)

-- ---- pairs

-- where P implies Q, and P holds of each read of a log, so does Q
implied : (P Q : ExactRead → Type 0) (log : List Logged) → ((r : ExactRead) → P r → Q r) → HoldsOf P log → HoldsOf Q log
implied P Q [] f h = tt
implied P Q (x ∷ log) f h = (f x.read h.0, implied P Q log f h.1)

-- what is true of each read holds of all reads of a log
trivially : (log : List Logged) → HoldsOf (λ r. Unit {0}) log
trivially [] = tt
trivially (x ∷ log) = (tt, trivially log)

-- a read whose count, if it has one, is at least c is in order behind the count c
count_in_order : (c : ℕ) (r : ExactRead) → IsFrom c r → AreInOrder (Count c) r
count_in_order c (Count d) h = h
count_in_order c (Lost d) h = h
count_in_order c (NotDone k) h = tt
count_in_order c (Seen k words) h = tt
count_in_order c (Claim k) h = tt
count_in_order c (Done k words) h = tt

-- a read whose count, if it has one, is at least c is in order behind a claim lost at the count c
lost_in_order : (c : ℕ) (r : ExactRead) → IsFrom c r → AreInOrder (Lost c) r
lost_in_order c (Count d) h = h
lost_in_order c (Lost d) h = h
lost_in_order c (NotDone k) h = tt
lost_in_order c (Seen k words) h = tt
lost_in_order c (Claim k) h = tt
lost_in_order c (Done k words) h = tt

-- a read that does not leave place k uncounted or find it undone is in order behind one that saw it
seen_in_order : (k : ℕ) (words : List ℕ) (r : ExactRead) → RespectsDone k r → AreInOrder (Seen k words) r
seen_in_order k words (Count d) h = h
seen_in_order k words (Lost d) h = tt
seen_in_order k words (NotDone j) h = h
seen_in_order k words (Seen j other) h = tt
seen_in_order k words (Claim j) h = tt
seen_in_order k words (Done j other) h = tt

-- a read that does not leave place k uncounted or find it undone is in order behind one that published it
done_in_order : (k : ℕ) (words : List ℕ) (r : ExactRead) → RespectsDone k r → AreInOrder (Done k words) r
done_in_order k words (Count d) h = h
done_in_order k words (Lost d) h = tt
done_in_order k words (NotDone j) h = h
done_in_order k words (Seen j other) h = tt
done_in_order k words (Claim j) h = tt
done_in_order k words (Done j other) h = tt

-- where the places answer a read and then a log, each read of the log is in order behind this read
later_in_order : (places session : ℕ) (now next last : List ExactPlace) (r : ExactRead) (log : List Logged) →
    Answers places now session r next → Plays places next log last → HoldsOf (AreInOrder r) log
later_in_order places session now next last (Count c) log a p =
    let e : c ≡ length next = a.0 ∙ ap length (sym a.1) in
    implied (IsFrom c) (AreInOrder (Count c)) log (count_in_order c)
    (log_from places next last log c (omega arith) p)
later_in_order places session now next last (Lost c) log a p =
    let e : c ≡ length next = a.0 ∙ ap length (sym a.1) in
    implied (IsFrom c) (AreInOrder (Lost c)) log (lost_in_order c) (log_from places next last log c (omega arith) p)
later_in_order places session now next last (Seen k words) log a p =
    implied (RespectsDone k) (AreInOrder (Seen k words)) log (seen_in_order k words)
    (log_respects places next last log k a.0 (subst (λ ps. place_at ps k ≡ Some (place.Done a.0)) (sym a.3) a.1) p)
later_in_order places session now next last (Done k words) log a p =
    implied (RespectsDone k) (AreInOrder (Done k words)) log (done_in_order k words)
    (log_respects places next last log k words
    (subst (λ ps. place_at ps k ≡ Some (place.Done words)) (sym a.1)
    (with_same now k (place.Claimed session) (place.Done words) a.0)) p)
later_in_order places session now next last (NotDone k) log a p = trivially log
later_in_order places session now next last (Claim k) log a p = trivially log

-- ---- the sessions of one worker

-- the reads of a log that were made for the sessions that one worker serves, in order
abbrev pub served : (ℕ → Bool) → List Logged → List ExactRead
served serves log = map (λ (x : Logged). x.read) (filter (λ x. serves x.session) log)

-- what holds of each read of a log holds of each read of the sessions that one worker serves
served_hold : (serves : ℕ → Bool) (P : ExactRead → Type 0) (log : List Logged) → HoldsOf P log →
    AllByRecursion P (served serves log)
served_hold serves P [] h = tt
served_hold serves P (x ∷ log) h = by (serves x.session) (served_hold serves P log h.1)
  where
    by : (t : Bool) → AllByRecursion P (served serves log) →
        AllByRecursion P (map (λ (x : Logged). x.read)
        (cond t (x ∷ filter (λ x. serves x.session) log) (filter (λ x. serves x.session) log)))
    by true more = (h.0, more)
    by false more = more

pub served_in_order : (places : ℕ) (now last : List ExactPlace) (log : List Logged) (serves : ℕ → Bool) →
    Plays places now log last → InPairs AreInOrder (served serves log)
served_in_order places now last [] serves p = tt
served_in_order places now last (x ∷ log) serves p =
    by (serves x.session) (served_in_order places p.0 last log serves p.2)
    (served_hold serves (AreInOrder x.read) log (later_in_order places x.session now p.0 last x.read log p.1 p.2))
  where
    by : (t : Bool) → InPairs AreInOrder (served serves log) → AllByRecursion (AreInOrder x.read) (served serves log) →
        InPairs AreInOrder (map (λ (x : Logged). x.read)
        (cond t (x ∷ filter (λ x. serves x.session) log) (filter (λ x. serves x.session) log)))
    by true more first = (first, more)
    by false more first = more

-- ---- no place is published twice

-- where a read does not publish the done place k and more places are others, all that are published are others
other_place : (k : ℕ) (r : ExactRead) → RespectsDone k r → (more : List ℕ) → AllByRecursion (λ j. k ≡ j → ⊥) more →
    AllByRecursion (λ j. k ≡ j → ⊥) (published_by r ++ more)
other_place k (Done j words) h more rest = (h, rest)
other_place k (Count c) h more rest = rest
other_place k (Lost c) h more rest = rest
other_place k (NotDone j) h more rest = rest
other_place k (Seen j words) h more rest = rest
other_place k (Claim j) h more rest = rest

-- the places that the reads of a log published, in order
abbrev pub published : List Logged → List ℕ
published log = flat_map (λ (x : Logged). published_by x.read) log

-- where the reads of a log do not publish the done place k, the places that the log publishes are others
other_places : (k : ℕ) (log : List Logged) → HoldsOf (RespectsDone k) log →
    AllByRecursion (λ j. k ≡ j → ⊥) (published log)
other_places k [] h = tt
other_places k (x ∷ log) h = other_place k x.read h.0 (published log) (other_places k log h.1)

-- where a log publishes no place twice, nor does it with a read before it, if the places answer both
publish_once_on : (places session : ℕ) (now next last : List ExactPlace) (r : ExactRead) (log : List Logged) →
    Answers places now session r next → Plays places next log last →
    InPairs (λ (j k : ℕ). j ≡ k → ⊥) (published log) →
    InPairs (λ (j k : ℕ). j ≡ k → ⊥) (published_by r ++ published log)
publish_once_on places session now next last (Done k words) log a p more = (
  other_places k log (log_respects places next last log k words
      (subst (λ ps. place_at ps k ≡ Some (place.Done words)) (sym a.1)
      (with_same now k (place.Claimed session) (place.Done words) a.0)) p),
  more,
)
publish_once_on places session now next last (Count c) log a p more = more
publish_once_on places session now next last (Lost c) log a p more = more
publish_once_on places session now next last (NotDone k) log a p more = more
publish_once_on places session now next last (Seen k words) log a p more = more
publish_once_on places session now next last (Claim k) log a p more = more

pub published_once : (places : ℕ) (now last : List ExactPlace) (log : List Logged) → Plays places now log last →
    InPairs (λ (j k : ℕ). j ≡ k → ⊥) (published log)
published_once places now last [] p = tt
published_once places now last (x ∷ log) p =
    publish_once_on places x.session now p.0 last x.read log p.1 p.2 (published_once places p.0 last log p.2)
