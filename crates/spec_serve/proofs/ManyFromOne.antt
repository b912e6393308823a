-- What one worker may reply, many may.
--
-- `log_reads`: the reads in the log of some exchanges are those of the exchanges.
-- `one_runs_by`: what one worker may reply to some requests, any number of workers may.
use Rattle.std.proofs.Common.{◌≡◌, ℕ, zero, ◌<◌, ◌≤◌, ◌%◌, Bool, true, false, List, [], ◌∷◌, ◌++◌, length, map, Some}
use Rattle.std.proofs.Common.{refl, sym, ap, ◌∙◌, subst, ◌⊎◌, inl, inr, nat_eq, cond, arith}
use Rattle.std.specs.List.{filter, flat_map, Contains, AllByRecursion}
use Rattle.std.proofs.lemmas.List.{map-append}
use Rattle.std.proofs.lemmas.List.Elements.{All-contains, All-from_recursion, Contains-append_left}
use Rattle.std.proofs.lemmas.List.Elements.{Contains-append_right, filter-append}
use Rattle.spec_board.specs.declared.place.Place.TheVariants as place
use Rattle.spec_board.specs.declared.read.Read.TheVariants.{Count, NotDone, Seen, Claim, Lost, Done}
use Rattle.spec_board.specs.Reads.{ExactRead}
use Rattle.spec_board.specs.Places.{ExactPlace, place_at, Answers, Logged, Plays, logged}
use Rattle.spec_board.specs.Orders.{InPairs, AreInOrder, published_by, published_in, IsBacked, log_of_worker}
use Rattle.spec_server.specs.Machine.{opening}
use Rattle.spec_server.specs.Exchanges.{Exchange, log_of, RunFits}
use Rattle.spec_serve.specs.Workers.{reads_in_all, reads_of_worker, exchanges_of_worker, logs_of, ManyFits, RunsBy}
use Rattle.spec_board.proofs.SharedPlaces.{place_below}
use Rattle.spec_serve.proofs.LeftPlaces.{place_some, answers_grow, answers_before}
use Rattle.spec_serve.proofs.InOrder.{served, served_in_order, published, published_once}
use Rattle.spec_serve.proofs.AllDone.{NoneClaimed, all_done}

-- ---- the log of exchanges

-- the reads of a log, without their sessions
abbrev pub reads_in : List Logged → List ExactRead
reads_in log = map (λ (x : Logged). x.read) log

-- the reads in the log of one session's reads are these reads
one_log : (session : ℕ) (rs : List ExactRead) → reads_in (logged session rs) ≡ rs
one_log session [] = refl
one_log session (r ∷ rs) = ap (λ qs. r ∷ qs) (one_log session rs)

pub log_reads : (xs : List Exchange) → reads_in (log_of xs) ≡ reads_in_all xs
log_reads [] = refl
log_reads (x ∷ xs) =
    map-append (λ (y : Logged). y.read) (logged x.session x.reads) (log_of xs)
    ∙ ap (λ rs. rs ++ reads_in (log_of xs)) (one_log x.session x.reads) ∙ ap (λ rs. x.reads ++ rs) (log_reads xs)

-- of the log of one session's reads a worker has all, if it serves the session, and else none
one_served : (serves : ℕ → Bool) (session : ℕ) (rs : List ExactRead) (t : Bool) → serves session ≡ t →
    served serves (logged session rs) ≡ cond t rs []
one_served serves session [] true e = refl
one_served serves session [] false e = refl
one_served serves session (r ∷ rs) true e =
    ap (λ b. map (λ (y : Logged). y.read)
    (cond b (record { session = session; read = r } ∷ filter (λ y. serves y.session) (logged session rs))
    (filter (λ y. serves y.session) (logged session rs)))) e
    ∙ ap (λ qs. r ∷ qs) (one_served serves session rs true e)
one_served serves session (r ∷ rs) false e =
    ap (λ b. map (λ (y : Logged). y.read)
    (cond b (record { session = session; read = r } ∷ filter (λ y. serves y.session) (logged session rs))
    (filter (λ y. serves y.session) (logged session rs)))) e
    ∙ one_served serves session rs false e

-- what a worker serves of the log of exchanges is the reads of the worker's exchanges
served_reads : (workers worker : ℕ) (xs : List Exchange) →
    served (λ session. nat_eq (session % workers) worker) (log_of xs) ≡ reads_of_worker workers worker xs
served_reads workers worker [] = refl
served_reads workers worker (x ∷ xs) =
    ap (map (λ (y : Logged). y.read))
    (filter-append (λ (y : Logged). nat_eq (y.session % workers) worker) (logged x.session x.reads) (log_of xs))
    ∙ map-append (λ (y : Logged). y.read)
    (filter (λ (y : Logged). nat_eq (y.session % workers) worker) (logged x.session x.reads))
    (filter (λ (y : Logged). nat_eq (y.session % workers) worker) (log_of xs))
    ∙ ap (λ rs. rs ++ served (λ session. nat_eq (session % workers) worker) (log_of xs))
    (one_served (λ session. nat_eq (session % workers) worker) x.session x.reads
    (nat_eq (x.session % workers) worker) refl)
    ∙ ap (λ rs. cond (nat_eq (x.session % workers) worker) x.reads [] ++ rs) (served_reads workers worker xs)

-- of the log of one session's reads the log of a worker has all, if the session is its own, and else none
one_worker_log : (workers worker session : ℕ) (rs : List ExactRead) (t : Bool) → nat_eq (session % workers) worker ≡ t →
    log_of_worker workers worker (logged session rs) ≡ cond t (logged session rs) []
one_worker_log workers worker session [] true e = refl
one_worker_log workers worker session [] false e = refl
one_worker_log workers worker session (r ∷ rs) true e =
    ap (λ b. cond b (record { session = session; read = r } ∷ log_of_worker workers worker (logged session rs))
    (log_of_worker workers worker (logged session rs))) e
    ∙ ap (λ xs. record { session = session; read = r } ∷ xs) (one_worker_log workers worker session rs true e)
one_worker_log workers worker session (r ∷ rs) false e =
    ap (λ b. cond b (record { session = session; read = r } ∷ log_of_worker workers worker (logged session rs))
    (log_of_worker workers worker (logged session rs))) e
    ∙ one_worker_log workers worker session rs false e

-- the log of a worker's exchanges with one more before them, or not, is that one's log, or none, and theirs
log_more : (workers worker : ℕ) (x : Exchange) (xs : List Exchange) (t : Bool) →
    cond t (logged x.session x.reads) [] ++ logs_of workers xs worker
    ≡ log_of (cond t (x ∷ exchanges_of_worker workers worker xs) (exchanges_of_worker workers worker xs))
log_more workers worker x xs true = refl
log_more workers worker x xs false = refl

-- a worker's part of the log of exchanges is the log of the worker's exchanges
worker_logs : (workers worker : ℕ) (xs : List Exchange) →
    log_of_worker workers worker (log_of xs) ≡ logs_of workers xs worker
worker_logs workers worker [] = refl
worker_logs workers worker (x ∷ xs) =
    filter-append (λ (y : Logged). nat_eq (y.session % workers) worker) (logged x.session x.reads) (log_of xs)
    ∙ ap (λ ls. log_of_worker workers worker (logged x.session x.reads) ++ ls) (worker_logs workers worker xs)
    ∙ ap (λ ls. ls ++ logs_of workers xs worker)
    (one_worker_log workers worker x.session x.reads (nat_eq (x.session % workers) worker) refl)
    ∙ log_more workers worker x xs (nat_eq (x.session % workers) worker)

-- the places that a log publishes are those that its reads publish
published_log : (log : List Logged) → published log ≡ flat_map published_by (reads_in log)
published_log [] = refl
published_log (x ∷ log) = ap (λ ks. published_by x.read ++ ks) (published_log log)

-- the places that the log of exchanges publishes are those that their reads publish
published_all : (xs : List Exchange) → published (log_of xs) ≡ published_in (reads_in_all xs)
published_all xs = published_log (log_of xs) ∙ ap (flat_map published_by) (log_reads xs)

-- ---- what is read is backed

-- a log that the places answer leaves at least as many claimed as before
plays_grow : (places : ℕ) (now last : List ExactPlace) (log : List Logged) → Plays places now log last →
    length now ≤ length last
plays_grow places now last [] p = let e : length last ≡ length now = ap length p in omega arith
plays_grow places now last (x ∷ log) p =
    let first = answers_grow places x.session now p.0 x.read p.1 in
    let more = plays_grow places p.0 last log p.2 in
    omega arith

-- a list of reads contains its first one
here : (r : ExactRead) (rs : List ExactRead) → Contains (r ∷ rs) r
here r rs = Contains-append_left (r ∷ []) rs r (zero, omega arith, refl)

-- a read that a list contains is contained with one more read before the list
later : (r q : ExactRead) (rs : List ExactRead) → Contains rs q → Contains (r ∷ rs) q
later r q rs h = Contains-append_right (r ∷ []) rs q h

-- for each place that is done, `all` has the read that published it with its words
abbrev ArePublished : List ExactRead → List ExactPlace → Type 0
ArePublished all now = (k : ℕ) (words : List ℕ) → place_at now k ≡ Some (place.Done words) → Contains all (Done k words)

-- where each done place is published in all reads, a read that the places answer is backed by them
backed_first : (places session : ℕ) (now next : List ExactPlace) (r : ExactRead) (all : List ExactRead)
    (claimed : ℕ) → ArePublished all now → length now ≤ claimed → Answers places now session r next →
    IsBacked all claimed r
backed_first places session now next (Count c) all claimed done l a = let e : c ≡ length now = a.0 in omega arith
backed_first places session now next (Lost c) all claimed done l a = let e : c ≡ length now = a.0 in omega arith
backed_first places session now next (Seen k words) all claimed done l a = (a.0, done k a.0 a.1, a.2)
backed_first places session now next (NotDone k) all claimed done l a = tt
backed_first places session now next (Claim k) all claimed done l a = tt
backed_first places session now next (Done k words) all claimed done l a = tt

-- where each done place is published in all reads, it is so after one of these that the places answer
published_on : (places session : ℕ) (now next : List ExactPlace) (r : ExactRead) (all : List ExactRead) →
    ArePublished all now → Contains all r → Answers places now session r next → ArePublished all next
published_on places session now next r all done there a k words at =
    by (answers_before places session now next r k words a at)
  where
    by : (place_at now k ≡ Some (place.Done words)) ⊎ (r ≡ Done k words) → Contains all (Done k words)
    by (inl e) = done k words e
    by (inr e) = subst (Contains all) e there

-- where each done place is published in all reads, each read of a log among them is backed, if the places answer it
backed : (places : ℕ) (now last : List ExactPlace) (log : List Logged) (all : List ExactRead) →
    ((r : ExactRead) → Contains (reads_in log) r → Contains all r) → ArePublished all now → Plays places now log last →
    AllByRecursion (IsBacked all (length last)) (reads_in log)
backed places now last [] all sub done p = tt
backed places now last (x ∷ log) all sub done p = (
  backed_first places x.session now p.0 x.read all (length last) done (plays_grow places now last (x ∷ log) p) p.1,
  backed places p.0 last log all (λ r h. sub r (later x.read r (reads_in log) h))
      (published_on places x.session now p.0 x.read all done (sub x.read (here x.read (reads_in log))) p.1) p.2,
)

-- ---- the published places are those below a number

-- where at most n places are claimed and others are below n, so are these and the one that a read publishes
published_first : (places session : ℕ) (now next : List ExactPlace) (r : ExactRead) (n : ℕ) (more : List ℕ) →
    Answers places now session r next → length now ≤ n → AllByRecursion (λ k. k < n) more →
    AllByRecursion (λ k. k < n) (published_by r ++ more)
published_first places session now next (Done k words) n more a l rest = let b =
    place_below now k (place.Claimed session) a.0 in (omega arith, rest)
published_first places session now next (Count c) n more a l rest = rest
published_first places session now next (Lost c) n more a l rest = rest
published_first places session now next (NotDone k) n more a l rest = rest
published_first places session now next (Seen k words) n more a l rest = rest
published_first places session now next (Claim k) n more a l rest = rest

-- a log that the places answer publishes places below the count of those claimed at its end
published_below : (places : ℕ) (now last : List ExactPlace) (log : List Logged) → Plays places now log last →
    AllByRecursion (λ k. k < length last) (published log)
published_below places now last [] p = tt
published_below places now last (x ∷ log) p =
    published_first places x.session now p.0 x.read (length last) (published log) p.1
    (plays_grow places now last (x ∷ log) p) (published_below places p.0 last log p.2)

-- a place that is done behind a log that the places answer was so before, or the log publishes it
done_published : (places : ℕ) (now last : List ExactPlace) (log : List Logged) (k : ℕ) (words : List ℕ) →
    Plays places now log last → place_at last k ≡ Some (place.Done words) →
    (place_at now k ≡ Some (place.Done words)) ⊎ Contains (published log) k
done_published places now last [] k words p at = inl (subst (λ ps. place_at ps k ≡ Some (place.Done words)) p at)
done_published places now last (x ∷ log) k words p at = by (done_published places p.0 last log k words p.2 at)
  where
    now_or : (place_at now k ≡ Some (place.Done words)) ⊎ (x.read ≡ Done k words) →
        (place_at now k ≡ Some (place.Done words)) ⊎ Contains (published (x ∷ log)) k
    now_or (inl e) = inl e
    now_or (inr e) = inr (subst (λ r. Contains (published_by r ++ published log) k) (sym e)
        (Contains-append_left (k ∷ []) (published log) k (zero, omega arith, refl)))

    by : (place_at p.0 k ≡ Some (place.Done words)) ⊎ Contains (published log) k →
        (place_at now k ≡ Some (place.Done words)) ⊎ Contains (published (x ∷ log)) k
    by (inl e) = now_or (answers_before places x.session now p.0 x.read k words p.1 e)
    by (inr c) = inr (Contains-append_right (published_by x.read) (published log) k c)

-- where the places answer a log from the beginning and none stays claimed, the log publishes each one
each_published : (places : ℕ) (last : List ExactPlace) (log : List Logged) (k : ℕ) → Plays places [] log last →
    NoneClaimed last → k < length last → Contains (published log) k
each_published places last log k p none l = let there = place_some last k l in by there.0 there.1
  where
    first : (words : List ℕ) → (place_at [] k ≡ Some (place.Done words)) ⊎ Contains (published log) k →
        Contains (published log) k
    first words (inl e) = cc
    first words (inr c) = c

    by : (q : ExactPlace) → place_at last k ≡ Some q → Contains (published log) k
    by (place.Claimed owner) e = absurd (none k owner e)
    by (place.Done words) e = first words (done_published places [] last log k words p e)

-- ---- all of it

-- exchanges that one worker may have had are ones that any number of workers may have had
one_is_many : (places : ℕ) (workers : ℕ) (xs : List Exchange) → RunFits places xs → ManyFits places workers xs
one_is_many places workers xs f =
    let log : List Logged = log_of xs in
    let none : NoneClaimed f.last =
    all_done places (λ session. opening) xs [] f.last f.alone f.played (λ k owner e. cc) in
    record {
      alone = f.alone;
      ordered = λ worker l. subst (InPairs AreInOrder) (served_reads workers worker xs)
          (served_in_order places [] f.last (log_of xs) (λ session. nat_eq (session % workers) worker) f.played);
      backed = record {
        once = subst (InPairs (λ (j k : ℕ). j ≡ k → ⊥)) (published_all xs)
            (published_once places [] f.last (log_of xs) f.played);
        claimed = length f.last;
        published = λ k. (
          λ c. All-contains (λ (j : ℕ). j < length f.last) (published (log_of xs)) k
              (All-from_recursion (λ (j : ℕ). j < length f.last) (published (log_of xs))
              (published_below places [] f.last (log_of xs) f.played))
              (subst (λ ks. Contains ks k) (sym (published_all xs)) c),
          λ l. subst (λ ks. Contains ks k) (published_all xs)
              (each_published places f.last (log_of xs) k f.played none l),
        );
        backed = subst (λ rs. AllByRecursion (IsBacked rs (length f.last)) rs) (log_reads xs)
            (backed places [] f.last (log_of xs) (reads_in (log_of xs)) (λ r h. h) (λ k words e. cc) f.played);
      };
      together = record {
        log = log;
        last = f.last;
        played = f.played;
        parts = λ worker l. worker_logs workers worker xs;
      };
    }

pub one_runs_by : (places : ℕ) (workers : ℕ) (xs : List Exchange) → RunFits places xs → RunsBy workers places xs
one_runs_by places workers xs f = record { many = one_is_many places workers xs f; one = λ alone. f }
