-- What the exchanges of a worker read, with their sessions, is founded on what was read before.
use Rattle.std.proofs.Common.{◌≡◌, ℕ, zero, suc, ◌<◌, ◌≤◌, ◌%◌, Bool, true, false, List, [], ◌∷◌, ◌++◌}
use Rattle.std.proofs.Common.{nat_eq, eqb-true, cond, refl, sym, ap, ◌∙◌, subst, ⊎_elim, arith}
use Rattle.std.specs.List.{Contains, AllByRecursion}
use Rattle.std.proofs.lemmas.List.Elements.{Contains-append_left, Contains-append_right, Contains-append_cases}
use Rattle.spec_board.specs.declared.read.Put.{Put}
use Rattle.spec_board.specs.declared.read.Put.TheVariants.{Published, Full, Raced}
use Rattle.spec_board.specs.declared.read.Read.TheVariants as read
use Rattle.spec_board.specs.Reads.{Words, ExactRead, Looked, has_shape, SeenBy, SeesDown, LookReads, PutReads}
use Rattle.spec_board.specs.Places.{Logged, logged}
use Rattle.spec_server.specs.Machine.{ExactReply, State}
use Rattle.spec_server.specs.Step.{Begun, Looks, Worked, Ends, Publishes, Concludes, GoesOn}
use Rattle.spec_server.specs.Step as step
use Rattle.spec_server.specs.Exchanges.{Exchange, AloneRun, of_session, log_of}
use Rattle.spec_serve.specs.Workers.{exchanges_of_worker}
use Rattle.spec_serve.proofs.AllDone.{after_one}
use Rattle.spec_serve.proofs.OwnPart.{own_part}
use Rattle.spec_serve.proofs.LeftPlaces.{logged-append}
use Rattle.basis_board.specs.Played.{of_read, Supposes, AreFounded, IsOfWorker}

-- each read of the first list is in the second one
abbrev AreAmong : List Logged → List Logged → Type 0
AreAmong xs ys = (x : Logged) → Contains xs x → Contains ys x

-- reads that are among others are among them with one more in front of both
among_more : (x : Logged) (xs ys : List Logged) → AreAmong xs ys → AreAmong (x ∷ xs) (x ∷ ys)
among_more x xs ys sub y c =
    ⊎_elim (λ (a : Contains (x ∷ []) y). Contains-append_left (x ∷ []) ys y a)
    (λ (b : Contains xs y). Contains-append_right (x ∷ []) ys y (sub y b)) (Contains-append_cases (x ∷ []) xs y c)

module _ (places : ℕ) where
  -- what a read supposes of the reads before it is there too where these are among more reads
  supposes_more : (made more : List Logged) (session : ℕ) (r : ExactRead) → AreAmong made more →
      Supposes places made session r → Supposes places more session r
  supposes_more made more session (read.Count c) sub s = tt
  supposes_more made more session (read.NotDone k) sub s = (s.0, s.1, sub (of_read s.0 (read.Count s.1)) s.2, s.3)
  supposes_more made more session (read.Seen k words) sub s = tt
  supposes_more made more session (read.Claim k) sub s = s
  supposes_more made more session (read.Lost c) sub s = tt
  supposes_more made more session (read.Done k words) sub s = sub (of_read session (read.Claim k)) s

  -- reads that are founded on others before them are founded where these are among more reads
  founded_more : (made more log : List Logged) → AreAmong made more → AreFounded places made log →
      AreFounded places more log
  founded_more made more [] sub f = tt
  founded_more made more (x ∷ log) sub f = (
    supposes_more made more x.session x.read sub f.0,
    founded_more (x ∷ made) (x ∷ more) log (among_more x made more sub) f.1,
  )

  -- where reads are founded on those made before, and others on none, both in order are founded on those made before
  founded_append : (made xs ys : List Logged) → AreFounded places made xs → AreFounded places [] ys →
      AreFounded places made (xs ++ ys)
  founded_append made [] ys f g = founded_more [] made ys (λ x c. (let l = c.1 in absurd (omega arith))) g
  founded_append made (x ∷ xs) ys f g = (f.0, founded_append (x ∷ made) xs ys f.1 g)

  -- ---- one step

  module _ (session : ℕ) where
    -- these reads of the session are founded on those made before
    abbrev IsFounded : List Logged → List ExactRead → Type 0
    IsFounded made reads = AreFounded places made (logged session reads)

    -- an empty list of reads is founded on whatever was made
    none_founded : (made : List Logged) (reads : List ExactRead) → reads ≡ [] → IsFounded made reads
    none_founded made reads e = subst (IsFounded made) (sym e) tt

    -- a read that was made is among those made with one more
    one_more : (x y : Logged) (made : List Logged) → Contains made y → Contains (x ∷ made) y
    one_more x y made c = Contains-append_right (x ∷ []) made y c

    -- the reads of a look behind a place that it saw are founded, whether the place is found or passed over
    seen_founded : (b : Bool) (k : ℕ) (words : Words) (reads : List ExactRead) (found : Looked) (Rest : Type 0)
        (made : List Logged) → (Rest → IsFounded made reads) → SeenBy b k words reads found Rest → IsFounded made reads
    seen_founded true k words reads found Rest made more s = none_founded made reads s.1
    seen_founded false k words reads found Rest made more s = more s.1

    -- the reads of a look down from place k, below the count that it read, are founded on that count
    sees_founded : (shape : Words) (c k : ℕ) (reads : List ExactRead) (found : Looked) (made : List Logged) → k ≤ c →
        Contains made (of_read session (read.Count c)) → SeesDown shape k reads found → IsFounded made reads
    sees_founded shape c zero reads found made l there s = none_founded made reads s.0
    sees_founded shape c (suc k) [] found made l there s = absurd s
    sees_founded shape c (suc k) (read.NotDone j ∷ reads) found made l there s =
        let same = s.0 in (
          (session, c, there, omega arith),
          sees_founded shape c k reads found (of_read session (read.NotDone j) ∷ made) (omega arith)
              (one_more (of_read session (read.NotDone j)) (of_read session (read.Count c)) made there) s.1,
        )
    sees_founded shape c (suc k) (read.Seen j words ∷ reads) found made l there s = (
      tt,
      seen_founded (has_shape shape words) k words reads found (SeesDown shape k reads found)
          (of_read session (read.Seen j words) ∷ made)
          (sees_founded shape c k reads found (of_read session (read.Seen j words) ∷ made) (omega arith)
          (one_more (of_read session (read.Seen j words)) (of_read session (read.Count c)) made there)) s.1,
    )
    sees_founded shape c (suc k) (read.Count d ∷ reads) found made l there s = absurd s
    sees_founded shape c (suc k) (read.Claim j ∷ reads) found made l there s = absurd s
    sees_founded shape c (suc k) (read.Lost d ∷ reads) found made l there s = absurd s
    sees_founded shape c (suc k) (read.Done j words ∷ reads) found made l there s = absurd s

    -- the reads of a look are founded on nothing before them
    look_founded : (shape : Words) (reads : List ExactRead) (found : Looked) → LookReads shape reads found →
        IsFounded [] reads
    look_founded shape reads found look =
        subst (IsFounded []) (sym look.all) (
          tt,
          sees_founded shape look.count look.count look.seen found (of_read session (read.Count look.count) ∷ [])
              (omega arith) (zero, omega arith, refl) look.down,
        )

    -- the reads of a put are founded on nothing before them
    put_founded : (words : Words) (put : Put) (reads : List ExactRead) → PutReads places words put reads →
        IsFounded [] reads
    put_founded words (Published k) reads p =
        subst (IsFounded []) (sym p.1) (tt, (p.0, ((zero, omega arith, refl), tt)))
    put_founded words (Raced e) reads p = subst (IsFounded []) (sym p.2) (tt, (tt, tt))
    put_founded words (Full c) reads p = subst (IsFounded []) (sym p.1) (tt, tt)

    -- the reads of a solve are founded where those of its look are
    concludes_founded : (old : State) (worked : Worked) (looked reads : List ExactRead) (replied : ExactReply)
        (new : State) → Concludes places old worked looked reads replied new → IsFounded [] looked →
        IsFounded [] reads
    concludes_founded old (Ends stated next) looked reads replied new c f = subst (IsFounded []) (sym c.0) f
    concludes_founded old (Publishes pending) looked reads replied new c f =
        subst (AreFounded places []) (sym (ap (logged session) c.all ∙ logged-append session looked c.tried))
        (founded_append [] (logged session looked) (logged session c.tried) f
        (put_founded pending.words c.put c.tried c.puts))

    -- the reads of a step, by how it began, are founded on nothing before them
    goes_founded : (old : State) (begun : Begun) (reads : List ExactRead) (replied : ExactReply) (new : State) →
        GoesOn places old begun reads replied new → IsFounded [] reads
    goes_founded old (step.Answers stated next) reads replied new g = none_founded [] reads g.0
    goes_founded old (Looks shape) reads replied new g =
        concludes_founded old g.worked g.looked reads replied new g.concludes
        (look_founded shape g.looked g.found g.look)

  -- ---- all of them

  -- the reads of exchanges in which each session runs alone are founded, each on those before it
  pub run_founded : (states : ℕ → State) (xs : List Exchange) →
      ((session : ℕ) → (end : State) × AloneRun places (states session) (of_session session xs) end) →
      AreFounded places [] (log_of xs)
  run_founded states [] alone = tt
  run_founded states (x ∷ xs) alone =
      let own = alone x.session in
      let run = own_part places (states x.session) x xs own.0 own.1 in
      founded_append [] (logged x.session x.reads) (log_of xs)
      (goes_founded x.session (states x.session) run.1.begun x.reads x.reply run.0 run.1.goes_on)
      (run_founded (λ session. cond (nat_eq x.session session) run.0 (states session)) xs
      (after_one places states x xs run.0 own.0 run.2 alone))

-- ---- they are the worker's own

-- what holds of each element of two lists holds of each of both together
all_join : {X : Type 0} (P : X → Type 0) (xs ys : List X) → AllByRecursion P xs → AllByRecursion P ys →
    AllByRecursion P (xs ++ ys)
all_join P [] ys a b = b
all_join P (x ∷ xs) ys a b = (a.0, all_join P xs ys a.1 b)

-- the reads of a session that a worker serves are all of this worker
one_own : (workers worker session : ℕ) (reads : List ExactRead) → session % workers ≡ worker →
    AllByRecursion (IsOfWorker workers worker) (logged session reads)
one_own workers worker session [] e = tt
one_own workers worker session (r ∷ reads) e = (e, one_own workers worker session reads e)

-- an exchange in front, taken where its session is the worker's, leaves all reads the worker's
own_more : (workers worker : ℕ) (x : Exchange) (xs : List Exchange) (t : Bool) →
    nat_eq (x.session % workers) worker ≡ t →
    AllByRecursion (IsOfWorker workers worker) (log_of xs) →
    AllByRecursion (IsOfWorker workers worker) (log_of (cond t (x ∷ xs) xs))
own_more workers worker x xs true e more =
    all_join (IsOfWorker workers worker) (logged x.session x.reads) (log_of xs)
    (one_own workers worker x.session x.reads (eqb-true (x.session % workers) worker e)) more
own_more workers worker x xs false e more = more

-- the reads of the exchanges of a worker are all of this worker
pub log_own : (workers worker : ℕ) (xs : List Exchange) →
    AllByRecursion (IsOfWorker workers worker) (log_of (exchanges_of_worker workers worker xs))
log_own workers worker [] = tt
log_own workers worker (x ∷ xs) =
    own_more workers worker x (exchanges_of_worker workers worker xs) (nat_eq (x.session % workers) worker) refl
    (log_own workers worker xs)
