-- Each act of a session, at each of its stages.
--
-- `front_front`: the words in front of the words in front are the same.
-- `shown_all`: words that are read with the shape that is looked for are all words of their place.
use Rattle.std.proofs.Common.{◌≡◌, ℕ, zero, suc, ◌≤◌, Bool, true, false, List, [], ◌∷◌, ◌++◌, length, Some, None}
use Rattle.std.proofs.Common.{refl, sym, ap, ◌∙◌, subst, inl, inr, cond, arith}
use Rattle.std.proofs.lemmas.List.{append-nil, take-take}
use Rattle.spec_text.specs.Words.{same}
use Rattle.spec_board.specs.declared.place.Place.TheVariants as place
use Rattle.spec_board.specs.declared.read.Read.TheVariants as read
use Rattle.spec_board.specs.Reads.{ExactRead, Looked, basis_words, shape_words, front, has_shape, shown}
use Rattle.spec_board.specs.Places.{ExactPlace, place_at, IsShown}
use Rattle.spec_server.specs.Machine.{ExactAsk, State, opening}
use Rattle.spec_server.specs.Step.{Begun, Looks, Begins, Worked, Ends, Publishes, Works}
use Rattle.spec_server.specs.Step as step
use Rattle.spec_server.specs.Exchanges.{Exchange, AloneRun}
use Rattle.spec_serve.proofs.LeftPlaces.{place_some}
use Rattle.spec_world.specs.declared.event.Act.TheVariants as act
use Rattle.spec_world.specs.World.{Server, ExactAct, Stage, Idle, Counts, Sees, Solving, Puts, Claims, Writes}
use Rattle.spec_world.specs.World.{Session, Left, solve, begun_left, looking, counted_left, read_of, seen_left}
use Rattle.spec_world.specs.World.{worked_left, Leaves}
use Rattle.spec_world.specs.Sound.{going, reads_so_far}
use Rattle.spec_world.proofs.Stages.{looks_begin, looks_past, looks_find, looks_over, IsSeeing, IsSolving}
use Rattle.spec_world.proofs.Stages.{StageFits, looking_fits}
use Rattle.spec_world.proofs.Asked.{only_solve_looks}
use Rattle.spec_world.proofs.OneAct.{Moved, goes_on, ends}
use Rattle.spec_world.proofs.PutActs.{put_counted, claimed_moved, done_moved}

-- ---- looks

-- the reads of a look-up that goes on are those that it has made
looking_reads : (shape : List ℕ) (k : ℕ) (reads : List ExactRead) → reads_so_far (looking shape k reads) ≡ reads
looking_reads shape zero reads = refl
looking_reads shape (suc k) reads = refl

-- while a look goes on, a solve is being answered
looking_going : (shape : List ℕ) (k : ℕ) (reads : List ExactRead) → going (looking shape k reads) ≡ solve ∷ []
looking_going shape zero reads = refl
looking_going shape (suc k) reads = refl

-- what a look-up for a shape reads of words is all of them or those in front
shown_so : (shape payload : List ℕ) → IsShown payload (shown shape payload)
shown_so shape payload = by (has_shape shape payload)
  where
    by : (t : Bool) → IsShown payload (cond t payload (front payload))
    by true = inl refl
    by false = inr refl

pub front_front : (payload : List ℕ) → front (front payload) ≡ front payload
front_front payload = take-take shape_words shape_words payload (omega arith)

-- where what is shown of words has not the shape, it is its own front
shown_front : (shape payload : List ℕ) → has_shape shape (shown shape payload) ≡ false →
    front (shown shape payload) ≡ shown shape payload
shown_front shape payload = by (has_shape shape payload) refl
  where
    by : (t : Bool) → has_shape shape payload ≡ t → has_shape shape (cond t payload (front payload)) ≡ false →
        front (cond t payload (front payload)) ≡ cond t payload (front payload)
    by true e h = absurd (let z : true ≡ false = sym e ∙ h in cc)
    by false e h = front_front payload

-- only a place with the shape is read as one
pub shown_all : (shape payload : List ℕ) → has_shape shape (shown shape payload) ≡ true → shown shape payload ≡ payload
shown_all shape payload = by (has_shape shape payload) refl
  where
    by : (t : Bool) → has_shape shape payload ≡ t → has_shape shape (cond t payload (front payload)) ≡ true →
        cond t payload (front payload) ≡ payload
    by true e h = refl
    by false e h = absurd (let z : false ≡ true =
        sym e ∙ ap (λ words. same words shape) (sym (front_front payload)) ∙ h in cc)

-- ---- acts

module _ (server : Server) (me : ℕ) (now : List ExactPlace) (state : State) (finished : List Exchange)
    (run : AloneRun server.places opening finished state) (bounded : length now ≤ server.places)
    (sized : (k : ℕ) (words : List ℕ) → place_at now k ≡ Some (place.Done words) → length words ≡ basis_words) where
  -- the session with the state and the ended requests of this module, at this stage
  abbrev session : Stage → Session
  session stage = record { state = state; stage = stage; finished = finished }

  -- the act that begins a request leaves what fits the session, as its beginning says
  begun_moved : (asked : ExactAsk) (begun : Begun) → Begins state asked begun →
      Moved server me now (session Idle) (act.Ask asked) (begun_left me now (session Idle) asked begun)
  begun_moved asked (step.Answers replied next) b =
      ends server me now state Idle finished (act.Ask asked) asked [] [] replied next now run
      (record { begun = step.Answers replied next; begins = b; goes_on = (refl, refl, refl) }) refl
      (omega arith) refl refl
      (λ k words e. absurd (let z = e in cc))
  begun_moved asked (Looks shape) b =
      let same : asked ≡ solve = only_solve_looks state shape asked b in
      goes_on server me now state Idle finished (act.Ask asked) (Counts shape) now [] run
      (subst (λ a. Begins state a (Looks shape)) same b) refl (omega arith) refl (ap (λ a. a ∷ []) (sym same))
      (λ k words e. absurd (let z = e in cc))

  -- the act that counts the places for a look leaves what fits the session
  counted_moved : (shape : List ℕ) → StageFits server me now state (Counts shape) →
      Moved server me now (session (Counts shape)) act.Count (counted_left now (session (Counts shape)) shape)
  counted_moved shape b =
      goes_on server me now state (Counts shape) finished act.Count
      (looking shape (length now) (read.Count (length now) ∷ [])) now (read.Count (length now) ∷ []) run
      (looking_fits server me now state shape (length now) (read.Count (length now) ∷ []) b
      (looks_begin shape (length now)) (omega arith))
      (now, (refl, refl), refl) (omega arith) (looking_reads shape (length now) (read.Count (length now) ∷ []))
      (looking_going shape (length now) (read.Count (length now) ∷ [])) (λ k words e. cc)

  -- where place k is done, a look that sees place k, and reads of it words that are shown, moves the session as that
  -- read says
  seen_done : (j : ℕ) (shape : List ℕ) (k : ℕ) (reads : List ExactRead) (payload words : List ℕ) →
      IsSeeing now state shape k reads → place_at now k ≡ Some (place.Done payload) →
      IsShown payload words → (has_shape shape words ≡ true → words ≡ payload) →
      (has_shape shape words ≡ false → front words ≡ words) →
      Moved server me now (session (Sees shape k reads)) (act.See j)
      (seen_left now (session (Sees shape k reads)) shape k reads (read.Seen k words))
  seen_done j shape k reads payload words h at shows alls fronts = by (has_shape shape words) refl
    where
      made : ExactRead
      made = read.Seen k words

      after : List ExactRead
      after = reads ++ made ∷ []

      by : (t : Bool) → has_shape shape words ≡ t →
          Moved server me now (session (Sees shape k reads)) (act.See j)
          (record {
            session = session
                (cond t (Solving (Some (record { place = k; words = words })) (reads ++ read.Seen k words ∷ []))
                (looking shape k (reads ++ read.Seen k words ∷ [])));
            places = now;
            reads =
                read.Seen k words ∷ [];
            replied = None;
          })
      by true e =
          goes_on server me now state (Sees shape k reads) finished (act.See j)
          (Solving (Some (record { place = k; words = words })) (reads ++ read.Seen k words ∷ [])) now
          (read.Seen k words ∷ []) run
          (record {
            shape = shape;
            begins = h.begins;
            look =
                looks_find shape k words reads h.look (ap length (alls e) ∙ sized k payload at) e;
          })
          (now, (payload, at, shows, refl), refl) (omega arith) refl refl (λ i ws d. cc)
      by false e =
          let b = h.below in
          goes_on server me now state (Sees shape k reads) finished (act.See j)
          (looking shape k (reads ++ read.Seen k words ∷ [])) now (read.Seen k words ∷ []) run
          (looking_fits server me now state shape k (reads ++ read.Seen k words ∷ []) h.begins
          (looks_past shape k reads (read.Seen k words) h.look (looks_over shape k words e (fronts e)))
          (omega arith))
          (now, (payload, at, shows, refl), refl) (omega arith)
          (looking_reads shape k (reads ++ read.Seen k words ∷ []))
          (looking_going shape k (reads ++ read.Seen k words ∷ [])) (λ i ws d. cc)

  -- the act that sees place k in a look leaves what fits the session, whatever stands there
  seen_place : (j : ℕ) (shape : List ℕ) (k : ℕ) (reads : List ExactRead) (p : ExactPlace) →
      IsSeeing now state shape k reads → place_at now k ≡ Some p →
      Moved server me now (session (Sees shape k reads)) (act.See j)
      (seen_left now (session (Sees shape k reads)) shape k reads (read_of shape k (Some p)))
  seen_place j shape k reads (place.Claimed owner) h at =
      let b = h.below in
      goes_on server me now state (Sees shape k reads) finished (act.See j)
      (looking shape k (reads ++ read.NotDone k ∷ [])) now (read.NotDone k ∷ []) run
      (looking_fits server me now state shape k (reads ++ read.NotDone k ∷ []) h.begins
      (looks_past shape k reads (read.NotDone k) h.look (λ rest found d. (refl, d))) (omega arith))
      (now, (owner, at, refl), refl) (omega arith) (looking_reads shape k (reads ++ read.NotDone k ∷ []))
      (looking_going shape k (reads ++ read.NotDone k ∷ [])) (λ i ws d. cc)
  seen_place j shape k reads (place.Done payload) h at =
      seen_done j shape k reads payload (shown shape payload) h at (shown_so shape payload) (shown_all shape payload)
      (shown_front shape payload)

  -- the act that sees the next place of a look leaves what fits the session
  seen_moved : (j : ℕ) (shape : List ℕ) (k : ℕ) (reads : List ExactRead) → IsSeeing now state shape k reads →
      Moved server me now (session (Sees shape k reads)) (act.See j)
      (seen_left now (session (Sees shape k reads)) shape k reads (read_of shape k (place_at now k)))
  seen_moved j shape k reads h =
      let there = place_some now k h.below in
      subst (λ p. Moved server me now (session (Sees shape k reads)) (act.See j)
      (seen_left now (session (Sees shape k reads)) shape k reads (read_of shape k p)))
      (sym there.1) (seen_place j shape k reads there.0 h there.1)

  -- the act that solves leaves what fits the session, as its work says
  worked_moved : (found : Looked) (reads : List ExactRead) (worked : Worked) → IsSolving state found reads →
      Works state found worked →
      Moved server me now (session (Solving found reads)) act.Work
      (worked_left me now (session (Solving found reads)) reads worked)
  worked_moved found reads (Ends replied next) h works =
      ends server me now state (Solving found reads) finished act.Work solve reads [] replied next now run
      (record {
        begun = Looks h.shape;
        begins = h.begins;
        goes_on = record {
          looked = reads;
          found = found;
          worked = Ends replied next;
          look = h.look;
          works =
              works;
          concludes = (refl, refl, refl);
        };
      })
      refl (omega arith) (sym (append-nil reads)) refl (λ k words e. absurd (let z = e in cc))
  worked_moved found reads (Publishes pending) h works =
      goes_on server me now state (Solving found reads) finished act.Work (Puts pending reads) now [] run
      (record { shape = h.shape; found = found; begins = h.begins; look = h.look; works = works })
      refl (omega arith) (sym (append-nil reads)) refl (λ k words e. absurd (let z = e in cc))

  -- ---- all of them

  -- where an act may leave a session of a stage that fits its reads and the places, what it leaves fits them too
  pub act_moved : (stage : Stage) (a : ExactAct) (left : Left) → Leaves server me now (session stage) stage a left →
      StageFits server me now state stage → Moved server me now (session stage) a left
  act_moved Idle (act.Ask asked) left h fits =
      subst (Moved server me now (session Idle) (act.Ask asked)) (sym h.2) (begun_moved asked h.0 h.1)
  act_moved (Counts shape) act.Count left h fits =
      subst (Moved server me now (session (Counts shape)) act.Count) (sym h) (counted_moved shape fits)
  act_moved (Sees shape k reads) (act.See j) left h fits =
      subst (Moved server me now (session (Sees shape k reads)) (act.See j)) (sym h)
      (seen_moved j shape k reads fits)
  act_moved (Solving found reads) act.Work left h fits =
      subst (Moved server me now (session (Solving found reads)) act.Work) (sym h.2)
      (worked_moved found reads h.0 fits h.1)
  act_moved (Puts pending reads) act.Count left h fits =
      subst (Moved server me now (session (Puts pending reads)) act.Count) (sym h)
      (put_counted server me now state finished run bounded pending reads fits)
  act_moved (Claims pending c reads) act.Claim left h fits =
      subst (Moved server me now (session (Claims pending c reads)) act.Claim) (sym h)
      (claimed_moved server me now state finished run bounded pending c reads fits)
  act_moved (Writes pending k reads) act.Done left h fits =
      subst (Moved server me now (session (Writes pending k reads)) act.Done) (sym h)
      (done_moved server me now state finished run bounded pending k reads fits)
  act_moved stage other left h fits = absurd h
