-- Each event keeps what holds of the world, so it holds after every list of events.
--
-- `opening_good`: the opening world is good.
-- `taken`: in a good world, what an event's act leaves fits the session, its reads and the places.
-- `step_good`: an event leads from a good world to a good world.
-- `run_good`: a list of events leads from a good world to a good world.
-- `worlds_sound`: each world that events lead to from the opening is sound.
use Rattle.std.proofs.Common.{◌≡◌, ℕ, ◌≤◌, Bool, true, false, List, [], ◌∷◌, ◌++◌, length, Some, refl, sym, ap}
use Rattle.std.proofs.Common.{◌∙◌, subst, ◌⊎◌, inl, inr, nat_eq, eqb-true, cond, arith}
use Rattle.std.proofs.lemmas.Bool.{eqb-false, eq-eqb, ne_eqb}
use Rattle.std.proofs.lemmas.List.{append-nil}
use Rattle.std.proofs.lemmas.Grind.{flat_map-append}
use Rattle.spec_board.proofs.PackedPlaces.{packed_length}
use Rattle.spec_board.proofs.SharedPlaces.{answers_keep}
use Rattle.spec_board.specs.declared.place.Place.TheVariants as place
use Rattle.spec_board.specs.declared.read.Read.TheVariants as read
use Rattle.spec_board.specs.Reads.{ExactRead, basis_words}
use Rattle.spec_board.specs.Places.{ExactPlace, place_at, Logged, reads_in, Plays, logged}
use Rattle.spec_server.specs.Machine.{opening}
use Rattle.spec_server.specs.Exchanges.{AloneRun}
use Rattle.spec_serve.proofs.LeftPlaces.{answers_grow, answers_bounded, answers_before, Plays-append}
use Rattle.spec_world.specs.World.{Server, ExactEvent, ExactEnd, Session, World, opening_world, is_enabled, Takes}
use Rattle.spec_world.specs.World.{StepBy, WorldStep, WorldRun}
use Rattle.spec_world.specs.Sound.{asks_of, reads_of, asks_by, asks_in, IsPublisher, IsSound}
use Rattle.spec_world.proofs.Stages.{StageFits, stage_keeps}
use Rattle.spec_world.proofs.OneAct.{Moved}
use Rattle.spec_world.proofs.Acts.{act_moved}
use Rattle.spec_world.proofs.Publishers.{publisher_stays}

-- ---- what the reads of one session leave

-- these reads, each as one of session `me`
abbrev log_of : ℕ → List ExactRead → List Logged
log_of me made = logged me made

-- what one session reads leaves each place as it is, but those that this session has claimed
plays_keep : (places me : ℕ) (now last : List ExactPlace) (made : List ExactRead) (k : ℕ) (p : ExactPlace) →
    Plays places now (log_of me made) last → (p ≡ place.Claimed me → ⊥) →
    place_at now k ≡ Some p → place_at last k ≡ Some p
plays_keep places me now last [] k p h other at = subst (λ ps. place_at ps k ≡ Some p) (sym h) at
plays_keep places me now last (r ∷ made) k p h other at =
    plays_keep places me h.0 last made k p h.2 other (answers_keep places me now h.0 r k p h.1 other at)

-- what one session reads leaves at least as many places claimed as before
plays_grow : (places me : ℕ) (now last : List ExactPlace) (made : List ExactRead) →
    Plays places now (log_of me made) last → length now ≤ length last
plays_grow places me now last [] h = let e : length last ≡ length now = ap length h in omega arith
plays_grow places me now last (r ∷ made) h =
    let first = answers_grow places me now h.0 r h.1 in
    let more = plays_grow places me h.0 last made h.2 in
    omega arith

-- what one session reads leaves at most all places claimed, if at most all were claimed before
plays_bounded : (places me : ℕ) (now last : List ExactPlace) (made : List ExactRead) →
    Plays places now (log_of me made) last → length now ≤ places → length last ≤ places
plays_bounded places me now last [] h b = let e : length last ≡ length now = ap length h in omega arith
plays_bounded places me now last (r ∷ made) h b =
    plays_bounded places me h.0 last made h.2 (answers_bounded places me now h.0 r h.1 b)

-- a place that is done after at most one read was done before, or the read published it
plays_before : (places me : ℕ) (now last : List ExactPlace) (made : List ExactRead) (k : ℕ) (words : List ℕ) →
    length made ≤ 1 → Plays places now (log_of me made) last →
    place_at last k ≡ Some (place.Done words) →
    (place_at now k ≡ Some (place.Done words)) ⊎ (made ≡ read.Done k words ∷ [])
plays_before places me now last [] k words few h at = inl (subst (λ ps. place_at ps k ≡ Some (place.Done words)) h at)
plays_before places me now last (r ∷ []) k words few h at =
    by (answers_before places me now h.0 r k words h.1 (subst (λ ps. place_at ps k ≡ Some (place.Done words)) h.2 at))
  where
    by : (place_at now k ≡ Some (place.Done words)) ⊎ (r ≡ read.Done k words) →
        (place_at now k ≡ Some (place.Done words)) ⊎ (r ∷ [] ≡ read.Done k words ∷ [])
    by (inl e) = inl e
    by (inr e) = inr (ap (λ r. r ∷ []) e)
plays_before places me now last (r ∷ s ∷ made) k words few h at = absurd (omega arith)

-- the reads of a session in the log of its own reads are these reads
own_reads : (me : ℕ) (made : List ExactRead) → reads_in me (log_of me made) ≡ made
own_reads me [] = refl
own_reads me (r ∷ made) =
    ap (λ t. cond t (r ∷ []) [] ++ reads_in me (log_of me made)) (eq-eqb me me refl)
    ∙ ap (λ rs. r ∷ rs) (own_reads me made)

-- another session has no reads in the log of one session's reads
other_reads : (me other : ℕ) (made : List ExactRead) → (me ≡ other → ⊥) → reads_in other (log_of me made) ≡ []
other_reads me other [] apart = refl
other_reads me other (r ∷ made) apart =
    ap (λ t. cond t (r ∷ []) [] ++ reads_in other (log_of me made)) (ne_eqb me other apart)
    ∙ other_reads me other made apart

-- a session's reads in two logs, one behind the other, are those in the first and then those in the second
reads_in-append : (session : ℕ) (xs ys : List Logged) →
    reads_in session (xs ++ ys) ≡ reads_in session xs ++ reads_in session ys
reads_in-append session xs ys = flat_map-append (λ (x : Logged). cond (nat_eq x.session session) (x.read ∷ []) []) xs ys

-- a session's requests in events with one more behind them are those before, and its request in this event
asks_in-append : (session : ℕ) (xs : List ExactEvent) (y : ExactEvent) →
    asks_in session (xs ++ y ∷ []) ≡ asks_in session xs ++ cond (nat_eq y.session session) (asks_by y.act) []
asks_in-append session xs y =
    flat_map-append (λ (e : ExactEvent). cond (nat_eq e.session session) (asks_by e.act) []) xs (y ∷ [])
    ∙ ap (λ as'. asks_in session xs ++ as') (append-nil (cond (nat_eq y.session session) (asks_by y.act) []))

-- ---- what holds of every world

-- What events keep: each session is a run of its own and its stage fits, no more than all places are claimed, one log
-- of all reads is answered by the places, each session's reads and requests are those of the log and of the events, and
-- each done place has a session that published it.
pub record IsGood (server : Server) (world : World) : Type 0 where
  pub run : (session : ℕ) →
      AloneRun server.places opening (world.sessions session).finished (world.sessions session).state
  pub stage : (session : ℕ) →
      StageFits server session world.places (world.sessions session).state (world.sessions session).stage
  pub bounded : length world.places ≤ server.places
  pub log : List Logged
  pub played : Plays server.places [] log world.places
  pub reads : (session : ℕ) → reads_of (world.sessions session) ≡ reads_in session log
  pub asks : (session : ℕ) → asks_of (world.sessions session) ≡ asks_in session world.events
  pub published : (k : ℕ) (words : List ℕ) → place_at world.places k ≡ Some (place.Done words) →
      (session : ℕ) × IsPublisher server.places (world.sessions session) k words

pub opening_good : (server : Server) → IsGood server opening_world
opening_good server = record {
  run = λ session. refl;
  stage = λ session. tt;
  bounded = omega arith;
  log = [];
  played = refl;
  reads = λ session. refl;
  asks = λ session. refl;
  published = λ k words e. absurd (let z = e in cc);
}

-- in a good world the words of each done place are as many as those of a basis
good_sized : (server : Server) (world : World) → IsGood server world → (k : ℕ) (words : List ℕ) →
    place_at world.places k ≡ Some (place.Done words) → length words ≡ basis_words
good_sized server world good k words at = let p = good.published k words at in let b = p.1.puts in
    ap length b.is_packed ∙ packed_length b.form b.basis

-- what an act leaves, where the world is good
pub taken : (server : Server) (old : World) (event : ExactEvent) (end : ExactEnd) (new : World) → IsGood server old →
    (t : Takes server old event end new) →
    Moved server event.session old.places (old.sessions event.session) event.act t.left
taken server old event end new good t =
    let s = old.sessions event.session in
    act_moved server event.session old.places s.state s.finished (good.run event.session) good.bounded
    (good_sized server old good) s.stage event.act t.left t.leaves (good.stage event.session)

module _ (server : Server) (old : World) (event : ExactEvent) (end : ExactEnd) (new : World)
    (good : IsGood server old) (t : Takes server old event end new) where
  -- the session of the event
  me : ℕ
  me = event.session

  -- in a good world, what the event's act leaves fits its session, its reads and the places
  moved : Moved server event.session old.places (old.sessions event.session) event.act t.left
  moved = taken server old event end new good t

  -- what holds of the session that the act leaves, and of each other session as it was, holds of each session of the
  -- new world
  each : (P : ℕ → Session → Type 0) → P event.session t.left.session →
      ((other : ℕ) → (event.session ≡ other → ⊥) → P other (old.sessions other)) → (session : ℕ) →
      P session (new.sessions session)
  each P own others session = by (nat_eq event.session session) refl
    where
      by : (b : Bool) → nat_eq event.session session ≡ b → P session (new.sessions session)
      by true e = subst (λ i. P i (new.sessions i)) (eqb-true event.session session e)
          (subst (P event.session) (sym t.own) own)
      by false e = let apart = eqb-false event.session session e in
          subst (P session) (sym (t.others session apart)) (others session apart)

  -- the stage of each other session fits the places after the event
  others_stage : (other : ℕ) → (event.session ≡ other → ⊥) →
      StageFits server other t.left.places (old.sessions other).state (old.sessions other).stage
  others_stage other apart =
      stage_keeps server other old.places t.left.places (old.sessions other).state (old.sessions other).stage
      (plays_grow server.places event.session old.places t.left.places t.left.reads moved.answered)
      (λ k at. plays_keep server.places event.session old.places t.left.places t.left.reads k
      (place.Claimed other) moved.answered (λ e. apart (let z : other ≡ event.session = cc in sym z)) at)
      (good.stage other)

  -- the log of the old world with the event's reads behind it
  abbrev new_log : List Logged
  new_log = good.log ++ log_of event.session t.left.reads

  -- after the event each session's reads are those in the log with the event's read
  new_reads : (session : ℕ) → reads_of (new.sessions session) ≡ reads_in session new_log
  new_reads =
      each (λ i s. reads_of s ≡ reads_in i new_log)
      (moved.reads ∙ ap (λ rs. rs ++ t.left.reads) (good.reads event.session)
      ∙ ap (λ rs. reads_in event.session good.log ++ rs) (sym (own_reads event.session t.left.reads))
      ∙ sym (reads_in-append event.session good.log (log_of event.session t.left.reads)))
      (λ other apart. good.reads other ∙ sym (append-nil (reads_in other good.log))
      ∙ ap (λ rs. reads_in other good.log ++ rs) (sym (other_reads event.session other t.left.reads apart))
      ∙ sym (reads_in-append other good.log (log_of event.session t.left.reads)))

  -- after the event each session's asks are those of the events with this one
  new_asks : (session : ℕ) → asks_of (new.sessions session) ≡ asks_in session new.events
  new_asks session =
      each (λ i s. asks_of s ≡ asks_in i (old.events ++ event ∷ []))
      (moved.asks ∙ ap (λ as'. as' ++ asks_by event.act) (good.asks event.session)
      ∙ ap (λ b. asks_in event.session old.events ++ cond b (asks_by event.act) [])
      (sym (eq-eqb event.session event.session refl))
      ∙ sym (asks_in-append event.session old.events event))
      (λ other apart. good.asks other ∙ sym (append-nil (asks_in other old.events))
      ∙ ap (λ b. asks_in other old.events ++ cond b (asks_by event.act) []) (sym (ne_eqb event.session other apart))
      ∙ sym (asks_in-append other old.events event))
      session
      ∙ ap (asks_in session) (sym t.events)

  -- where a session published words at place k before an event, it is their publisher after the event too
  publisher : (k : ℕ) (words : List ℕ) (session : ℕ) → IsPublisher server.places (old.sessions session) k words →
      IsPublisher server.places (new.sessions session) k words
  publisher k words session =
      each (λ i s. IsPublisher server.places (old.sessions i) k words → IsPublisher server.places s k words)
      (publisher_stays server.places event.session
      (old.sessions event.session) t.left.session t.left.replied k words moved.grows)
      (λ other apart p. p)
      session

  -- after the event each done place has a session that published it
  new_published : (k : ℕ) (words : List ℕ) → place_at new.places k ≡ Some (place.Done words) →
      (session : ℕ) × IsPublisher server.places (new.sessions session) k words
  new_published k words at =
      by (plays_before server.places event.session old.places t.left.places t.left.reads k words moved.few
      moved.answered (subst (λ ps. place_at ps k ≡ Some (place.Done words)) t.places at))
    where
      by : (place_at old.places k ≡ Some (place.Done words)) ⊎ (t.left.reads ≡ read.Done k words ∷ []) →
          (session : ℕ) × IsPublisher server.places (new.sessions session) k words
      by (inl e) = let p = good.published k words e in (p.0, publisher k words p.0 p.1)
      by (inr e) = (
        event.session,
        subst (λ s. IsPublisher server.places s k words) (sym t.own)
            (moved.published k words e),
      )

  -- an event's act leads from a good world to a good world
  taken_good : IsGood server new
  taken_good = record {
    run = each (λ i s. AloneRun server.places opening s.finished s.state) moved.run (λ other apart. good.run other);
    stage = subst (λ ps. (session : ℕ) →
        StageFits server session ps (new.sessions session).state (new.sessions session).stage) (sym t.places)
        (each (λ i s. StageFits server i t.left.places s.state s.stage) moved.stage others_stage);
    bounded = subst (λ ps. length ps ≤ server.places) (sym t.places)
        (plays_bounded server.places event.session old.places t.left.places t.left.reads moved.answered good.bounded);
    log = new_log;
    played = subst (Plays server.places [] new_log) (sym t.places)
        (Plays-append server.places [] old.places t.left.places good.log
        (log_of event.session t.left.reads) good.played moved.answered);
    reads = new_reads;
    asks = new_asks;
    published = new_published;
  }

-- ---- every list of events

-- an event, enabled or not, leads from a good world to a good world
step_by : (enabled : Bool) (server : Server) (old : World) (event : ExactEvent) (end : ExactEnd) (new : World) →
    IsGood server old → StepBy enabled server old event end new → IsGood server new
step_by true server old event end new good t = taken_good server old event end new good t
step_by false server old event end new good h = subst (IsGood server) (sym h.1) good

pub step_good : (server : Server) (old : World) (event : ExactEvent) (end : ExactEnd) (new : World) →
    IsGood server old → WorldStep server old event end new → IsGood server new
step_good server old event end new good h = step_by (is_enabled server old event) server old event end new good h

pub run_good : (server : Server) (old : World) (events : List ExactEvent) (new : World) → IsGood server old →
    WorldRun server old events new → IsGood server new
run_good server old [] new good run = subst (IsGood server) (sym run) good
run_good server old (event ∷ events) new good run =
    run_good server run.1 events new (step_good server old event run.0 run.1 good run.2) run.3

-- a good world is sound
good_sound : (server : Server) (world : World) → IsGood server world → IsSound server world
good_sound server world good = record {
  alone = good.run;
  log = good.log;
  played = good.played;
  reads = good.reads;
  asks = good.asks;
  published = good.published;
}

pub worlds_sound : (server : Server) (events : List ExactEvent) (world : World) →
    WorldRun server opening_world events world → IsSound server world
worlds_sound server events world run =
    good_sound server world (run_good server opening_world events world (opening_good server) run)
