-- A world in which the events of each ask stand together replies what one worker may reply.
use Rattle.std.proofs.Common.{◌≡◌, ℕ, Bool, true, false, List, [], ◌∷◌, ◌++◌, map, refl, sym, ap, ◌∙◌, subst, nat_eq}
use Rattle.std.proofs.Common.{eqb-true, cond}
use Rattle.std.specs.List.{flat_map}
use Rattle.std.proofs.lemmas.Bool.{eqb-false}
use Rattle.std.proofs.lemmas.List.{append_assoc, append-nil, append_cancel_left}
use Rattle.std.proofs.lemmas.Grind.{flat_map-append}
use Rattle.spec_board.specs.Reads.{ExactRead}
use Rattle.spec_board.specs.Places.{Plays, logged}
use Rattle.spec_server.specs.Machine.{opening}
use Rattle.spec_server.specs.Exchanges.{Exchange, AloneRun, of_session, log_of, RunFits}
use Rattle.spec_serve.proofs.LeftPlaces.{logged-append, Plays-append}
use Rattle.spec_world.specs.declared.event.Act.TheVariants as act
use Rattle.spec_world.specs.World.{Server, ExactAct, Idle, Session, World, opening_world, WorldRun}
use Rattle.spec_world.specs.Sound.{reads_so_far, reads_of}
use Rattle.spec_world.specs.Together.{by_session, AskRuns, Together}
use Rattle.spec_world.proofs.Worlds.{IsGood, opening_good, step_good}
use Rattle.spec_world.proofs.Events.{step_reads}

-- from the world `old` to `new`, session `me` made some reads more, the places answer them, the other sessions stay,
-- and the new world is good
record Reads (server : Server) (old : World) (me : ℕ) (new : World) : Type 0 where
  made : List ExactRead
  reads : reads_of (new.sessions me) ≡ reads_of (old.sessions me) ++ made
  played : Plays server.places old.places (logged me made) new.places
  others : (other : ℕ) → (me ≡ other → ⊥) → new.sessions other ≡ old.sessions other
  good : IsGood server new

-- acts of one session from a good world on read what the places answer, and other sessions stay
acts_read : (server : Server) (old : World) (me : ℕ) (acts : List ExactAct) (new : World) → IsGood server old →
    WorldRun server old (map (by_session me) acts) new → Reads server old me new
acts_read server old me [] new good run = record {
  made = [];
  reads = ap (λ (w : World). reads_of (w.sessions me)) run ∙ sym (append-nil (reads_of (old.sessions me)));
  played = ap (λ (w : World). w.places) run;
  others = λ other apart. ap (λ (w : World). w.sessions other) run;
  good = subst (IsGood server) (sym run) good;
}
acts_read server old me (a ∷ acts) new good run =
    let first = step_reads server old (by_session me a) run.0 run.1 good run.2 in
    let more = acts_read server run.1 me acts new
    (step_good server old (by_session me a) run.0 run.1 good run.2) run.3 in
    record {
      made = first.made ++ more.made;
      reads = more.reads ∙ ap (λ rs. rs ++ more.made) first.reads
          ∙ append_assoc (reads_of (old.sessions me)) first.made more.made;
      played = subst (λ log. Plays server.places old.places log new.places)
          (sym (logged-append me first.made more.made))
          (Plays-append server.places old.places run.1.places new.places (logged me first.made)
          (logged me more.made) first.answered more.played);
      others = λ other apart. more.others other apart ∙ first.others other apart;
      good = more.good;
    }

-- the reads of a session that is idle are those of its ended requests
idle_reads : (s : Session) → s.stage ≡ Idle → reads_of s ≡ flat_map (λ (x : Exchange). x.reads) s.finished
idle_reads s e = ap (λ stage. flat_map (λ (x : Exchange). x.reads) s.finished ++ reads_so_far stage) e
    ∙ append-nil (flat_map (λ (x : Exchange). x.reads) s.finished)

-- where an idle session has ended one exchange more and is idle again, it has read what the exchange says
made_so : (old new : Session) (x : Exchange) (made : List ExactRead) → old.stage ≡ Idle → new.stage ≡ Idle →
    new.finished ≡ old.finished ++ x ∷ [] → reads_of new ≡ reads_of old ++ made → made ≡ x.reads
made_so old new x made i j e reads =
    append_cancel_left (flat_map (λ (x : Exchange). x.reads) old.finished) made x.reads
    (ap (λ rs. rs ++ made) (sym (idle_reads old i)) ∙ sym reads ∙ idle_reads new j
    ∙ ap (flat_map (λ (x : Exchange). x.reads)) e
    ∙ flat_map-append (λ (x : Exchange). x.reads) old.finished (x ∷ [])
    ∙ ap (λ rs. flat_map (λ (x : Exchange). x.reads) old.finished ++ rs) (append-nil x.reads))

-- from the world `old` to `new`, each session ended its own of these exchanges in order, the places answer the reads of
-- all, and the new world is good
record ComesTo (server : Server) (old : World) (xs : List Exchange) (new : World) : Type 0 where
  finished : (session : ℕ) → (new.sessions session).finished ≡ (old.sessions session).finished ++ of_session session xs
  played : Plays server.places old.places (log_of xs) new.places
  good : IsGood server new

module _ (server : Server) (old : World) (x : Exchange) (xs : List Exchange) (middle new : World)
    (r : AskRuns server old x middle) (reads : Reads server old x.session middle)
    (c : ComesTo server middle xs new) where
  -- each session's ended requests are those from before and then its own among the exchanges
  all_finished : (session : ℕ) →
      (new.sessions session).finished ≡ (old.sessions session).finished ++ of_session session (x ∷ xs)
  all_finished session = c.finished session ∙ by (nat_eq x.session session) refl
    where
      by : (t : Bool) → nat_eq x.session session ≡ t →
          (middle.sessions session).finished ++ of_session session xs ≡ (old.sessions session).finished ++ cond
          (nat_eq x.session session) (x ∷ of_session session xs) (of_session session xs)
      by true e =
          let same : x.session ≡ session = eqb-true x.session session e in
          let own : (middle.sessions session).finished ≡ (old.sessions session).finished ++ x ∷ [] =
          subst (λ i. (middle.sessions i).finished ≡ (old.sessions i).finished ++ x ∷ []) same r.finished in
          ap (λ ys. ys ++ of_session session xs) own
          ∙ append_assoc (old.sessions session).finished (x ∷ []) (of_session session xs)
          ∙ ap (λ t. (old.sessions session).finished ++ cond t (x ∷ of_session session xs) (of_session session xs))
          (sym e)
      by false e =
          ap (λ (s : Session). s.finished ++ of_session session xs)
          (reads.others session (eqb-false x.session session e))
          ∙ ap (λ t. (old.sessions session).finished ++ cond t (x ∷ of_session session xs) (of_session session xs))
          (sym e)

  -- where one request runs to its end, and what follows comes to exchanges, both come to the exchange and these
  comes_on : (old.sessions x.session).stage ≡ Idle → ComesTo server old (x ∷ xs) new
  comes_on idle =
      let made : reads.made ≡ x.reads =
      made_so (old.sessions x.session)
      (middle.sessions x.session) x reads.made idle r.is_idle r.finished reads.reads in
      record {
        finished = all_finished;
        played = Plays-append server.places old.places middle.places new.places (logged x.session x.reads) (log_of xs)
            (subst (λ rs. Plays server.places old.places (logged x.session rs) middle.places) made reads.played)
            c.played;
        good = c.good;
      }

-- where all sessions are idle and one request runs to its end, all are idle again
idle_after : (server : Server) (old : World) (x : Exchange) (middle : World) → AskRuns server old x middle →
    Reads server old x.session middle → ((session : ℕ) → (old.sessions session).stage ≡ Idle) →
    (session : ℕ) → (middle.sessions session).stage ≡ Idle
idle_after server old x middle r reads idle session = by (nat_eq x.session session) refl
  where
    by : (t : Bool) → nat_eq x.session session ≡ t → (middle.sessions session).stage ≡ Idle
    by true e = subst (λ i. (middle.sessions i).stage ≡ Idle) (eqb-true x.session session e) r.is_idle
    by false e = ap (λ (s : Session). s.stage) (reads.others session (eqb-false x.session session e)) ∙ idle session

-- requests that run one after the other from a good world of idle sessions come to the exchanges with their reads
comes_to : (server : Server) (old : World) (xs : List Exchange) (new : World) → IsGood server old →
    ((session : ℕ) → (old.sessions session).stage ≡ Idle) → Together server old xs new → ComesTo server old xs new
comes_to server old [] new good idle t = record {
  finished = λ session. ap (λ (w : World). (w.sessions session).finished) t
      ∙ sym (append-nil (old.sessions session).finished);
  played = ap (λ (w : World). w.places) t;
  good = subst (IsGood server) (sym t) good;
}
comes_to server old (x ∷ xs) new good idle t =
    let reads = acts_read server old x.session (act.Ask x.ask ∷ t.1.acts) t.0 good t.1.run in
    let c = comes_to server t.0 xs new reads.good (idle_after server old x t.0 t.1 reads idle) t.2 in
    comes_on server old x xs t.0 new t.1 reads c (idle x.session)

-- a world that comes of requests one after the other has exchanges that one worker may have had
pub together_one : (server : Server) (xs : List Exchange) (world : World) → Together server opening_world xs world →
    RunFits server.places xs
together_one server xs world t =
    let c = comes_to server opening_world xs world (opening_good server) (λ session. refl) t in
    record {
      alone = λ session. (
        (world.sessions session).state,
        subst
            (λ ys. AloneRun server.places opening ys (world.sessions session).state) (c.finished session)
            (c.good.run session),
      );
      last = world.places;
      played = c.played;
    }
