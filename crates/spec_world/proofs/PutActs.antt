-- The acts of a put.
use Rattle.std.proofs.Common.{◌≡◌, ℕ, ◌≤◌, Bool, true, false, List, [], ◌∷◌, ◌++◌, length, Some, None}
use Rattle.std.proofs.Common.{refl, sym, ap, ◌∙◌, subst, nat_eq, eqb-true, cond, arith}
use Rattle.std.proofs.lemmas.Bool.{eqb-false}
use Rattle.std.proofs.lemmas.List.{append_assoc}
use Rattle.spec_board.specs.declared.place.Place.TheVariants as place
use Rattle.spec_board.specs.declared.read.Put.{Put}
use Rattle.spec_board.specs.declared.read.Put.TheVariants.{Published, Full, Raced}
use Rattle.spec_board.specs.declared.read.Read.TheVariants as read
use Rattle.spec_board.specs.Reads.{ExactRead, PutReads}
use Rattle.spec_board.specs.Places.{ExactPlace, place_at, with_place}
use Rattle.spec_board.proofs.SharedPlaces.{place_last}
use Rattle.spec_server.specs.Machine.{ExactReply, State, opening}
use Rattle.spec_server.specs.Step.{Looks, Pending, Publishes, answered, after_put}
use Rattle.spec_server.specs.Step.{AloneStep}
use Rattle.spec_server.specs.Exchanges.{Exchange, AloneRun}
use Rattle.spec_world.specs.declared.event.Act.TheVariants as act
use Rattle.spec_world.specs.World.{Server, Stage, Idle, Puts, Claims, Writes}
use Rattle.spec_world.specs.World.{Session, solve}
use Rattle.spec_world.specs.World.{put_left, put_counted_left, claimed_left, done_left}
use Rattle.spec_world.specs.Sound.{IsPublisher}
use Rattle.spec_world.proofs.Stages.{HasLooked}
use Rattle.spec_world.proofs.Stages.{IsClaiming, IsWriting}
use Rattle.spec_world.proofs.OneAct.{Moved, goes_on, ends}
use Rattle.spec_world.proofs.PublishedBases.{puts_basis}

module _ (server : Server) (me : ℕ) (now : List ExactPlace) (state : State) (finished : List Exchange)
    (run : AloneRun server.places opening finished state) (bounded : length now ≤ server.places) where
  -- the session with the state and the ended requests of this module, at this stage
  abbrev session : Stage → Session
  session stage = record { state = state; stage = stage; finished = finished }

  -- where a session has looked, and puts with some result, the solve is one step of it, with the reads of the look and
  -- of the put
  put_step : (pending : Pending) (looked reads tried : List ExactRead) (result : Put)
      (l : HasLooked state pending looked) → PutReads server.places pending.words result tried →
      reads ≡ looked ++ tried →
      AloneStep server.places state solve reads (answered state pending.end) (after_put state pending result)
  put_step pending looked reads tried result l put all = record {
    begun = Looks l.shape;
    begins = l.begins;
    goes_on = record {
      looked = looked;
      found = l.found;
      worked = Publishes pending;
      look = l.look;
      works = l.works;
      concludes = record { put = result; tried = tried; puts = put; all = all; answer = refl; kept = refl };
    };
  }

  -- counting the places for a put leaves what fits the session, which has looked, and the places
  pub put_counted : (pending : Pending) (reads : List ExactRead) → HasLooked state pending reads →
      Moved server me now (session (Puts pending reads)) act.Count
      (put_counted_left server me now (session (Puts pending reads)) pending reads)
  put_counted pending reads l = by (nat_eq (length now) server.places) refl
    where
      by : (t : Bool) → nat_eq (length now) server.places ≡ t →
          Moved server me now (session (Puts pending reads)) act.Count
          (cond t (put_left me now (session (Puts pending reads)) pending reads (read.Count (length now))
          (Full (length now)))
          (record {
            session = session (Claims pending (length now) (reads ++ read.Count (length now) ∷ []));
            places =
                now;
            reads = read.Count (length now) ∷ [];
            replied = None;
          }))
      by true e =
          ends server me now state (Puts pending reads) finished act.Count solve
          (reads ++ read.Count (length now) ∷ []) (read.Count (length now) ∷ []) (answered state pending.end)
          (after_put state pending (Full (length now))) now run
          (put_step pending reads (reads ++ read.Count (length now) ∷ []) (read.Count (length now) ∷ [])
          (Full (length now)) l (eqb-true (length now) server.places e, refl) refl)
          (now, (refl, refl), refl) (omega arith) refl refl (λ k words d. cc)
      by false e =
          let apart : length now ≡ server.places → ⊥ = eqb-false (length now) server.places e in
          goes_on server me now state (Puts pending reads) finished act.Count
          (Claims pending (length now) (reads ++ read.Count (length now) ∷ [])) now
          (read.Count (length now) ∷ []) run
          (record { looked = reads; is_looked = l; all = refl; room = omega arith; low = omega arith })
          (now, (refl, refl), refl) (omega arith) refl refl (λ k words d. cc)

  -- claiming a place for a put leaves what fits the session, which has counted, and the places
  pub claimed_moved : (pending : Pending) (c : ℕ) (reads : List ExactRead) →
      IsClaiming server now state pending c reads →
      Moved server me now (session (Claims pending c reads)) act.Claim
      (claimed_left me now (session (Claims pending c reads)) pending c reads)
  claimed_moved pending c reads h = by (nat_eq (length now) c) refl
    where
      by : (t : Bool) → nat_eq (length now) c ≡ t → Moved server me now (session (Claims pending c reads)) act.Claim
          (cond t
          (record {
            session = session (Writes pending c (reads ++ read.Claim c ∷ []));
            places =
                now ++ place.Claimed me ∷ [];
            reads = read.Claim c ∷ [];
            replied = None;
          })
          (put_left me now (session (Claims pending c reads)) pending reads (read.Lost (length now))
          (Raced (length now))))
      by true e =
          let same : length now ≡ c = eqb-true (length now) c e in
          let next : List ExactPlace = now ++ place.Claimed me ∷ [] in
          goes_on server me now state (Claims pending c reads) finished act.Claim
          (Writes pending c (reads ++ read.Claim c ∷ [])) (now ++ place.Claimed me ∷ []) (read.Claim c ∷ []) run
          (record {
            looked = h.looked;
            is_looked = h.is_looked;
            all = ap (λ rs. rs ++ read.Claim c ∷ []) h.all
                ∙ append_assoc h.looked (read.Count c ∷ []) (read.Claim c ∷ []);
            room = h.room;
            mine = subst (λ k. place_at (now ++ place.Claimed me ∷ []) k ≡ Some (place.Claimed me)) same
                (place_last now (place.Claimed me));
          })
          (now ++ place.Claimed me ∷ [], (sym same, h.room, refl), refl) (omega arith) refl refl (λ k words d. cc)
      by false e =
          let apart : length now ≡ c → ⊥ = eqb-false (length now) c e in
          let low = h.low in
          ends server me now state (Claims pending c reads) finished act.Claim solve
          (reads ++ read.Lost (length now) ∷ []) (read.Lost (length now) ∷ []) (answered state pending.end)
          (after_put state pending (Raced (length now))) now run
          (put_step pending h.looked (reads ++ read.Lost (length now) ∷ [])
          (read.Count c ∷ read.Lost (length now) ∷ []) (Raced (length now)) h.is_looked (c, omega arith, refl)
          (ap (λ rs. rs ++ read.Lost (length now) ∷ []) h.all
          ∙ append_assoc h.looked (read.Count c ∷ []) (read.Lost (length now) ∷ [])))
          (now, (refl, refl), refl) (omega arith) refl refl (λ k words d. cc)

  -- writing the words of a put to the claimed place leaves what fits the session and the places
  pub done_moved : (pending : Pending) (k : ℕ) (reads : List ExactRead) →
      IsWriting server me now state pending k reads →
      Moved server me now (session (Writes pending k reads)) act.Done
      (done_left me now (session (Writes pending k reads)) pending k reads)
  done_moved pending k reads h =
      ends server me now state (Writes pending k reads) finished act.Done solve (reads ++ made ∷ [])
      (made ∷ []) replied new next run
      (put_step pending h.looked (reads ++ made ∷ []) (read.Count k ∷ read.Claim k ∷ made ∷ [])
      (Published k) h.is_looked (h.room, refl) all)
      (next, (h.mine, refl), refl) (omega arith) refl refl puts
    where
      made : ExactRead
      made = read.Done k pending.words

      next : List ExactPlace
      next = with_place now k (place.Done pending.words)

      replied : ExactReply
      replied = answered state pending.end

      new : State
      new = after_put state pending (Published k)

      all : reads ++ made ∷ [] ≡ h.looked ++ read.Count k ∷ read.Claim k ∷ made ∷ []
      all = ap (λ rs. rs ++ made ∷ []) h.all ∙ append_assoc h.looked (read.Count k ∷ read.Claim k ∷ []) (made ∷ [])

      x : Exchange
      x = record { session = me; ask = solve; reads = reads ++ made ∷ []; reply = replied }

      after : Session
      after = record { state = new; stage = Idle; finished = finished ++ x ∷ [] }

      publisher : IsPublisher server.places after k pending.words
      publisher = record {
        before = finished;
        after = [];
        exchange = x;
        old = state;
        all = refl;
        run = run;
        puts = puts_basis state pending h.looked h.is_looked x k h.is_looked.begins all;
      }

      puts : (j : ℕ) (words : List ℕ) → made ∷ [] ≡ read.Done j words ∷ [] → IsPublisher server.places after j words
      puts j words e =
          let same_place : k ≡ j = cc in
          let same_words : pending.words ≡ words = cc in
          subst (λ i. IsPublisher server.places after i words) same_place
          (subst (IsPublisher server.places after k) same_words publisher)
