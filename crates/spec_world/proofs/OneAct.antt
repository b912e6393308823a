-- What one act leaves of its session and of the places.
use Rattle.std.proofs.Common.{◌≡◌, ℕ, ◌≤◌, List, [], ◌∷◌, ◌++◌, length, map, Option, Some, None, refl, sym, ap, ◌∙◌}
use Rattle.std.specs.List.{flat_map}
use Rattle.std.proofs.lemmas.List.{append_assoc, append-nil, map-append}
use Rattle.std.proofs.lemmas.Grind.{flat_map-append}
use Rattle.spec_board.specs.declared.read.Read.TheVariants as read
use Rattle.spec_board.specs.Reads.{ExactRead}
use Rattle.spec_board.specs.Places.{ExactPlace, Plays, logged}
use Rattle.spec_server.specs.Machine.{ExactAsk, ExactReply, State, opening}
use Rattle.spec_server.specs.Step.{AloneStep}
use Rattle.spec_server.specs.Exchanges.{Exchange, AloneRun}
use Rattle.spec_world.specs.World.{Server, ExactAct, Stage, Idle, Session, Left}
use Rattle.spec_world.specs.Sound.{going, reads_so_far, asks_of, reads_of, asks_by, IsPublisher}
use Rattle.spec_world.proofs.Stages.{StageFits, run_on}

-- From session s to `new`: without a reply the ended exchanges stay as they are. With one, there is one exchange more,
-- of session `me` and with this reply, and the session is idle.
abbrev pub Grows : ℕ → Session → Option ExactReply → Session → Type 0
Grows me s None new = new.finished ≡ s.finished
Grows me s (Some replied) new =
    (x : Exchange) × (new.finished ≡ s.finished ++ x ∷ []) × (x.session ≡ me) × (x.reply ≡ replied) × (new.stage ≡ Idle)

-- What an act leaves of session s and of the places `now` fits: the session is a run of its own and its stage fits, the
-- places answer the one read that is made, if any, and reads, requests and ended exchanges grow by the act's.
pub record Moved (server : Server) (me : ℕ) (now : List ExactPlace) (s : Session) (act : ExactAct)
    (left : Left) : Type 0 where
  pub run : AloneRun server.places opening left.session.finished left.session.state
  pub stage : StageFits server me left.places left.session.state left.session.stage
  pub answered : Plays server.places now (logged me left.reads) left.places
  pub few : length left.reads ≤ 1
  pub reads : reads_of left.session ≡ reads_of s ++ left.reads
  pub asks : asks_of left.session ≡ asks_of s ++ asks_by act
  pub grows : Grows me s left.replied left.session
  pub published : (k : ℕ) (words : List ℕ) → left.reads ≡ read.Done k words ∷ [] →
      IsPublisher server.places left.session k words

-- ---- the ask goes on

module _ (server : Server) (me : ℕ) (now : List ExactPlace) (state : State) (stage : Stage)
    (finished : List Exchange) where
  -- the session of this module before the act
  abbrev before : Session
  before = record { state = state; stage = stage; finished = finished }

  -- an act that ends no request, and makes at most one read, which publishes nothing and which the places answer,
  -- leaves what fits the session and the places
  pub goes_on : (act : ExactAct) (new : Stage) (next : List ExactPlace) (made : List ExactRead) →
      AloneRun server.places opening finished state → StageFits server me next state new →
      Plays server.places now (logged me made) next → length made ≤ 1 →
      reads_so_far new ≡ reads_so_far stage ++ made → going new ≡ going stage ++ asks_by act →
      ((k : ℕ) (words : List ℕ) → made ≡ read.Done k words ∷ [] → ⊥) →
      Moved server me now before act
      (record {
        session = record { state = state; stage = new; finished = finished };
        places = next;
        reads =
            made;
        replied = None;
      })
  goes_on act new next made run fits plays few reads asks none = record {
    run = run;
    stage = fits;
    answered = plays;
    few = few;
    reads = ap (λ rs. flat_map (λ (x : Exchange). x.reads) finished ++ rs) reads
        ∙ sym (append_assoc (flat_map (λ (x : Exchange). x.reads) finished) (reads_so_far stage) made);
    asks = ap (λ as'. map (λ (x : Exchange). x.ask) finished ++ as') asks
        ∙ sym (append_assoc (map (λ (x : Exchange). x.ask) finished) (going stage) (asks_by act));
    grows = refl;
    published = λ k words e. absurd (none k words e);
  }

  -- ---- the ask ends

  -- the reads of ended requests with one more are those from before, those of the request so far, and the newest
  all_reads : (x : Exchange) (made : List ExactRead) → x.reads ≡ reads_so_far stage ++ made →
      flat_map (λ (x : Exchange). x.reads) (finished ++ x ∷ []) ++ [] ≡
      (flat_map (λ (x : Exchange). x.reads) finished ++ reads_so_far stage) ++ made
  all_reads x made e =
      append-nil (flat_map (λ (x : Exchange). x.reads) (finished ++ x ∷ []))
      ∙ flat_map-append (λ (x : Exchange). x.reads) finished (x ∷ [])
      ∙ ap (λ rs. flat_map (λ (x : Exchange). x.reads) finished ++ rs) (append-nil x.reads ∙ e)
      ∙ sym (append_assoc (flat_map (λ (x : Exchange). x.reads) finished) (reads_so_far stage) made)

  -- the asks of ended requests with one more are those from before, the one that is going on, and what the act asks
  all_asks : (x : Exchange) (more : List ExactAsk) → going stage ++ more ≡ x.ask ∷ [] →
      map (λ (x : Exchange). x.ask) (finished ++ x ∷ []) ++ [] ≡
      (map (λ (x : Exchange). x.ask) finished ++ going stage) ++ more
  all_asks x more e =
      append-nil (map (λ (x : Exchange). x.ask) (finished ++ x ∷ []))
      ∙ map-append (λ (x : Exchange). x.ask) finished (x ∷ [])
      ∙ ap (λ as'. map (λ (x : Exchange). x.ask) finished ++ as') (sym e)
      ∙ sym (append_assoc (map (λ (x : Exchange). x.ask) finished) (going stage) more)

  -- an act that ends a request, whose reads are a step of the session and the last of which the places answer, leaves
  -- what fits the session and the places
  pub ends : (act : ExactAct) (asked : ExactAsk) (reads made : List ExactRead) (replied : ExactReply) (new : State)
      (next : List ExactPlace) →
      AloneRun server.places opening finished state → AloneStep server.places state asked reads replied new →
      Plays server.places now (logged me made) next → length made ≤ 1 →
      reads ≡ reads_so_far stage ++ made → going stage ++ asks_by act ≡ asked ∷ [] →
      ((k : ℕ) (words : List ℕ) → made ≡ read.Done k words ∷ [] →
      IsPublisher server.places
      (record {
        state = new;
        stage = Idle;
        finished =
            finished ++ record { session = me; ask = asked; reads = reads; reply = replied } ∷ [];
      }) k words) →
      Moved server me now before act
      (record {
        session = record {
          state = new;
          stage = Idle;
          finished =
              finished ++ record { session = me; ask = asked; reads = reads; reply = replied } ∷ [];
        };
        places = next;
        reads = made;
        replied = Some replied;
      })
  ends act asked reads made replied new next run step plays few all asks puts =
      let x : Exchange = record { session = me; ask = asked; reads = reads; reply = replied } in
      record {
        run = run_on server opening state new finished x run step;
        stage = tt;
        answered = plays;
        few = few;
        reads = all_reads x made all;
        asks = all_asks x (asks_by act) asks;
        grows = (x, refl, refl, refl, refl);
        published = puts;
      }
