-- The world: sessions whose acts come in any order, each act at once, and the places that they share.
use Rattle.std.specs.Prelude.{ℕ, zero, suc, ◌≡◌, ◌==◌, ◌&&◌, Bool, true, false, Option, Some, None}
use Rattle.std.specs.Prelude.{List, [], ◌∷◌, ◌++◌, length, nat_lt, nat_le, if◌then◌else◌}
use Rattle.spec_board.specs.declared.place.Place.TheVariants as place
use Rattle.spec_board.specs.declared.read.Put.{Put}
use Rattle.spec_board.specs.declared.read.Put.TheVariants.{Published, Full, Raced}
use Rattle.spec_board.specs.declared.read.Read.TheVariants as read
use Rattle.spec_board.specs.Reads.{Words, ExactRead, Looked, has_shape, shown}
use Rattle.spec_board.specs.Places.{ExactPlace, place_at, with_place}
use Rattle.spec_server.specs.declared.asks.Ask.TheVariants as ask
use Rattle.spec_server.specs.declared.command.Plain.TheVariants as command
use Rattle.spec_server.specs.Machine.{ExactAsk, ExactReply, State, opening}
use Rattle.spec_server.specs.Step.{Begun, Answers, Looks, Begins, Pending, Worked, Ends, Publishes, Works}
use Rattle.spec_server.specs.Step.{answered, after_put}
use Rattle.spec_server.specs.Exchanges.{Exchange}
use Rattle.spec_world.specs.declared.event.Act.{Act}
use Rattle.spec_world.specs.declared.event.Act.TheVariants as act
use Rattle.spec_world.specs.declared.event.Event.{Event}
use Rattle.spec_world.specs.declared.event.StepEnd.{StepEnd}
use Rattle.spec_world.specs.declared.event.StepEnd.TheVariants.{Quiet, Replied, Not}

-- an act of a session, whose requests have models, certificates and edits of exact numbers
abbrev pub ExactAct : Type 0
ExactAct = Act ExactAsk

-- an event, whose requests have models, certificates and edits of exact numbers
abbrev pub ExactEvent : Type 0
ExactEvent = Event ExactAsk

-- what comes of an event, with exact replies: it was not taken, it was quiet, or a request ended with a reply
abbrev pub ExactEnd : Type 0
ExactEnd = StepEnd ExactReply

-- a server: how many sessions it has, which have the numbers from 1 on, and how many places they share
pub record Server : Type 0 where
  pub sessions : ℕ
  pub places : ℕ

-- How far a session is with its request, and what it read for it. Only a solve goes beyond its beginning.
pub data Stage : Type 0 where
  -- no ask is being answered
  Idle : Stage
  -- a look for a basis of this shape begins, with the count of the claimed places
  Counts : (shape : Words) → Stage
  -- the look goes on with this place
  Sees : (shape : Words) → (place : ℕ) → (reads : List ExactRead) → Stage
  -- the look has ended with what it found, and the solve's work is next
  Solving : (found : Looked) → (reads : List ExactRead) → Stage
  -- publishing the solve's words begins, with the count of the claimed places
  Puts : (pending : Pending) → (reads : List ExactRead) → Stage
  -- publishing counted so many claimed places, and claims the next one
  Claims : (pending : Pending) → (count : ℕ) → (reads : List ExactRead) → Stage
  -- the session has claimed this place, and writes its words there
  Writes : (pending : Pending) → (place : ℕ) → (reads : List ExactRead) → Stage

-- a session: what it holds, where it is, and its requests that have ended, with their reads and replies
pub record Session : Type 0 where
  pub state : State
  pub stage : Stage
  pub finished : List Exchange

-- the sessions by their numbers, the claimed places in order, and the events that were taken
pub record World : Type 0 where
  pub sessions : ℕ → Session
  pub places : List ExactPlace
  pub events : List ExactEvent

-- a session that was asked nothing yet: idle, in the opening state, without exchanges
abbrev pub opening_session : Session
opening_session = record { state = opening; stage = Idle; finished = [] }

-- the world before all events: each session was asked nothing yet, and no place is claimed
abbrev pub opening_world : World
opening_world = record { sessions = λ session. opening_session; places = []; events = [] }

-- ---- where an event is enabled

-- whether an act is the next one of a session that is this far with its request
abbrev pub fits_stage : Stage → ExactAct → Bool
fits_stage Idle (act.Ask asked) = true
fits_stage (Counts shape) act.Count = true
fits_stage (Sees shape k reads) (act.See j) = j == k
fits_stage (Solving found reads) act.Work = true
fits_stage (Puts pending reads) act.Count = true
fits_stage (Claims pending c reads) act.Claim = true
fits_stage (Writes pending k reads) act.Done = true
fits_stage stage other = false

-- whether a server has a session of this number: one from 1 to the number of its sessions
abbrev pub has_session : Server → ℕ → Bool
has_session server session = nat_lt 0 session && nat_le session server.sessions

-- whether an event can be taken: the session exists, and the act is its next one
abbrev pub is_enabled : Server → World → ExactEvent → Bool
is_enabled server world event =
    has_session server event.session && fits_stage (world.sessions event.session).stage event.act

-- ---- what an act leaves

-- what an act leaves: the session, the places, the reads that it made, and the reply if the request has ended
pub record Left : Type 0 where
  pub session : Session
  pub places : List ExactPlace
  pub reads : List ExactRead
  pub replied : Option ExactReply

-- the request to solve the model that the session holds
abbrev pub solve : ExactAsk
solve = ask.Plain command.Solve

-- the session of number `me` after its request has ended: idle, with one more exchange
abbrev pub ended : ℕ → Session → ExactAsk → List ExactRead → ExactReply → State → Session
ended me s asked reads replied next = record {
  state = next;
  stage = Idle;
  finished = s.finished ++ record { session = me; ask = asked; reads = reads; reply = replied } ∷ [];
}

-- the session s at this stage of its request; its state and its ended requests stay
abbrev pub at_stage : Session → Stage → Session
at_stage s stage = record s { stage = stage }

-- what the beginning of a request leaves: the session idle with its reply, or at a look that begins; no read, and the
-- places as before
abbrev pub begun_left : ℕ → List ExactPlace → Session → ExactAsk → Begun → Left
begun_left me now s asked (Answers replied next) =
    record { session = ended me s asked [] replied next; places = now; reads = []; replied = Some replied }
begun_left me now s asked (Looks shape) =
    record { session = at_stage s (Counts shape); places = now; reads = []; replied = None }

-- the stage of a look once the places from k on were passed over: at place k - 1, or at its end, with nothing found
abbrev pub looking : Words → ℕ → List ExactRead → Stage
looking shape zero reads = Solving None reads
looking shape (suc k) reads = Sees shape k reads

-- what the count at the start of a look leaves: the look is at the newest claimed place,
-- or has ended where there is none
abbrev pub counted_left : List ExactPlace → Session → Words → Left
counted_left now s shape = record {
  session = at_stage s (looking shape (length now) (read.Count (length now) ∷ []));
  places = now;
  reads = read.Count (length now) ∷ [];
  replied = None;
}

-- what a look-up for a shape reads of place k, which is `Some` if it is claimed: of a done place all words if they have
-- the shape, else those in front; of any other that it is not done
abbrev pub read_of : Words → ℕ → Option ExactPlace → ExactRead
read_of shape k (Some (place.Done words)) = read.Seen k (shown shape words)
read_of shape k other = read.NotDone k

-- the stage of a look after its read of place k: ended with this place where it is done with the shape, else at the
-- next one down
abbrev pub seen_stage : Words → ℕ → List ExactRead → ExactRead → Stage
seen_stage shape k reads (read.Seen j words) =
    if has_shape shape words then Solving (Some (record { place = k; words = words })) reads else looking shape k reads
seen_stage shape k reads other = looking shape k reads

-- what a session's read of slot k of the board leaves: the session with one more read, the slots as before, and no reply
abbrev pub seen_left : List ExactPlace → Session → Words → ℕ → List ExactRead → ExactRead → Left
seen_left now s shape k reads made = record {
  session = at_stage s (seen_stage shape k (reads ++ made ∷ []) made);
  places = now;
  reads = made ∷ [];
  replied = None;
}

-- what the work of a solve leaves: its reply, or words that are to be published
abbrev pub worked_left : ℕ → List ExactPlace → Session → List ExactRead → Worked → Left
worked_left me now s reads (Ends replied next) =
    record { session = ended me s solve reads replied next; places = now; reads = []; replied = Some replied }
worked_left me now s reads (Publishes pending) =
    record { session = at_stage s (Puts pending reads); places = now; reads = []; replied = None }

-- what is left where publishing words has ended with one last read: the reply of the session's solve
abbrev pub put_left : ℕ → List ExactPlace → Session → Pending → List ExactRead → ExactRead → Put → Left
put_left me now s pending reads made put = record {
  session =
      ended me s solve (reads ++ made ∷ []) (answered s.state pending.end) (after_put s.state pending put);
  places = now;
  reads = made ∷ [];
  replied = Some (answered s.state pending.end);
}

-- what publishing words leaves after it counted the claimed places: a claim to make, or the reply where all are claimed
abbrev pub put_counted_left : Server → ℕ → List ExactPlace → Session → Pending → List ExactRead → Left
put_counted_left server me now s pending reads =
    if length now == server.places
    then put_left me now s pending reads (read.Count (length now)) (Full (length now))
    else record {
      session = at_stage s (Claims pending (length now) (reads ++ read.Count (length now) ∷ []));
      places = now;
      reads = read.Count (length now) ∷ [];
      replied = None;
    }

-- what the claim of place c leaves, where c places were counted: the place as claimed by `me`; or, where more are
-- claimed by now, the solve's reply
abbrev pub claimed_left : ℕ → List ExactPlace → Session → Pending → ℕ → List ExactRead → Left
claimed_left me now s pending c reads =
    if length now == c
    then record {
      session = at_stage s (Writes pending c (reads ++ read.Claim c ∷ []));
      places = now ++ place.Claimed me ∷ [];
      reads = read.Claim c ∷ [];
      replied = None;
    }
    else put_left me now s pending reads (read.Lost (length now)) (Raced (length now))

-- what the write of place k leaves: the place is done with the words, and the solve's reply is given
abbrev pub done_left : ℕ → List ExactPlace → Session → Pending → ℕ → List ExactRead → Left
done_left me now s pending k reads =
    put_left me (with_place now k (place.Done pending.words)) s pending reads (read.Done k pending.words) (Published k)

-- An act of the session of number `me` at this stage may leave this; an act of another kind than the stage's next one
-- leaves nothing. A `See` of any place leaves the read of the stage's place; `fits_stage` asks that they are the same.
abbrev pub Leaves : Server → ℕ → List ExactPlace → Session → Stage → ExactAct → Left → Type 0
Leaves server me now s Idle (act.Ask asked) left =
    (begun : Begun) × Begins s.state asked begun × (left ≡ begun_left me now s asked begun)
Leaves server me now s (Counts shape) act.Count left = left ≡ counted_left now s shape
Leaves server me now s (Sees shape k reads) (act.See j) left =
    left ≡ seen_left now s shape k reads (read_of shape k (place_at now k))
Leaves server me now s (Solving found reads) act.Work left =
    (worked : Worked) × Works s.state found worked × (left ≡ worked_left me now s reads worked)
Leaves server me now s (Puts pending reads) act.Count left = left ≡ put_counted_left server me now s pending reads
Leaves server me now s (Claims pending c reads) act.Claim left = left ≡ claimed_left me now s pending c reads
Leaves server me now s (Writes pending k reads) act.Done left = left ≡ done_left me now s pending k reads
Leaves server me now s stage other left = ⊥

-- ---- steps and runs

-- the end of an act that is taken: with the reply of the request that it ended, or quiet where it ended none
abbrev pub end_of : ℕ → Option ExactReply → ExactEnd
end_of session None = Quiet
end_of session (Some replied) = Replied session replied

-- The event is taken: its session and the places are what the act leaves, all other sessions stay, the event is the
-- last one, and its end is as the act has it.
pub record Takes (server : Server) (old : World) (event : ExactEvent) (end : ExactEnd) (new : World) : Type 0 where
  pub left : Left
  pub leaves : Leaves server event.session old.places (old.sessions event.session)
      (old.sessions event.session).stage event.act left
  pub own : new.sessions event.session ≡ left.session
  pub others : (other : ℕ) → (event.session ≡ other → ⊥) → new.sessions other ≡ old.sessions other
  pub places : new.places ≡ left.places
  pub events : new.events ≡ old.events ++ event ∷ []
  pub ends : end ≡ end_of event.session left.replied

-- one event, by whether it is enabled: it is taken if it is; else it ends as not taken, and the world stays
abbrev pub StepBy : Bool → Server → World → ExactEvent → ExactEnd → World → Type 0
StepBy true server old event end new = Takes server old event end new
StepBy false server old event end new = (end ≡ Not) × (new ≡ old)

-- one event: it is taken where it is enabled, and else changes nothing
abbrev pub WorldStep : Server → World → ExactEvent → ExactEnd → World → Type 0
WorldStep server old event end new = StepBy (is_enabled server old event) server old event end new

-- the events, one after the other, lead from the world `old` to `new`; one that is not enabled changes nothing
abbrev pub WorldRun : Server → World → List ExactEvent → World → Type 0
WorldRun server old [] new = new ≡ old
WorldRun server old (event ∷ events) new =
    (end : ExactEnd) × (middle : World) × WorldStep server old event end middle × WorldRun server middle events new
