-- What holds of each world that events lead to.
use Rattle.std.specs.Prelude.{ℕ, ◌≡◌, ◌==◌, ◌≤◌, Some, Ok, List, [], ◌∷◌, ◌++◌, length, map, if◌then◌else◌}
use Rattle.std.specs.List.{flat_map, AllByRecursion}
use Rattle.spec_exact.specs.Fraction.{ℚ}
use Rattle.spec_exact.specs.Narrow.{number_limit}
use Rattle.spec_model.specs.Model.{Model}
use Rattle.spec_check.specs.declared.certificate.Certificate.{Certificate}
use Rattle.spec_check.specs.declared.certificate.Known.TheVariants as known
use Rattle.spec_pivot.specs.declared.status.Status.{Status}
use Rattle.spec_simplex.specs.Form.{Form, form_of}
use Rattle.spec_check.specs.declared.solve_end.SolveEnd.TheVariants as outcome
use Rattle.spec_runs.specs.Solve.{SolveEnd}
use Rattle.spec_solve.specs.Answers.{IsSolved}
use Rattle.spec_board.specs.Words.{packed}
use Rattle.spec_board.specs.declared.place.Place.TheVariants as place
use Rattle.spec_board.specs.declared.read.Read.TheVariants as read
use Rattle.spec_board.specs.Reads.{Words, ExactRead, Looked, LookReads}
use Rattle.spec_board.specs.Places.{place_at, Logged, logged, reads_in, Plays}
use Rattle.spec_server.specs.Machine.{ExactAsk, ExactReply, IsKeptAsk, State, opening}
use Rattle.spec_server.specs.Step.{Looks, Begins, handed_by}
use Rattle.spec_server.specs.Exchanges.{Exchange, AloneRun}
use Rattle.spec_world.specs.declared.event.Act.TheVariants as act
use Rattle.spec_world.specs.declared.event.StepEnd.TheVariants.{Quiet, Replied, Not}
use Rattle.spec_world.specs.World.{Server, ExactAct, ExactEvent, ExactEnd, Stage, Idle, Counts, Sees, Solving, Puts}
use Rattle.spec_world.specs.World.{Claims, Writes, Session, World, solve}

-- ---- what a session was asked and what it read

-- the list of the request that a session is answering at this stage: the one to solve; empty while it is idle
abbrev pub going : Stage → List ExactAsk
going Idle = []
going other = solve ∷ []

-- what a session read of the board, or claimed there, for the request that it is answering, in order; empty while it is
-- idle, or has not yet counted
abbrev pub reads_so_far : Stage → List ExactRead
reads_so_far Idle = []
reads_so_far (Counts shape) = []
reads_so_far (Sees shape k reads) = reads
reads_so_far (Solving found reads) = reads
reads_so_far (Puts pending reads) = reads
reads_so_far (Claims pending c reads) = reads
reads_so_far (Writes pending k reads) = reads

-- the requests of a session: those that have ended, and the one that is being answered
abbrev pub asks_of : Session → List ExactAsk
asks_of s = map (λ x. x.ask) s.finished ++ going s.stage

-- what a session read and wrote at the board so far: in its finished exchanges, and in the one that goes on
abbrev pub reads_of : Session → List ExactRead
reads_of s = flat_map (λ x. x.reads) s.finished ++ reads_so_far s.stage

-- the list of the request that an act asks; empty for any other act
abbrev pub asks_by : ExactAct → List ExactAsk
asks_by (act.Ask asked) = asked ∷ []
asks_by other = []

-- the requests that events ask of this session, in order
abbrev pub asks_in : ℕ → List ExactEvent → List ExactAsk
asks_in session events = flat_map (λ e. if e.session == session then asks_by e.act else []) events

-- ---- who published what

-- From the state `old` the exchange is a solve that ends optimal and publishes the packed words of its final basis,
-- `words`, at place k.
pub record PutsBasis (old : State) (exchange : Exchange) (k : ℕ) (words : Words) : Type 0 where
  pub shape : Words
  pub looked : List ExactRead
  pub found : Looked
  pub model : Model
  pub form : Form
  pub value : ℚ
  pub certificate : Certificate (List ℚ)
  pub basis : List Status
  pub pivots : ℕ
  pub solved : SolveEnd
  pub begins : Begins old exchange.ask (Looks shape)
  pub look : LookReads shape looked found
  pub held : old.model ≡ Some model
  pub formed : form_of (Some number_limit) model ≡ Ok form
  pub is_solved : IsSolved model old.budget (handed_by found) solved
  pub is_optimal : solved.end ≡ outcome.Ended (known.Optimal value) certificate (Some basis) pivots
  pub is_packed : words ≡ packed form basis
  pub reads : exchange.reads ≡ looked ++ read.Count k ∷ read.Claim k ∷ read.Done k words ∷ []

-- one of the session's exchanges is a solve that published these words at place k
pub record IsPublisher (places : ℕ) (s : Session) (k : ℕ) (words : Words) : Type 0 where
  pub before : List Exchange
  pub after : List Exchange
  pub exchange : Exchange
  pub old : State
  pub all : s.finished ≡ before ++ exchange ∷ after
  pub run : AloneRun places opening before old
  pub puts : PutsBasis old exchange k words

-- ---- worlds

-- For each session, its requests that have ended, with their reads and replies, are a run of the one-session machine.
-- The reads of all sessions stand in one order, and each was answered by the places as they were then. Its requests are
-- those that its events ask, in order. The words of a place that is done are the packed final basis of a session's
-- solve, which put it there.
pub record IsSound (server : Server) (world : World) : Type 0 where
  pub alone : (session : ℕ) →
      AloneRun server.places opening (world.sessions session).finished (world.sessions session).state
  pub log : List Logged
  pub played : Plays server.places [] log world.places
  pub reads : (session : ℕ) → reads_of (world.sessions session) ≡ reads_in session log
  pub asks : (session : ℕ) → asks_of (world.sessions session) ≡ asks_in session world.events
  pub published : (k : ℕ) (words : Words) → place_at world.places k ≡ Some (place.Done words) →
      (session : ℕ) × IsPublisher server.places (world.sessions session) k words

-- ---- events

-- if the act is a request, a model that it loads is a usual one, and the numbers of its edit may be kept
abbrev pub IsKeptAct : ExactAct → Type 0
IsKeptAct (act.Ask asked) = IsKeptAsk asked
IsKeptAct other = Unit {0}

-- each model that the events' requests load is a usual one, and the numbers of each edit may be kept
abbrev pub AreKeptEvents : List ExactEvent → Type 0
AreKeptEvents events = AllByRecursion (λ e. IsKeptAct e.act) events

-- The event made these reads, one at most. They stand behind those of its session, and the places answer them as they
-- were before the event. The places change by them alone, and no other session changes.
pub record ReadsNow (server : Server) (old : World) (event : ExactEvent) (new : World) : Type 0 where
  pub made : List ExactRead
  pub few : length made ≤ 1
  pub reads : reads_of (new.sessions event.session) ≡ reads_of (old.sessions event.session) ++ made
  pub answered : Plays server.places old.places (logged event.session made) new.places
  pub others : (other : ℕ) → (event.session ≡ other → ⊥) → new.sessions other ≡ old.sessions other

-- from `old` to `new` the session has ended one request more: its exchange is the last, with this reply, and the
-- session is idle
pub record EndsAsk (old : Session) (replied : ExactReply) (new : Session) : Type 0 where
  pub exchange : Exchange
  pub finished : new.finished ≡ old.finished ++ exchange ∷ []
  pub is_reply : exchange.reply ≡ replied
  pub is_idle : new.stage ≡ Idle

-- An event that is not taken changes nothing. One that is taken is the last of the events; it ends a request of its
-- session with the reply that is given, or it is quiet and ends none.
abbrev pub EndFits : World → ExactEvent → ExactEnd → World → Type 0
EndFits old event Not new = new ≡ old
EndFits old event Quiet new =
    (new.events ≡ old.events ++ event ∷ [])
    × ((session : ℕ) → (new.sessions session).finished ≡ (old.sessions session).finished)
EndFits old event (Replied session replied) new =
    (session ≡ event.session) × (new.events ≡ old.events ++ event ∷ [])
    × EndsAsk (old.sessions session) replied (new.sessions session)
