-- What the code holds of a world, and what its events do.
use Rattle.std.specs.Prelude.{ℕ, ◌≡◌, ◌<◌, ◌-◌, Bool, true, false, Some, List, length, get_or}
use Rattle.spec_board.specs.Words.{IsWellFormed}
use Rattle.spec_board.specs.declared.place.Place.TheVariants as place
use Rattle.spec_board.specs.Reads.{Words, Looked}
use Rattle.spec_board.specs.Places.{ExactPlace, place_at}
use Rattle.spec_server.specs.Machine.{State, opening}
use Rattle.spec_server.specs.Step.{Pending}
use Rattle.spec_server.specs.Halves.{Awaits, Nothing, WhatIsFound, WhatBecameOf, MayBeFound}
use Rattle.spec_world.specs.declared.event.StepEnd.TheVariants.{Not}
use Rattle.spec_world.specs.World as world
use Rattle.spec_world.specs.World.{Server, ExactAct, ExactEvent, ExactEnd, Session, World, has_session, fits_stage}
use Rattle.spec_world.specs.World.{Left, Leaves, end_of, WorldStep, WorldRun, opening_world}
use Rattle.spec_world.specs.Sound.{IsSound}
use Rattle.lp_core.specs.declared.stage.Stage.{Stage}
use Rattle.lp_core.specs.declared.stage.Stage.TheVariants as stage

-- how far a session is with its request, without what it read for it
pub data Step : Type 0 where
  Idle : Step
  Counts : (shape : Words) → Step
  Sees : (shape : Words) → (place : ℕ) → Step
  Solving : (found : Looked) → Step
  Puts : (pending : Pending) → Step
  Claims : (pending : Pending) → (count : ℕ) → Step
  Writes : (pending : Pending) → (place : ℕ) → Step

-- a stage of the definitions without what was read for it
abbrev pub shown_step : world.Stage → Step
shown_step world.Idle = Idle
shown_step (world.Counts shape) = Counts shape
shown_step (world.Sees shape k reads) = Sees shape k
shown_step (world.Solving found reads) = Solving found
shown_step (world.Puts pending reads) = Puts pending
shown_step (world.Claims pending c reads) = Claims pending c
shown_step (world.Writes pending k reads) = Writes pending k

-- ---- one session

-- the step with the words that are to be published, if the session waits for that; else the session is idle
abbrev pub with_pending : Awaits → (Pending → Step) → Step
with_pending Nothing step = Idle
with_pending (WhatIsFound shape) step = Idle
with_pending (WhatBecameOf pending) step = step pending

-- how far a session is with its request, by the code's state and by what the session waits for
abbrev pub step_of : Stage → Awaits → Step
step_of stage.Idle awaits = Idle
step_of (stage.Counts shape) awaits = Counts shape
step_of (stage.Sees shape k) awaits = Sees shape k
step_of (stage.Solving found) awaits = Solving found
step_of (stage.Puts words) awaits = with_pending awaits Puts
step_of (stage.Claims words c) awaits = with_pending awaits (λ pending. Claims pending c)
step_of (stage.Writes words k) awaits = with_pending awaits (λ pending. Writes pending k)

-- the session waits for what becomes of these words, and they are well formed
abbrev pub IsPending : Awaits → Words → Type 0
IsPending Nothing words = ⊥
IsPending (WhatIsFound shape) words = ⊥
IsPending (WhatBecameOf pending) words = (pending.words ≡ words) × IsWellFormed words

-- the session waits for what the code's stage is about: for nothing where it is idle; in a look for what a look for
-- this shape finds; as it is to solve for such a thing as was found; in a put for what becomes of these words
abbrev pub Agrees : Stage → Awaits → Type 0
Agrees stage.Idle awaits = awaits ≡ Nothing
Agrees (stage.Counts shape) awaits = awaits ≡ WhatIsFound shape
Agrees (stage.Sees shape k) awaits = awaits ≡ WhatIsFound shape
Agrees (stage.Solving found) awaits = MayBeFound awaits found
Agrees (stage.Puts words) awaits = IsPending awaits words
Agrees (stage.Claims words c) awaits = IsPending awaits words
Agrees (stage.Writes words k) awaits = IsPending awaits words

-- what the code holds of a session: its state, and how far it is with its request
pub record Kept : Type 0 where
  pub state : State
  pub step : Step

-- what the code keeps of a session that has just opened: the opening state, and no step under way
abbrev pub opening_kept : Kept
opening_kept = record { state = opening; step = Idle }

-- what the code holds is the session's state and stage, without what was read for its request
pub record Keeps (kept : Kept) (s : Session) : Type 0 where
  pub state_so : s.state ≡ kept.state
  pub step_so : shown_step s.stage ≡ kept.step

-- if the session is about to claim a place, the count that it read is below the number of places
abbrev pub IsBelow : ℕ → Step → Type 0
IsBelow limit (Claims pending c) = c < limit
IsBelow limit step = Unit {0}

-- ---- places

-- the words of each place that is done are well formed
abbrev pub AreFormed : List ExactPlace → Type 0
AreFormed now = (k : ℕ) (words : Words) → place_at now k ≡ Some (place.Done words) → IsWellFormed words

-- ---- one act

-- the act is taken, and the session, the places and the reply are as it leaves them
pub record Acted (server : Server) (me : ℕ) (now : List ExactPlace) (s : Session) (a : ExactAct) (end : ExactEnd)
    (new : Kept) (next : List ExactPlace) : Type 0 where
  pub left : Left
  pub leaves : Leaves server me now s s.stage a left
  pub keeps : Keeps new left.session
  pub places_so : next ≡ left.places
  pub end_so : end ≡ end_of me left.replied

-- the act is taken if it is the session's next one; if not, nothing changes and nothing is replied
abbrev pub ActBy : Bool → Server → ℕ → Kept → List ExactPlace → Session → ExactAct → ExactEnd → Kept →
    List ExactPlace → Type 0
ActBy true server me old now s a end new next = Acted server me now s a end new next
ActBy false server me old now s a end new next = (end ≡ Not) × (new ≡ old) × (next ≡ now)

-- each session of which the code holds `old` may take this act, if it is its next one, so that the code holds `new` of
-- it, and the places and the end are these; else nothing changes
abbrev pub ActFits : ℕ → ℕ → Kept → List ExactPlace → ExactAct → ExactEnd → Kept → List ExactPlace → Type 0
ActFits limit me old now a end new next =
    (sessions : ℕ) (s : Session) → Keeps old s →
    ActBy (fits_stage s.stage a) (record { sessions = sessions; places = limit }) me old now s a end new next

-- ---- the whole

-- what the code holds of a world: its sessions in the order of their numbers, the claimed places,
-- and how many places there are
pub record Core : Type 0 where
  pub held : List Kept
  pub places : List ExactPlace
  pub limit : ℕ

-- a server of so many sessions and places
abbrev pub server_of : Core → Server
server_of core = record { sessions = length core.held; places = core.limit }

-- what the code holds is the world's: each of its sessions, and its places
pub record Shows (core : Core) (w : World) : Type 0 where
  pub each : (session : ℕ) → has_session (server_of core) session ≡ true →
      Keeps (get_or core.held (session - 1) opening_kept) (w.sessions session)
  pub places_so : w.places ≡ core.places

-- each world of which the code holds `old` is led by this event, with this end, to a world of which it holds `new`
abbrev pub StepFits : Core → ExactEvent → ExactEnd → Core → Type 0
StepFits old event end new =
    (w : World) → Shows old w → (next : World) × WorldStep (server_of old) w event end next × Shows new next

-- the code's state is that of a world to which these events lead from the opening world, in which each session runs
-- alone
pub record Follows (core : Core) (events : List ExactEvent) : Type 0 where
  pub w : World
  pub run : WorldRun (server_of core) opening_world events w
  pub shows : Shows core w
  pub is_sound : IsSound (server_of core) w
