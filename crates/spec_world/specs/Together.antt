-- Worlds in which the events of each ask stand together.
use Rattle.std.specs.Prelude.{ℕ, ◌≡◌, true, List, [], ◌∷◌, ◌++◌, map}
use Rattle.std.specs.List.{AllByRecursion}
use Rattle.spec_server.specs.Exchanges.{Exchange}
use Rattle.spec_world.specs.declared.event.Act.TheVariants as act
use Rattle.spec_world.specs.World.{Server, ExactAct, ExactEvent, Idle, World, WorldRun, has_session}

-- the event of an act of this session
abbrev pub by_session : ℕ → ExactAct → ExactEvent
by_session session a = record { session = session; act = a }

-- The session of an exchange is asked, and does what it has to, while no other session does anything, until this
-- exchange is the last that has ended.
pub record AskRuns (server : Server) (old : World) (x : Exchange) (new : World) : Type 0 where
  pub acts : List ExactAct
  pub run : WorldRun server old (map (by_session x.session) (act.Ask x.ask ∷ acts)) new
  pub finished : (new.sessions x.session).finished ≡ (old.sessions x.session).finished ++ x ∷ []
  pub is_idle : (new.sessions x.session).stage ≡ Idle

-- exchanges whose requests run to their ends one after the other, from the world `old` to `new`
abbrev pub Together : Server → World → List Exchange → World → Type 0
Together server old [] new = new ≡ old
Together server old (x ∷ xs) new = (middle : World) × AskRuns server old x middle × Together server middle xs new

-- each exchange is of a session that the server has
abbrev pub HaveSessions : Server → List Exchange → Type 0
HaveSessions server xs = AllByRecursion (λ x. has_session server x.session ≡ true) xs
