-- What a server does with the links of its listeners, each of which is served by a worker of its own.
use Rattle.std.specs.Prelude.{ℕ, ◌≡◌, ◌≤◌, ◌<◌, ◌⊎◌, List, [], ◌∷◌, All, length, map, slice_index_or}
use Rattle.std.specs.Prelude.{Option, None, Result, Ok, Err, Bool, true, false}
use Rattle.std.specs.Io.KnownBytes.{Appends}
use Rattle.std.specs.List.{flat_map}
use Rattle.spec_server.specs.Exchanges.{Exchange}
use Rattle.spec_server.specs.Streams.{Streams, streams}
use Rattle.spec_serve.specs.declared.link_end.LinkEnd.{LinkEnd}
use Rattle.spec_serve.specs.declared.link_end.LinkEnd.TheVariants as end
use Rattle.spec_serve.specs.Lines.{serve_out}
use Rattle.spec_serve.specs.Link.{ServesLink}
use Rattle.spec_serve.specs.Links.{RunsOver}
use Rattle.lp_base.specs.Beside.{Takes}
use Rattle.lp_base.specs.Causes.{Rose}
use Rattle.lp_base.specs.LinkState.{LinkState, IsNothing}
use Rattle.lp_base.specs.Listening.{Grows, LinkEvent, Given, Returned, ListenerState}
use Rattle.lp_serve.specs.declared.fault.ServeFault.{ServeFault}
use Rattle.lp_serve.specs.declared.fault.ServeFault.TheVariants as fault

-- ---- one link

-- a link that was served: as it was given, as it came back, the exchanges of its session, and how it ended
pub record Served : Type 0 where
  pub given : LinkState
  pub back : LinkState
  pub exchanges : List Exchange
  pub ended : LinkEnd

-- the bytes of a connection before and after it was served
abbrev pub streams_of : Served → Streams
streams_of x = streams x.given.source.left x.back.source.left x.given.sink.taken x.back.sink.taken

-- The session of the link was served. Nothing was written to the link before, and where its end tells of a fault, there
-- was one.
pub record IsServed (places : ℕ) (x : Served) : Type 0 where
  pub fresh : IsNothing x.given.sink.taken
  pub serves : ServesLink places (streams_of x) x.exchanges x.ended
  pub read : x.ended ≡ end.Read → Rose x.given.source.read_faults x.back.source.read_faults
  pub write : x.ended ≡ end.Write → Rose x.given.sink.write_faults x.back.sink.write_faults

-- ---- one listener

-- the two events of a link that was served: it was given, and it came back
abbrev pub events_of : Served → List LinkEvent
events_of x = Given x.given ∷ Returned x.back ∷ []

-- The listener gave these links, and took each back before it gave the next one. There are `each` of them, or fewer
-- where it failed.
pub record Listened (places each : ℕ) (old new : ListenerState) (links : List Served) : Type 0 where
  pub log : Grows old.log new.log (flat_map events_of links)
  pub served : All (IsServed places) links
  pub few : length links ≤ each
  pub all : (length links ≡ each) ⊎ Rose old.accept_faults new.accept_faults
  pub later : old.accept_faults ≤ new.accept_faults

-- ---- all of them

-- how the connections of each listener ended
abbrev pub ends_of : List (List Served) → List (List LinkEnd)
ends_of served = map (λ links. map (λ (x : Served). x.ended) links) served

-- the exchanges of the connections of each listener
abbrev pub exchanges_of : List (List Served) → List (List (List Exchange))
exchanges_of served = map (λ links. map (λ (x : Served). x.exchanges) links) served

-- the state that stands for a listener that is not there
abbrev pub no_listener : ListenerState
no_listener = record { log = None; accept_faults = 0 }

-- some listener has failed to give a link
abbrev pub SomeFailed : List ListenerState → List ListenerState → Type 0
SomeFailed olds news =
    (i : ℕ) × (i < length olds)
    × Rose (slice_index_or olds i no_listener).accept_faults (slice_index_or news i no_listener).accept_faults

-- What was written, by the result: where all went well a line for each link, of which each listener gave `each`; where
-- some listener has failed a line for each link; where writing failed or memory ran out a beginning of these lines.
abbrev pub Writes : ℕ → List ListenerState → List ListenerState → List (List Served) → Option (List ℕ) →
    Option (List ℕ) → Result (Unit {0}) ServeFault → Type 0
Writes each olds news served before after (Ok u) =
    Appends before after (serve_out (ends_of served)) × All (λ links. length links ≡ each) served
Writes each olds news served before after (Err fault.Accept) =
    Appends before after (serve_out (ends_of served)) × SomeFailed olds news
Writes each olds news served before after (Err fault.Write) = Takes before after (serve_out (ends_of served))
Writes each olds news served before after (Err fault.NoMemory) = Takes before after (serve_out (ends_of served))

-- there was no memory for the workers, and no link was given
pub record IsUnserved (olds news : List ListenerState) (served : List (List Served))
    (result : Result (Unit {0}) ServeFault) : Type 0 where
  pub because : result ≡ Err fault.NoMemory
  pub same : news ≡ olds
  pub none : All (λ links. links ≡ []) served

-- A server has served the links of its listeners, with as many workers as listeners over so many places, and written
-- how they ended; or there was no memory for the workers, and no link was given.
pub record Serves (places each : ℕ) (olds news : List ListenerState) (before after : Option (List ℕ))
    (result : Result (Unit {0}) ServeFault) : Type 0 where
  pub served : List (List Served)
  pub listeners : length served ≡ length olds
  pub listened : ((i : ℕ) → i < length olds →
      Listened places each (slice_index_or olds i no_listener) (slice_index_or news i no_listener)
      (slice_index_or served i []))
      ⊎ IsUnserved olds news served result
  pub runs : RunsOver places (exchanges_of served)
  pub writes : Writes each olds news served before after result

-- how a service ends, by how the writing did and by whether a listener has failed
abbrev pub ended_with : Result (Unit {0}) ServeFault → Bool → Result (Unit {0}) ServeFault
ended_with (Err why) failed = Err why
ended_with (Ok u) true = Err fault.Accept
ended_with (Ok u) false = Ok tt
