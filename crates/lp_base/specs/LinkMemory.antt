-- What the links in memory show.
use Rattle.std.specs.Prelude.{◌≡◌, List, [], Some, map}
use Rattle.lp_base.specs.Memory.{unread, source_faults, bytes_taken, sink_faults}
use Rattle.lp_base.specs.LinkState.{LinkState, source_of, sink_of}
use Rattle.lp_base.specs.Listening.{LinkEvent}
use Rattle.lp_base.specs.Listening as links
use Rattle.lp_base.specs.declared.mem_event.MemEvent.{MemEvent}
use Rattle.lp_base.specs.declared.mem_event.MemEvent.TheVariants.{Given, Returned}
use Rattle.lp_base.specs.declared.mem_link.MemLink.{MemLink}

-- the state of a link in memory: its unread bytes, the bytes that it took, and how often reads and writes failed
abbrev pub mem_link_state : MemLink → LinkState
mem_link_state link = record {
  source = source_of (Some (unread link.source)) (source_faults link.source);
  sink = sink_of (Some (bytes_taken link.sink)) (sink_faults link.sink);
}

-- nothing was written to the link
abbrev pub IsUnwritten : MemLink → Type 0
IsUnwritten link = bytes_taken link.sink ≡ []

-- an event that the listener in memory remembers, as the definitions have it: with the link's state then
abbrev pub event_of : MemEvent → LinkEvent
event_of (Given link) = links.Given (mem_link_state link.value)
event_of (Returned link) = links.Returned (mem_link_state link.value)

-- the events that the listener in memory remembers, in their order
abbrev pub events_of : List MemEvent → List LinkEvent
events_of log = map event_of log
