-- What the listener in memory shows.
use Rattle.std.specs.Prelude.{ℕ, List}
use Rattle.lp_base.specs.Listening.{LinkEvent}
use Rattle.lp_base.specs.LinkMemory.{events_of}
use Rattle.lp_base.specs.declared.mem_link.MemLink.{MemLink}
use Rattle.lp_base.specs.declared.mem_listen.MemListen.{MemListen}

-- the links that the listener in memory will give, in their order
abbrev pub links_waiting : MemListen → List MemLink
links_waiting net = net.waiting.items

-- the links that came back to the listener in memory, as they were then
abbrev pub links_returned : MemListen → List MemLink
links_returned net = net.back.items

-- the log of the listener in memory: which links it gave and which came back, in the order of time
abbrev pub link_log : MemListen → List LinkEvent
link_log net = events_of net.log.items

-- the number of the listener's next accept, from 1; past the end of its type it stays
abbrev pub next_accept : MemListen → ℕ
next_accept net = net.calls.next

-- the numbers of the listener's accepts that fail
abbrev pub failing_accepts : MemListen → List ℕ
failing_accepts net = net.calls.fails.items

-- how many accepts of the listener in memory have failed
abbrev pub listen_faults : MemListen → ℕ
listen_faults net = net.calls.faults
