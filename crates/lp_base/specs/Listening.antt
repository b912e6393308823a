-- What a listener gives and takes back.
use Rattle.std.specs.Prelude.{ℕ, ◌≡◌, ◌<◌, ◌+◌, ◌-◌, ◌++◌, List, [], ◌∷◌, Option, Some, None, Result, Ok, Err}
use Rattle.lp_base.specs.declared.outside.Failed.{Failed}
use Rattle.lp_base.specs.LinkState.{LinkState, IsNothing}

-- an event of a listener: it gave a link, or took one back, and the link was so at that time
pub data LinkEvent : Type 0 where
  Given : (link : LinkState) → LinkEvent
  Returned : (link : LinkState) → LinkEvent

-- the log `after` is `before` with these further events at its end; a log that is not known stays unknown
abbrev pub Grows : Option (List LinkEvent) → Option (List LinkEvent) → List LinkEvent → Type 0
Grows None after more = after ≡ None
Grows (Some log) after more = after ≡ Some (log ++ more)

-- The listener gives a link, to which nothing was written yet, and its log grows by this event;
-- or it fails, and its log stays.
abbrev pub HandsOver : {L : Type 0} → (L → LinkState) → Option (List LinkEvent) → Option (List LinkEvent) →
    Result L Failed → Type 0
HandsOver known before after (Ok link) = Grows before after (Given (known link) ∷ []) × IsNothing (known link).sink.taken
HandsOver known before after (Err why) = after ≡ before

-- how many links are out after these events, where `out` were out before: a given one counts up, a returned one down,
-- but not below 0
abbrev pub links_out : ℕ → List LinkEvent → ℕ
links_out out [] = out
links_out out (Given link ∷ log) = links_out (out + 1) log
links_out out (Returned link ∷ log) = links_out (out - 1) log

-- if the log is known, some link was given that has not come back
abbrev pub HasOneOut : Option (List LinkEvent) → Type 0
HasOneOut None = Unit {0}
HasOneOut (Some log) = 0 < links_out 0 log

-- what is known of a listener: its log of links given and come back, if it is known,
-- and how often it failed to give one
pub record ListenerState : Type 0 where
  pub log : Option (List LinkEvent)
  pub accept_faults : ℕ

-- the state of a listener, by the functions that give its log and the count of its failures to give a link
abbrev pub listener_of : {N : Type 0} → (N → Option (List LinkEvent)) → (N → ℕ) → N → ListenerState
listener_of log faults net = record { log = log net; accept_faults = faults net }
