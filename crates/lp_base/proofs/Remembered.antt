-- How many links of a listener in memory are out.
use Rattle.std.proofs.Common.{◌≡◌, List, [], ◌∷◌, ◌++◌, ap, ◌∙◌}
use Rattle.std.proofs.lemmas.List.{map-append}
use Rattle.lp_base.specs.Listening.{links_out}
use Rattle.lp_base.specs.LinkMemory.{event_of, events_of}
use Rattle.lp_base.specs.declared.mem_event.MemEvent.{MemEvent}
use Rattle.lp_base.proofs.Logs.{out-append}

-- after one more event, the links that are out are those before with what the event does to them
pub out_after : (log now : List MemEvent) (event : MemEvent) → now ≡ log ++ event ∷ [] →
    links_out 0 (events_of now) ≡ links_out (links_out 0 (events_of log)) (event_of event ∷ [])
out_after log now event more =
    ap (λ events. links_out 0 (events_of events)) more ∙ ap (links_out 0) (map-append event_of log (event ∷ []))
    ∙ out-append 0 (events_of log) (event_of event ∷ [])
