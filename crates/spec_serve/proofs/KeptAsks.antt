-- The models that the asks of a link hold may be kept, and so may the numbers of its edits; and its last answers stand up.
--
-- `link_kept`: the requests of a link hold models and numbers that may be kept.
-- `ended_link_kept`: the requests of a link's ended lines hold models and numbers that may be kept.
-- `served_kept`: the requests that were served hold models and numbers that may be kept.
-- `served_front_kept`: the requests of the first exchanges of those that were served hold models and numbers that may
--   be kept.
use Rattle.std.proofs.Common.{ℕ, List, [], ◌∷◌, ◌++◌, map, subst}
use Rattle.std.proofs.lemmas.List.{map-append}
use Rattle.std.proofs.lemmas.List.Elements.{All-nil, All-cons, All-head, All-tail}
use Rattle.spec_server.specs.declared.addressing.Addressing.TheVariants.{Alone}
use Rattle.spec_server.specs.declared.asks.Asked.{Asked}
use Rattle.spec_server.specs.Machine.{ExactAsk, IsKeptAsk, AreKept}
use Rattle.spec_server.specs.Exchanges.{Exchange, asked_in}
use Rattle.spec_server.specs.Script.{ended_asks_of, script_of}
use Rattle.spec_server.specs.Streams.{Streams}
use Rattle.spec_server.proofs.ScriptKept.{ended_kept, script_kept}
use Rattle.spec_serve.specs.Link.{ended_link_asks_of, link_asks_of, AreFirstOf, LinkMoves}
use Rattle.spec_serve.proofs.FirstAsks.{Asks, link_asks_first, ended_link_asks_first, served_script}

-- the model that the request loads is a usual one, or its edit's numbers may be kept; of other requests nothing is
-- asked
abbrev IsKept : Asked ExactAsk → Type 0
IsKept a = IsKeptAsk a.ask

-- where what the requests of two lists hold may be kept, so may what those of the first hold
front_kept : (xs ys : Asks) → AreKept (xs ++ ys) → AreKept xs
front_kept [] ys h = All-nil IsKept
front_kept (a ∷ xs) ys h =
    All-cons IsKept a xs (All-head IsKept a (xs ++ ys) h) (front_kept xs ys (All-tail IsKept a (xs ++ ys) h))

-- where the models and edits of requests may be kept, so may those of the first of them
first_kept : (first all : Asks) → AreFirstOf first all → AreKept all → AreKept first
first_kept first all h kept = front_kept first h.0 (subst AreKept h.1 kept)

pub link_kept : (bytes : List ℕ) → AreKept (link_asks_of bytes).asks
link_kept bytes =
    first_kept (link_asks_of bytes).asks (script_of Alone bytes).asks (link_asks_first bytes) (script_kept Alone bytes)

pub ended_link_kept : (bytes : List ℕ) → AreKept (ended_link_asks_of bytes)
ended_link_kept bytes =
    first_kept (ended_link_asks_of bytes) (ended_asks_of Alone bytes) (ended_link_asks_first bytes)
    (ended_kept Alone bytes)

pub served_kept : (places : ℕ) (s : Streams) (exchanges : List Exchange) → LinkMoves places s exchanges →
    AreKept (map asked_in exchanges)
served_kept places s exchanges moves =
    first_kept (map asked_in exchanges) (script_of Alone moves.read).asks (served_script places s exchanges moves)
    (script_kept Alone moves.read)

-- and so are those of the first exchanges
pub served_front_kept : (places : ℕ) (s : Streams) (before behind : List Exchange) →
    LinkMoves places s (before ++ behind) → AreKept (map asked_in before)
served_front_kept places s before behind moves =
    front_kept (map asked_in before) (map asked_in behind)
    (subst AreKept (map-append asked_in before behind) (served_kept places s (before ++ behind) moves))
