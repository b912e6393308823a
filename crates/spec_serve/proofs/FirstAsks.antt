-- The asks of a link are the first of those that its lines ask, and the exchanges of a service are of the first of these.
--
-- `link_asks_first`: the requests of a link are the first of the requests of all its bytes, read as a script.
-- `ended_link_asks_first`: the requests of a link's ended lines are the first of those of the ended lines as a script.
-- `served_script`: the requests that were served are the first of the requests of the bytes that were read.
use Rattle.std.proofs.Common.{ℕ, Bool, true, false, cond, Option, List, [], ◌∷◌, ◌++◌, map, refl, ap, ◌∙◌}
use Rattle.std.proofs.Common.{subst, append_assoc, append-nil, inl, inr}
use Rattle.spec_server.specs.declared.addressing.Addressing.TheVariants.{Alone}
use Rattle.spec_server.specs.declared.asks.Asked.{Asked}
use Rattle.spec_server.specs.Machine.{ExactAsk}
use Rattle.spec_server.specs.Exchanges.{Exchange, asked_in}
use Rattle.spec_server.specs.Script.{ended_asks_of, script_of}
use Rattle.spec_server.specs.Streams.{Streams}
use Rattle.spec_serve.specs.Link.{is_quit, up_to_quit, ended_link_asks_of, link_asks_of, AreFirstOf, HoldsOfAll}
use Rattle.spec_serve.specs.Link.{LinkMoves}

-- a list of requests, each with its session
abbrev pub Asks : Type 0
Asks = List (Asked ExactAsk)

-- the first of the first elements of a list are the first of the list
first_trans : {X : Type 0} (xs ys zs : List X) → AreFirstOf xs ys → AreFirstOf ys zs → AreFirstOf xs zs
first_trans xs ys zs h k =
    (h.0 ++ k.0, k.1 ∙ ap (λ all. all ++ k.0) h.1 ∙ append_assoc xs h.0 k.0)

-- ---- up to QUIT

-- where the requests up to QUIT come first among some, they still do with one request, QUIT or not, before both
first_if : (t : Bool) (a : Asked ExactAsk) (asks : Asks) → AreFirstOf (up_to_quit asks) asks →
    AreFirstOf (a ∷ cond t [] (up_to_quit asks)) (a ∷ asks)
first_if true a asks h = (asks, refl)
first_if false a asks h = (h.0, ap (λ zs. a ∷ zs) h.1)

-- the requests up to the first QUIT are the first of all requests
up_to_quit_first : (asks : Asks) → AreFirstOf (up_to_quit asks) asks
up_to_quit_first [] = ([], refl)
up_to_quit_first (a ∷ asks) = first_if (is_quit a.ask) a asks (up_to_quit_first asks)

pub link_asks_first : (bytes : List ℕ) → AreFirstOf (link_asks_of bytes).asks (script_of Alone bytes).asks
unfolding link_asks_of
link_asks_first bytes = up_to_quit_first (script_of Alone bytes).asks

pub ended_link_asks_first : (bytes : List ℕ) → AreFirstOf (ended_link_asks_of bytes) (ended_asks_of Alone bytes)
unfolding ended_link_asks_of
ended_link_asks_first bytes = up_to_quit_first (ended_asks_of Alone bytes)

-- ---- a service

-- what holds of all bytes that a link sends holds of those that were read
of_read : (after : Option (List ℕ)) (read : List ℕ) (P : List ℕ → Type 0) → HoldsOfAll after read P → P read
of_read after read P (inl h) = h.1
of_read after read P (inr h) = subst P (append-nil read) (h [])

-- the requests of a link's exchanges come first among those in the bytes that were read of it
served_first : (places : ℕ) (s : Streams) (exchanges : List Exchange) (moves : LinkMoves places s exchanges) →
    AreFirstOf (map asked_in exchanges) (link_asks_of moves.read).asks
served_first places s exchanges moves =
    of_read s.left_after moves.read (λ bytes. AreFirstOf (map asked_in exchanges) (link_asks_of bytes).asks) moves.asks

pub served_script : (places : ℕ) (s : Streams) (exchanges : List Exchange) (moves : LinkMoves places s exchanges) →
    AreFirstOf (map asked_in exchanges) (script_of Alone moves.read).asks
served_script places s exchanges moves =
    first_trans (map asked_in exchanges) (link_asks_of moves.read).asks (script_of Alone moves.read).asks
    (served_first places s exchanges moves) (link_asks_first moves.read)
