-- The exchanges of the links that workers served beside each other, each link a session of its own.
use Rattle.std.specs.Prelude.{ℕ, suc, ◌+◌, ◌*◌, ◌++◌, List, [], ◌∷◌, length, map}
use Rattle.spec_server.specs.Exchanges.{Exchange}
use Rattle.spec_serve.specs.Workers.{RunsBy}

-- the number of the session that stands for link k of worker i, both counted from 0, among so many workers: it leaves i
-- when divided by their number
abbrev pub session_of_link : ℕ → ℕ → ℕ → ℕ
session_of_link workers i k = k * workers + i

-- the exchanges of a link, with this number as their session
abbrev pub as_session : ℕ → List Exchange → List Exchange
as_session session xs =
    map (λ x. record { session = session; ask = x.ask; reads = x.reads; reply = x.reply }) xs

-- the exchanges of worker i's links, one link after the other, of which the first is link k,
-- each link as its own session
abbrev pub exchanges_of_links : ℕ → ℕ → ℕ → List (List Exchange) → List Exchange
exchanges_of_links workers i k [] = []
exchanges_of_links workers i k (xs ∷ links) =
    as_session (session_of_link workers i k) xs ++ exchanges_of_links workers i (suc k) links

-- the exchanges of all links of these workers, one worker after the other, of whom the first is worker i
abbrev pub exchanges_from : ℕ → ℕ → List (List (List Exchange)) → List Exchange
exchanges_from workers i [] = []
exchanges_from workers i (links ∷ all) =
    exchanges_of_links workers i 0 links ++ exchanges_from workers (suc i) all

-- so many workers may have had these exchanges, worker by worker and link by link, over so many places
abbrev pub RunsOver : ℕ → List (List (List Exchange)) → Type 0
RunsOver places served = RunsBy (length served) places (exchanges_from (length served) 0 served)
