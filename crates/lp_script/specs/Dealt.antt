-- How asks are dealt to workers, and how their replies stand in the order of the asks.
use Rattle.std.specs.Prelude.{ℕ, ◌≡◌, ◌<◌, List, map, reverse, slice_index_or}
use Rattle.spec_server.specs.declared.asks.Asked.{Asked}
use Rattle.spec_server.specs.Machine.{ExactAsk}
use Rattle.spec_server.specs.Exchanges.{Exchange}
use Rattle.spec_serve.specs.Workers.{asks_of_worker, exchanges_of_worker}
use Rattle.lp_script.specs.declared.part.Part.{Part}

-- each of n parts holds those of the requests that are its worker's, the last one first
abbrev pub AreDealt : ℕ → List (Asked ExactAsk) → List Part → Type 0
AreDealt n asks parts =
    (i : ℕ) (d : Part) → i < n →
    (slice_index_or parts i d).asks.items ≡ reverse (asks_of_worker n i asks)

-- each of n parts holds the replies of those of the exchanges that are its worker's; the exchanges and the replies that
-- are held stand in opposite orders
abbrev pub AreHeld : ℕ → List Exchange → List Part → Type 0
AreHeld n exchanges parts =
    (i : ℕ) (d : Part) → i < n →
    (slice_index_or parts i d).replies.items
    ≡ reverse (map (λ (x : Exchange). x.reply) (exchanges_of_worker n i exchanges))

-- the exchanges are of requests of these sessions, and each part holds the replies of its own ones
pub record HoldReplies (n : ℕ) (sessions : List ℕ) (parts : List Part) (exchanges : List Exchange) : Type 0 where
  pub sessions_are : map (λ (x : Exchange). x.session) exchanges ≡ sessions
  pub held : AreHeld n exchanges parts
