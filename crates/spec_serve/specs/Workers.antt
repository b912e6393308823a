-- What the replies to asks may be that workers answer, with the reads that were made for them.
use Rattle.std.specs.Prelude.{ℕ, ◌≡◌, ◌==◌, ◌%◌, ◌<◌, List, [], map, if◌then◌else◌}
use Rattle.std.specs.List.{filter, flat_map}
use Rattle.spec_board.specs.Reads.{ExactRead}
use Rattle.spec_board.specs.Orders.{InPairs, AreInOrder, AreBacked, HaveOneOrder}
use Rattle.spec_board.specs.Places.{Logged}
use Rattle.spec_server.specs.declared.asks.Asked.{Asked}
use Rattle.spec_server.specs.Machine.{ExactAsk}
use Rattle.spec_server.specs.Exchanges.{Exchange, asked_in, log_of, RunAlone, RunFits}

-- the reads of all exchanges, in order
abbrev pub reads_in_all : List Exchange → List ExactRead
reads_in_all xs = flat_map (λ x. x.reads) xs

-- the reads of one worker, in order: those for sessions whose number leaves the worker's when divided by `workers`
abbrev pub reads_of_worker : ℕ → ℕ → List Exchange → List ExactRead
reads_of_worker workers worker xs = flat_map (λ x. if x.session % workers == worker then x.reads else []) xs

-- the exchanges of one worker: of the sessions whose number leaves the worker's when divided by `workers`
abbrev pub exchanges_of_worker : ℕ → ℕ → List Exchange → List Exchange
exchanges_of_worker workers worker xs = filter (λ x. x.session % workers == worker) xs

-- the reads of the worker of this number, each with the session that it was made for, in the order of the exchanges
abbrev pub logs_of : ℕ → List Exchange → ℕ → List Logged
logs_of workers xs worker = log_of (exchanges_of_worker workers worker xs)

-- Each session runs alone, and each worker answered its requests one after the other. The reads of all workers stand in
-- one order, in which each is answered by the places as they are then; so no place was published twice, the published
-- places are those below some number, and what is read as done was published before it with those words.
pub record ManyFits (places workers : ℕ) (xs : List Exchange) : Type 0 where
  pub alone : RunAlone places xs
  pub ordered : (worker : ℕ) → worker < workers → InPairs AreInOrder (reads_of_worker workers worker xs)
  pub backed : AreBacked (reads_in_all xs)
  pub together : HaveOneOrder places workers (logs_of workers xs)

-- `workers` workers may have these exchanges; one worker alone answers the requests one after the other, and each read
-- by the places as they are then.
pub record RunsBy (workers places : ℕ) (xs : List Exchange) : Type 0 where
  pub many : ManyFits places workers xs
  pub one : workers ≡ 1 → RunFits places xs

-- ---- what each worker has had by itself

-- the requests of one worker: of the sessions whose number leaves the worker's when divided by `workers`
abbrev pub asks_of_worker : ℕ → ℕ → List (Asked ExactAsk) → List (Asked ExactAsk)
asks_of_worker workers worker asks = filter (λ asked. asked.session % workers == worker) asks

-- there is an order of exchanges of these requests, in the requests' order,
-- in which those of each worker are what it had
pub record Interleaves (workers : ℕ) (asks : List (Asked ExactAsk)) (had : ℕ → List Exchange) : Type 0 where
  pub exchanges : List Exchange
  pub asked : map asked_in exchanges ≡ asks
  pub parts : (worker : ℕ) → exchanges_of_worker workers worker exchanges ≡ had worker

-- in these exchanges, those of one worker, each session runs alone, and all reads in order fit each other: no count
-- falls, and what was done stays so
pub record HasServedAlone (places : ℕ) (xs : List Exchange) : Type 0 where
  pub alone : RunAlone places xs
  pub ordered : InPairs AreInOrder (reads_in_all xs)
