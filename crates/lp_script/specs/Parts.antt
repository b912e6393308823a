-- What a worker has of a script, and what it has had.
use Rattle.std.specs.Prelude.{ℕ, ◌≡◌, ◌+◌, ◌≤◌, List, [], All, length, map, replicate, reverse}
use Rattle.std.specs.Prelude.{vec_len, vec_capacity}
use Rattle.spec_server.specs.declared.asks.Asked.{Asked}
use Rattle.spec_server.specs.Halves.{Standing, at_rest}
use Rattle.spec_server.specs.Machine.{ExactAsk, ExactReply, opening}
use Rattle.spec_server.specs.Exchanges.{Exchange, asked_in, of_session, AloneRun}
use Rattle.spec_serve.specs.Workers.{reads_in_all}
use Rattle.basis_board.specs.declared.board.Board.{Board}
use Rattle.basis_board.specs.declared.seats.View.{View}
use Rattle.basis_board.specs.Id.{id_of}
use Rattle.basis_board.specs.Known.{Known}
use Rattle.basis_board.specs.Moments.{NotesMore, WereTrue}
use Rattle.basis_board.specs.Rule.{Consistent}
use Rattle.basis_board.specs.Orderly.{IsOrderly}
use Rattle.basis_board.specs.PassReads.{reads_of}
use Rattle.lp_workers.specs.declared.hiring.Worker.{Worker}
use Rattle.lp_script.specs.Answer.{states_of, state_at, AreAtRest}
use Rattle.lp_script.specs.declared.part.Part.{Part}

-- A part before its turn: its sessions are as they open, and it has room for the replies to its requests.
pub record IsOpen (part : Part) : Type 0 where
  pub sessions : part.sessions.items ≡ replicate 65 (at_rest opening)
  pub solves : length part.solves.items ≡ 65
  pub replies : part.replies.items ≡ []
  pub room : vec_len part.replies + vec_len part.asks ≤ vec_capacity part.replies
  pub numbered : All (λ (asked : Asked ExactAsk). asked.session ≤ 64) part.asks.items

-- A worker whose pass is one of the board's, with one of the 64 parts. Each read of the pass was true when it was
-- noted, later than those before. No session of the worker is in the middle of a request.
pub record IsHired (board : Board) (w : Worker Part) : Type 0 where
  pub of_board : w.pass.board ≡ id_of board
  pub places : w.pass.view.places ≡ board.places
  pub share : w.pass.view.share ≡ 1
  pub consistent : Consistent w.pass.view
  pub notes : NotesMore [] w.pass.moments
  pub were_true : WereTrue w.pass.moments w.pass.view.reads
  pub all : length w.job.sessions.items ≡ 65
  pub counted : length w.job.solves.items ≡ 65
  pub at_rest : AreAtRest w.job.sessions.items

-- There were exchanges of these requests, in order, with these replies. The sessions ran alone in them, from their
-- opening, and the pass that knows `view` read what they read.
pub record HaveHad (asks : List (Asked ExactAsk)) (replies : List ExactReply) (view : View) (all : List Standing) :
    Type 0 where
  pub exchanges : List Exchange
  pub asked : map asked_in exchanges ≡ asks
  pub replied : map (λ (x : Exchange). x.reply) exchanges ≡ replies
  pub runs : (session : ℕ) →
      AloneRun view.places opening (of_session session exchanges) (state_at (states_of all) session)
  pub reads : reads_of view ≡ reads_in_all exchanges
  pub orderly : IsOrderly view

-- the worker had exchanges of these requests with these replies, and its sessions are where these left them
abbrev pub HasHad : List (Asked ExactAsk) → List ExactReply → Worker Part → Type 0
HasHad asks replies w = HaveHad asks replies w.pass.view w.job.sessions.items

-- The worker has had these requests, and has room for the replies to those that it still holds.
pub record IsServing (board : Board) (asks : List (Asked ExactAsk)) (w : Worker Part) : Type 0 where
  pub hired : IsHired board w
  pub had : HasHad asks w.job.replies.items w
  pub room : vec_len w.job.replies + vec_len w.job.asks ≤ vec_capacity w.job.replies
  pub sessions : All (λ (asked : Asked ExactAsk). asked.session ≤ 64) w.job.asks.items

-- a part after its turn: it has answered the requests that it held, of which the last one in the list came first
abbrev pub HasServed : Board → Worker Part → Worker Part → Type 0
HasServed board old new = IsServing board (reverse old.job.asks.items) new

-- the turn of a part by a pass: it has had the requests that it held
abbrev pub Took : Board → Part → Known → Part → Known → Type 0
Took board old pass new passed =
    HasServed board (record { job = old; pass = pass }) (record { job = new; pass = passed })
