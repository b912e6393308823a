-- Runs of the one-session machine, and the exchanges of many sessions that share places.
use Rattle.std.specs.Prelude.{ℕ, ◌≡◌, ◌==◌, List, [], ◌∷◌}
use Rattle.std.specs.List.{filter, flat_map}
use Rattle.spec_board.specs.Reads.{ExactRead}
use Rattle.spec_board.specs.Places.{ExactPlace, Logged, logged, Plays}
use Rattle.spec_server.specs.declared.asks.Asked.{Asked}
use Rattle.spec_server.specs.Machine.{ExactAsk, ExactReply, State, opening}
use Rattle.spec_server.specs.Step.{AloneStep}

-- a request of a session, what was read of the board for it, and its reply
pub record Exchange : Type 0 where
  pub session : ℕ
  pub ask : ExactAsk
  pub reads : List ExactRead
  pub reply : ExactReply

-- the request of an exchange, with its session
abbrev pub asked_in : Exchange → Asked ExactAsk
asked_in x = record { session = x.session; ask = x.ask }

-- the exchanges are steps of the one-session machine, one after the other, from the state `old` to `new`, where
-- sessions share so many places
abbrev pub AloneRun : ℕ → State → List Exchange → State → Type 0
AloneRun places old [] new = new ≡ old
AloneRun places old (x ∷ xs) new =
    (middle : State) × AloneStep places old x.ask x.reads x.reply middle × AloneRun places middle xs new

-- the exchanges of one session, in order
abbrev pub of_session : ℕ → List Exchange → List Exchange
of_session session xs = filter (λ x. x.session == session) xs

-- each session's exchanges are a run of the one-session machine, from the opening state
abbrev pub RunAlone : ℕ → List Exchange → Type 0
RunAlone places xs = (session : ℕ) → (last : State) × AloneRun places opening (of_session session xs) last

-- the reads of the exchanges, one exchange after the other, each read with its session
abbrev pub log_of : List Exchange → List Logged
log_of xs = flat_map (λ x. logged x.session x.reads) xs

-- The requests are answered one after the other. Each session runs alone, and nobody else reads or writes the places,
-- of which none is claimed at first: each read is answered by the places as they are then.
pub record RunFits (places : ℕ) (xs : List Exchange) : Type 0 where
  pub alone : RunAlone places xs
  pub last : List ExactPlace
  pub played : Plays places [] (log_of xs) last
