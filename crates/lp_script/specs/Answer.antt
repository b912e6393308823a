-- What the answer to an ask changes and writes.
use Rattle.std.specs.Prelude.{ℕ, ◌≡◌, ◌≢◌, List, [], Option, slice_index_or, replicate, map, All}
use Rattle.std.specs.Io.KnownBytes.{Appends}
use Rattle.lp_base.specs.Beside.{Takes}
use Rattle.spec_server.specs.declared.addressing.Addressing.TheVariants.{Numbered}
use Rattle.spec_server.specs.declared.asks.Asked.{Asked}
use Rattle.spec_server.specs.Halves.{Standing, Nothing}
use Rattle.spec_server.specs.Machine.{ExactAsk, ExactReply, State, opening}
use Rattle.spec_server.specs.Output.{reply_lines}
use Rattle.lp_script.specs.Sharing.{Sharing, SharesStep}

-- the sessions by their numbers, and the places that they share
pub record Together : Type 0 where
  pub states : List State
  pub sharing : Sharing

-- the states of sessions, in their order
abbrev pub states_of : List Standing → List State
states_of all = map (λ session. session.state) all

-- no session is in the middle of a request
abbrev pub AreAtRest : List Standing → Type 0
AreAtRest all = All (λ session. session.awaits ≡ Nothing) all

-- 65 sessions that were asked nothing yet, and so many places, of which none is claimed
abbrev pub opening_with : ℕ → Together
opening_with places =
    record { states = replicate 65 opening; sharing = record { places = places; done = [] } }

-- the state of the session of this number; that of a new session where there is none
abbrev pub state_at : List State → ℕ → State
state_at sessions session = slice_index_or sessions session opening

-- the session of the request takes a step, for which the places answer what it reads; every other session stays
pub record Steps (old new : Together) (asked : Asked ExactAsk) (reply : ExactReply) : Type 0 where
  pub step : SharesStep (state_at old.states asked.session) asked.ask old.sharing reply
      (state_at new.states asked.session) new.sharing
  pub others : (session : ℕ) → session ≢ asked.session → state_at new.states session ≡ state_at old.states session

-- the session of the request took its step, and the lines of its reply were written
pub record Answers (before after : Option (List ℕ)) (old new : Together) (asked : Asked ExactAsk) : Type 0 where
  pub reply : ExactReply
  pub steps : Steps old new asked reply
  pub written : Appends before after (reply_lines Numbered asked.session reply)

-- the session of the request has a step by which it gives a reply, and of this reply's lines a beginning was written
pub record AnswersInPart (before after : Option (List ℕ)) (old : Together) (asked : Asked ExactAsk) : Type 0 where
  pub reply : ExactReply
  pub state : State
  pub sharing : Sharing
  pub step : SharesStep (state_at old.states asked.session) asked.ask old.sharing reply state sharing
  pub written : Takes before after (reply_lines Numbered asked.session reply)
