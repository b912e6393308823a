-- Places that the sessions of one script share, and nobody else.
use Rattle.std.specs.Prelude.{ℕ, ◌≡◌, List, map}
use Rattle.spec_board.specs.declared.place.Place.TheVariants as place
use Rattle.spec_board.specs.Reads.{Words, ExactRead}
use Rattle.spec_board.specs.Places.{ExactPlace, logged, Plays}
use Rattle.spec_server.specs.Machine.{ExactAsk, ExactReply, State}
use Rattle.spec_server.specs.Step.{AloneStep}

-- how many places there are, and the words of those that are done, in the order in which they were claimed
pub record Sharing : Type 0 where
  pub places : ℕ
  pub done : List Words

-- places that are all done, with these words
abbrev pub as_places : List Words → List ExactPlace
as_places done = map place.Done done

-- Whichever session makes them, these reads are answered by the places as they are, one after the other.
pub record Shares (old : Sharing) (reads : List ExactRead) (new : Sharing) : Type 0 where
  pub places : new.places ≡ old.places
  pub played : (session : ℕ) → Plays old.places (as_places old.done) (logged session reads) (as_places new.done)

-- a session answers this request with this reply in one step of the machine, and the places answer what it reads for it
pub record SharesStep (before : State) (asked : ExactAsk) (old : Sharing) (replied : ExactReply) (after : State)
    (new : Sharing) : Type 0 where
  pub reads : List ExactRead
  pub step : AloneStep old.places before asked reads replied after
  pub shares : Shares old reads new
