-- What a look finds of the places that other sessions claim and write at the same time.
use Rattle.std.specs.Prelude.{ℕ, ◌≡◌, ◌≤◌, true, Some, List}
use Rattle.spec_board.specs.declared.place.Place.TheVariants as place
use Rattle.spec_board.specs.declared.read.Found.{Found}
use Rattle.spec_board.specs.Reads.{Words, Looked, LookReads, has_shape}
use Rattle.spec_board.specs.Places.{ExactPlace, place_at, Logged, reads_in, Plays}

-- the look found something: place k, or a newer one
abbrev pub FindsFrom : ℕ → Looked → Type 0
FindsFrom k found = (newest : Found Words) × (found ≡ Some newest) × (k ≤ newest.place)

-- Where a session makes one look while others do what they will: if place k is done with the shape as the look begins,
-- it finds place k or a newer one.
abbrev pub LooksFindTheNewest : Type 0
LooksFindTheNewest =
    (places session : ℕ) (now last : List ExactPlace) (log : List Logged) (shape : Words) (found : Looked) (k : ℕ)
    (words : Words) → Plays places now log last → LookReads shape (reads_in session log) found →
    place_at now k ≡ Some (place.Done words) → has_shape shape words ≡ true → FindsFrom k found
