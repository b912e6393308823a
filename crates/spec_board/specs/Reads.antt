-- What one session reads and writes of the places: a look and a put, by their reads in order.
use Rattle.std.specs.Prelude.{ℕ, suc, zero, ◌≡◌, ◌<◌, Bool, true, false, Option, Some, None, List, [], ◌∷◌, length}
use Rattle.std.specs.Prelude.{take, if◌then◌else◌}
use Rattle.spec_text.specs.Words.{same}
use Rattle.spec_board.specs.declared.read.Found.{Found}
use Rattle.spec_board.specs.declared.read.Put.{Put}
use Rattle.spec_board.specs.declared.read.Put.TheVariants.{Published, Full, Raced}
use Rattle.spec_board.specs.declared.read.Read.{Read}
use Rattle.spec_board.specs.declared.read.Read.TheVariants.{Count, NotDone, Seen, Claim, Lost, Done}

-- the words of one place, or those in front, as numbers
abbrev pub Words : Type 0
Words = List ℕ

-- a read or write of the places, with lists of words
abbrev pub ExactRead : Type 0
ExactRead = Read Words

-- ---- the words of a place

-- the number of words of a basis: 49
abbrev pub basis_words : ℕ
basis_words = 49

-- the number of words in front of a basis, which are the shape of its form: 25
abbrev pub shape_words : ℕ
shape_words = 25

-- the first 25 words, which are the shape
abbrev pub front : Words → Words
front words = take shape_words words

-- whether the words in front are this shape
abbrev pub has_shape : Words → Words → Bool
has_shape shape words = same (front words) shape

-- what a look-up for a shape reads of a published place: all words where they have the shape, and else those in front
abbrev pub shown : Words → Words → Words
shown shape words = if has_shape shape words then words else front words

-- ---- looks

-- what a look found: a place with its words; none where it saw no place that is done with the shape
abbrev pub Looked : Type 0
Looked = Option (Found Words)

-- What place k, done with these words, is for a look, by whether they have its shape. If so, it is the place that is
-- found: all its words are read, and nothing after it. Else it is passed over: only the words in front are read, and
-- `Rest` holds of what follows.
abbrev pub SeenBy : Bool → ℕ → Words → List ExactRead → Looked → Type 0 → Type 0
SeenBy true k words reads found Rest =
    (length words ≡ basis_words) × (reads ≡ []) × (found ≡ Some (record { place = k; words = words }))
SeenBy false k words reads found Rest = (front words ≡ words) × Rest

-- These reads go through the places from k - 1 down, one by one, to the first that is done with the shape, and that is
-- found. Where none is, they go through all of them, and nothing is found.
abbrev pub SeesDown : Words → ℕ → List ExactRead → Looked → Type 0
SeesDown shape zero reads found = (reads ≡ []) × (found ≡ None)
SeesDown shape (suc k) [] found = ⊥
SeesDown shape (suc k) (NotDone j ∷ reads) found = (j ≡ k) × SeesDown shape k reads found
SeesDown shape (suc k) (Seen j words ∷ reads) found =
    (j ≡ k) × SeenBy (has_shape shape words) k words reads found (SeesDown shape k reads found)
SeesDown shape (suc k) (other ∷ reads) found = ⊥

-- these are the reads of a look for this shape: the count of claimed places, and then these places from the newest
-- down, to the one that is found, if one is
pub record LookReads (shape : Words) (reads : List ExactRead) (found : Looked) : Type 0 where
  pub count : ℕ
  pub seen : List ExactRead
  pub down : SeesDown shape count seen found
  pub all : reads ≡ Count count ∷ seen

-- ---- puts

-- These are the reads and writes of one try to publish words among `places` places, which ends so: a place is claimed
-- and written; or another session was quicker, and e places are claimed; or all places were claimed before.
abbrev pub PutReads : ℕ → Words → Put → List ExactRead → Type 0
PutReads places words (Published k) reads = (k < places) × (reads ≡ Count k ∷ Claim k ∷ Done k words ∷ [])
PutReads places words (Raced e) reads = (c : ℕ) × (c < e) × (reads ≡ Count c ∷ Lost e ∷ [])
PutReads places words (Full c) reads = (c ≡ places) × (reads ≡ Count c ∷ [])
