-- The places that sessions share, as the words of a board spell them.
use Rattle.std.specs.Prelude.{ℕ, ◌≡◌, ◌+◌, ◌*◌, ◌<◌, ◌++◌, List, [], ◌∷◌, length, map, slice_set, Some}
use mathlib.Core.Option.{some}
use lib.ListN.{get_elem?}
use Rattle.spec_board.specs.declared.place.Place.TheVariants as place
use Rattle.spec_board.specs.declared.read.Read.TheVariants as read
use Rattle.spec_board.specs.Reads.{ExactRead}
use Rattle.spec_board.specs.Places.{ExactPlace, place_at, IsShown, Answers}
use Rattle.atomic_table.specs.Table.{State}
use Rattle.basis_board.specs.declared.seats.View.{View}
use Rattle.basis_board.specs.Board.{count, done}
use Rattle.basis_board.specs.Places.{Place, Taken, Shown, payload, board_of}

-- a claimed place of spec_board, as the board's words spell it: without the session that claimed it
abbrev pub spelled : ExactPlace → Place
spelled (place.Claimed session) = Taken
spelled (place.Done words) = Shown words

-- A read takes the places `now` to `next`, as the words spell them: a claim adds a taken place, a publication shows its
-- place, and any other read changes none.
abbrev pub Changes : List ExactPlace → ExactRead → List ExactPlace → Type 0
Changes now (read.Claim k) next = map spelled next ≡ map spelled now ++ Taken ∷ []
Changes now (read.Done k words) next = map spelled next ≡ slice_set (map spelled now) k (Shown words)
Changes now other next = map spelled next ≡ map spelled now

-- ---- the steps of a board

-- the words of a board spell these places
abbrev pub AreSpelled : List ℕ → List ExactPlace → Type 0
AreSpelled words now = map spelled now ≡ board_of words

-- the places `now` answer this read of a session, and the board's words then spell the places that it leaves
abbrev pub IsAnswered : ℕ → List ExactPlace → ℕ → ExactRead → List ℕ → Type 0
IsAnswered places now session made words =
    (next : List ExactPlace) × Answers places now session made next × AreSpelled words next

-- In this state, whose words spell `now`, a load of the count, of a done word or of a done place's words, a
-- compare-exchange of the count, and a store of a done word by the session that claimed the place are reads that the
-- places answer. A store of a payload word is no read. After each, the words spell the places that it leaves.
pub record StepsAreReads (places : ℕ) (s : State ℕ View) (now : List ExactPlace) : Type 0 where
  pub counts : (session : ℕ) → IsAnswered places now session (read.Count (count s.words)) s.words
  pub opens : (session k : ℕ) → k < count s.words → done s.words k ≡ 0 →
      IsAnswered places now session (read.NotDone k) s.words
  pub sees : (session k : ℕ) (words : List ℕ) → k < count s.words → done s.words k ≡ 1 →
      IsShown (payload s.words k) words → IsAnswered places now session (read.Seen k words) s.words
  pub claims : (session : ℕ) → count s.words < places →
      IsAnswered places now session (read.Claim (count s.words)) (slice_set s.words 0 (count s.words + 1))
  pub loses : (session : ℕ) → IsAnswered places now session (read.Lost (count s.words)) s.words
  pub stores : (seat : ℕ) (v : View) (k : ℕ) (words : List ℕ) (m b : ℕ) → get_elem? s.views seat ≡ some v →
      v.held ≡ Some (k, words) → m < 49 → AreSpelled (slice_set s.words (50 * k + 1 + m) b) now
  pub finishes : (seat : ℕ) (v : View) (k : ℕ) (words : List ℕ) (session : ℕ) → get_elem? s.views seat ≡ some v →
      v.held ≡ Some (k, words) → length words ≡ 49 → place_at now k ≡ Some (place.Claimed session) →
      IsAnswered places now session (read.Done k words) (slice_set s.words (50 * k + 50) 1)
