-- The rule of the board, and what each step tells.
use Rattle.std.specs.Prelude.{◌≡◌, ◌≢◌, ℕ, ◌+◌, ◌*◌, ◌-◌, ◌/◌, ◌%◌, ◌<◌, ◌≤◌, List}
use Rattle.std.specs.Prelude.{[], ◌∷◌, ◌++◌, length, slice_index, Option, Some, None}
use mathlib.Core.Option.{some}
use lib.ListN.{get_elem?}
use Rattle.atomic_table.specs.Table.{State, Me, Step}
use Rattle.basis_board.specs.declared.seats.View.{View}
use Rattle.basis_board.specs.declared.seats.RawRead.{RawRead}
use Rattle.basis_board.specs.declared.seats.RawRead.TheVariants.{Count, Open, See, Lost, Done}
use Rattle.spec_board.specs.Words.{IsWellFormed}
use Rattle.basis_board.specs.Board.{Each, Has, total, times, count, done, Shows, holding, owning, share_of, spent}
use Rattle.basis_board.specs.Board.{noted, claiming, writing, finished, opening_place, reading, head_words, IsAtMost}

-- the place that a pass holds begins with the words that it stored there; where it holds none, nothing is asked
abbrev pub HeldFits : List ℕ → Option (ℕ × List ℕ) → Type 0
HeldFits ws None = Unit {0}
HeldFits ws (Some p) = Shows ws p.0 p.1

-- place p.0 is done, and begins with these words
abbrev pub SeenFits : List ℕ → ℕ × List ℕ → Type 0
SeenFits ws p = (done ws p.0 ≡ 1) × Shows ws p.0 p.1

-- place k was seen with all its 49 words
abbrev pub OwnFits : List (ℕ × List ℕ) → ℕ → Type 0
OwnFits seen k = (xs : List ℕ) × Has seen (k, xs) × (length xs ≡ 49)

-- the read is true of the board's words now: a count is no larger than theirs, and a place that was seen or published
-- is done and begins with the words; of other reads nothing is asked
abbrev pub ReadFits : List ℕ → RawRead → Type 0
ReadFits ws (Count c) = c ≤ count ws
ReadFits ws (Lost c) = c ≤ count ws
ReadFits ws (See k xs) = SeenFits ws (k, xs)
ReadFits ws (Done k xs) = SeenFits ws (k, xs)
ReadFits ws r = Unit {0}

-- two entries of seen words, if they are of one place, are the same up to the end of the shorter one
abbrev pub Agree : ℕ × List ℕ → ℕ × List ℕ → Type 0
Agree p q = p.0 ≡ q.0 → (i : ℕ) → i < length p.1 → i < length q.1 → slice_index p.1 i ≡ slice_index q.1 i

-- the places that the reads say were published, the first one first; the reads stand newest first
abbrev pub published_places : List RawRead → List ℕ
published_places [] = []
published_places (Done k xs ∷ rs) = published_places rs ++ k ∷ []
published_places (r ∷ rs) = published_places rs

-- if words of a place were read or published, an entry of the place with at least as many words is among those seen
abbrev pub StandsIn : List (ℕ × List ℕ) → RawRead → Type 0
StandsIn seen (See k xs) = (ys : List ℕ) × Has seen (k, ys) × (length xs ≤ length ys)
StandsIn seen (Done k xs) = (ys : List ℕ) × Has seen (k, ys) × (length xs ≤ length ys)
StandsIn seen r = Unit {0}

-- what a pass knows is in itself in order, whatever the board's words are: its publications are among its reads, and
-- its reads in what it saw
pub record Neat (v : View) : Type 0 where
  pub published : v.own ≡ published_places v.reads
  pub stands : Each (StandsIn v.seen) v.reads

-- what the board's rule says of one pass: what it knows is true of the board's words, and without a part of the right
-- to the board it knows nothing
pub record Fits (places : ℕ) (ws : List ℕ) (v : View) : Type 0 where
  pub on_board : 0 < v.share → v.places ≡ places
  pub is_spent : v.share ≡ 0 → v ≡ spent
  pub held : HeldFits ws v.held
  pub seen : Each (SeenFits ws) v.seen
  pub own : Each (OwnFits v.seen) v.own
  pub reads : Each (ReadFits ws) v.reads
  pub neat : Neat v

-- what the rule says of place k. Below the count, one pass holds it or it is done; from there on, neither is so. A done
-- place has one owner and well-formed words
pub record PlaceFits (ws : List ℕ) (views : List View) (k : ℕ) : Type 0 where
  pub claimed : k < count ws → total (holding k) views + done ws k ≡ 1
  pub free : count ws ≤ k → total (holding k) views + done ws k ≡ 0
  pub owned : total (owning k) views ≡ done ws k
  pub formed : done ws k ≡ 1 → (xs : List ℕ) × Shows ws k xs × IsWellFormed xs

-- The rule of a board of so many places: its words have the right number and a count within it, each place and each
-- pass keeps its part of the rule, and all passes together have the 64 parts of the right to the board.
pub record Kept (places : ℕ) (s : State ℕ View) : Type 0 where
  pub wide : length s.words ≡ 50 * places + 1
  pub bounded : count s.words ≤ places
  pub each_place : (k : ℕ) → PlaceFits s.words s.views k
  pub each_seat : (j : ℕ) (v : View) → get_elem? s.views j ≡ some v → Fits places s.words v
  pub shares : total share_of s.views ≡ 64

-- if words of a place were read or published, they agree with all entries of that place that were seen
abbrev pub ReadAgrees : List (ℕ × List ℕ) → RawRead → Type 0
ReadAgrees seen (See k xs) = Each (Agree (k, xs)) seen
ReadAgrees seen (Done k xs) = Each (Agree (k, xs)) seen
ReadAgrees seen r = Unit {0}

-- what the board's rule says of a pass by itself, whatever the board's words are now
pub record Consistent (v : View) : Type 0 where
  pub neat : Neat v
  pub agree : Each (λ p. Each (Agree p) v.seen) v.seen
  pub reads_agree : Each (ReadAgrees v.seen) v.reads
  pub formed : Each (λ p. length p.1 ≡ 49 → IsWellFormed p.1) v.seen
  pub own : Each (OwnFits v.seen) v.own
  pub once : (k : ℕ) → times k v.own ≤ 1

-- the pass published each place below n once, and no other place
abbrev pub OwnsBelow : View → ℕ → Type 0
OwnsBelow v n = (k : ℕ) → (k < n → times k v.own ≡ 1) × (n ≤ k → times k v.own ≡ 0)

-- what a pass that reads the count as n is told: n is at most the number of places, above each place it has seen, and
-- not below a count read before; with the whole right to the board, it published all places below n
pub record CountTells (v : View) (n : ℕ) : Type 0 where
  pub within : n ≤ v.places
  pub seen : Each (λ p. p.0 < n) v.seen
  pub reads : Each (IsAtMost n) v.reads
  pub whole : v.share ≡ 64 → OwnsBelow v n

-- a load of the count found n: what the pass knew, v, becomes w with this read
pub record Counted (v : View) (n : ℕ) (w : View) : Type 0 where
  pub view : w ≡ noted v (Count n)
  pub tells : CountTells v n

-- a compare-exchange of the count from c found n: if n is c, the pass has claimed place c; else it has lost it, and n
-- is more than c. What it knew, v, becomes w
pub record Claimed (c : ℕ) (v : View) (n : ℕ) (w : View) : Type 0 where
  pub won : n ≡ c → w ≡ claiming v c
  pub lost : n ≢ c → (w ≡ noted v (Lost n)) × (c < n)
  pub tells : CountTells v n

-- what a seat's pass knows before and after a load of the count, by the value that it found; the words it holds stay
abbrev pub counted : Step ℕ → Me ℕ View → ℕ → Me ℕ View → Type 0
counted st m n m' = Counted m.0 n m'.0 × (m'.1 ≡ m.1) × Consistent m'.0

-- what a seat's pass knows before and after a compare-exchange of the count, by the value that it found; the words that
-- it holds stay
abbrev pub claimed : Step ℕ → Me ℕ View → ℕ → Me ℕ View → Type 0
claimed st m n m' = Claimed st.first m.0 n m'.0 × (m'.1 ≡ m.1) × Consistent m'.0

-- what a seat's pass knows before and after it stored a word in the place that it holds: one more word stored
abbrev pub wrote : Step ℕ → Me ℕ View → ℕ → Me ℕ View → Type 0
wrote st m n m' = (m'.0 ≡ writing m.0 n) × (m'.1 ≡ m.1)

-- what a seat's pass knows before and after it stored the done word of the place that it holds: the place is published
abbrev pub published : Step ℕ → Me ℕ View → ℕ → Me ℕ View → Type 0
published st m n m' = (m'.0 ≡ finished m.0.held m.0) × (m'.1 ≡ m.1) × Consistent m'.0

-- a load of the done word of place k found n: 1 where it is done, 0 where not; what the pass knew, v, becomes w. A
-- place that was seen before is still done
pub record Saw (k : ℕ) (v : View) (n : ℕ) (w : View) : Type 0 where
  pub bit : n ≤ 1
  pub yes : n ≡ 1 → w ≡ opening_place v k
  pub not_done : n ≡ 0 → w ≡ noted v (Open k)
  pub known : Each (λ p. p.0 ≡ k → n ≡ 1) v.seen

-- where an entry of seen words is of place k and has a word m, that word is n
abbrev pub HasAt : ℕ → ℕ → ℕ → ℕ × List ℕ → Type 0
HasAt k m n p = p.0 ≡ k → m < length p.1 → slice_index p.1 m ≡ n

-- a load of payload word m of place k found n, which agrees with what was seen of the place; what the pass knew, v,
-- becomes w. Once all 49 words are read, they are well-formed
pub record WordRead (k m : ℕ) (v : View) (n : ℕ) (w : View) : Type 0 where
  pub view : w ≡ reading v n
  pub known : Each (HasAt k m n) v.seen
  pub formed : length (head_words w.seen) ≡ 49 → IsWellFormed (head_words w.seen)

-- the load of the count after a meeting found n: the pass is told of it, and what it knew, v, stays as w
pub record Learned (v : View) (n : ℕ) (w : View) : Type 0 where
  pub view : w ≡ v
  pub tells : CountTells v n

-- what a seat's pass knows before and after a load of a done word, by the value that it found; the words it holds stay
abbrev pub saw : Step ℕ → Me ℕ View → ℕ → Me ℕ View → Type 0
saw st m n m' = Saw (st.word / 50 - 1) m.0 n m'.0 × (m'.1 ≡ m.1) × Consistent m'.0

-- what a seat's pass knows before and after a load of a payload word, by the value found; the words that it holds stay
abbrev pub word_read : Step ℕ → Me ℕ View → ℕ → Me ℕ View → Type 0
word_read st m n m' = WordRead ((st.word - 1) / 50) ((st.word - 1) % 50) m.0 n m'.0 × (m'.1 ≡ m.1) × Consistent m'.0

-- what a seat's pass is told by the load of the count after a meeting; what it knows and the words that it holds stay
abbrev pub learned : Step ℕ → Me ℕ View → ℕ → Me ℕ View → Type 0
learned st m n m' = Learned m.0 n m'.0 × (m'.1 ≡ m.1) × Consistent m'.0
