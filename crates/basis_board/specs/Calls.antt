-- What the calls of a board promise.
use Rattle.std.specs.Prelude.{◌≡◌, ◌≢◌, ℕ, ◌+◌, ◌<◌, ◌≤◌, List, [], ◌∷◌, ◌++◌, length, take, slice_index}
use Rattle.atomic_table.specs.declared.shared.Seat.{Seat}
use Rattle.basis_board.specs.declared.seats.View.{View}
use Rattle.basis_board.specs.declared.seats.Sight.{Sight}
use Rattle.basis_board.specs.declared.seats.RawRead.{RawRead}
use Rattle.basis_board.specs.declared.seats.RawRead.TheVariants.{Count, Open, See, Lost}
use Rattle.spec_board.specs.declared.read.Put.{Put}
use Rattle.spec_board.specs.declared.read.Put.TheVariants.{Published, Full, Raced}
use Rattle.basis_board.specs.declared.board.Look.{Look}
use Rattle.basis_board.specs.declared.board.Look.TheVariants.{Found, NoneReady}
use Rattle.spec_board.specs.Words.{IsWellFormed}
use Rattle.basis_board.specs.Board.{Each, noted, seeing, publishing, met}
use Rattle.basis_board.specs.Rule.{OwnsBelow, Consistent}
pub use Rattle.basis_board.specs.Rule.{CountTells}

-- what the pass of this seat knows: what it has read, seen and published
abbrev pub known : Seat ℕ Sight → View
known s = s.me.0.view

-- two seats are of one table, have one number there, and hold the same words of it; what they know may differ
abbrev pub IsSameSeat : Seat ℕ Sight → Seat ℕ Sight → Type 0
IsSameSeat s t = (t.table_id ≡ s.table_id) × (t.id ≡ s.id) × (t.me.1 ≡ s.me.1)

-- a publication stored the words xs in place k, which was the first free one: what the pass knew, v, became w
pub record IsPublished (v : View) (xs : List ℕ) (k : ℕ) (w : View) : Type 0 where
  pub view : w ≡ publishing v k xs
  pub inside : k < v.places
  pub tells : CountTells v k

-- a publication found no free place, as all c places were claimed: what the pass knew, v, became w
pub record IsFull (v : View) (c : ℕ) (w : View) : Type 0 where
  pub view : w ≡ noted v (Count c)
  pub all : c ≡ v.places
  pub tells : CountTells v c

-- a publication read a count, and lost the place of that number to another pass, after which e places were claimed:
-- what the pass knew, v, became w. A pass that has the whole right to the board cannot lose one
pub record IsRaced (v : View) (e : ℕ) (w : View) : Type 0 where
  pub count : ℕ
  pub view : w ≡ noted (noted v (Count count)) (Lost e)
  pub grown : count < e
  pub tells : CountTells v count
  pub tells_then : CountTells v e
  pub not_whole : v.share ≢ 64

-- a publication of the words xs that came to this, by what the pass knew before and knows after
abbrev pub Puts : View → List ℕ → Put → View → Type 0
Puts v xs (Published k) w = IsPublished v xs k w
Puts v xs (Full c) w = IsFull v c w
Puts v xs (Raced e) w = IsRaced v e w

-- where an entry of seen words is of place k, its words and xs are the same up to the end of the shorter list
abbrev pub AgreesWith : ℕ → List ℕ → ℕ × List ℕ → Type 0
AgreesWith k xs p = p.0 ≡ k → (i : ℕ) → i < length xs → i < length p.1 → slice_index p.1 i ≡ slice_index xs i

-- After a meeting of two passes, u is what v and w knew together. If u has the whole right to the board, all claimed
-- places are its own publications, and it knows how many these are.
pub record Meets (v w u : View) : Type 0 where
  pub view : u ≡ met v w
  pub whole : u.share ≡ 64 → (n : ℕ) × OwnsBelow u n × CountTells u n

-- a look passes by place k, which is not done or has another shape; what the pass knew, v, becomes w, with this read
pub data PassesBy (shape : List ℕ) (k : ℕ) (v w : View) : Type 0 where
  undone : Each (λ p. p.0 ≢ k) v.seen → w ≡ noted v (Open k) → PassesBy shape k v w
  other : (xs : List ℕ) → length xs ≡ 25 → xs ≢ shape → Each (AgreesWith k xs) v.seen → w ≡ seeing v k xs →
      PassesBy shape k v w

-- place k was read as done, with the well-formed words xs of this shape, which agree with what was seen of it before;
-- what the pass knew, v, becomes w
pub record Finds (shape : List ℕ) (k : ℕ) (xs : List ℕ) (v w : View) : Type 0 where
  pub view : w ≡ seeing v k xs
  pub shape_is : take 25 xs ≡ shape
  pub formed : IsWellFormed xs
  pub agrees : Each (AgreesWith k xs) v.seen

-- the first i words of place k were read into words, and agree with what was seen of it before;
-- what the pass knew, v, becomes w
pub record IsReading (k i : ℕ) (words : List ℕ) (v w : View) : Type 0 where
  pub long : length words ≡ 49
  pub view : w ≡ seeing v k (take i words)
  pub consistent : Consistent w
  pub agrees : Each (AgreesWith k (take i words)) v.seen

-- the first i words of place k, at least 25, were read into words; the first 25 are the shape, and once all 49 are
-- read, they are well-formed
pub record IsReadingRest (shape : List ℕ) (k i : ℕ) (words : List ℕ) (v w : View) : Type 0 where
  pub read : IsReading k i words v w
  pub late : 25 ≤ i
  pub shape_is : take 25 words ≡ shape
  pub formed : i ≡ 49 → IsWellFormed words

-- the read is of place k, and found it not done, or with the first words of another shape
abbrev pub SeesOther : List ℕ → ℕ → RawRead → Type 0
SeesOther shape k (Open j) = j ≡ k
SeesOther shape k (See j xs) = (j ≡ k) × (length xs ≡ 25) × (xs ≢ shape)
SeesOther shape k r = ⊥

-- These reads, of which the newest stands first, went from place c - 1 down to place k, and each found its place not
-- done or of another shape.
abbrev pub Passed : List ℕ → ℕ → ℕ → List RawRead → Type 0
Passed shape c k [] = k ≡ c
Passed shape c k (r ∷ rs) = SeesOther shape k r × Passed shape c (k + 1) rs

-- at least 25 words of the place were read, and these first 25 are the shape
abbrev pub HasShape : List ℕ → ℕ × List ℕ → Type 0
HasShape shape p = (25 ≤ length p.1) × (take 25 p.1 ≡ shape)

-- what a pass knows after it read the count c, then made these newer reads, and saw these words of places
abbrev pub looked : View → ℕ → List RawRead → List (ℕ × List ℕ) → View
looked v c added more = record v { seen = more ++ v.seen; reads = added ++ Count c ∷ v.reads }

-- if the read found a place not done, no words of that place had been seen; of other reads nothing is asked
abbrev pub OpenUnseen : List (ℕ × List ℕ) → RawRead → Type 0
OpenUnseen seen (Open k) = Each (λ p. p.0 ≢ k) seen
OpenUnseen seen r = Unit {0}

-- A look read the count c and has passed by all places from c - 1 down to k: what the pass knew, v, became w. Of none
-- of these had it seen the shape before.
pub record IsDownTo (shape : List ℕ) (c k : ℕ) (v w : View) : Type 0 where
  pub added : List RawRead
  pub more : List (ℕ × List ℕ)
  pub view : w ≡ looked v c added more
  pub passed : Passed shape c k added
  pub unseen : Each (OpenUnseen v.seen) added
  pub none_above : Each (λ p. k ≤ p.0 → ¬ HasShape shape p) v.seen
  pub tells : CountTells v c

-- a look for this shape found place k with the words xs, and passed by all newer ones; what the pass knew, v, became w
pub record IsFound (shape : List ℕ) (v : View) (k : ℕ) (xs : List ℕ) (w : View) : Type 0 where
  pub count : ℕ
  pub before : View
  pub down : IsDownTo shape count (k + 1) v before
  pub finds : Finds shape k xs before w

-- a look for this shape came to this, a place with its words or none; what the pass knew, v, became w
abbrev pub Looks : List ℕ → View → Look → View → Type 0
Looks shape v (Found k xs) w = IsFound shape v k xs w
Looks shape v (NoneReady c) w = IsDownTo shape c 0 v w
