-- The words of a board, and the views of its seats. This file names the plain structs only.
use Rattle.std.specs.Prelude.{◌≡◌, ℕ, ◌+◌, ◌-◌, ◌*◌, ◌<◌, ◌≤◌, ◌==◌, ◌⊎◌, Bool, true, false}
use Rattle.std.specs.Prelude.{List, [], ◌∷◌, ◌++◌, length, slice_index, Option, Some, None}
use Rattle.basis_board.specs.declared.seats.View.{View}
use Rattle.basis_board.specs.declared.seats.RawRead.{RawRead}
use Rattle.basis_board.specs.declared.seats.RawRead.TheVariants.{Count, See, Claim, Lost, Done}

-- each element of the list has the property P
abbrev pub Each : {X : Type 0} → (X → Type 0) → List X → Type 0
Each P [] = Unit {0}
Each P (x ∷ xs) = P x × Each P xs

-- y is an element of the list
abbrev pub Has : {X : Type 0} → List X → X → Type 0
Has [] y = ⊥
Has (x ∷ xs) y = (x ≡ y) ⊎ Has xs y

-- the sum of what f gives for each element of a list
abbrev pub total : {X : Type 0} → (X → ℕ) → List X → ℕ
total f [] = 0
total f (x ∷ xs) = f x + total f xs

-- 1 for true and 0 for false
abbrev pub one_if : Bool → ℕ
one_if true = 1
one_if false = 0

-- how often k occurs in the list
abbrev pub times : ℕ → List ℕ → ℕ
times k xs = total (λ x. one_if (x == k)) xs

-- how many places are claimed, which word 0 says. Place k has its payload in words 50 k + 1 to 50 k + 49, and its done
-- word is word 50 k + 50
abbrev pub count : List ℕ → ℕ
count ws = slice_index ws 0

-- the done word of place k: 1 where the place is done, and else 0
abbrev pub done : List ℕ → ℕ → ℕ
done ws k = slice_index ws (50 * k + 50)

-- the payload of place k begins with the words xs, of which there are at most 49
pub record Shows (ws : List ℕ) (k : ℕ) (xs : List ℕ) : Type 0 where
  pub short : length xs ≤ 49
  pub same : (i : ℕ) → i < length xs → slice_index ws (50 * k + 1 + i) ≡ slice_index xs i

-- 1 where this is place k with its words; 0 where it is another place, or none
abbrev pub holding_in : ℕ → Option (ℕ × List ℕ) → ℕ
holding_in k None = 0
holding_in k (Some p) = one_if (p.0 == k)

-- 1 where the pass that knows v has claimed place k and not published it, and else 0
abbrev pub holding : ℕ → View → ℕ
holding k v = holding_in k v.held

-- how often place k is among the places that the pass which knows v published: at most once while the rule holds
abbrev pub owning : ℕ → View → ℕ
owning k v = times k v.own

-- how many of the 64 parts of the right to the board the pass that knows v has
abbrev pub share_of : View → ℕ
share_of v = v.share

-- what a pass knows after it was merged into another: nothing, and it has no part of the right to the board
abbrev pub spent : View
spent = record { places = 0; share = 0; held = None; seen = []; own = []; reads = [] }

-- what the only pass of a new board knows: it has all 64 parts of the right to the board, and has read nothing
abbrev pub first_view : ℕ → View
first_view places = record { places = places; share = 64; held = None; seen = []; own = []; reads = [] }

-- what a pass knows after one more read
abbrev pub noted : View → RawRead → View
noted v r = record v { reads = r ∷ v.reads }

-- what a pass knows after it claimed place k, in which it has stored no word
abbrev pub claiming : View → ℕ → View
claiming v k = record v { held = Some (k, []); reads = Claim k ∷ v.reads }

-- a held place, with its stored words and then this one; where no place is held, none
abbrev pub grown_held : Option (ℕ × List ℕ) → ℕ → Option (ℕ × List ℕ)
grown_held None b = None
grown_held (Some p) b = Some (p.0, p.1 ++ b ∷ [])

-- what a pass knows after it stored one more word in the place that it claimed
abbrev pub writing : View → ℕ → View
writing v b = record v { held = grown_held v.held b }

-- what a pass knows after it published the place that it had claimed, with the words that it stored there; the same as
-- before where it had claimed none
abbrev pub finished : Option (ℕ × List ℕ) → View → View
finished None v = v
finished (Some p) v =
    record v { held = None; seen = p ∷ v.seen; own = v.own ++ p.0 ∷ []; reads = Done p.0 p.1 ∷ v.reads }

-- what a pass knows after it read that place k is done, and none of its words
abbrev pub opening_place : View → ℕ → View
opening_place v k = record v { seen = (k, []) ∷ v.seen; reads = See k [] ∷ v.reads }

-- the seen words of places, in which the newest entry has one word more; an empty list stays empty
abbrev pub grown_seen : List (ℕ × List ℕ) → ℕ → List (ℕ × List ℕ)
grown_seen [] b = []
grown_seen (p ∷ ps) b = (p.0, p.1 ++ b ∷ []) ∷ ps

-- a read of words of a place, with one word more; any other read as it is
abbrev pub grown_read : RawRead → ℕ → RawRead
grown_read (See k xs) b = See k (xs ++ b ∷ [])
grown_read r b = r

-- the reads, of which the newest one has one word more if it is a read of words of a place; no reads stay none
abbrev pub grown_reads : List RawRead → ℕ → List RawRead
grown_reads [] b = []
grown_reads (r ∷ rs) b = grown_read r b ∷ rs

-- what a pass knows after it read one more word of the place that it saw last
abbrev pub reading : View → ℕ → View
reading v b = record v { seen = grown_seen v.seen b; reads = grown_reads v.reads b }

-- if the read gave a count, this is at most n; of other reads nothing is asked
abbrev pub IsAtMost : ℕ → RawRead → Type 0
IsAtMost n (Count c) = c ≤ n
IsAtMost n (Lost c) = c ≤ n
IsAtMost n r = Unit {0}

-- the words of the place that was seen last; none where no place was seen
abbrev pub head_words : List (ℕ × List ℕ) → List ℕ
head_words [] = []
head_words (p ∷ ps) = p.1

-- what a pass knows after another was split off: all that it knew, with one part of the right to the board less
abbrev pub cut_left : View → View
cut_left v = record v { share = v.share - 1 }

-- what a pass knows that was split off another: it has one part of the right to the board, and has seen what the other
-- had, but has itself read and published nothing
abbrev pub cut_right : View → View
cut_right v = record { places = v.places; share = 1; held = None; seen = v.seen; own = []; reads = [] }

-- what a pass knows after another, which holds no place, was merged into it: it has the parts of both and knows what
-- either does; the other's reads are newer
abbrev pub met : View → View → View
met v w =
    record {
      places = v.places;
      share = v.share + w.share;
      held = v.held;
      seen = v.seen ++ w.seen;
      own = v.own ++ w.own;
      reads = w.reads ++ v.reads;
    }

-- what a pass knows after it read that place k is done, and these words of it
abbrev pub seeing : View → ℕ → List ℕ → View
seeing v k xs = record v { seen = (k, xs) ∷ v.seen; reads = See k xs ∷ v.reads }

-- what a pass knows after it stored these words, and no others, in the place k that it claimed
abbrev pub storing : View → ℕ → List ℕ → View
storing v k xs = record v { held = Some (k, xs) }

-- what a pass knows after it read the count k, claimed place k, stored these words and published them
abbrev pub publishing : View → ℕ → List ℕ → View
publishing v k xs =
    record v {
      held = None;
      seen = (k, xs) ∷ v.seen;
      own = v.own ++ k ∷ [];
      reads = Done k xs ∷ Claim k ∷ Count k ∷ v.reads;
    }
