-- What the reads of one who serves sessions say of each other, and those of all who share the places, without an order
-- and in one order.
use Rattle.std.specs.Prelude.{ℕ, ◌≡◌, ◌==◌, ◌%◌, ◌<◌, ◌≤◌, ◌↔◌, List, [], ◌∷◌}
use Rattle.std.specs.List.{filter, flat_map, Contains, AllByRecursion}
use Rattle.spec_board.specs.declared.read.Read.TheVariants.{Count, NotDone, Seen, Lost, Done}
use Rattle.spec_board.specs.Reads.{Words, ExactRead}
use Rattle.spec_board.specs.Places.{ExactPlace, IsShown, Logged, Plays}

-- ---- the reads of one

-- the relation holds of each member of the list and each later one
abbrev pub InPairs : {X : Type 0} → (X → X → Type 0) → List X → Type 0
InPairs R [] = Unit {0}
InPairs R (x ∷ xs) = AllByRecursion (R x) xs × InPairs R xs

-- What an earlier read of one reader asks of a later one. The numbers of claimed places that `Count` and `Lost` say
-- never fall. A place that was seen done, or was written, is below each later `Count`, and is not seen as not done
-- later. Of each other pair nothing is asked.
abbrev pub AreInOrder : ExactRead → ExactRead → Type 0
AreInOrder (Count c) (Count d) = c ≤ d
AreInOrder (Count c) (Lost d) = c ≤ d
AreInOrder (Lost c) (Count d) = c ≤ d
AreInOrder (Lost c) (Lost d) = c ≤ d
AreInOrder (Seen k words) (Count d) = k < d
AreInOrder (Seen k words) (NotDone j) = k ≡ j → ⊥
AreInOrder (Done k words) (Count d) = k < d
AreInOrder (Done k words) (NotDone j) = k ≡ j → ⊥
AreInOrder earlier later = Unit {0}

-- ---- the reads of all

-- the place that a `Done` read says its reader published, as a list of one number; of each other read the empty list
abbrev pub published_by : ExactRead → List ℕ
published_by (Done k words) = k ∷ []
published_by other = []

-- the places that these reads published, in order
abbrev pub published_in : List ExactRead → List ℕ
published_in reads = flat_map published_by reads

-- A read of the board fits all reads: a count of claimed places is at most `claimed`, and words that are seen in a
-- place are words that one of the reads in `all` published there, all of them or those in front. Of each other read
-- nothing is asked.
abbrev pub IsBacked : List ExactRead → ℕ → ExactRead → Type 0
IsBacked all claimed (Count c) = c ≤ claimed
IsBacked all claimed (Lost c) = c ≤ claimed
IsBacked all claimed (Seen k words) = (payload : Words) × Contains all (Done k payload) × IsShown payload words
IsBacked all claimed other = Unit {0}

-- No place is published twice, the published ones are those below some number, no count is above it, and words that are
-- seen in a place are words that one of these reads published there.
pub record AreBacked (all : List ExactRead) : Type 0 where
  pub once : InPairs (λ j k. j ≡ k → ⊥) (published_in all)
  pub claimed : ℕ
  pub published : (k : ℕ) → Contains (published_in all) k ↔ (k < claimed)
  pub backed : AllByRecursion (IsBacked all claimed) all

-- ---- the reads of all, in one order

-- the reads of one worker in a log: those of the sessions whose number leaves the worker's when divided by `workers`
abbrev pub log_of_worker : ℕ → ℕ → List Logged → List Logged
log_of_worker workers worker log = filter (λ x. x.session % workers == worker) log

-- `workers` workers made these reads. There is one order of all of them, in which those of each worker stand as it made
-- them, and each is answered by the places as they are then. No place is claimed at first.
pub record HaveOneOrder (places workers : ℕ) (logs : ℕ → List Logged) : Type 0 where
  pub log : List Logged
  pub last : List ExactPlace
  pub played : Plays places [] log last
  pub parts : (worker : ℕ) → worker < workers → log_of_worker workers worker log ≡ logs worker
