-- Places, and how they answer what is read of them.
use Rattle.std.specs.Prelude.{ℕ, suc, zero, ◌≡◌, ◌==◌, ◌⊎◌, ◌<◌, ◌++◌, Option, Some, None, List, [], ◌∷◌, length, map}
use Rattle.std.specs.Prelude.{if◌then◌else◌}
use Rattle.std.specs.List.{flat_map}
use Rattle.spec_board.specs.declared.place.Place.{Place}
use Rattle.spec_board.specs.declared.place.Place.TheVariants as place
use Rattle.spec_board.specs.declared.read.Read.TheVariants.{Count, NotDone, Seen, Claim, Lost, Done}
use Rattle.spec_board.specs.Reads.{Words, ExactRead, front}

-- a claimed place with its words as a list: one that a session has claimed, or one that is done
abbrev pub ExactPlace : Type 0
ExactPlace = Place Words

-- place k; none where it is not claimed
abbrev pub place_at : List ExactPlace → ℕ → Option ExactPlace
place_at [] k = None
place_at (p ∷ ps) zero = Some p
place_at (p ∷ ps) (suc k) = place_at ps k

-- the places with `new` as place k; the same places where there is no place k
abbrev pub with_place : List ExactPlace → ℕ → ExactPlace → List ExactPlace
with_place [] k new = []
with_place (p ∷ ps) zero new = new ∷ ps
with_place (p ∷ ps) (suc k) new = p ∷ with_place ps k new

-- the words are what a look may see of a place with this payload: all of it, or only the words in front
abbrev pub IsShown : Words → Words → Type 0
IsShown payload words = (words ≡ payload) ⊎ (words ≡ front payload)

-- With `places` places in all, of which those in `now` are claimed, a session may make this read, and then those in
-- `next` are claimed. A count is how many are claimed; a place that is not done is one that some session has claimed;
-- seen words are those of a done place, all or those in front. A claim appends a place for this session, if fewer than
-- `places` are claimed. `Done` writes the words into a place that this session has claimed. The other reads leave the
-- places as they are.
abbrev pub Answers : ℕ → List ExactPlace → ℕ → ExactRead → List ExactPlace → Type 0
Answers places now session (Count c) next = (c ≡ length now) × (next ≡ now)
Answers places now session (NotDone k) next = (owner : ℕ) × (place_at now k ≡ Some (place.Claimed owner)) × (next ≡ now)
Answers places now session (Seen k words) next =
    (payload : Words) × (place_at now k ≡ Some (place.Done payload)) × IsShown payload words × (next ≡ now)
Answers places now session (Claim k) next =
    (k ≡ length now) × (k < places) × (next ≡ now ++ place.Claimed session ∷ [])
Answers places now session (Lost c) next = (c ≡ length now) × (next ≡ now)
Answers places now session (Done k words) next =
    (place_at now k ≡ Some (place.Claimed session)) × (next ≡ with_place now k (place.Done words))

-- one read, with the session that made it
pub record Logged : Type 0 where
  pub session : ℕ
  pub read : ExactRead

-- the reads of one session, each with the session's number
abbrev pub logged : ℕ → List ExactRead → List Logged
logged session reads = map (λ read. record { session = session; read = read }) reads

-- the reads of a session among those of all
abbrev pub reads_in : ℕ → List Logged → List ExactRead
reads_in session log = flat_map (λ x. if x.session == session then x.read ∷ [] else []) log

-- the places answer the reads of this log, one after the other, each as they are then; from `now` they come to `last`
abbrev pub Plays : ℕ → List ExactPlace → List Logged → List ExactPlace → Type 0
Plays places now [] last = last ≡ now
Plays places now (x ∷ log) last =
    (next : List ExactPlace) × Answers places now x.session x.read next × Plays places next log last
