-- What holds of a session at each stage of its ask: the look, the solve and the put.
--
-- `looks_begin`: a count of n places is the first read of a look that goes on below place n.
-- `looks_past`: where place k is read and is not what is looked for, the look goes on below it.
-- `looks_find`: where place k has the words of a basis with the shape, the look ends and has found it.
-- `looks_over`: a look passes over a place whose words have another shape.
-- `stage_keeps`: what holds of a session's stage stays while the places grow and its claimed place is its own.
-- `looking_fits`: a look that has come down to place k, or to the end, has a stage that fits its reads.
-- `run_on`: a run of a session and one more step are a run.
use Rattle.std.proofs.Common.{◌≡◌, ℕ, zero, suc, ◌<◌, ◌≤◌, true, false, List, [], ◌∷◌, ◌++◌, length, Some, None, refl}
use Rattle.std.proofs.Common.{sym, subst, arith}
use Rattle.std.proofs.lemmas.List.{append_assoc, append-nil}
use Rattle.spec_board.specs.declared.place.Place.TheVariants.{Claimed}
use Rattle.spec_board.specs.declared.read.Read.TheVariants as read
use Rattle.spec_board.specs.Reads.{ExactRead, Looked, basis_words, has_shape, front, SeenBy, SeesDown, LookReads}
use Rattle.spec_board.specs.Places.{ExactPlace, place_at}
use Rattle.spec_server.specs.Machine.{State}
use Rattle.spec_server.specs.Step.{Looks, Begins, Pending, Publishes, Works, AloneStep}
use Rattle.spec_server.specs.Exchanges.{Exchange, AloneRun}
use Rattle.spec_world.specs.World.{Server, Stage, Idle, Counts, Sees, Solving, Puts, Claims, Writes, solve, looking}

-- ---- looks

-- these are the first reads of a look for this shape, which goes on below place k: with any reads from there down they
-- are a whole look
pub record LooksTo (shape : List ℕ) (k : ℕ) (reads : List ExactRead) : Type 0 where
  pub more : (rest : List ExactRead) (found : Looked) → SeesDown shape k rest found →
      LookReads shape (reads ++ rest) found

pub looks_begin : (shape : List ℕ) (n : ℕ) → LooksTo shape n (read.Count n ∷ [])
looks_begin shape n = record { more = λ rest found d. record { count = n; seen = rest; down = d; all = refl } }

-- the next place is not what is looked for
pub looks_past : (shape : List ℕ) (k : ℕ) (reads : List ExactRead) (made : ExactRead) → LooksTo shape (suc k) reads →
    ((rest : List ExactRead) (found : Looked) → SeesDown shape k rest found →
    SeesDown shape (suc k) (made ∷ rest) found) → LooksTo shape k (reads ++ made ∷ [])
looks_past shape k reads made h step = record {
  more = λ rest found d. subst (λ all. LookReads shape all found) (sym (append_assoc reads (made ∷ []) rest))
      (h.more (made ∷ rest) found (step rest found d));
}

-- where a look has seen all places and found nothing, its reads are those of a look that finds nothing
looks_end : (shape : List ℕ) (reads : List ExactRead) → LooksTo shape zero reads → LookReads shape reads None
looks_end shape reads h = subst (λ all. LookReads shape all None) (append-nil reads) (h.more [] None (refl, refl))

-- the next place is what is looked for
pub looks_find : (shape : List ℕ) (k : ℕ) (words : List ℕ) (reads : List ExactRead) → LooksTo shape (suc k) reads →
    length words ≡ basis_words → has_shape shape words ≡ true →
    LookReads shape (reads ++ read.Seen k words ∷ []) (Some (record { place = k; words = words }))
looks_find shape k words reads h size e =
    h.more (read.Seen k words ∷ []) (Some (record { place = k; words = words })) (
      refl,
      subst (λ t. SeenBy t k words [] (Some (record { place = k; words = words }))
          (SeesDown shape k [] (Some (record { place = k; words = words })))) (sym e) (size, refl, refl),
    )

pub looks_over : (shape : List ℕ) (k : ℕ) (words : List ℕ) → has_shape shape words ≡ false → front words ≡ words →
    (rest : List ExactRead) (found : Looked) → SeesDown shape k rest found →
    SeesDown shape (suc k) (read.Seen k words ∷ rest) found
looks_over shape k words e f rest found d =
    (refl, subst (λ t. SeenBy t k words rest found (SeesDown shape k rest found)) (sym e) (f, d))

-- ---- stages

-- a solve began with a look that made these reads, and its work goes on to publish these words
pub record HasLooked (state : State) (pending : Pending) (looked : List ExactRead) : Type 0 where
  pub shape : List ℕ
  pub found : Looked
  pub begins : Begins state solve (Looks shape)
  pub look : LookReads shape looked found
  pub works : Works state found (Publishes pending)

-- a solve began with a look for this shape, whose reads have come down to place k, which is claimed and comes next
pub record IsSeeing (now : List ExactPlace) (state : State) (shape : List ℕ) (k : ℕ)
    (reads : List ExactRead) : Type 0 where
  pub begins : Begins state solve (Looks shape)
  pub look : LooksTo shape (suc k) reads
  pub below : k < length now

-- a solve began with a look, which has ended with these reads and found this
pub record IsSolving (state : State) (found : Looked) (reads : List ExactRead) : Type 0 where
  pub shape : List ℕ
  pub begins : Begins state solve (Looks shape)
  pub look : LookReads shape reads found

-- a basis is to be published after a look, and then c places were counted, fewer than all; at least c are claimed now
pub record IsClaiming (server : Server) (now : List ExactPlace) (state : State) (pending : Pending) (c : ℕ)
    (reads : List ExactRead) : Type 0 where
  pub looked : List ExactRead
  pub is_looked : HasLooked state pending looked
  pub all : reads ≡ looked ++ read.Count c ∷ []
  pub room : c < server.places
  pub low : c ≤ length now

-- a basis is to be published after a look, and then k places were counted and place k claimed, which is the session's
-- still
pub record IsWriting (server : Server) (me : ℕ) (now : List ExactPlace) (state : State) (pending : Pending) (k : ℕ)
    (reads : List ExactRead) : Type 0 where
  pub looked : List ExactRead
  pub is_looked : HasLooked state pending looked
  pub all : reads ≡ looked ++ read.Count k ∷ read.Claim k ∷ []
  pub room : k < server.places
  pub mine : place_at now k ≡ Some (Claimed me)

-- the stage of session `me` fits its state and the places `now`: what it has read and claimed is what the stage says
abbrev pub StageFits : Server → ℕ → List ExactPlace → State → Stage → Type 0
StageFits server me now state Idle = Unit {0}
StageFits server me now state (Counts shape) = Begins state solve (Looks shape)
StageFits server me now state (Sees shape k reads) = IsSeeing now state shape k reads
StageFits server me now state (Solving found reads) = IsSolving state found reads
StageFits server me now state (Puts pending reads) = HasLooked state pending reads
StageFits server me now state (Claims pending c reads) = IsClaiming server now state pending c reads
StageFits server me now state (Writes pending k reads) = IsWriting server me now state pending k reads

-- what other sessions do leaves it so
pub stage_keeps : (server : Server) (me : ℕ) (now next : List ExactPlace) (state : State) (stage : Stage) →
    length now ≤ length next →
    ((k : ℕ) → place_at now k ≡ Some (Claimed me) → place_at next k ≡ Some (Claimed me)) →
    StageFits server me now state stage → StageFits server me next state stage
stage_keeps server me now next state Idle grows keeps h = tt
stage_keeps server me now next state (Counts shape) grows keeps h = h
stage_keeps server me now next state (Sees shape k reads) grows keeps h = let b = h.below in
    record { begins = h.begins; look = h.look; below = omega arith }
stage_keeps server me now next state (Solving found reads) grows keeps h = h
stage_keeps server me now next state (Puts pending reads) grows keeps h = h
stage_keeps server me now next state (Claims pending c reads) grows keeps h =
    let l = h.low in record {
      looked = h.looked;
      is_looked = h.is_looked;
      all = h.all;
      room = h.room;
      low =
          omega arith;
    }
stage_keeps server me now next state (Writes pending k reads) grows keeps h =
    record { looked = h.looked; is_looked = h.is_looked; all = h.all; room = h.room; mine = keeps k h.mine }

-- a look that has come down to a place, or to the end
pub looking_fits : (server : Server) (me : ℕ) (now : List ExactPlace) (state : State) (shape : List ℕ) (k : ℕ)
    (reads : List ExactRead) →
    Begins state solve (Looks shape) → LooksTo shape k reads → k ≤ length now →
    StageFits server me now state (looking shape k reads)
looking_fits server me now state shape zero reads b h l =
    record { shape = shape; begins = b; look = looks_end shape reads h }
looking_fits server me now state shape (suc k) reads b h l = record { begins = b; look = h; below = omega arith }

-- ---- runs

-- a run goes on with a step
pub run_on : (server : Server) (a b c : State) (xs : List Exchange) (x : Exchange) → AloneRun server.places a xs b →
    AloneStep server.places b x.ask x.reads x.reply c → AloneRun server.places a (xs ++ x ∷ []) c
run_on server a b c [] x r s = (c, subst (λ state. AloneStep server.places state x.ask x.reads x.reply c) r s, refl)
run_on server a b c (y ∷ xs) x r s = (r.0, r.1, run_on server r.0 b c xs x r.2 s)
