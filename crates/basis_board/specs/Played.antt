-- What the reads of all passes of a board have to be so that places answer them in one order.
use Rattle.std.specs.Prelude.{ℕ, ◌≡◌, ◌%◌, ◌<◌, List, [], ◌∷◌, length, map, slice_index_or}
use Rattle.std.specs.List.{flat_map, Contains, AllByRecursion}
use Rattle.spec_board.specs.declared.read.Read.TheVariants.{Count, NotDone, Claim, Done}
use Rattle.spec_board.specs.Reads.{ExactRead}
use Rattle.spec_board.specs.Places.{Logged}
use Rattle.spec_board.specs.Orders.{AreBacked, HaveOneOrder}
use Rattle.basis_board.specs.Known.{Known, notes_of}
use Rattle.basis_board.specs.Moments.{ComeAfter, WereTrue, IsOneLog}
use Rattle.basis_board.specs.PassReads.{reads_of}

-- ---- the reads of one who serves sessions, each with its session

-- a read with the number of the session that made it
abbrev pub of_read : ℕ → ExactRead → Logged
of_read session read = record { session = session; read = read }

-- What the reads before a session's read must have: for a place read as not done a count above it, for a publication
-- the same session's claim; a claim is of one of `places` places. Other reads suppose nothing.
abbrev pub Supposes : ℕ → List Logged → ℕ → ExactRead → Type 0
Supposes places made session (NotDone k) =
    (other : ℕ) × (c : ℕ) × Contains made (of_read other (Count c)) × (k < c)
Supposes places made session (Claim k) = k < places
Supposes places made session (Done k words) = Contains made (of_read session (Claim k))
Supposes places made session other = Unit {0}

-- each of these reads has what it supposes among the reads before it; those in `made` were before all, the newest first
abbrev pub AreFounded : ℕ → List Logged → List Logged → Type 0
AreFounded places made [] = Unit {0}
AreFounded places made (x ∷ log) = Supposes places made x.session x.read × AreFounded places (x ∷ made) log

-- the read is of a session that this worker serves
abbrev pub IsOfWorker : ℕ → ℕ → Logged → Type 0
IsOfWorker workers worker x = x.session % workers ≡ worker

-- the log is the reads of a pass, in order, by which a worker served its own sessions; each has what it supposes before
-- it, and was true when the pass noted it
pub record IsLogOf (places workers worker : ℕ) (pass : Known) (log : List Logged) : Type 0 where
  pub reads : map (λ (x : Logged). x.read) log ≡ reads_of pass.view
  pub own : AllByRecursion (IsOfWorker workers worker) log
  pub founded : AreFounded places [] log
  pub later : ComeAfter pass.moments []
  pub were_true : WereTrue pass.moments pass.view.reads

-- ---- the reads of all

-- Where each worker's log has the reads of its pass, the notes of all passes make one log of the table, and each read is
-- backed by a write, then all logs have one order in which the slots answer them.
abbrev pub WholeLogsArePlayed : Type 0
WholeLogsArePlayed =
    (places : ℕ) (passes : List Known) (logs : ℕ → List Logged) →
    ((worker : ℕ) (d : Known) → worker < length passes →
    IsLogOf places (length passes) worker (slice_index_or passes worker d) (logs worker)) →
    IsOneLog (flat_map notes_of passes) → AreBacked (flat_map (λ (pass : Known). reads_of pass.view) passes) →
    HaveOneOrder places (length passes) logs
