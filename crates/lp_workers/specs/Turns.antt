-- Turns of workers beside each other.
use Rattle.std.specs.Prelude.{ℕ, ◌≡◌, ◌<◌, List, length, map, slice_index_or}
use Rattle.spec_board.specs.Orders.{AreBacked}
use Rattle.basis_board.specs.declared.board.Board.{Board}
use Rattle.basis_board.specs.Known.{Known}
use Rattle.basis_board.specs.Moments.{IsOneLog}
use Rattle.lp_workers.specs.declared.hiring.Worker.{Worker}
use Rattle.lp_workers.specs.Passes.{IsFresh, IsUsed, notes_of_all, reads_of_all}

-- the jobs of workers, in their order
abbrev pub jobs_of : {T : Type 0} → List (Worker T) → List T
jobs_of {T} workers = map (λ (w : Worker T). w.job) workers

-- the passes of workers, in their order
abbrev pub passes_of : {T : Type 0} → List (Worker T) → List Known
passes_of {T} workers = map (λ (w : Worker T). w.pass) workers

module _ {C T : Type 0} (is_ready : C → T → Type 0) (took : C → Board → T → Known → T → Known → Type 0) (shared : C) where
  -- a worker before its turn: its job is ready, and its pass is fresh
  pub record IsReady (board : Board) (w : Worker T) : Type 0 where
    pub job : is_ready shared w.job
    pub pass : IsFresh board w.pass

  -- a worker before its turn and after it: it was ready, its job and its pass are then what `took` says of the turn,
  -- and its pass is a used one
  pub record TookTurn (board : Board) (old new : Worker T) : Type 0 where
    pub ready : IsReady board old
    pub turn : took shared board old.job old.pass new.job new.pass
    pub used : IsUsed board new.pass

  -- each worker took its turn, and stands where it stood in the list
  abbrev pub TakeTurns : Board → List (Worker T) → List (Worker T) → Type 0
  TakeTurns board olds news =
      (i : ℕ) (d : Worker T) → i < length olds →
      TookTurn board (slice_index_or olds i d) (slice_index_or news i d)

  -- These jobs took their turns, each by a pass of its own of one board with so many places. The notes of all passes
  -- are one log, and what was read is backed by what was published.
  pub record TookTurns (places : ℕ) (olds news : List T) : Type 0 where
    pub board : Board
    pub before : List (Worker T)
    pub after : List (Worker T)
    pub places_so : board.places ≡ places
    pub jobs_before : jobs_of before ≡ olds
    pub jobs_after : jobs_of after ≡ news
    pub many : length after ≡ length before
    pub turns : TakeTurns board before after
    pub one_log : IsOneLog (notes_of_all (passes_of after))
    pub backed : AreBacked (reads_of_all (passes_of after))
