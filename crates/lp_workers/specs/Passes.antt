-- The passes of workers, before their turns and after them, and what they know together.
use Rattle.std.specs.Prelude.{ℕ, ◌≡◌, List, []}
use Rattle.std.specs.List.{flat_map}
use Rattle.spec_board.specs.Reads.{ExactRead}
use Rattle.basis_board.specs.declared.board.Board.{Board}
use Rattle.basis_board.specs.declared.seats.View.{View}
use Rattle.basis_board.specs.Calls.{CountTells}
use Rattle.basis_board.specs.Id.{id_of}
use Rattle.basis_board.specs.Known.{Known, notes_of}
use Rattle.basis_board.specs.Moments.{Note, NotesMore, WereTrue}
use Rattle.basis_board.specs.Rule.{Consistent, OwnsBelow}
use Rattle.basis_board.specs.Orderly.{IsOrderly}
use Rattle.basis_board.specs.PassReads.{reads_of}

-- The pass is one of the board's, has one of the 64 parts, and has read and noted nothing.
pub record IsFresh (board : Board) (pass : Known) : Type 0 where
  pub of_board : pass.board ≡ id_of board
  pub places : pass.view.places ≡ board.places
  pub share : pass.view.share ≡ 1
  pub unread : pass.view.reads ≡ []
  pub unnoted : pass.moments ≡ []
  pub consistent : Consistent pass.view

-- The pass is one of the board's, and has one of its 64 parts. Each of its reads was true when it was noted, and is
-- later than those before. Its reads are in order.
pub record IsUsed (board : Board) (pass : Known) : Type 0 where
  pub of_board : pass.board ≡ id_of board
  pub share : pass.view.share ≡ 1
  pub notes : NotesMore [] pass.moments
  pub were_true : WereTrue pass.moments pass.view.reads
  pub orderly : IsOrderly pass.view

-- the reads of all passes, one pass after the other
abbrev pub reads_of_all : List Known → List ExactRead
reads_of_all passes = flat_map (λ (pass : Known). reads_of pass.view) passes

-- the notes of all passes, one pass after the other
abbrev pub notes_of_all : List Known → List Note
notes_of_all passes = flat_map notes_of passes

-- the pass published each place below some number n and no other, and n is as a read of the count would tell it now
abbrev pub KnowsWhole : View → Type 0
KnowsWhole v = (n : ℕ) × OwnsBelow v n × CountTells v n

-- what a pass knows, but with `parts` of the 64 parts of the right to the board
abbrev pub part_of : View → ℕ → View
part_of v parts = record v { share = parts }
