-- A step of a session over a board, which others may look at and publish on at the same time.
use Rattle.std.specs.Prelude.{◌≡◌, ◌⊎◌, ◌++◌, List}
use Rattle.spec_board.specs.Words.{IsWellFormed}
use Rattle.spec_board.specs.Reads.{Words, ExactRead}
use Rattle.spec_server.specs.Machine.{ExactAsk, ExactReply, State}
use Rattle.spec_server.specs.Step.{AloneStep}
use Rattle.basis_board.specs.declared.seats.View.{View}
use Rattle.basis_board.specs.declared.board.Look.{Look}
use Rattle.spec_board.specs.declared.read.Put.{Put}
use Rattle.basis_board.specs.Calls.{Looks, Puts}
use Rattle.basis_board.specs.Known.{Known}
use Rattle.basis_board.specs.Moments.{NotesMore, WereTrue}
use Rattle.basis_board.specs.Rule.{Consistent}
use Rattle.basis_board.specs.PassReads.{reads_of}

-- the session takes one step of the machine for this request, and the reads of the pass grow by those of the step
pub record AddsStep (before : State) (asked : ExactAsk) (old : View) (replied : ExactReply) (after : State)
    (new : View) : Type 0 where
  pub reads : List ExactRead
  pub step : AloneStep old.places before asked reads replied after
  pub all : reads_of new ≡ reads_of old ++ reads

-- the pass has only noted further reads, later than its old ones; if those were true when they were noted,
-- so are all now
pub record NotesOn (old new : Known) : Type 0 where
  pub notes : NotesMore old.moments new.moments
  pub were_true : WereTrue old.moments old.view.reads → WereTrue new.moments new.view.reads

-- from `old` to `new` the pass made no call, or one publication of well-formed words
abbrev pub MayPut : View → View → Type 0
MayPut old new = (new ≡ old) ⊎ ((words : Words) × (put : Put) × IsWellFormed words × Puts old words put new)

-- from `old` to `new` the pass made no call, or one look and then at most one publication
abbrev pub StepCalls : View → View → Type 0
StepCalls old new =
    (new ≡ old)
    ⊎ ((shape : Words) × (look : Look) × (looked : View) × Looks shape old look looked × Consistent looked
    × MayPut looked new)
