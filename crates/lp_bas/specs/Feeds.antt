-- What a line is answered.
use Rattle.std.specs.Prelude.{◌+◌, ◌≡◌, Ok, Err, List}
use Rattle.spec_pivot.specs.declared.status.Status.{Status}
use Rattle.spec_simplex.specs.Form.{Form}
use Rattle.spec_simplex.specs.Eliminate.{IsBasisOf}
use Rattle.spec_bas.specs.declared.fault.BasFault.{BasFault}
use Rattle.spec_bas.specs.Steps.{Outcome, More, Done}
use Rattle.spec_bas.specs.Fits.{IsMarking}
use Rattle.lp_base.specs.declared.feed.Feed.{Feed}
use Rattle.lp_base.specs.declared.feed.Feed.TheVariants as feed
use Rattle.lp_bas.specs.FileRead.{FileRead}

-- the line leads to a further state, with which the reader `new` goes on; it has read one line more than `old`
pub record GoesOn (f : Form) (outcome : Outcome) (old new : FileRead) : Type 0 where
  pub state : outcome ≡ Ok (More new.state)
  pub lines : new.lines ≡ old.lines + 1
  pub marking : IsMarking f new.state

-- the line ends the basis file, with a basis of the form, and the reader stays as it was
pub record Ends (f : Form) (outcome : Outcome) (old new : FileRead) (basis : List Status) : Type 0 where
  pub state : outcome ≡ Ok (Done basis)
  pub fits : IsBasisOf f basis
  pub kept : new ≡ old

-- the line is refused with this fault, which has its number, and the reader stays as it was
pub record IsWrong (outcome : Outcome) (old new : FileRead) (fault : BasFault) : Type 0 where
  pub state : outcome ≡ Err fault.code
  pub line : fault.line ≡ old.lines + 1
  pub kept : new ≡ old

-- The code's answer to a line fits its outcome: more is wanted, and the reader is `new`; or the basis; or the fault.
-- For lack of memory the reader stays, and of the outcome nothing is asked.
abbrev pub Feeds : Form → Outcome → FileRead → FileRead → Feed (List Status) BasFault → Type 0
Feeds f outcome old new feed.More = GoesOn f outcome old new
Feeds f outcome old new (feed.Done basis) = Ends f outcome old new basis
Feeds f outcome old new (feed.Refused fault) = IsWrong outcome old new fault
Feeds f outcome old new feed.NoMemory = new ≡ old
