-- What a pass of a board reads, as the reads of places that sessions share.
use Rattle.std.specs.Prelude.{◌≡◌, ◌++◌, List, map, reverse, Some, None}
use Rattle.spec_board.specs.declared.read.Put.{Put}
use Rattle.spec_board.specs.declared.read.Read.TheVariants as read
use Rattle.spec_board.specs.Reads.{Words, ExactRead, Looked, LookReads, PutReads}
use Rattle.basis_board.specs.declared.seats.View.{View}
use Rattle.basis_board.specs.declared.seats.RawRead.{RawRead}
use Rattle.basis_board.specs.declared.seats.RawRead.TheVariants.{Count, Open, See, Claim, Lost, Done}
use Rattle.basis_board.specs.declared.board.Look.{Look}
use Rattle.basis_board.specs.declared.board.Look.TheVariants.{Found, NoneReady}

-- a read as a pass of the board notes it, as the definitions of spec_board have it
abbrev pub exact_read : RawRead → ExactRead
exact_read (Count c) = read.Count c
exact_read (Open k) = read.NotDone k
exact_read (See k words) = read.Seen k words
exact_read (Claim k) = read.Claim k
exact_read (Lost c) = read.Lost c
exact_read (Done k words) = read.Done k words

-- the reads of a pass as the definitions of spec_board have them, the first one first
abbrev pub reads_of : View → List ExactRead
reads_of v = map exact_read (reverse v.reads)

-- what a look of the board came to, as sessions are told it: a place with its words, or none
abbrev pub looked_by : Look → Looked
looked_by (Found k words) = Some (record { place = k; words = words })
looked_by (NoneReady c) = None

-- the reads of a pass grow by those of one look for this shape, which came to this
pub record AddsLook (shape : Words) (look : Look) (before after : View) : Type 0 where
  pub made : List ExactRead
  pub reads : LookReads shape made (looked_by look)
  pub all : reads_of after ≡ reads_of before ++ made

-- the reads of a pass grow by those of one publication of these words, which came to this
pub record AddsPut (words : Words) (put : Put) (before after : View) : Type 0 where
  pub made : List ExactRead
  pub reads : PutReads before.places words put made
  pub all : reads_of after ≡ reads_of before ++ made
