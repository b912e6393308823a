-- What holds of the reads of a pass, whatever it was called for.
use Rattle.std.specs.Prelude.{◌≡◌, ◌⊎◌, length}
use Rattle.std.specs.List.{AllByRecursion}
use Rattle.spec_board.specs.declared.read.Read.TheVariants.{Seen, Done}
use Rattle.spec_board.specs.Reads.{ExactRead, basis_words, shape_words}
use Rattle.spec_board.specs.Orders.{InPairs, AreInOrder}
use Rattle.basis_board.specs.declared.seats.View.{View}
use Rattle.basis_board.specs.PassReads.{reads_of}

-- words that were seen of a place are all of them or those in front, and words that were published are all of them; of
-- other reads nothing is asked
abbrev pub IsWhole : ExactRead → Type 0
IsWhole (Seen k words) = (length words ≡ basis_words) ⊎ (length words ≡ shape_words)
IsWhole (Done k words) = length words ≡ basis_words
IsWhole other = Unit {0}

-- of each two reads of a pass the earlier one allows the later one (`AreInOrder`), and each read of words is of a whole
-- shape or of all words of a place
pub record IsOrderly (v : View) : Type 0 where
  pub ordered : InPairs AreInOrder (reads_of v)
  pub whole : AllByRecursion IsWhole (reads_of v)
