-- What holds of places as the code keeps them: a board with the only pass of it.
use Rattle.std.specs.Prelude.{◌≡◌, ◌++◌, List, [], ◌∷◌, length}
use Rattle.atomic_table.specs.Seated.{TableId}
use Rattle.spec_board.specs.Reads.{Words, basis_words}
use Rattle.basis_board.specs.declared.seats.View.{View}
use Rattle.basis_board.specs.declared.seats.RawRead.{RawRead}
use Rattle.basis_board.specs.declared.seats.RawRead.TheVariants.{Done}
use Rattle.basis_board.specs.Known.{Known}
use Rattle.basis_board.specs.Rule.{Consistent}
use Rattle.lp_script.specs.Sharing.{Sharing}

-- the words that these reads published, the first ones first; the reads stand newest first
abbrev pub published_words : List RawRead → List Words
published_words [] = []
published_words (Done k words ∷ reads) = published_words reads ++ words ∷ []
published_words (r ∷ reads) = published_words reads

-- of these reads, which stand newest first, each publication is at the place after those before it, and has as many
-- words as a basis
abbrev pub AreInOrder : List RawRead → Type 0
AreInOrder [] = Unit {0}
AreInOrder (Done k words ∷ reads) =
    (k ≡ length (published_words reads)) × (length words ≡ basis_words) × AreInOrder reads
AreInOrder (r ∷ reads) = AreInOrder reads

-- the places as a pass knows them, if each claimed one is done: how many there are, and the words that it published
abbrev pub sharing_of : View → Sharing
sharing_of v = record { places = v.places; done = published_words v.reads }

-- the pass is of this board and has the whole right to it, so that no other pass has any; its publications are in order
pub record IsOnly (board : TableId) (pass : Known) : Type 0 where
  pub of_board : pass.board ≡ board
  pub whole : pass.view.share ≡ 64
  pub consistent : Consistent pass.view
  pub in_order : AreInOrder pass.view.reads
