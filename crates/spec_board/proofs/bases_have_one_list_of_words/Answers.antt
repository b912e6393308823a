use Rattle.spec_board.proofs.Back.{packed_unpacked}
use Rattle.spec_board.proofs.bases_have_one_list_of_words.Goals as goal

pub returns : goal.returns
returns c = λ f words is well same small. packed_unpacked f is words same well small
