use Rattle.spec_board.proofs.Newest.{finds}
use Rattle.spec_board.proofs.looks_find_the_newest.Goals as goal

pub returns : goal.returns
returns c = λ places session now last log shape found k words plays look done shaped.
    finds places session shape k words shaped log now last found plays done look
