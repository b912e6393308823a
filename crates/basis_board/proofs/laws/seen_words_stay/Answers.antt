use Rattle.std.proofs.Common.{◌++◌}
use Rattle.basis_board.proofs.Totals.{has_left, has_right}
use Rattle.basis_board.proofs.SeenWords.{seen_grows, in_seen}
use Rattle.basis_board.proofs.laws.seen_words_stay.Goals as goal

pub returns-clause-later : goal.returns-clause-later
returns-clause-later c =
    λ v more old k words h is was. seen_grows v old k words h
    (λ p x. in_seen v (more ++ old) is p (has_right more old p x)) was

pub returns-clause-met : goal.returns-clause-met
returns-clause-met c =
    λ v old more k words h is was. seen_grows v old k words h
    (λ p x. in_seen v (old ++ more) is p (has_left old more p x)) was
