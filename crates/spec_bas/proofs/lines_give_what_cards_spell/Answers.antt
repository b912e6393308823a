use Rattle.spec_bas.proofs.Files.{gives_spells, spells_gives}
use Rattle.spec_bas.proofs.lines_give_what_cards_spell.Goals as goal

pub returns : goal.returns
returns c = λ m f lines basis size. (gives_spells m f size lines basis, spells_gives m f size lines basis)
