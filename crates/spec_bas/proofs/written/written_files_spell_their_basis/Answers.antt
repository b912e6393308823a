use Rattle.spec_bas.proofs.WrittenCards.{written_spells}
use Rattle.spec_bas.proofs.written.written_files_spell_their_basis.Goals as goal

pub returns : goal.returns
returns c = λ limit m f basis other kept is fits. written_spells limit m f basis other kept is fits
