use Rattle.spec_text.specs.Lines.{lines_of}
use Rattle.spec_mps.specs.declared.style.Style.TheVariants.{Free, Fixed}
use Rattle.spec_mps.specs.Written.{free, fixed}
use Rattle.spec_mps.proofs.WrittenColumnsRead.{columns_are_read}
use Rattle.spec_mps.proofs.WrittenWhole.{free_spells, fixed_spells, no_other}
use Rattle.spec_mps.proofs.written_texts_spell_their_models.Goals as goal

pub returns-clause-free : goal.returns-clause-free
returns-clause-free c =
    λ m n kept. no_other Free (lines_of (free m)) m n (free_spells m kept (columns_are_read Free m kept tt))

pub returns-clause-fixed : goal.returns-clause-fixed
returns-clause-fixed c =
    λ m n kept narrow. no_other Fixed (lines_of (fixed m)) m n
    (fixed_spells m kept narrow (columns_are_read Fixed m kept narrow))
