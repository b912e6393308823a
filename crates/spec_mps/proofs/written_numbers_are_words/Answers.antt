use Rattle.spec_mps.proofs.WrittenNumbers.{number_word}
use Rattle.spec_mps.proofs.written_numbers_are_words.Goals as goal

pub returns : goal.returns
returns c = number_word
