use Rattle.spec_mps.proofs.TitlesKept.{name_said, sense_said}
use Rattle.spec_mps.proofs.meaning.titles_are_names_and_senses.Goals as goal

pub returns-clause-name : goal.returns-clause-name
returns-clause-name c = name_said

pub returns-clause-sense : goal.returns-clause-sense
returns-clause-sense c = sense_said
