use Rattle.spec_text_truth.proofs.BasisLemmas.{said_handed, handed_said, said_text_refused, said_file_refused, said_both_cut}
use Rattle.spec_text_truth.proofs.basis_reads_what_texts_and_files_spell.Goals as goal

pub returns : goal.returns
returns c = record {
  spelled = λ limits style lines handed. (said_handed limits style lines handed, handed_said limits style lines handed);
  text_refused = said_text_refused;
  file_refused = said_file_refused;
  cut = said_both_cut;
}
