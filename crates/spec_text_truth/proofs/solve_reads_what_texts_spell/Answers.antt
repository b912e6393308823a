use Rattle.spec_text_truth.proofs.TextLemmas.{said_spelled, said_refused, said_cut, spelled_said}
use Rattle.spec_text_truth.proofs.solve_reads_what_texts_spell.Goals as goal

pub returns : goal.returns
returns c = record {
  spelled = λ limits style lines m. (said_spelled limits style lines m, spelled_said limits style lines m);
  refused = said_refused;
  cut = said_cut;
}
