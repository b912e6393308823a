-- By the runs of lines.
use Rattle.std.proofs.Common.{None}
use Rattle.spec_certificate.proofs.TextSteps.{one_more, ends, refuses, cut_off}
use Rattle.spec_certificate.proofs.certificate_steps_are_the_judgement.Goals as goal

pub returns : goal.returns
returns c = record {
  longer = λ read lines line s raw. one_more read None s raw lines line;
  spelled = λ read lines more line s raw. ends read lines more line s raw;
  refused = refuses;
  cut = cut_off;
}
