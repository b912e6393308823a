use Rattle.spec_mps.specs.Reader.{start}
use Rattle.lp_mps.proofs.LineRuns.{one_more, ends, refuses, cut_off}
use Rattle.lp_mps.proofs.read.answers_are_the_verdict.Goals as goal

pub returns : goal.returns
returns c =
    record {
      longer = λ limits style lines line s t. one_more limits style start s t lines line;
      spelled = ends;
      refused = refuses;
      cut = cut_off;
    }
