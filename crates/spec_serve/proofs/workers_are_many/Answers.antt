use Rattle.std.proofs.Common.{arith}
use Rattle.spec_serve.proofs.Interleaving.{interleaved, many_fit}
use Rattle.spec_serve.proofs.workers_are_many.Goals as goal

pub returns : goal.returns
returns c = record {
  interleave = interleaved;
  fits = λ places workers xs some served backed together.
      many_fit workers places xs (λ session. omega arith) served backed together;
}
