use Rattle.spec_iis.proofs.Few.{few_clash}
use Rattle.spec_iis.proofs.sides_that_a_certificate_uses_clash.Goals as goal

pub returns : goal.returns
returns c = λ limit m sides cert present fits accepted. few_clash m sides present cert limit fits accepted
