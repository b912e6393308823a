use Rattle.spec_solve.proofs.Orders.{formless_ends}
use Rattle.spec_solve.proofs.models_without_a_form_end_as_the_cold_solve.Goals as goal

pub returns : goal.returns
returns c = formless_ends
