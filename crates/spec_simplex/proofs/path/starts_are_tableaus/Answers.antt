use Rattle.spec_simplex.proofs.FirstTableau.{start_begins}
use Rattle.spec_simplex.proofs.FormOfModel.{form_proper}
use Rattle.spec_simplex.proofs.path.starts_are_tableaus.Goals as goal

pub returns : goal.returns
returns c = record { forms = form_proper; starts = start_begins }
