use Rattle.spec_runs.proofs.BasisTableau.{start_begins_from}
use Rattle.spec_runs.proofs.warm.bases_begin_tableaus.Goals as goal

pub returns : goal.returns
returns c = start_begins_from
