use Rattle.spec_presolve.proofs.LastModel.{ends_well}
use Rattle.spec_presolve.proofs.reductions_end.Goals as goal

pub returns-clause-none_applies : goal.returns-clause-none_applies
returns-clause-none_applies c limit m r h = (ends_well limit m r h).none_applies

pub returns-clause-count : goal.returns-clause-count
returns-clause-count c limit m r h = (ends_well limit m r h).count
