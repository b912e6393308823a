use Rattle.spec_iis.proofs.Filtered.{clash_infeasible, clash_without}
use Rattle.spec_iis.proofs.sides_beside_a_clash_are_not_needed.Goals as goal

pub returns-clause-all : goal.returns-clause-all
returns-clause-all c = clash_infeasible

pub returns-clause-others : goal.returns-clause-others
returns-clause-others c = clash_without
