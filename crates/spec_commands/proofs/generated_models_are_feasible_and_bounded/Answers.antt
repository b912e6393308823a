use Rattle.spec_commands.proofs.GeneratedFeasible.{zero_feasible, bounded}
use Rattle.spec_commands.proofs.generated_models_are_feasible_and_bounded.Goals as goal

pub returns-clause-feasible : goal.returns-clause-feasible
returns-clause-feasible c = zero_feasible

pub returns-clause-bounded : goal.returns-clause-bounded
returns-clause-bounded c = bounded
