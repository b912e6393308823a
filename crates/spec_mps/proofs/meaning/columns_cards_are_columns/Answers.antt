use Rattle.spec_mps.proofs.ColumnsSaid.{columns_named, coefficient_said, cost_said}
use Rattle.spec_mps.proofs.meaning.columns_cards_are_columns.Goals as goal

pub returns-clause-order : goal.returns-clause-order
returns-clause-order c = columns_named

pub returns-clause-coefficients : goal.returns-clause-coefficients
returns-clause-coefficients c = coefficient_said

pub returns-clause-costs : goal.returns-clause-costs
returns-clause-costs c = cost_said
