-- Each of them, in each order.
use Rattle.lp_solve.proofs.Engines.{from_factors, from_tableaus, from_rows}
use Rattle.lp_solve.proofs.strategy.engines.Goals as goal

pub returns-then-suits_factors : goal.returns-then-suits_factors
returns-then-suits_factors c = from_factors

pub returns-then-is_tall : goal.returns-then-is_tall
returns-then-is_tall c = from_tableaus

pub returns-else-is_tall : goal.returns-else-is_tall
returns-else-is_tall c = from_rows
