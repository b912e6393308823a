use Rattle.spec_solve.proofs.Orders.{factors_give_up, tableaus_give_up}
use Rattle.spec_solve.proofs.both_cold_runs_give_up.Goals as goal

pub returns : goal.returns
returns c = record { factors = factors_give_up; tableaus = tableaus_give_up }
