use Rattle.lp_rows.proofs.OverDenominator.{one_is}
use Rattle.lp_rows.proofs.number.one.Goals as goal

pub returns : goal.returns
returns g c = one_is _ _ c.one.ensures c.one-2.ensures
