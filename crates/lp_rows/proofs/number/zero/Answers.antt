use Rattle.lp_rows.proofs.OverDenominator.{zero_is}
use Rattle.lp_rows.proofs.number.zero.Goals as goal

pub returns : goal.returns
returns g c = zero_is _ _ c.zero.ensures c.one.ensures
