use Rattle.lp_rows.proofs.OverDenominator.{negated_is}
use Rattle.lp_rows.proofs.number.negated.Goals as goal

pub returns : goal.returns
returns g c = negated_is c.args.v.number.negative _ _
