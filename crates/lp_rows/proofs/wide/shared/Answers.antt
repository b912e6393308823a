use Rattle.lp_rows.proofs.OverDenominator.{shared_is}
use Rattle.lp_rows.proofs.wide.shared.Goals as goal
use Rattle.spec_exact.proofs.Coprime.{positive_left}

pub returns-in-Some-clause-value : goal.returns-in-Some-clause-value
returns-in-Some-clause-value g c =
    shared_is c.args.v.number.negative _ _ _ _ _ c.requires c.in-Some.ensures.0 c.in-Some.ensures.1

pub returns-in-Some-clause-positive : goal.returns-in-Some-clause-positive
returns-in-Some-clause-positive g c = positive_left _ _ _ c.in-Some.ensures.1 c.requires
