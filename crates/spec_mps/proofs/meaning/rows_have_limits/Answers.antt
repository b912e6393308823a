use Rattle.spec_mps.proofs.LimitsByKind as limits
use Rattle.spec_mps.proofs.meaning.rows_have_limits.Goals as goal

pub returns-clause-at_most : goal.returns-clause-at_most
returns-clause-at_most c = limits.at_most

pub returns-clause-at_most_from : goal.returns-clause-at_most_from
returns-clause-at_most_from c = limits.at_most_from

pub returns-clause-at_least : goal.returns-clause-at_least
returns-clause-at_least c = limits.at_least

pub returns-clause-at_least_to : goal.returns-clause-at_least_to
returns-clause-at_least_to c = limits.at_least_to

pub returns-clause-equal : goal.returns-clause-equal
returns-clause-equal c = limits.equal

pub returns-clause-equal_up_to : goal.returns-clause-equal_up_to
returns-clause-equal_up_to c = limits.equal_up_to

pub returns-clause-equal_down_to : goal.returns-clause-equal_down_to
returns-clause-equal_down_to c = limits.equal_down_to

pub returns-clause-free : goal.returns-clause-free
returns-clause-free c = limits.free
