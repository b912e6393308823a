use Rattle.spec_range.proofs.CostRange.{cost_range_is}
use Rattle.spec_range.proofs.SideRange.{side_range_is}
use Rattle.spec_range.proofs.ranges_are_spans.Goals as goal

pub returns : goal.returns
returns c = record { cost = cost_range_is; side = side_range_is }
