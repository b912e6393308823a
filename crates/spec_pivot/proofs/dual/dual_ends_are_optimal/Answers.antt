use Rattle.spec_pivot.proofs.Optimal.{within_where_basic, none_eligible, complementary, least_cost}
use Rattle.spec_pivot.proofs.dual.dual_ends_are_optimal.Goals as goal

pub returns : goal.returns
returns c =
    record { within = within_where_basic; eligible = none_eligible; complementary = complementary; least = least_cost }
