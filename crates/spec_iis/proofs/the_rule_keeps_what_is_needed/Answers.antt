use Rattle.spec_iis.proofs.Filtered.{filtered_none, filtered_without, filtered_kept, filtered_points, filtered_all}
use Rattle.spec_iis.proofs.the_rule_keeps_what_is_needed.Goals as goal

pub returns-clause-begin : goal.returns-clause-begin
returns-clause-begin c = filtered_none

pub returns-clause-without : goal.returns-clause-without
returns-clause-without c = filtered_without

pub returns-clause-with : goal.returns-clause-with
returns-clause-with c = filtered_kept

pub returns-clause-end : goal.returns-clause-end
returns-clause-end c = λ m kept points f. (filtered_all m kept points f, filtered_points m kept points f)
