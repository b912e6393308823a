use Rattle.lp_mps.proofs.ListItems.{changed_at-set, changed_at-past}
use Rattle.lp_mps.proofs.read.row_list.set_range_in.Goals as goal

pub returns-then-at-rows : goal.returns-then-at-rows
returns-then-at-rows c = changed_at-set _ _ _ _ c.if-at-rows.true

pub returns-else-at-rows : goal.returns-else-at-rows
returns-else-at-rows c = changed_at-past _ _ _ c.if-at-rows.false
