-- The row without twins.
use Rattle.lp_tableau.proofs.TwinRows.{cleared_twins}
use Rattle.lp_tableau.proofs.elimination.clear_twins.Goals as goal

pub returns-clause-rows : goal.returns-clause-rows
returns-clause-rows c =
    cleared_twins _ _ _ _ _ c.requires.twins c.requires.shape _ _ _ _ _ _
    c.requires.place c.requires.row c.item-times.ensures c.clear.ensures.rows
