use Rattle.lp_rows.proofs.SameCounts.{none_on}
use Rattle.lp_rows.proofs.tableau.pivot.zero.Goals as goal

pub returns : goal.returns
returns g c d p = none_on (g.T.Words.value c.zero.result) d c.zero.ensures p
