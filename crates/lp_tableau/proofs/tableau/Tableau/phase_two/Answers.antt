-- By the reduced costs.
use Rattle.lp_tableau.proofs.Priced.{phase_two_gives}
use Rattle.lp_tableau.proofs.tableau.Tableau.phase_two.Goals as goal

pub returns : goal.returns
returns c =
    phase_two_gives _ _ _ _ _ _ _ c.fix_artificials.ensures c.costs.ensures c.price.ensures.priced c.price.ensures.rest
