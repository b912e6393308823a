use Rattle.std.proofs.Common.{◌≡◌, get_or, subst}
use Rattle.lp_rows.proofs.Asks.{at-zero}
use Rattle.lp_rows.proofs.tableau.phases.is_at_zero.Goals as goal

pub returns : goal.returns
returns g c =
    at-zero g.T.Words.value c.args.tab.now c.args.i c.index.result.now c.index-2.result.now c.is_zero.result
    c.requires.whole c.requires.inside c.index.ensures
    (subst (λ k. c.index-2.result.now ≡ get_or c.index.result.now.numbers.items k c.index-2.result.now)
    c.width-last.ensures c.index-2.ensures)
    c.is_zero.ensures
