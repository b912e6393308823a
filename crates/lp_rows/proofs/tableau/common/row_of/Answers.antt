-- The row on its own denominator.
use Rattle.std.proofs.lemmas.Result.{IfOk-weaker}
use Rattle.lp_rows.proofs.Cleared.{below_gives}
use Rattle.lp_rows.proofs.Converted.{if_some, row_of_is}
use Rattle.lp_rows.proofs.tableau.common.row_of.Goals as goal

pub returns-in-Some-product : goal.returns-in-Some-product
returns-in-Some-product g c =
    IfOk-weaker c.row_on.result _ _ (λ o. if_some _ _ o
    (λ row h. row_of_is g.T.Words.value c.args.list.now c.args.last (g.T.Words.value c.args.denominator)
    (g.T.Words.value c.in-Some-product.both) c.in-Some.own row
    (below_gives g.T.Words.value g.T.Words.base _ c.in-Some-product.both c.in-Some-product.ensures) c.in-Some.ensures h))
    c.row_on.ensures
