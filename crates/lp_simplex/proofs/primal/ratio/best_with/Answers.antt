-- The position of the tableau.
use Rattle.std.proofs.Common.{◌∙◌, ap}
use Rattle.spec_simplex.specs.Tableau.{lower_at, upper_at, value_at}
use Rattle.lp_simplex.proofs.Positions.{position_is}
use Rattle.lp_simplex.proofs.primal.ratio.best_with.Goals as goal

pub returns : goal.returns
returns c =
    c.best_at.ensures
    ∙ position_is c.args.tab.now c.args.e c.args.i c.args.best c.basic-col.result c.entry.result
    c.lower.result c.upper.result c.value.result c.basic-col.ensures.value c.entry.ensures
    (c.lower.ensures ∙ ap (lower_at c.args.tab.now) c.basic-col.ensures.value)
    (c.upper.ensures ∙ ap (upper_at c.args.tab.now) c.basic-col.ensures.value)
    (c.value.ensures ∙ ap (value_at c.args.tab.now) c.basic-col.ensures.value)
