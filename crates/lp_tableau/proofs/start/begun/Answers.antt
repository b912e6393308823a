-- The parts are those of the tableau.
use Rattle.std.proofs.Common.{sym, subst, ◌∙◌}
use Rattle.spec_simplex.specs.Tableau.{IsTableauShape}
use Rattle.lp_tableau.proofs.TableauParts.{begun_shape, begun_is}
use Rattle.lp_tableau.proofs.start.begun.Goals as goal

pub from_parts-requires : goal.from_parts-requires
from_parts-requires c =
    subst IsTableauShape (sym (begun_is c.args.form.now c.args.starts.now _ _ _ _ _ _ _ _ _
    c.rows-height.ensures.value c.cols-cols.ensures.value c.in_ok-grid.ensures c.in_ok-basic.ensures
    c.in_ok-lists.ensures.value c.in_ok-lists.ensures.reduced c.in_ok-lists.ensures.status
    c.in_ok-lists.ensures.lower c.in_ok-lists.ensures.upper))
    (begun_shape _ _ c.rows-height.ensures.kept c.requires.starts)

pub returns : goal.returns
returns c =
    c.from_parts.ensures ∙ begun_is c.args.form.now c.args.starts.now _ _ _ _ _ _ _ _ _
    c.rows-height.ensures.value c.cols-cols.ensures.value c.in_ok-grid.ensures c.in_ok-basic.ensures
    c.in_ok-lists.ensures.value c.in_ok-lists.ensures.reduced c.in_ok-lists.ensures.status
    c.in_ok-lists.ensures.lower c.in_ok-lists.ensures.upper
