-- The parts are those of the tableau.
use Rattle.std.proofs.Common.{sym, subst, ◌∙◌}
use Rattle.spec_simplex.specs.Tableau.{IsTableauShape}
use Rattle.lp_tableau.proofs.Based.{based_is, based_shape}
use Rattle.lp_tableau.proofs.basis.begun.Goals as goal

pub from_parts-requires : goal.from_parts-requires
from_parts-requires c =
    subst IsTableauShape (sym (based_is c.args.form.now c.args.basis.now
    (record { rows = c.args.grid; basic = c.args.basic.now }) c.rows-height.ensures.kept c.requires.statuses
    c.requires.places _ _ _ _ _ _ _ _ c.rows-height.ensures.value c.cols-cols.ensures.value c.in_ok-basic.ensures
    c.in_ok-lists.ensures.value c.in_ok-lists.ensures.reduced c.in_ok-lists.ensures.status
    c.in_ok-lists.ensures.lower c.in_ok-lists.ensures.upper))
    (based_shape c.args.form.now c.args.basis.now (record { rows = c.args.grid; basic = c.args.basic.now })
    c.rows-height.ensures.kept c.requires.statuses c.requires.places c.requires.shape c.requires.inside)

pub returns : goal.returns
returns c =
    c.from_parts.ensures ∙ based_is c.args.form.now c.args.basis.now
    (record { rows = c.args.grid; basic = c.args.basic.now }) c.rows-height.ensures.kept c.requires.statuses
    c.requires.places _ _ _ _ _ _ _ _ c.rows-height.ensures.value c.cols-cols.ensures.value c.in_ok-basic.ensures
    c.in_ok-lists.ensures.value c.in_ok-lists.ensures.reduced c.in_ok-lists.ensures.status
    c.in_ok-lists.ensures.lower c.in_ok-lists.ensures.upper
