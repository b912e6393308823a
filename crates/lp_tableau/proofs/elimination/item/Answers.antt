-- An item of the rows themselves, and a twin.
use Rattle.std.proofs.Common.{◌+◌, ◌-◌, sym, ap, ◌∙◌, arith, get_or, false}
use Rattle.lp_tableau.specs.Twins.{signed}
use Rattle.lp_tableau.proofs.TwinRows.{at_low, at_high}
use Rattle.lp_tableau.proofs.elimination.item.Goals as goal

pub returns-then-k-width : goal.returns-then-k-width
returns-then-k-width c =
    c.at.ensures ∙ sym (at_low c.args.first c.args.others c.args.turned.now c.args.grid.now
    c.requires.twins c.requires.shape c.args.i c.requires.row c.args.k c.if-k-width.true)

pub returns : goal.returns
returns c =
    c.signed.ensures
    ∙ ap (signed (get_or c.args.turned.now (c.args.k - (c.args.first + c.args.others)) false)) c.at-2.ensures
    ∙ sym (at_high c.args.first c.args.others c.args.turned.now c.args.grid.now c.requires.twins
    c.requires.shape c.args.i c.requires.row c.args.k (c.args.k - (c.args.first + c.args.others))
    (omega (arith, c.if-k-width.false)) (omega (arith, c.if-k-width.false, c.requires.column)))
