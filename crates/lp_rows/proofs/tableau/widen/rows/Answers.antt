-- One item more, and all of them.
use Rattle.std.proofs.Common.{◌∙◌, ap, map}
use Rattle.std.proofs.lemmas.List.{take_all}
use Rattle.lp_rows.specs.Held.{whole_row}
use Rattle.lp_rows.proofs.GrowingRows.{mapped_more}
use Rattle.lp_rows.proofs.SameNumbers.{of_some}
use Rattle.lp_rows.proofs.tableau.widen.rows.Goals as goal

pub loop-r-preserved : goal.loop-r-preserved
loop-r-preserved g c =
    mapped_more (whole_row g.U.Words.value) (whole_row g.T.Words.value) c.loop-r.list.items _
    c.args.from.now c.loop-r.r-index c.in-Some.row
    c.r-item.result c.loop-r.invariant c.in_ok-push-in-Some.ensures.items c.loop-r-test.true c.r-item.is
    (of_some _ c.in_ok-row.field-0 c.in-Some.row c.in-Some.is c.in_ok-row.ensures)

pub returns : goal.returns
returns g c =
    c.loop-r.invariant
    ∙ ap (map (whole_row g.T.Words.value)) (take_all c.loop-r.r-index c.args.from.now c.loop-r-test.false)
