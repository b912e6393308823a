-- One item more, and all of them.
use Rattle.std.proofs.Common.{◌∙◌, ap, map}
use Rattle.std.proofs.lemmas.List.{take_all}
use Rattle.lp_rows.specs.Held.{whole_of}
use Rattle.lp_rows.proofs.GrowingRows.{mapped_more}
use Rattle.lp_rows.proofs.tableau.widen.numbers.Goals as goal

pub loop-n-preserved : goal.loop-n-preserved
loop-n-preserved g c =
    mapped_more (whole_of g.U.Words.value) (whole_of g.T.Words.value) c.loop-n.list.items _
    c.args.from.now c.loop-n.n-index c.in-Some.number
    c.n-item.result c.loop-n.invariant c.in_ok-push-in-Some.ensures.items c.loop-n-test.true c.n-item.is
    c.in-Some.ensures

pub returns : goal.returns
returns g c =
    c.loop-n.invariant
    ∙ ap (map (whole_of g.T.Words.value)) (take_all c.loop-n.n-index c.args.from.now c.loop-n-test.false)
