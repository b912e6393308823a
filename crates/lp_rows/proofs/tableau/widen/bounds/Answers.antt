-- One item more, and all of them.
use Rattle.std.proofs.Common.{◌∙◌, ap, map, option_map}
use Rattle.std.proofs.lemmas.List.{take_all}
use Rattle.lp_rows.specs.Held.{whole_of}
use Rattle.lp_rows.proofs.GrowingRows.{mapped_more}
use Rattle.lp_rows.proofs.tableau.widen.bounds.Goals as goal

pub loop-b-preserved : goal.loop-b-preserved
loop-b-preserved g c =
    mapped_more (option_map (whole_of g.U.Words.value)) (option_map (whole_of g.T.Words.value)) c.loop-b.list.items _
    c.args.from.now c.loop-b.b-index c.in-Ok.bound
    c.b-item.result c.loop-b.invariant c.in_ok-push-in-Ok.ensures.items c.loop-b-test.true c.b-item.is
    c.in-Ok.ensures

pub returns : goal.returns
returns g c =
    c.loop-b.invariant
    ∙ ap (map (option_map (whole_of g.T.Words.value))) (take_all c.loop-b.b-index c.args.from.now c.loop-b-test.false)
