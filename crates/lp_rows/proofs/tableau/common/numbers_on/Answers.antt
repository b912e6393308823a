-- One number more, and all of them.
use Rattle.std.proofs.Common.{◌∙◌}
use Rattle.std.proofs.lemmas.List.{take_all}
use Rattle.spec_exact.specs.Fraction.{over}
use Rattle.lp_rows.specs.Held.{whole_of}
use Rattle.lp_rows.proofs.Converted.{fractions_map}
use Rattle.lp_rows.proofs.GrowingRows.{taken_more}
use Rattle.lp_rows.proofs.tableau.common.numbers_on.Goals as goal

pub loop-f-preserved : goal.loop-f-preserved
loop-f-preserved g c =
    taken_more (λ n. over (whole_of g.T.Words.value n) (g.T.Words.value c.args.denominator))
    c.loop-f.numbers.items _ c.args.list.now c.loop-f.f-index c.in-Some.number c.f-item.result c.loop-f.invariant
    c.in_ok-push-in-Some.ensures.items c.loop-f-test.true c.f-item.is c.in-Some.ensures

pub returns : goal.returns
returns g c =
    fractions_map g.T.Words.value c.loop-f.numbers.items (g.T.Words.value c.args.denominator)
    ∙ c.loop-f.invariant ∙ take_all c.loop-f.f-index c.args.list.now c.loop-f-test.false
