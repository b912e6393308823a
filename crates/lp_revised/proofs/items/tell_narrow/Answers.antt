-- One item more, and all of them.
use Rattle.std.proofs.Common.{All, arith, subst}
use Rattle.std.proofs.lemmas.List.{take_all}
use Rattle.spec_exact.specs.Narrow.{IsNarrow}
use Rattle.lp_revised.proofs.Gaps.{read_narrow}
use Rattle.lp_revised.proofs.items.tell_narrow.Goals as goal

pub loop-i-preserved : goal.loop-i-preserved
loop-i-preserved c =
    read_narrow _ _ _ c.loop-i.invariant (omega (arith, c.loop-i-test.true, c.len-i-end.ensures)) c.at.ensures
    (subst IsNarrow c.narrow-item.ensures.value c.narrow-item.ensures.narrow)

pub returns : goal.returns
returns c =
    subst (All IsNarrow) (take_all _ _ (omega (arith, c.loop-i-test.false, c.len-i-end.ensures))) c.loop-i.invariant
