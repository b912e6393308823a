-- One fraction more, and all of them.
use Rattle.std.proofs.Common.{subst, arith}
use Rattle.std.specs.Prelude.{All}
use Rattle.std.proofs.lemmas.List.{take_all}
use Rattle.std.proofs.lemmas.List.Elements.{All-more}
use Rattle.spec_exact.specs.Laws.{IsWithin}
use Rattle.spec_exact.specs.Narrow.{number_limit}
use Rattle.lp_frac.proofs.readers.all_within.Goals as goal

pub loop-v-preserved : goal.loop-v-preserved
loop-v-preserved c =
    All-more (IsWithin number_limit) c.args.vs.now c.loop-v.v-index c.v-item.result
    (omega (arith, c.loop-v-test.true)) c.loop-v.invariant
    (subst (IsWithin number_limit) c.v-item.is c.within.ensures)

pub returns : goal.returns
returns c =
    subst (All (IsWithin number_limit))
    (take_all c.loop-v.v-index c.args.vs.now (omega (arith, c.loop-v-test.false))) c.loop-v.invariant
