-- One item more, and all of them.
use Rattle.std.proofs.Common.{◌≡◌, arith, ◌<◌, subst}
use Rattle.spec_simplex.specs.Tableau.{basic_at}
use Rattle.lp_rows.proofs.GrowingRows.{made_more}
use Rattle.lp_rows.proofs.Read.{all_made}
use Rattle.lp_rows.proofs.tableau.convert.basics.Goals as goal

pub basic-requires : goal.basic-requires
basic-requires c = subst (λ n. c.loop-i.i < n) c.rows-i-end.ensures.value c.loop-i-test.true

pub loop-i-preserved : goal.loop-i-preserved
loop-i-preserved c =
    made_more (basic_at c.args.tab.now) c.loop-i.i c.loop-i.list.items _ _ c.loop-i.invariant
    c.in_ok-push.ensures.items c.basic.ensures.value

pub returns : goal.returns
returns c =
    let all : c.loop-i.i ≡ c.args.tab.now.rows =
    omega (arith, c.loop-i-test.false, c.loop-i.auto.i-end, c.rows-i-end.ensures.value) in
    all_made (basic_at c.args.tab.now) c.loop-i.list.items c.loop-i.i (c.args.tab.now.rows) all c.loop-i.invariant
