-- One item more, and all of them.
use Rattle.std.proofs.Common.{◌≡◌, arith, ◌<◌, subst}
use Rattle.spec_simplex.specs.Tableau.{all_columns, upper_at}
use Rattle.lp_rows.proofs.GrowingRows.{made_more}
use Rattle.lp_rows.proofs.Read.{all_made}
use Rattle.lp_rows.proofs.tableau.convert.uppers.Goals as goal

pub upper-requires : goal.upper-requires
upper-requires c = subst (λ n. c.loop-k.k < n) c.width-k-end.ensures.value c.loop-k-test.true

pub loop-k-preserved : goal.loop-k-preserved
loop-k-preserved c =
    made_more (upper_at c.args.tab.now) c.loop-k.k c.loop-k.list.items _ _ c.loop-k.invariant
    c.in_ok-push.ensures.items c.upper.ensures

pub returns : goal.returns
returns c =
    let all : c.loop-k.k ≡ all_columns c.args.tab.now =
    omega (arith, c.loop-k-test.false, c.loop-k.auto.k-end, c.width-k-end.ensures.value) in
    all_made (upper_at c.args.tab.now) c.loop-k.list.items c.loop-k.k (all_columns c.args.tab.now) all
    c.loop-k.invariant
