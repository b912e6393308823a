use Rattle.std.proofs.Common.{◌<◌, ◌≤◌, length, sym, subst, arith}
use Rattle.lp_rows.proofs.SecondPhaseRows.{none_zeroed, all_zeroed, zeroed_more}
use Rattle.lp_rows.proofs.tableau.second.zero_from.Goals as goal

pub loop-k-init : goal.loop-k-init
loop-k-init g c = none_zeroed g.T.Words.value c.args.first c.args.bounds.now

pub bounds-bounds-k : goal.bounds-bounds-k
bounds-bounds-k g c = subst (λ m. c.loop-k.k < m) (sym c.loop-k.invariant.len) c.loop-k-test.true

pub loop-k-preserved : goal.loop-k-preserved
loop-k-preserved g c =
    let past : c.args.first ≤ c.loop-k.k = omega arith in
    let inside : c.loop-k.k < length c.loop-k.bounds = omega (arith, c.loop-k.invariant.len, c.loop-k-test.true) in
    zeroed_more g.T.Words.value c.args.first c.loop-k.k c.args.bounds.now c.loop-k.bounds c.zero.result past inside
    c.zero.ensures c.loop-k.invariant

pub returns : goal.returns
returns g c =
    all_zeroed g.T.Words.value c.args.first _ c.loop-k.k c.args.bounds.now c.loop-k.bounds c.loop-k.invariant
    c.loop-k-test.false
