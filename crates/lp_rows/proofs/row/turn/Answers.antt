use Rattle.std.proofs.Common.{◌<◌, ◌≤◌, length, ap, ◌∙◌, sym, subst, arith}
use Rattle.lp_rows.specs.Row.{turned_if}
use Rattle.lp_rows.proofs.Done.{one_so, item-at}
use Rattle.lp_rows.proofs.Divided.{turned-whole}
use Rattle.lp_rows.proofs.row.turn.Goals as goal

pub bounds-row-k : goal.bounds-row-k
bounds-row-k g c = subst (λ m. c.loop-k.k < m) (sym c.loop-k.invariant.len) c.loop-k-test.true

pub bounds-row-k-in-loop-k : goal.bounds-row-k-in-loop-k
bounds-row-k-in-loop-k g c = subst (λ m. c.loop-k.k < m) (sym c.loop-k.invariant.len) c.loop-k-test.true

pub loop-k-preserved : goal.loop-k-preserved
loop-k-preserved g c =
    let d = c.loop-k.invariant in
    let n : c.loop-k.k < length c.loop-k.row = omega (arith, d.len, c.loop-k-test.true) in
    let e : c.loop-k.k ≤ c.loop-k.k = omega arith in
    one_so g.T.Words.value c.loop-k.k _ c.args.row.now c.loop-k.row _ d n
    (turned-whole c.index-row-k.result.negative c.args.is_turned (g.T.Words.value c.index-row-k.result.size)
    ∙ ap (turned_if c.args.is_turned)
    (sym (item-at g.T.Words.value c.loop-k.row c.loop-k.k _ n c.index-row-k.is) ∙ d.rest c.loop-k.k e))
