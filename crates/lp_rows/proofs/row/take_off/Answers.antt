-- One number more, and one that stays.
use Rattle.std.proofs.Common.{◌≤◌, ◌<◌, length, pos, sym, ap, ap₂, ◌∙◌, arith, ◌*ℤ◌, ◌-ℤ◌, subst, refl}
use Rattle.lp_natural.specs.Whole.{whole}
use Rattle.lp_rows.specs.Row.{at}
use Rattle.lp_rows.proofs.Done.{one_done, one_kept, item-at}
use Rattle.lp_rows.proofs.TakenMultiples.{once, less_none}
use Rattle.lp_rows.proofs.row.take_off.Goals as goal

pub bounds-other-k : goal.bounds-other-k
bounds-other-k g c = subst (λ m. c.loop-k.k < m) (sym c.requires) c.loop-k-test.true

pub bounds-row-k : goal.bounds-row-k
bounds-row-k g c = subst (λ m. c.loop-k.k < m) (sym c.loop-k.invariant.len) c.loop-k-test.true

pub bounds-row-k-in-Some : goal.bounds-row-k-in-Some
bounds-row-k-in-Some g c = subst (λ m. c.loop-k.k < m) (sym c.loop-k.invariant.len) c.loop-k-test.true

pub loop-k-preserved : goal.loop-k-preserved
loop-k-preserved g c =
    let d = c.loop-k.invariant in
    let n : c.loop-k.k < length c.loop-k.row = omega (arith, d.len, c.loop-k-test.true) in
    let o : c.loop-k.k < length c.args.other.now = omega (arith, c.requires, c.loop-k-test.true) in
    let e : c.loop-k.k ≤ c.loop-k.k = omega arith in
    one_done g.T.Words.value c.loop-k.k _ c.args.row.now c.loop-k.row c.in-Some.number d n
    (c.in-Some.ensures
    ∙ once _ _ _ (ap pos c.one.ensures)
    ∙ ap₂ (λ x y. x -ℤ whole c.args.b.negative (g.T.Words.value c.args.b.size) *ℤ y)
    (sym (item-at g.T.Words.value c.loop-k.row c.loop-k.k _ n c.index-row-k.is) ∙ d.rest c.loop-k.k e)
    (sym (item-at g.T.Words.value c.args.other.now c.loop-k.k _ o c.index-other-k.is)))

pub loop-k-preserved-then-is_zero : goal.loop-k-preserved-then-is_zero
loop-k-preserved-then-is_zero g c =
    let d = c.loop-k.invariant in
    let o : c.loop-k.k < length c.args.other.now = omega (arith, c.requires, c.loop-k-test.true) in
    let e : c.loop-k.k ≤ c.loop-k.k = omega arith in
    one_kept g.T.Words.value c.loop-k.k _ c.args.row.now c.loop-k.row d
    (d.rest c.loop-k.k e
    ∙ less_none (at g.T.Words.value c.args.row.now c.loop-k.k)
    (whole c.args.b.negative (g.T.Words.value c.args.b.size)) c.index-other-k.result.negative
    (g.T.Words.value c.index-other-k.result.size) (c.if-is_zero.ensures.0 refl)
    ∙ ap (λ y. at g.T.Words.value c.args.row.now c.loop-k.k -ℤ whole c.args.b.negative (g.T.Words.value c.args.b.size) *ℤ y)
    (sym (item-at g.T.Words.value c.args.other.now c.loop-k.k _ o c.index-other-k.is)))
